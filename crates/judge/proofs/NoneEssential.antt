-- The slack figure is that none is essential exactly if no counted job is HI.
use mathlib.Core.Path.{◌≡◌, refl, sym, ◌∙◌, ap, subst}
use mathlib.Core.Bool.{Bool, true, false, not, ◌&&◌, false≢true}
use mathlib.Core.List.{List, []}
use mathlib.Core.Logic.{◌↔◌}
use Prim.Native.Nat.{ℕ, ◌<◌}
use lib.Dec.{ltb, eqb}
use Rattle.plan.specs.Rules.{counted, deadline, is_hi}
use Rattle.plan.specs.Boundaries.{boundary}
use Rattle.plan.specs.declared.kinds.Plan.{Plan}
use Rattle.base.proofs.Below.{every_all}
use Rattle.base.proofs.Logic.{both}
use Rattle.judge.specs.Verdict.{is_hi_deadline, hand_fault, constraint_fault}
use Rattle.judge.specs.Slack.{Figure, none_essential, least, refused, least_slack, slack_figure, LeastAmong}
use Rattle.judge.proofs.LeastSlack.{Pairs, first_of_all}
use Rattle.judge.proofs.NegativeSlack.{short_exactly_below_zero}

-- What a figure other than `none_essential` has.
abbrev Other : Figure → Type 0
Other none_essential = ⊥
Other (least s l D) = Unit {0}
Other (refused report) = Unit {0}

module _ (p : Plan) (table : List ℕ) where
  -- Where no counted job is HI, no time is a HI deadline.
  no_deadline : ((i : ℕ) → i < counted p → is_hi p i ≡ false) → (D : ℕ) → is_hi_deadline p D ≡ false
  unfolding is_hi_deadline
  no_deadline none D =
      ap not (every_all (λ i. not (is_hi p i && eqb (deadline p i) D)) (counted p) (λ i b. rw (none i b) refl))

  -- Then no least slack is reached.
  no_least : ((i : ℕ) → i < counted p → is_hi p i ≡ false) → (f : Figure) → LeastAmong p table (Pairs p) f → f ≡ none_essential
  no_least none none_essential so = refl
  no_least none (least s l D) so =
      let k = so.reached.0 in
      let pair = both (ltb l k) (is_hi_deadline p (boundary p k)) so.reached.1.0 in
      absurd (false≢true (sym (no_deadline none (boundary p k)) ∙ pair.1))
  no_least none (refused report) so = absurd so.reached

  -- Once 21, 22 and 15 to 17 have passed, the slack figure is that none is essential exactly if no
  -- counted job is HI.
  pub none_essential_exactly : hand_fault p table ≡ [] → constraint_fault p table ≡ []
      → (slack_figure p table ≡ none_essential) ↔ ((i : ℕ) → i < counted p → is_hi p i ≡ false)
  unfolding slack_figure
  none_essential_exactly hand rest = (
    λ e i b. go e i b (is_hi p i) refl,
    λ none. rw (hand, rest) (no_least none (least_slack p table) (first_of_all p table)),
  )
    where
      go : slack_figure p table ≡ none_essential → (i : ℕ) → i < counted p → (t : Bool) → is_hi p i ≡ t → is_hi p i ≡ false
      go e i b true h =
          let w = short_exactly_below_zero p table hand rest i b h in
          absurd (subst Other (sym w.3 ∙ e) tt)
      go e i b false h = h
