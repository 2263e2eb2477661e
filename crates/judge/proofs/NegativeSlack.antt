-- The slack figure is negative exactly if the floor rule fails.
use mathlib.Core.Path.{◌≡◌, refl, sym, ◌∙◌, ap, subst}
use mathlib.Core.Bool.{Bool, true, false}
use mathlib.Core.List.{List, [], ◌∷◌}
use mathlib.Core.Logic.{◌↔◌}
use Prim.Native.Nat.{ℕ, ◌-◌, ◌≤◌, ◌<◌}
use native.Mathlib.Omega.{arith}
use borrow.Author.Tests.{ltb-true, ltb-false, le-ltb}
use lib.Dec.{ltb}
use lib.IntN.{ℤ, pos, sub_ℕ}
use lib.Signed.{lt_z}
use Rattle.plan.specs.Rules.{counted, deadline, is_hi}
use Rattle.plan.specs.Boundaries.{boundary, intervals}
use Rattle.plan.specs.declared.kinds.Plan.{Plan}
use Rattle.plan.proofs.PresentInterval.{release_is_boundary, deadline_is_boundary}
use Rattle.base.proofs.Logic.{both, by_order}
use Rattle.judge.specs.Constraints.{demand, floor_capacity}
use Rattle.judge.specs.Verdict.{is_hi_deadline, is_pair, hand_fault, constraint_fault, floor_fault, judged}
use Rattle.plan.specs.Report.{Report, or_else}
use Rattle.judge.specs.Slack.{Figure, none_essential, least, refused, slack_of, least_slack, unless, slack_figure}
use Rattle.judge.proofs.HandFault.{hand_none}
use Rattle.plan.proofs.Soundness.{Bounded, sound_bounded}
use Rattle.judge.proofs.Signed.{not_below_two}
use Rattle.judge.proofs.HiDeadlinesSuffice.{boundary_less, hi_deadline_lem}
use Rattle.judge.proofs.Demand.{true_pair}
use Rattle.judge.proofs.Exact.{floor_none}
use Rattle.judge.proofs.LeastSlack.{Pairs, first_of_all}
use Rattle.judge.specs.Slack.{Covered, LeastAmong}

-- A difference is negative exactly if the second number is greater.
below_zero : (a b : ℕ) → lt_z (sub_ℕ a b) (pos 0) ≡ ltb a b
below_zero a b = go (ltb a b) refl
  where
    go : (t : Bool) → ltb a b ≡ t → lt_z (sub_ℕ a b) (pos 0) ≡ ltb a b
    go true e = rw e refl
    go false e = rw e (le-ltb (a - b) 0 (omega arith))

module _ (p : Plan) (table : List ℕ) where
  -- If the slack figure is `none_essential`, there is no report 18.
  pub none_essential_never_short : slack_figure p table ≡ none_essential → floor_fault p table ≡ []
  unfolding slack_figure
  none_essential_never_short h =
      let none : least_slack p table ≡ none_essential = no_figure (or_else (hand_fault p table) (constraint_fault p table)) (least_slack p table) h in
      (floor_none p table).1 (λ l m d b e. absurd (subst (λ f. Covered p table f l m) none ((first_of_all p table).covers l m (e, d))))
    where
      no_figure : (r : Report) (f : Figure) → unless r f ≡ none_essential → f ≡ none_essential
      no_figure [] f h = h
      no_figure (number ∷ places) f h = absurd (subst Plain h tt)
        where
          Plain : Figure → Type 0
          Plain none_essential = ⊥
          Plain (least s l D) = ⊥
          Plain (refused report) = Unit {0}

  -- If rules 4, 5 and 9 hold, interval 0 and the deadline of a HI job are a pair.
  a_pair : Bounded p → (i : ℕ) → i < counted p → is_hi p i ≡ true
      → (m : ℕ) × (m ≤ intervals p) × (is_pair p 0 m ≡ true)
  a_pair rules i b e =
      let d = deadline_is_boundary p i b in
      let r = release_is_boundary p i b in
      let later : r.0 < d.0 = in_order r.0 d.0 r.1 (omega (arith, r.2, d.2, rules.windows i b)) in
      (d.0, d.1, true_pair p 0 d.0 (omega arith) (is_deadline_lem d.0 (is_hi_deadline p (boundary p d.0)) refl d.2))
    where
      in_order : (j k : ℕ) → j ≤ intervals p → boundary p j < boundary p k → j < k
      in_order j k h l =
          by_order j k (λ q. absurd (omega (arith, ap (boundary p) q))) (λ q. q) (λ q. absurd (omega (arith, boundary_less p k j q h)))

      is_deadline_lem : (m : ℕ) (t : Bool) → is_hi_deadline p (boundary p m) ≡ t → boundary p m ≡ deadline p i → is_hi_deadline p (boundary p m) ≡ true
      is_deadline_lem m true h q = h
      is_deadline_lem m false h q = absurd (hi_deadline_lem p (boundary p m) i h b e (sym q))

  -- With a HI job and no other refusal there is a least slack, and the
  -- judge reports 18 exactly if it is negative.
  pub short_exactly_below_zero : hand_fault p table ≡ [] → constraint_fault p table ≡ [] → (i : ℕ) → i < counted p → is_hi p i ≡ true
      → (s : ℤ) × (l : ℕ) × (D : ℕ) × (slack_figure p table ≡ least s l D) × (judged p table ≡ floor_fault p table)
      × ((floor_fault p table ≡ []) ↔ (lt_z s (pos 0) ≡ false))
  unfolding slack_figure judged
  short_exactly_below_zero hand rest i b e =
      let w = a_pair (sound_bounded p table (hand_none p table hand).1) i b e in
      go (least_slack p table) refl (first_of_all p table) w.0 (w.2, w.1)
    where
      go : (f : Figure) → least_slack p table ≡ f → LeastAmong p table (Pairs p) f → (m : ℕ) → Pairs p 0 m
          → (s : ℤ) × (l : ℕ) × (D : ℕ) × (slack_figure p table ≡ least s l D) × (judged p table ≡ floor_fault p table)
          × ((floor_fault p table ≡ []) ↔ (lt_z s (pos 0) ≡ false))
      go none_essential q so m pair = absurd (so.covers 0 m pair)
      go (refused report) q so m pair = absurd so.reached
      go (least s l D) q so m pair =
          let k = so.reached.0 in
          let is_pair_lem = so.reached.1 in
          let before : l < k = ltb-true l k (both (ltb l k) (is_hi_deadline p (boundary p k)) is_pair_lem.0).0 in (
            s,
            l,
            D,
            rw (hand, rest) q,
            rw (hand, rest) refl,
            (
              λ none. ap (λ z. lt_z z (pos 0)) so.reached.2 ∙ below_zero (floor_capacity p l (boundary p k)) (demand p table l (boundary p k))
                  ∙ le-ltb _ _ ((floor_none p table).0 none l k is_pair_lem.1 (omega arith) is_pair_lem.0),
              λ h. (floor_none p table).1 (λ j n d c x.
                  ltb-false (floor_capacity p j (boundary p n)) (demand p table j (boundary p n))
                  (sym (below_zero (floor_capacity p j (boundary p n)) (demand p table j (boundary p n)))
                  ∙ not_below_two (pos 0) s (slack_of p table j (boundary p n)) h (so.covers j n (x, d)).slack)),
            ),
          )
