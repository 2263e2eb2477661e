-- `desk::pairs::ends_of` meets its contract: an end that stands is a sum of few sizes.
use Rattle.std.proofs.Common.{arith, rules, ◌≡◌, ◌∙◌, ap, length, ℕ, ◌+◌, ◌<◌, List, Option, Some, None, get_or, refl}
use lib.ListN.{set, replicate, length-set}
use lib.Seq.{get_or-set_same, get_or-set_other}
use Rattle.base.proofs.Logic.{if_same, below-or-last}
use Rattle.base.proofs.Padding.{get_or_replicate}
use native.Mathlib.Numerals.{add-one}
use Rattle.plan.specs.Edition.{most_boundaries}
use Rattle.plan.specs.declared.kinds.Units.{Units}
use Rattle.desk.specs.Inner.Lists.{IsWithin, AreWithin, most_sum}
use Rattle.desk.proofs.pairs.ends_of.Goals as goal
use Rattle.desk.proofs.pairs.ends_of.Goals.{then-wanted, else-wanted}

no-end : IsWithin None
no-end sum e = search rules

no-ends : AreWithin (replicate most_boundaries None)
no-ends k = rw (get_or_replicate {A = Option Units} most_boundaries k None) no-end

abbrev amount : Option Units → ℕ
amount (Some sum) = sum.0
amount None = 0

few : (end sum : Units) → Some end ≡ Some sum → end.0 < most_sum → sum.0 < most_sum
few end sum e h = let same : end.0 ≡ sum.0 = ap amount e in omega (arith, same, h)

-- A list after an end was written into it.
module _ (l : List (Option Units)) (m : ℕ) (end : Option Units) (inside : m < length l) where
  all-are : (f : ℕ → Option Units) → ((k : ℕ) → k < m → get_or l k None ≡ f k) → end ≡ f m → (k : ℕ) → k < m + 1 → get_or (set l m end) k None ≡ f k
  all-are f before is k h =
      below-or-last k m (rw add-one at h)
      (λ below. get_or-set_other l m k end None (omega arith) ∙ before k below)
      (λ last. rw last (get_or-set_same l m end None inside ∙ is))

  all-within : AreWithin l → IsWithin end → AreWithin (set l m end)
  all-within are is k =
      if_same k m
      (λ last. rw last (rw (get_or-set_same l m end None inside) is))
      (λ other. rw (get_or-set_other l m k end None other) (are k))

pub loop-m-init : goal.loop-m-init
loop-m-init c = (λ k h. absurd (omega (arith, h)), no-ends, refl)

pub loop-m-preserved : goal.loop-m-preserved
loop-m-preserved c =
    let inside : c.loop-m.m < length c.loop-m.ends = omega arith in
    let are = c.times-time-items.ensures.are in
    let long = length-set c.loop-m.ends c.loop-m.m c.if-wanted.ends ∙ c.loop-m.invariant.2 in
    elim c.if-wanted.branch [
      | then-wanted w ↦ (
        all-are _ _ _ inside _ c.loop-m.invariant.0
            (w.ends-is ∙ rw (← are, ← c.none_due.ensures, w.if-wanted.true) (ap (λ s. Some (record { 0 = s })) w.sizes_due.ensures.0)),
        all-within _ _ _ inside c.loop-m.invariant.1 (rw w.ends-is (λ sum e. few w.sizes_due.result sum e (omega (arith, w.sizes_due.ensures.1)))),
        long,
      )
      | else-wanted w ↦ (
        all-are _ _ _ inside _ c.loop-m.invariant.0 (w.ends-is ∙ rw (← are, ← c.none_due.ensures, w.if-wanted.false) refl),
        all-within _ _ _ inside c.loop-m.invariant.1 (rw w.ends-is no-end),
        long,
      )
    ]
