-- A plan in hand that neither 22 nor 21 refuses: its table is long enough,
-- rules 4 to 9 hold, and it has boundaries.
use mathlib.Core.Path.{◌≡◌, refl, sym, ◌∙◌, ap, ap₂}
use mathlib.Core.Bool.{Bool, true, false, not}
use mathlib.Core.List.{List, [], ◌∷◌}
use Prim.Native.Nat.{ℕ, suc, ◌-◌, ◌≤◌, ◌<◌, min}
use native.Mathlib.Omega.{arith}
use borrow.Author.Tests.{ltb-false, le-ltb, not-false}
use lib.Dec.{ltb}
use lib.ListN.{length, take}
use Rattle.plan.specs.Edition.{most_boundaries, most_intervals, places}
use Rattle.plan.specs.Refusal.{unsound, buffer_too_short}
use Rattle.plan.specs.Rules.{counted, rules_hold, deadline}
use Rattle.plan.specs.Boundaries.{insert, boundaries_to, boundaries, intervals, present, in_room}
use Rattle.plan.specs.Table.{sound, sound_within}
use Rattle.plan.proofs.Stray.{sound_told}
use Rattle.plan.specs.declared.kinds.Plan.{Plan}
use Rattle.plan.specs.declared.boundaries.Boundaries.{Boundaries}
use Rattle.plan.proofs.BoundaryOrder.{insert_grows, boundaries_few, room_take, room_length}
use Rattle.plan.proofs.BoundaryCount.{come_few}
use Rattle.base.proofs.Logic.{both}
use Rattle.plan.proofs.Soundness.{sound_parts, sound_bounded}
use Rattle.judge.specs.Verdict.{hand_fault}
use Rattle.plan.specs.Report.{or_else, fault, is_none}
use Rattle.plan.proofs.Reports.{empty_none, none_or, fault_none}

-- The reports 22 and 21 are both absent exactly if the table is long enough and the plan is sound.
pub hand_none : (p : Plan) (table : List ℕ) → hand_fault p table ≡ [] → (places ≤ length table) × (sound p table ≡ true)
hand_none p table h =
    let short = fault (ltb (length table) places) (buffer_too_short ∷ []) in
    let bad = fault (not (sound p table)) (unsound ∷ []) in
    let both_none = both (is_none short) (is_none bad) (sym (none_or short bad) ∙ empty_none (hand_fault p table) h) in (
      ltb-false (length table) places (fault_none (ltb (length table) places) buffer_too_short [] both_none.0),
      not-false (sound p table) (fault_none (not (sound p table)) unsound [] both_none.1),
    )

pub hand_sound : (p : Plan) (table : List ℕ) → places ≤ length table → sound p table ≡ true → hand_fault p table ≡ []
hand_sound p table h e =
    ap₂ (λ a b. or_else (fault a (buffer_too_short ∷ [])) (fault (not b) (unsound ∷ []))) (le-ltb (length table) places h) e

pub hand_unsound : (p : Plan) (table : List ℕ) → places ≤ length table → sound p table ≡ false → unsound ∷ [] ≡ hand_fault p table
hand_unsound p table h e =
    sym (ap₂ (λ a b. or_else (fault a (buffer_too_short ∷ [])) (fault (not b) (unsound ∷ []))) (le-ltb (length table) places h) e)

-- An insertion is nonempty, so a plan with a job has boundaries.
insert_some : (x : ℕ) (l : List ℕ) → 1 ≤ length (insert x l)
unfolding insert
insert_some x [] = omega arith
insert_some x (y ∷ l) = omega (arith, insert_grows x (y ∷ l))

pub boundaries_some : (p : Plan) (n : ℕ) → 1 ≤ n → 1 ≤ length (boundaries_to p n)
unfolding boundaries_to
boundaries_some p (suc n) h = insert_some (deadline p n) _
boundaries_some p Prim.Native.Nat.zero h = elim h [ ]

-- A plan without boundaries is not sound.
pub unbounded : (p : Plan) (table : List ℕ) → length (boundaries p) ≡ 0 → sound p table ≡ false
unbounded p table none = go (sound p table) refl
  where
    go : (b : Bool) → sound p table ≡ b → b ≡ false
    go true h = absurd (omega (arith, boundaries_some p (counted p) (sound_bounded p table h).some))
    go false h = refl

-- Soundness as it is tested, within one interval fewer than there are boundaries.
pub sound_here : (p : Plan) (table : List ℕ) {times : List ℕ} {tested b : Bool} → times ≡ boundaries p
    → tested ≡ sound_within (min (length times - 1) most_intervals) p table → tested ≡ b → sound p table ≡ b
sound_here p table {times} e is h = sym (sound_told p table (length times - 1) (ap (λ t. length t - 1) e)) ∙ sym is ∙ h

pub sound_rules : (p : Plan) (table : List ℕ) → sound p table ≡ true → rules_hold p ≡ true
sound_rules p table h = (sound_parts p table h).rules

-- The first `count` times of the `Boundaries` record are the plan's boundaries.
pub in_their_room : (p : Plan) (b : Boundaries) → b ≡ record { times = in_room (boundaries p); count = length (boundaries p) }
    → (take b.count b.times ≡ boundaries p) × (b.count ≤ length b.times)
in_their_room p b e =
    let few : length (boundaries p) ≤ most_boundaries = omega (arith, boundaries_few p (counted p)) in
    rw e (room_take (boundaries p), omega (arith, room_length (boundaries p) few))

-- A plan's intervals are at most those that a row of the table has places for.
pub few_intervals : (p : Plan) → intervals p ≤ most_intervals
few_intervals p = omega (arith, boundaries_few p (counted p))

pub few_times : (p : Plan) {times : List ℕ} → times ≡ boundaries p → length times ≤ suc most_intervals
few_times p e = omega (arith, ap length e, boundaries_few p (counted p))

pub few_present : (p : Plan) (t : ℕ) → present p t ≤ most_intervals
few_present p t = omega (arith, come_few t (boundaries p), boundaries_few p (counted p))
