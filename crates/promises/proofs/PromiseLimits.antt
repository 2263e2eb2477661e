-- Where the promise ends: demand 3 with a speed below the floor, or with a slow slot just before
-- a LO job's deadline, would be false. Each is shown by a computed night.
use mathlib.Core.Path.{◌≡◌, refl}
use mathlib.Core.Logic.{◌⊎◌, inr}
use mathlib.Core.Bool.{Bool, true, false, ◌&&◌, ◌||◌}
use mathlib.Core.List.{List, [], ◌∷◌}
use Prim.Native.Nat.{ℕ, ◌+◌, ◌≤◌, ◌<◌}
use native.Mathlib.Omega.{arith}
use lib.Dec.{ltb, lit<, lit≤}
use Rattle.base.specs.Sum.{sum}
use Rattle.base.specs.Below
use Rattle.plan.specs.Rules.{counted, size, deadline, is_hi, grades_hold, bounds_hold}
use Rattle.plan.specs.Boundaries.{insert, boundaries_to, come}
use Rattle.plan.specs.Same.{Same}
use Rattle.plan.specs.declared.kinds.Plan.{Plan}
use Rattle.judge.specs.Verdict.{judged}
use Rattle.dispatch.specs.Order
use Rattle.dispatch.specs.Step.{started, slot_sound, slot_fault, granted, added, advanced, stepped}
use Rattle.promises.specs.Night.{Call, slot, word, is_done, answer_of, is_slow, run_after, clock_at, had, told, Allowed, Kept, night_at}
use Rattle.promises.proofs.Cases.{plan_with, table_of, plan_e, table_e, P9}
use Rattle.promises.proofs.Demand2.{accepted_e}
use Rattle.promises.proofs.Demand3.{accepted_p9}
use Rattle.promises.proofs.Progress.{unless_told}
use Rattle.promises.proofs.Strategy.{same_self, night_allowed}

-- `AllowedCall` and `Allowed` with any speed up to the normal rate in the place of one from the
-- floor on.
abbrev pub CallFromZero : Plan → List ℕ → Call → Type 0
CallFromZero p table (slot c) = Same p table c.plan c.table × (0 ≤ c.speed) × (c.speed ≤ p.n.0)
CallFromZero p table (word w) = Same p table w.plan table

unfoldable pub AllowedFromZero : Plan → List ℕ → List Call → Type 0
AllowedFromZero p table [] = Unit {0}
AllowedFromZero p table (c ∷ earlier) =
    AllowedFromZero p table earlier
    × ((is_done (answer_of c (run_after p earlier)) ≡ false) ⊎ CallFromZero p table c)

-- P9 with one slot at speed 0, below the floor, and one at the floor.
abbrev pub below_floor : List Call
below_floor = night_at (plan_with P9.jobs) (table_of P9.rows) (1 ∷ 0 ∷ [])

pub below_floor_allowed : AllowedFromZero (plan_with P9.jobs) (table_of P9.rows) below_floor
unfolding AllowedFromZero
below_floor_allowed =
    let same = same_self (plan_with P9.jobs) (table_of P9.rows) in
    ((tt, inr (same, lit≤ tt, lit≤ tt)), inr (same, lit≤ tt, lit≤ tt))

-- A, an essential transfer of two units, has had one at its deadline.
pub below_floor_short : (is_hi (plan_with P9.jobs) 1 ≡ true) × (clock_at (plan_with P9.jobs) below_floor ≡ deadline (plan_with P9.jobs) 1)
    × (had (plan_with P9.jobs) below_floor 1 ≡ 1) × (size (plan_with P9.jobs) 1 ≡ 2)
unfolding table_of sum Below.every Below.least Below.greatest grades_hold bounds_hold insert boundaries_to come run_after started slot_sound slot_fault granted Order.order Order.queue Order.enqueue Order.serve added advanced stepped had
below_floor_short = (refl, refl, refl, refl)

-- So demand 3 would be false with speeds below the floor.
pub no_promise_below_the_floor :
    ((p : Plan) (table : List ℕ) → judged p table ≡ [] → (night : List Call) → AllowedFromZero p table night → Kept p night) → ⊥
unfolding told
no_promise_below_the_floor promised =
    let e = below_floor_short in
    let kept = promised (plan_with P9.jobs) (table_of P9.rows) accepted_p9 below_floor below_floor_allowed in
    absurd (omega (arith, (unless_told refl (kept.essential 1 (lit< tt) refl (omega (arith, e.1)))).0, e.2, e.3))

-- `slowed_before` without the last slot before time D.
unfoldable pub slowed_earlier : Plan → ℕ → List Call → Bool
slowed_earlier p D [] = false
slowed_earlier p D (c ∷ earlier) = slowed_earlier p D earlier || is_slow c (run_after p earlier) && ltb (clock_at p earlier + 1) D

-- Plan E with four slots at the normal rate, and the last one before `Mirror-A`'s deadline at the
-- floor.
abbrev pub last_slot_slow : List Call
last_slot_slow = night_at plan_e table_e (1 ∷ 2 ∷ 2 ∷ 2 ∷ 2 ∷ [])

-- `Mirror-A`, which is LO, has had four of its six units at its deadline, although no slow slot came
-- before its last one.
pub last_slot_short : (slowed_earlier plan_e (deadline plan_e 0) last_slot_slow ≡ false) × (clock_at plan_e last_slot_slow ≡ deadline plan_e 0)
    × (had plan_e last_slot_slow 0 ≡ 4) × (size plan_e 0 ≡ 6)
unfolding slowed_earlier table_of sum Below.every Below.least Below.greatest grades_hold bounds_hold insert boundaries_to come run_after started slot_sound slot_fault granted Order.order Order.queue Order.enqueue Order.serve added advanced stepped had
last_slot_short = (refl, refl, refl, refl)

-- So the promise to LO jobs would be false if their last slot could be slow.
pub no_promise_with_the_last_slot_slow :
    ((p : Plan) (table : List ℕ) → judged p table ≡ [] → (night : List Call) → Allowed p table night → (i : ℕ) → i < counted p
    → deadline p i ≤ clock_at p night → slowed_earlier p (deadline p i) night ≡ false → had p night i ≡ size p i) → ⊥
no_promise_with_the_last_slot_slow promised =
    let e = last_slot_short in
    absurd (omega (
      arith,
      promised plan_e table_e accepted_e last_slot_slow (night_allowed plan_e table_e (1 ∷ 2 ∷ 2 ∷ 2 ∷ 2 ∷ []) (omega arith)) 0 (lit< tt) (omega (arith, e.1)) e.0,
      e.2,
      e.3,
    ))
