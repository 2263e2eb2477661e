-- Slots below the normal rate in which all that is due is carried. By the first rule every slot below the normal rate was
-- slow. So a slot that is slow was slow before, and every size that was promised is promised still. What is given up: after
-- a slot below the normal rate the LO jobs may still be carried, until the first slow slot.
use mathlib.Core.Path.{◌≡◌, refl, sym}
use mathlib.Core.Logic.{◌⊎◌, ⊎_elim}
use mathlib.Core.Bool.{Bool, true, false, true≢false, ◌&&◌, ◌||◌, or-false, or-true}
use mathlib.Core.List.{List, [], ◌∷◌}
use Prim.Native.Nat.{ℕ, ◌+◌, ◌≤◌, ◌<◌, min}
use native.Mathlib.Omega.{arith}
use borrow.Author.Tests.{ltb-true, lt-ltb, le-ltb}
use lib.Dec.{ltb, lit<}
use Rattle.base.specs.Sum.{sum, on}
use Rattle.base.specs.Below
use Rattle.base.proofs.Logic.{both, neither}
use Rattle.plan.specs.Rules.{counted, size, deadline, is_hi, name_allowed, names_hold, names_differ, grades_hold, bounds_hold, rules_hold}
use Rattle.plan.specs.Boundaries.{insert, boundaries_to, come}
use Rattle.plan.specs.Table.{no_stray, sound}
use Rattle.plan.specs.Report.{Report, first}
use Rattle.plan.specs.declared.kinds.Plan.{Plan}
use Rattle.judge.specs.Verdict.{outside_fault, total_fault, capacity_fault, is_hi_deadline, floor_fault, judged}
use Rattle.dispatch.specs.declared.Run.{Run}
use Rattle.dispatch.specs.Dues.{all_dues}
use Rattle.dispatch.specs.Order
use Rattle.dispatch.specs.Step.{started, slot_sound, slot_fault, granted, added, advanced, slot_by, stepped}
use Rattle.promises.specs.Night.{Call, slot, word, is_slot, given, is_slow, run_after, clock_at, had, had_in_window, told, slowed, slowed_before, Allowed, night_at}
use Rattle.promises.proofs.Cases.{plan_with, table_of, P13}
use Rattle.promises.proofs.Demand3.{promise_kept}
use Rattle.promises.proofs.Strategy.{night_allowed}

-- A call at a speed that carries all that is due leaves the slow mark as it was, and so does one at the normal rate.
module _ (p : Plan) (table : List ℕ) (run : Run) (v : ℕ) (row : List ℕ) where
  enough_leaves : min p.n.0 (all_dues p table run) ≤ v → (stepped p table run v row).run.slow ≡ run.slow
  unfolding stepped advanced
  enough_leaves enough = go (slot_fault p table run v row)
    where
      go : (r : Report) → (slot_by r p table run v row).run.slow ≡ run.slow
      go [] = rw (le-ltb v (min p.n.0 (all_dues p table run)) enough) (or-false run.slow)
      go (number ∷ rest) = refl

  pub fitting_leaves_the_mark : all_dues p table run ≤ v → (stepped p table run v row).run.slow ≡ run.slow
  fitting_leaves_the_mark fits = enough_leaves (omega arith)

  pub normal_leaves_the_mark : p.n.0 ≤ v → (stepped p table run v row).run.slow ≡ run.slow
  normal_leaves_the_mark normal = enough_leaves (omega arith)

-- A slot below the normal rate, which was slow by the first rule.
abbrev pub slow_by_rate : Call → Run → Bool
slow_by_rate (slot c) run = is_slot (slot c) run && ltb c.speed c.plan.n.0
slow_by_rate (word w) run = false

-- Every slot that is slow was slow by the first rule.
pub slow_was_slow : (c : Call) (run : Run) → is_slow c run ≡ true → slow_by_rate c run ≡ true
slow_was_slow (slot c) run e =
    let lesser = min c.plan.n.0 (all_dues c.plan c.table run) in
    let so = both (is_slot (slot c) run) (ltb c.speed lesser) e in
    rw so.0 (lt-ltb c.speed c.plan.n.0 (omega (arith, ltb-true c.speed lesser so.1)))
slow_was_slow (word w) run e = e

-- Whether a slot that was slow by the first rule began before time D.
unfoldable pub slowed_by_rate_before : Plan → ℕ → List Call → Bool
slowed_by_rate_before p D [] = false
slowed_by_rate_before p D (c ∷ earlier) = slowed_by_rate_before p D earlier || slow_by_rate c (run_after p earlier) && ltb (clock_at p earlier) D

-- If none did, no slow slot did.
pub not_slowed : (p : Plan) (D : ℕ) (night : List Call) → slowed_by_rate_before p D night ≡ false → slowed_before p D night ≡ false
unfolding slowed_by_rate_before slowed_before
not_slowed p D [] e = refl
not_slowed p D (c ∷ earlier) e =
    let so = neither (slowed_by_rate_before p D earlier) _ e in
    rw (not_slowed p D earlier so.0)
    (less (is_slow c (run_after p earlier)) (slow_by_rate c (run_after p earlier)) (ltb (clock_at p earlier) D) (slow_was_slow c (run_after p earlier)) so.1)
  where
    less : (a b t : Bool) → (a ≡ true → b ≡ true) → (b && t) ≡ false → (a && t) ≡ false
    less true b t h f = rw (h refl) at f
    less false b t h f = refl

-- So every size that was promised is promised still: at its deadline a job was told ended or has had its size, if it is HI or
-- no slot before its deadline was below the normal rate.
pub promised_still : (p : Plan) (table : List ℕ) → judged p table ≡ [] → (night : List Call) → Allowed p table night → (i : ℕ) → i < counted p
    → deadline p i ≤ (run_after p night).clock.0 → (is_hi p i ≡ true) ⊎ (slowed_by_rate_before p (deadline p i) night ≡ false)
    → (told p night i ≡ true) ⊎ ((had p night i ≡ size p i) × (had_in_window p night i ≡ size p i))
promised_still p table accepted night allowed i counts reached promised =
    let kept = promise_kept p table accepted night allowed in
    ⊎_elim
    (λ h. kept.essential i counts h reached)
    (λ normal. kept.others i counts reached (not_slowed p (deadline p i) night normal))
    promised

-- Whether some slot was slow by the first rule. If some slot was slow, one was.
unfoldable pub slowed_by_rate : Plan → List Call → Bool
slowed_by_rate p [] = false
slowed_by_rate p (c ∷ earlier) = slowed_by_rate p earlier || slow_by_rate c (run_after p earlier)

pub slowed_was_slowed : (p : Plan) (night : List Call) → slowed p night ≡ true → slowed_by_rate p night ≡ true
unfolding slowed slowed_by_rate
slowed_was_slowed p [] e = e
slowed_was_slowed p (c ∷ earlier) e = more (slowed p earlier) (is_slow c (run_after p earlier)) (slowed_was_slowed p earlier) (slow_was_slow c (run_after p earlier)) e
  where
    more : (a b : Bool) {x y : Bool} → (a ≡ true → x ≡ true) → (b ≡ true → y ≡ true) → (a || b) ≡ true → (x || y) ≡ true
    more true b {x} {y} f g h = rw (f refl) refl
    more false true {x} {y} f g h = rw (g refl) (or-true x)
    more false false f g h = absurd (true≢false (sym h))

-- What job i has had from the first slot below the normal rate on.
unfoldable pub had_since_rate : Plan → List Call → ℕ → ℕ
had_since_rate p [] i = 0
had_since_rate p (c ∷ earlier) i = had_since_rate p earlier i + on (slowed_by_rate p (c ∷ earlier)) (given c (run_after p earlier) i)

-- The night of P13, the latest slot first.
abbrev pub idle_night : List Call
idle_night = night_at (plan_with P13.jobs) (table_of P13.rows) (2 ∷ 1 ∷ 1 ∷ 1 ∷ 2 ∷ [])

pub accepted_p13 : judged (plan_with P13.jobs) (table_of P13.rows) ≡ []
unfolding table_of sum Below.every Below.least Below.greatest name_allowed names_hold names_differ grades_hold bounds_hold rules_hold insert boundaries_to come no_stray sound first outside_fault total_fault capacity_fault is_hi_deadline floor_fault judged
accepted_p13 = refl

-- Some slot of it is below the normal rate, and none is slow. Its second job, which is LO, has its two units after that.
pub carried_after_idle : (slowed (plan_with P13.jobs) idle_night ≡ false) × (slowed_by_rate (plan_with P13.jobs) idle_night ≡ true)
    × (had_since_rate (plan_with P13.jobs) idle_night 1 ≡ 2)
unfolding slowed slowed_by_rate had_since_rate table_of sum Below.every Below.least Below.greatest grades_hold bounds_hold insert boundaries_to come run_after started slot_sound slot_fault granted Order.order Order.queue Order.enqueue Order.serve added advanced stepped
carried_after_idle = (refl, refl, refl)

-- So what is given up: that LO jobs have nothing from the first slot below the normal rate on.
pub given_up :
    ((p : Plan) (table : List ℕ) → judged p table ≡ [] → (night : List Call) → Allowed p table night → (i : ℕ) → i < counted p → is_hi p i ≡ false
    → had_since_rate p night i ≡ 0) → ⊥
given_up promised =
    let none = promised (plan_with P13.jobs) (table_of P13.rows) accepted_p13 idle_night
    (night_allowed (plan_with P13.jobs) (table_of P13.rows) (2 ∷ 1 ∷ 1 ∷ 1 ∷ 2 ∷ []) (omega arith)) 1 (lit< tt) refl in
    absurd (omega (arith, none, carried_after_idle.2))
