-- Demand 3 as a theorem about the definitions in the contracts of the public
-- calls, with instances that meet its premises.
use mathlib.Core.Path.{◌≡◌, refl, ap}
use mathlib.Core.Logic.{⊎_elim}
use mathlib.Core.Bool.{true, false}
use mathlib.Core.List.{List, [], ◌∷◌}
use Prim.Native.Nat.{ℕ, zero, suc, ◌+◌, ◌≤◌, ◌<◌}
use native.Mathlib.Omega.{arith}
use lib.Dec.{lit<, lit≤}
use lib.ListN.{length, replicate, length-replicate}
use Rattle.base.specs.Sum.{sum}
use Rattle.base.specs.Below
use Rattle.plan.specs.Rules.{counted, size, deadline, is_hi, name_allowed, names_hold, names_differ, grades_hold, bounds_hold, rules_hold}
use Rattle.plan.specs.Boundaries.{insert, boundaries_to, come, first_release, last_deadline}
use Rattle.plan.specs.Table.{no_stray, sound}
use Rattle.plan.specs.declared.kinds.Plan.{Plan}
use Rattle.base.proofs.Below.{greatest_upper}
use Rattle.judge.specs.Verdict.{outside_fault, total_fault, capacity_fault, is_hi_deadline, floor_fault, judged}
use Rattle.plan.specs.Report.{first}
use Rattle.dispatch.specs.Dues.{due}
use Rattle.dispatch.specs.Order
use Rattle.dispatch.specs.Step.{started, slot_sound, slot_fault, granted, added, advanced, stepped}
use Rattle.promises.proofs.Cases.{plan_with, table_of, plan_e, table_e, P1, P9}
use Rattle.promises.specs.Night.{Call, run_after, clock_at, had, had_in_window, told, Allowed, HasRegular, Kept, night_at, Between, CorrectStrategy}
use Rattle.promises.proofs.WrongVariants.{stepped_by, Lost, LostIn, run_by_step, had_by_step, lo_first, table_order, lo_first_loses, table_order_loses}
use Rattle.plan.proofs.Soundness.{sound_bounded}
use Rattle.promises.proofs.Demand2.{judge_is_exact, accepted_e}
use Rattle.promises.proofs.NightInvariant.{kept}
use Rattle.promises.proofs.Strategy.{night_allowed, never_slow, lower_bound}
use Rattle.promises.proofs.Progress.{unless_told, regular_allowed, regular_untold, deadline_reached, night_regular}

-- Demand 3. For every plan and table that the judge accepts, and every night begun from them in
-- which each call is refused or has the accepted plan and table, unchanged, and a speed from
-- floor to normal: what is promised holds.
pub promise_kept : (p : Plan) (table : List ℕ) → judged p table ≡ [] → (night : List Call) → Allowed p table night → Kept p night
promise_kept p table e night a =
    let w = (judge_is_exact p table).0 e in
    kept p table (sound_bounded p table w.1) w.2.allotted w.2.floor night a

-- With progress: after refused calls and k regular ones, where k slots reach from the first release
-- to a HI job's deadline, the job has had exactly its size, all of it inside its window.
pub enough_calls_meet : (p : Plan) (table : List ℕ) → judged p table ≡ [] → (k : ℕ) (night : List Call) → HasRegular p table k night
    → (i : ℕ) → i < counted p → is_hi p i ≡ true → deadline p i ≤ first_release p + k
    → (had p night i ≡ size p i) × (had_in_window p night i ≡ size p i)
enough_calls_meet p table e k night r i b h long =
    unless_told (regular_untold p table e k night r i)
    ((promise_kept p table e night (regular_allowed p table e k night r)).essential i b h (deadline_reached p table e k night r i b long))

-- Every accepted plan has a correct scheduling strategy: the dispatcher.
pub strategy_is_correct : (p : Plan) (table : List ℕ) → judged p table ≡ [] → CorrectStrategy p table
strategy_is_correct p table e =
    let rates = (sound_bounded p table ((judge_is_exact p table).0 e).1).rates in
    let wider : (speeds : List ℕ) → Between p.n.0 p.n.0 speeds → Between p.d.0 p.n.0 speeds
    = λ speeds b. lower_bound p.n.0 p.d.0 p.n.0 speeds (omega (arith, rates)) b in
    record {
      normal = λ speeds b i k long.
          let regular = night_regular p table e speeds (wider speeds b) in
          (unless_told (regular_untold p table e (length speeds) (night_at p table speeds) regular i)
          ((promise_kept p table e (night_at p table speeds) (night_allowed p table speeds (wider speeds b))
          ).others i k (deadline_reached p table e (length speeds) (night_at p table speeds) regular i k long) (never_slow p table (deadline p i) speeds b))).0;
      degraded = λ speeds b i k h long.
          (enough_calls_meet p table e (length speeds) (night_at p table speeds) (night_regular p table e speeds b) i k h long).0;
    }

-- In a night at speeds from floor to normal, at least as long as from the first release to the last
-- deadline, every HI job has had its size; at the normal rate every job has.
pub long_night_meets : (p : Plan) (table : List ℕ) → judged p table ≡ [] → (speeds : List ℕ) → last_deadline p ≤ first_release p + length speeds
    → (Between p.d.0 p.n.0 speeds → (i : ℕ) → i < counted p → is_hi p i ≡ true → had p (night_at p table speeds) i ≡ size p i)
    × (Between p.n.0 p.n.0 speeds → (i : ℕ) → i < counted p → had p (night_at p table speeds) i ≡ size p i)
long_night_meets p table e speeds long = (
  λ b i k h. (strategy_is_correct p table e).degraded speeds b i k h (by_then i k),
  λ b i k. (strategy_is_correct p table e).normal speeds b i k (by_then i k),
)
  where
    by_then : (i : ℕ) → i < counted p → deadline p i ≤ first_release p + length speeds
    by_then i k = omega (arith, greatest_upper (deadline p) (counted p) i k)

-- In a night at the floor throughout, every HI job has had its size by its deadline.
pub floor_night_meets : (p : Plan) (table : List ℕ) → judged p table ≡ [] → (slots i : ℕ) → i < counted p → is_hi p i ≡ true
    → deadline p i ≤ first_release p + slots → had p (night_at p table (replicate slots p.d.0)) i ≡ size p i
floor_night_meets p table e slots i k h long =
    let r = sound_bounded p table ((judge_is_exact p table).0 e).1 in
    (strategy_is_correct p table e).degraded (replicate slots p.d.0) (at_floor (omega (arith, r.rates)) slots) i k h
    (omega (arith, length-replicate {A = ℕ} slots p.d.0))
  where
    at_floor : p.d.0 ≤ p.n.0 → (slots : ℕ) → Between p.d.0 p.n.0 (replicate slots p.d.0)
    at_floor below zero = tt
    at_floor below (suc slots) = (omega arith, below, at_floor below slots)

-- Plan E meets the premises at speeds 2 2 2 1 1 1 1 and 1 up to its last deadline; so does P9 at
-- speeds 2 1. Speeds are listed latest first.
abbrev speeds_e : List ℕ
speeds_e = 1 ∷ 1 ∷ 1 ∷ 1 ∷ 1 ∷ 1 ∷ 1 ∷ 2 ∷ 2 ∷ 2 ∷ []

kept_in_e : Kept plan_e (night_at plan_e table_e speeds_e)
kept_in_e = promise_kept plan_e table_e accepted_e (night_at plan_e table_e speeds_e) (night_allowed plan_e table_e speeds_e (omega arith))

-- In this night `mirror-A`, whose deadline the clock has reached, has had exactly its eight units.
mirror_a_met : had plan_e (night_at plan_e table_e speeds_e) 1 ≡ 8
unfolding table_of sum Below.every Below.least Below.greatest grades_hold bounds_hold insert boundaries_to come run_after told started slot_sound slot_fault granted Order.order Order.queue Order.enqueue Order.serve added advanced stepped
mirror_a_met = (unless_told refl (kept_in_e.essential 1 (lit< tt) refl (lit≤ tt))).0

-- So it has in ten slots at the floor; and plan E has a correct strategy.
floor_night_of_e : had plan_e (night_at plan_e table_e (replicate 10 1)) 1 ≡ 8
unfolding Below.least
floor_night_of_e = floor_night_meets plan_e table_e accepted_e 10 1 (lit< tt) refl (lit≤ tt)

strategy_of_e : CorrectStrategy plan_e table_e
strategy_of_e = strategy_is_correct plan_e table_e accepted_e

-- P9 is accepted.
pub accepted_p9 : judged (plan_with P9.jobs) (table_of P9.rows) ≡ []
unfolding table_of sum Below.every name_allowed names_hold names_differ grades_hold bounds_hold rules_hold insert boundaries_to no_stray sound first outside_fault total_fault capacity_fault is_hi_deadline floor_fault judged
accepted_p9 = refl

-- Under an accepted plan the step loses no job.
pub accepted_loses_none : (p : Plan) (table : List ℕ) → judged p table ≡ [] → (speeds : List ℕ) (i : ℕ) → Lost stepped p table speeds i → ⊥
accepted_loses_none p table e speeds i lost =
    let night = night_at p table speeds in
    let rates = (sound_bounded p table ((judge_is_exact p table).0 e).1).rates in
    let come : deadline p i ≤ clock_at p night = omega (arith, lost.come, ap (λ run. run.clock.0) (run_by_step p night)) in
    let untold : Between p.d.0 p.n.0 speeds → told p night i ≡ false
    = λ b. regular_untold p table e (length speeds) night (night_regular p table e speeds b) i in
    let wider : Between p.n.0 p.n.0 speeds → Between p.d.0 p.n.0 speeds
    = λ b. lower_bound p.n.0 p.d.0 p.n.0 speeds (omega (arith, rates)) b in
    let whole : had p night i ≡ size p i
    = ⊎_elim
    (λ w. (unless_told (untold w.0) ((promise_kept p table e night (night_allowed p table speeds w.0)).essential i lost.a_job w.1 come)).0)
    (λ b. (unless_told (untold (wider b)) ((promise_kept p table e night (night_allowed p table speeds (wider b))
    ).others i lost.a_job come (never_slow p table (deadline p i) speeds b))).0)
    lost.owed in
    absurd (omega (arith, lost.short, had_by_step p night i))

-- Serving one grade in any order within an interval, as the sources allow, loses a HI job of an
-- accepted plan at speeds from floor to normal: A of P9, if jobs are served by position.
pub any_order_loses : (judged (plan_with P9.jobs) (table_of P9.rows) ≡ []) × LostIn (stepped_by table_order due) P9 (1 ∷ 2 ∷ []) 1
any_order_loses = (accepted_p9, table_order_loses)

-- Serving LO before HI within an interval loses one too: `mirror-A` of plan E, if the
-- link drops to the floor after three slots.
pub lo_before_hi_loses : (judged plan_e table_e ≡ []) × LostIn (stepped_by lo_first due) P1 speeds_e 1
lo_before_hi_loses = (accepted_e, lo_first_loses)

kept_in_p9 : Kept (plan_with P9.jobs) (night_at (plan_with P9.jobs) (table_of P9.rows) (1 ∷ 2 ∷ []))
kept_in_p9 =
    promise_kept (plan_with P9.jobs) (table_of P9.rows) accepted_p9 (night_at (plan_with P9.jobs) (table_of P9.rows) (1 ∷ 2 ∷ []))
    (night_allowed (plan_with P9.jobs) (table_of P9.rows) (1 ∷ 2 ∷ []) (omega arith))
