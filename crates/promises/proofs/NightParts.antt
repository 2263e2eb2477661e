-- The calls of a night in parts: they leave the run that the parts leave, they are allowed if the parts are, and what they
-- gave is what stands in the rows of the shifts. So what is promised of every night is promised of nights of shifts, slots
-- and words.
use mathlib.Core.Path.{◌≡◌, refl, sym, ◌∙◌, ap, ap₂}
use mathlib.Core.Logic.{◌⊎◌, ⊎_elim, inl, inr}
use mathlib.Core.Bool.{true, false, true≢false, or-false}
use mathlib.Core.List.{List, [], ◌∷◌, ◌++◌}
use Prim.Native.Nat.{ℕ, suc, ◌+◌, ◌≤◌, ◌<◌}
use native.Mathlib.Nat.{add-zero, zero-add}
use native.Mathlib.Omega.{arith}
use lib.Dec.{eqb}
use lib.ListN.{length, get_or, set, take, drop, length-set}
use Rattle.base.specs.Sum.{sum, on}
use Rattle.base.proofs.SumLaws.{sum_ext, sum_start, sum_front}
use Rattle.plan.specs.Refusal.{clock_at_end, speed_above_normal, unsound, buffer_too_short}
use Rattle.plan.specs.Report.{Report, done_number, number_of}
use Rattle.plan.specs.Rules.{counted}
use Rattle.plan.specs.Same.{Same}
use Rattle.plan.specs.declared.kinds.Plan.{Plan}
use Rattle.judge.specs.Verdict.{judged}
use Rattle.dispatch.specs.declared.Run.{Run}
use Rattle.dispatch.specs.Step.{SlotEffect, slot_fault, stepped}
use Rattle.dispatch.specs.Shift.{ShiftEffect, row_start, slot_at, slots_from}
use Rattle.dispatch.proofs.Alike.{done}
use Rattle.dispatch.proofs.SlotLimits.{slot_answer}
use Rattle.dispatch.proofs.ShiftLimits.{row_fits, next_fits, after_long, number_here, row_here, when_done, refused_shift_changes_nothing}
use Rattle.promises.specs.Demands.{WhatIsPromisedIsKept}
use Rattle.promises.specs.Night.{Call, slot, SlotCall, is_done, answer_of, run_left, given, AllowedCall, Allowed, run_after, had, told, OutcomesKept}
use Rattle.promises.specs.NightParts.{ShiftCall, Part, single, series, shift_effect, shift_given, calls_from, added_by, run_after_parts, calls_of, AllowedPart, AllowedParts}
use Rattle.promises.proofs.RefusalNumbers.{number_tells, step_numbers}
use Rattle.promises.proofs.Demand3.{promise_kept}
use Rattle.promises.proofs.OutcomesKept.{outcomes_kept}

-- The slots in turn of a shift leave the run that its calls leave.
slots_are_calls : (p q : Plan) (table : List ℕ) (k : ℕ) (speeds : List ℕ) (run : Run) (rows numbers : List ℕ) (earlier : List Call)
    → run ≡ run_after p earlier → (slots_from q table k speeds run rows numbers).run ≡ run_after p (calls_from q table k speeds run rows earlier)
unfolding slots_from calls_from run_after
slots_are_calls p q table k [] run rows numbers earlier e = e
slots_are_calls p q table k (v ∷ speeds) run rows numbers earlier e =
    slots_are_calls p q table (suc k) speeds (slot_at q table k v run rows).run (take (row_start q k) rows ++ (slot_at q table k v run rows).grants)
    (set numbers k (number_of (slot_at q table k v run rows).answer))
    (slot (record { plan = q; table = table; speed = v; row = drop (row_start q k) rows }) ∷ earlier)
    (ap (λ r. (stepped q table r v (drop (row_start q k) rows)).run) e)

-- A shift adds its calls to a night: they leave the run that it leaves.
pub shift_adds_its_calls : (p : Plan) (s : ShiftCall) (run : Run) (earlier : List Call) → run ≡ run_after p earlier
    → (shift_effect s run).run ≡ run_after p (added_by (shift_effect s run).answer s run earlier)
shift_adds_its_calls p s run earlier was = by (shift_effect s run).answer refl
  where
    by : (r : Report) → (shift_effect s run).answer ≡ r → (shift_effect s run).run ≡ run_after p (added_by r s run earlier)
    by [] e =
        ap (λ (x : ShiftEffect). x.run) (when_done s.plan s.table run s.speeds s.rows s.numbers e).is
        ∙ slots_are_calls p s.plan s.table 0 s.speeds run s.rows s.numbers earlier was
    by (number ∷ rest) e =
        ap (λ (x : ShiftEffect). x.run) (refused_shift_changes_nothing s.plan s.table run s.speeds s.rows s.numbers number rest e) ∙ was

-- The calls of a night in parts leave the run that the parts leave.
pub calls_leave_the_run : (p : Plan) (night : List Part) → run_after_parts p night ≡ run_after p (calls_of p night)
unfolding run_after_parts calls_of run_after
calls_leave_the_run p [] = refl
calls_leave_the_run p (single c ∷ earlier) = ap (run_left c) (calls_leave_the_run p earlier)
calls_leave_the_run p (series s ∷ earlier) =
    shift_adds_its_calls p s (run_after_parts p earlier) (calls_of p earlier) (calls_leave_the_run p earlier)

-- A call of a shift with the accepted plan at a speed of at least d is refused or allowed.
call_allowed : (p : Plan) (table : List ℕ) (c : SlotCall) (run : Run) → Same p table c.plan c.table → p.d.0 ≤ c.speed
    → (is_done (answer_of (slot c) run) ≡ false) ⊎ AllowedCall p table (slot c)
call_allowed p table c run same low = by (slot_fault c.plan c.table run c.speed c.row) refl
  where
    by : (r : Report) → slot_fault c.plan c.table run c.speed c.row ≡ r → (is_done (answer_of (slot c) run) ≡ false) ⊎ AllowedCall p table (slot c)
    by [] e = inr (same, low, omega (arith, (done c.plan c.table run c.speed c.row e).normal, ap (λ n. n.0) same.n))
    by (number ∷ rest) e = inl (ap is_done (slot_answer c.plan c.table run c.speed c.row ∙ e))

slots_allowed : (p : Plan) (table : List ℕ) (q : Plan) (other : List ℕ) → Same p table q other
    → (k : ℕ) (speeds : List ℕ) (run : Run) (rows : List ℕ) (earlier : List Call) → ((j : ℕ) → j < length speeds → p.d.0 ≤ get_or speeds j 0)
    → run ≡ run_after p earlier → Allowed p table earlier → Allowed p table (calls_from q other k speeds run rows earlier)
unfolding calls_from run_after Allowed
slots_allowed p table q other same k [] run rows earlier low e a = a
slots_allowed p table q other same k (v ∷ speeds) run rows earlier low e a =
    let c : SlotCall = record { plan = q; table = other; speed = v; row = drop (row_start q k) rows } in
    slots_allowed p table q other same (suc k) speeds (slot_at q other k v run rows).run (take (row_start q k) rows ++ (slot_at q other k v run rows).grants) (slot c ∷ earlier)
    (λ j h. low (suc j) (omega arith))
    (ap (λ r. (stepped q other r v (drop (row_start q k) rows)).run) e)
    (a, call_allowed p table c (run_after p earlier) same (low 0 (omega arith)))

shift_allowed : (p : Plan) (table : List ℕ) (s : ShiftCall) (run : Run) (earlier : List Call) → run ≡ run_after p earlier → Allowed p table earlier
    → (is_done (shift_effect s run).answer ≡ false) ⊎ AllowedPart p table (series s) → Allowed p table (added_by (shift_effect s run).answer s run earlier)
shift_allowed p table s run earlier was a asked = by (shift_effect s run).answer refl
  where
    by : (r : Report) → (shift_effect s run).answer ≡ r → Allowed p table (added_by r s run earlier)
    by [] e =
        ⊎_elim
        (λ busy. absurd (true≢false (sym (ap is_done e) ∙ busy)))
        (λ w. slots_allowed p table s.plan s.table w.0 0 s.speeds run s.rows earlier w.1 was a)
        asked
    by (number ∷ rest) e = a

-- If the parts of a night are allowed, its calls are.
pub parts_allowed : (p : Plan) (table : List ℕ) (night : List Part) → AllowedParts p table night → Allowed p table (calls_of p night)
unfolding AllowedParts calls_of Allowed
parts_allowed p table [] a = tt
parts_allowed p table (single c ∷ earlier) a =
    (parts_allowed p table earlier a.0, rw (← (calls_leave_the_run p earlier)) a.1)
parts_allowed p table (series s ∷ earlier) a =
    shift_allowed p table s (run_after_parts p earlier) (calls_of p earlier) (calls_leave_the_run p earlier) (parts_allowed p table earlier a.0) a.1

-- Demand 3.
pub kept_in_parts : WhatIsPromisedIsKept
kept_in_parts p table accepted night a =
    (promise_kept p table accepted (calls_of p night) (parts_allowed p table night a), sym (calls_leave_the_run p night))

pub outcomes_kept_in_parts : (p : Plan) (table : List ℕ) → judged p table ≡ [] → (night : List Part) → AllowedParts p table night
    → OutcomesKept p (calls_of p night)
outcomes_kept_in_parts p table accepted night a = outcomes_kept p table accepted (calls_of p night) (parts_allowed p table night a)

-- A slot's call has number 0 exactly if it is done.
pub slot_number_done : (p : Plan) (table : List ℕ) (run : Run) (v : ℕ) (grants : List ℕ)
    → eqb (number_of (stepped p table run v grants).answer) done_number ≡ is_done (stepped p table run v grants).answer
slot_number_done p table run v grants =
    number_tells (clock_at_end ∷ speed_above_normal ∷ unsound ∷ buffer_too_short ∷ []) (stepped p table run v grants).answer refl (step_numbers p table run v grants)

-- What the calls of a shift, from the one numbered k on, gave to a job stands in the rows that have number 0.
had_from : (p q : Plan) (table : List ℕ) (k : ℕ) (speeds : List ℕ) (run : Run) (rows numbers : List ℕ) (earlier : List Call) (i : ℕ)
    → run ≡ run_after p earlier → i < counted q → row_start q (k + length speeds) ≤ length rows → k + length speeds ≤ length numbers
    → had p (calls_from q table k speeds run rows earlier) i
    ≡ had p earlier i
    + sum (λ j. on (eqb (get_or (slots_from q table k speeds run rows numbers).numbers (k + j) 0) done_number)
    (get_or (slots_from q table k speeds run rows numbers).rows (row_start q (k + j) + i) 0)) (length speeds)
unfolding slots_from calls_from run_after had
had_from p q table k [] run rows numbers earlier i e l room told = omega (arith, sum_start (λ j. on (eqb (get_or numbers (k + j) 0) done_number) (get_or rows (row_start q (k + j) + i) 0)))
had_from p q table k (v ∷ speeds) run rows numbers earlier i e l room told =
    had_from p q table (suc k) speeds slot_is.run rows_left numbers_left (slot call ∷ earlier) i (ap (λ r. (stepped q table r v (drop (row_start q k) rows)).run) e) l
    (rw (after_long q table k v run rows (row_fits k (length speeds) (counted q) (length rows) room)) (next_fits q table k (length speeds) (length rows) room))
    (rw length-set (omega arith))
    ∙ omega (arith, first, sums)
  where
    slot_is : SlotEffect
    slot_is = slot_at q table k v run rows

    rows_left : List ℕ
    rows_left = take (row_start q k) rows ++ slot_is.grants

    numbers_left : List ℕ
    numbers_left = set numbers k (number_of slot_is.answer)

    call : SlotCall
    call = record { plan = q; table = table; speed = v; row = drop (row_start q k) rows }

    -- What stands for the job in row m, if its number is 0.
    stands : ℕ → ℕ
    stands m =
        on (eqb (get_or (slots_from q table k (v ∷ speeds) run rows numbers).numbers m 0) done_number)
        (get_or (slots_from q table k (v ∷ speeds) run rows numbers).rows (row_start q m + i) 0)

    first : given (slot call) (run_after p earlier) i ≡ stands k
    first =
        ap (λ r. given (slot call) r i) (sym e)
        ∙ sym (ap₂ on (ap (λ x. eqb x done_number) (number_here q table k v speeds run rows numbers (omega arith)) ∙ slot_number_done q table run v (drop (row_start q k) rows))
        (row_here q table k v speeds run rows numbers room i l))

    sums : sum (λ j. stands (k + j)) (suc (length speeds)) ≡ stands k + sum (λ j. stands (suc k + j)) (length speeds)
    sums =
        sum_front (λ j. stands (k + j)) (length speeds)
        ∙ ap₂ ◌+◌ (ap stands (add-zero k)) (sum_ext _ _ (length speeds) (λ j h. let next : k + suc j ≡ suc k + j = omega arith in ap stands next))

-- What job i has had after a shift is what it had before and what stands for it in the shift's rows, if it is one of its
-- jobs.
pub shift_gives : (p : Plan) (s : ShiftCall) (run : Run) (earlier : List Call) (i : ℕ) → run ≡ run_after p earlier → (is_done (shift_effect s run).answer ≡ true → i < counted s.plan)
    → had p (added_by (shift_effect s run).answer s run earlier) i ≡ had p earlier i + shift_given s run i
shift_gives p s run earlier i was counts = by (shift_effect s run).answer refl
  where
    effect : ShiftEffect
    effect = shift_effect s run

    stands : ShiftEffect → ℕ → ℕ
    stands x k = on (eqb (get_or x.numbers k 0) done_number) (get_or x.rows (row_start s.plan k + i) 0)

    by : (r : Report) → effect.answer ≡ r → had p (added_by r s run earlier) i ≡ had p earlier i + on (is_done r) (sum (stands effect) (length s.speeds))
    by [] e =
        let d = when_done s.plan s.table run s.speeds s.rows s.numbers e in
        let none : 0 + length s.speeds ≡ length s.speeds = zero-add (length s.speeds) in
        had_from p s.plan s.table 0 s.speeds run s.rows s.numbers earlier i was (counts (ap is_done e)) (rw none d.rows_lent) (omega (arith, d.numbers_lent))
        ∙ ap (λ x. had p earlier i + x)
        (sum_ext _ (stands effect) (length s.speeds)
        (λ k h. ap (stands (slots_from s.plan s.table 0 s.speeds run s.rows s.numbers)) (zero-add k) ∙ ap (λ x. stands x k) (sym d.is)))
    by (number ∷ rest) e = omega arith

-- A shift tells of no ended job.
told_from : (p q : Plan) (table : List ℕ) (k : ℕ) (speeds : List ℕ) (run : Run) (rows : List ℕ) (earlier : List Call) (i : ℕ)
    → told p (calls_from q table k speeds run rows earlier) i ≡ told p earlier i
unfolding calls_from told
told_from p q table k [] run rows earlier i = refl
told_from p q table k (v ∷ speeds) run rows earlier i =
    told_from p q table (suc k) speeds (slot_at q table k v run rows).run (take (row_start q k) rows ++ (slot_at q table k v run rows).grants)
    (slot (record { plan = q; table = table; speed = v; row = drop (row_start q k) rows }) ∷ earlier) i
    ∙ or-false (told p earlier i)

pub shift_tells_none : (p : Plan) (s : ShiftCall) (run : Run) (earlier : List Call) (i : ℕ) (r : Report) → told p (added_by r s run earlier) i ≡ told p earlier i
shift_tells_none p s run earlier i [] = told_from p s.plan s.table 0 s.speeds run s.rows earlier i
shift_tells_none p s run earlier i (number ∷ rest) = refl
