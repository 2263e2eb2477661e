-- `dispatch::shift::shift_over` meets its contract: for the plan made from the columns its refusals in their order, otherwise
-- the calls at the speeds; and so for every plan whose columns they are.
use mathlib.Core.Path.{◌≡◌, ◌∙◌}
use mathlib.Core.Bool.{Bool, ◌||◌}
use mathlib.Core.List.{List}
use Prim.Native.Nat.{ℕ, ◌*◌}
use native.Mathlib.Omega.{arith}
use borrow.Author.Tests.{ltb-false}
use lib.Dec.{ltb}
use lib.ListN.{length}
use Rattle.base.proofs.Logic.{neither}
use Rattle.plan.specs.Edition.{places}
use Rattle.dispatch.specs.Answers.{run_at}
use Rattle.dispatch.specs.Step.{slot_sound}
use Rattle.dispatch.specs.Inner.Columns.{plan_on}
use Rattle.dispatch.proofs.Readiness.{ready_lem, unready_lem, handed_on}
use Rattle.dispatch.proofs.SlotsInTurn.{few_places, shifts_for_all, shift_refused, unsound_shift, many_fault, short_fault, shift_done}
use Rattle.dispatch.proofs.shift.shift_over.Goals as goal

-- The test of the buffers, for an equal number of jobs.
same_count : (table speeds rows numbers : List ℕ) {m n : ℕ} {short : Bool} → m ≡ n
    → (ltb (length table) places || ltb (length rows) (length speeds * m) || ltb (length numbers) (length speeds)) ≡ short
    → (ltb (length table) places || ltb (length rows) (length speeds * n) || ltb (length numbers) (length speeds)) ≡ short
same_count table speeds rows numbers e short = rw (← e) short

pub returns-in_err-readiness_of : goal.returns-in_err-readiness_of
unfolding slot_sound
returns-in_err-readiness_of c = λ p has.
    let a = c.args in
    let run = run_at a.at a.carried.now a.ended.now in
    let q = plan_on a.cols.now in
    let bad = unready_lem q run.clock.0 run.carried c.in_err-readiness_of.was c.readiness_of.ensures in
    rw (handed_on c.from_residual.result c.from_residual.ensures.1, bad.1)
    (shifts_for_all a.cols.now a.table.now run a.speeds.now a.rows.now a.numbers.now (unsound_shift q a.table.now run a.speeds.now a.rows.now a.numbers.now bad.0) p has)

pub returns-then-speeds-gt-MOST_SPEEDS : goal.returns-then-speeds-gt-MOST_SPEEDS
unfolding slot_sound
returns-then-speeds-gt-MOST_SPEEDS c =
    let a = c.args in
    let run = run_at a.at a.carried.now a.ended.now in
    let q = plan_on a.cols.now in
    let s = ready_lem q run.clock.0 run.carried c.in_ok-readiness_of.was c.readiness_of.ensures in
    shifts_for_all a.cols.now a.table.now run a.speeds.now a.rows.now a.numbers.now
    (shift_refused q a.table.now run a.speeds.now a.rows.now a.numbers.now
    (many_fault q a.table.now run a.speeds.now a.rows.now a.numbers.now s.0 c.if-speeds-gt-MOST_SPEEDS.true))

pub overflow_mul-speeds : goal.overflow_mul-speeds
overflow_mul-speeds c =
    record { fits = omega (arith, few_places (length c.args.speeds.now) c.counted_within-jobs.result c.if-speeds-gt-MOST_SPEEDS.false (omega (arith, c.counted_within-jobs.ensures))) }

pub returns-then-table-rows : goal.returns-then-table-rows
unfolding slot_sound
returns-then-table-rows c =
    let a = c.args in
    let run = run_at a.at a.carried.now a.ended.now in
    let q = plan_on a.cols.now in
    let s = ready_lem q run.clock.0 run.carried c.in_ok-readiness_of.was c.readiness_of.ensures in
    shifts_for_all a.cols.now a.table.now run a.speeds.now a.rows.now a.numbers.now
    (shift_refused q a.table.now run a.speeds.now a.rows.now a.numbers.now
    (short_fault q a.table.now run a.speeds.now a.rows.now a.numbers.now s.0 c.if-speeds-gt-MOST_SPEEDS.false
    (same_count a.table.now a.speeds.now a.rows.now a.numbers.now c.counted_within-jobs.ensures c.if-table-rows.true)))

pub carry_speeds-requires : goal.carry_speeds-requires
unfolding slot_sound
carry_speeds-requires c =
    let a = c.args in
    let run = run_at a.at a.carried.now a.ended.now in
    let s = ready_lem (plan_on a.cols.now) run.clock.0 run.carried c.in_ok-readiness_of.was c.readiness_of.ensures in
    let all = neither _ _ (same_count a.table.now a.speeds.now a.rows.now a.numbers.now c.counted_within-jobs.ensures c.if-table-rows.false) in
    let first = neither _ _ all.0 in
    (s.0, ltb-false _ _ first.0, c.if-speeds-gt-MOST_SPEEDS.false, ltb-false _ _ first.1, ltb-false _ _ all.1)

pub returns : goal.returns
unfolding slot_sound
returns c =
    let a = c.args in
    let run = run_at a.at a.carried.now a.ended.now in
    let q = plan_on a.cols.now in
    let s = ready_lem q run.clock.0 run.carried c.in_ok-readiness_of.was c.readiness_of.ensures in
    shifts_for_all a.cols.now a.table.now run a.speeds.now a.rows.now a.numbers.now
    (c.carry_speeds.ensures
    ∙ shift_done q a.table.now run a.speeds.now a.rows.now a.numbers.now s.0 c.if-speeds-gt-MOST_SPEEDS.false
    (same_count a.table.now a.speeds.now a.rows.now a.numbers.now c.counted_within-jobs.ensures c.if-table-rows.false))
