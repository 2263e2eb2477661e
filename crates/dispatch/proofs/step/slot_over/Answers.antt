-- `dispatch::step::slot_over` meets its contract: the tests are in the order of the refusals, and what they show of the plan made
-- from the columns holds of every plan with these columns.
use mathlib.Core.Path.{◌≡◌, refl, sym, ◌∙◌}
use mathlib.Core.Bool.{Bool, ◌||◌}
use mathlib.Core.List.{List}
use Prim.Native.Nat.{ℕ}
use borrow.Author.Tests.{ltb-false}
use lib.Dec.{ltb}
use lib.ListN.{length}
use Rattle.base.proofs.Logic.{neither}
use Rattle.plan.specs.Edition.{places}
use Rattle.dispatch.specs.Answers.{run_at}
use Rattle.dispatch.specs.Step.{slot_sound}
use Rattle.dispatch.specs.Inner.Columns.{plan_on}
use Rattle.dispatch.proofs.Readiness.{ready_lem, unready_lem, over_lem, handed_on}
use Rattle.dispatch.proofs.Sharing.{sizes_are_goals}
use Rattle.dispatch.proofs.SoundColumns.{release_on, deadline_on}
use Rattle.dispatch.proofs.SlotColumns as columns
use Rattle.dispatch.proofs.step.slot_over.Goals as goal

-- The test of the buffers, for an equal number of jobs.
same_count : (table grants : List ℕ) {m n : ℕ} {short : Bool} → m ≡ n → (ltb (length table) places || ltb (length grants) m) ≡ short
    → (ltb (length table) places || ltb (length grants) n) ≡ short
same_count table grants e short = rw (← e) short

pub returns-in_err-readiness : goal.returns-in_err-readiness
returns-in_err-readiness c = λ p has.
    let a = c.args in
    let run = run_at a.at a.carried.now a.ended.now in
    let bad = unready_lem (plan_on a.cols.now) run.clock.0 run.carried c.in_err-readiness.was c.readiness_of.ensures in
    rw (handed_on c.from_residual.result c.from_residual.ensures.1, bad.1) (columns.unsound_steps a.cols.now a.table.now run a.v a.grants.now bad.0 p has)

pub returns-then-table-grants : goal.returns-then-table-grants
returns-then-table-grants c =
    let a = c.args in
    let run = run_at a.at a.carried.now a.ended.now in
    let s = ready_lem (plan_on a.cols.now) run.clock.0 run.carried c.in_ok-readiness.was c.readiness_of.ensures in
    columns.short_steps a.cols.now a.table.now run a.v a.grants.now s.0
    (same_count a.table.now a.grants.now c.counted_within-jobs.ensures c.if-table-grants.true)

pub returns-then-eq : goal.returns-then-eq
returns-then-eq c =
    let a = c.args in
    let run = run_at a.at a.carried.now a.ended.now in
    let s = ready_lem (plan_on a.cols.now) run.clock.0 run.carried c.in_ok-readiness.was c.readiness_of.ensures in
    columns.late_steps a.cols.now a.table.now run a.v a.grants.now s.0
    (same_count a.table.now a.grants.now c.counted_within-jobs.ensures c.if-table-grants.false)
    (sym (over_lem _ s.1) ∙ sym c.eq.ensures ∙ c.if-eq.true)

pub returns-then-cols-v : goal.returns-then-cols-v
returns-then-cols-v c =
    let a = c.args in
    let run = run_at a.at a.carried.now a.ended.now in
    let s = ready_lem (plan_on a.cols.now) run.clock.0 run.carried c.in_ok-readiness.was c.readiness_of.ensures in
    columns.fast_steps a.cols.now a.table.now run a.v a.grants.now s.0
    (same_count a.table.now a.grants.now c.counted_within-jobs.ensures c.if-table-grants.false)
    (sym (over_lem _ s.1) ∙ sym c.eq.ensures ∙ c.if-eq.false) c.if-cols-v.true

pub carry_slot-requires : goal.carry_slot-requires
unfolding slot_sound
carry_slot-requires c =
    let a = c.args in
    let run = run_at a.at a.carried.now a.ended.now in
    let s = ready_lem (plan_on a.cols.now) run.clock.0 run.carried c.in_ok-readiness.was c.readiness_of.ensures in
    let room = same_count a.table.now a.grants.now c.counted_within-jobs.ensures c.if-table-grants.false in (
      s.0,
      ltb-false _ _ (neither _ _ room).1,
      c.if-cols-v.false,
      sizes_are_goals a.cols.now a.table.now a.at.clock a.at.slow c.spans_of.result
          (λ e. c.spans_of.ensures.1 (plan_on a.cols.now) e refl (λ i h. sym (release_on a.cols.now i h)) (λ i h. sym (deadline_on a.cols.now i h))),
    )

pub returns : goal.returns
returns c =
    let a = c.args in
    let run = run_at a.at a.carried.now a.ended.now in
    let s = ready_lem (plan_on a.cols.now) run.clock.0 run.carried c.in_ok-readiness.was c.readiness_of.ensures in
    columns.done_steps a.cols.now a.table.now run a.v a.grants.now s.0
    (same_count a.table.now a.grants.now c.counted_within-jobs.ensures c.if-table-grants.false)
    (sym (over_lem _ s.1) ∙ sym c.eq.ensures ∙ c.if-eq.false) c.if-cols-v.false c.carry_slot.ensures.0 c.carry_slot.ensures.1
