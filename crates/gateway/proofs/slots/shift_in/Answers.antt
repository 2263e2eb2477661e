-- `gateway::slots::shift_in` meets its contract.
use Rattle.dispatch.proofs.Readiness.{handed_on}
use Rattle.hostmemory.specs.Memory.{plan_of}
use Rattle.gateway.proofs.Ready.{shift_unready, ready_columns}
use Rattle.gateway.proofs.Laws.{shift_carried, shift_refused}
use Rattle.gateway.proofs.slots.shift_in.Goals as goal

pub returns-in_err-ready : goal.returns-in_err-ready
returns-in_err-ready c =
    let a = c.args in
    rw (handed_on c.from_residual.result c.from_residual.ensures.1)
    (shift_unready a.plan.now a.table.now a.run.now a.speeds.now a.rows.now a.numbers.now _ c.in_err-ready.ensures.0)

pub returns-in_err-after : goal.returns-in_err-after
returns-in_err-after c =
    let a = c.args in
    let shift = rw (c.moment_in.ensures, c.run_of-at.ensures)
    at (c.in_err-after.ensures (plan_of a.plan.now) (ready_columns a.plan.now a.run.now c.in_ok-ready.ensures.0 c.in_ok-ready.ensures.1)) in
    rw (handed_on c.from_residual-in_err-after.result c.from_residual-in_err-after.ensures.1)
    (shift_refused a.plan.now a.table.now a.run.now a.speeds.now a.rows.now a.numbers.now c.in_ok-ready.ensures.0 shift)

pub returns : goal.returns
returns c =
    let a = c.args in
    let shift = rw (c.moment_in.ensures, c.run_of-at.ensures)
    at (c.in_ok-after.ensures (plan_of a.plan.now) (ready_columns a.plan.now a.run.now c.in_ok-ready.ensures.0 c.in_ok-ready.ensures.1)) in
    rw c.put_slot.ensures (shift_carried a.plan.now a.table.now a.run.now a.speeds.now a.rows.now a.numbers.now c.in_ok-ready.ensures.0 shift)
