-- `gateway::slots::step_in` meets its contract.
use Rattle.dispatch.proofs.Readiness.{handed_on}
use Rattle.hostmemory.specs.Memory.{plan_of}
use Rattle.gateway.proofs.Ready.{step_unready, ready_columns}
use Rattle.gateway.proofs.Laws.{step_carried, step_refused}
use Rattle.gateway.proofs.slots.step_in.Goals as goal

pub returns-in_err-ready : goal.returns-in_err-ready
returns-in_err-ready c =
    let a = c.args in
    rw (handed_on c.from_residual.result c.from_residual.ensures.1)
    (step_unready a.plan.now a.table.now a.run.now a.v a.grants.now _ c.in_err-ready.ensures.0)

pub returns-in_err-next : goal.returns-in_err-next
returns-in_err-next c =
    let a = c.args in
    let slot = rw (c.moment_in.ensures, c.run_of-at.ensures)
    at (c.in_err-next.ensures (plan_of a.plan.now) (ready_columns a.plan.now a.run.now c.in_ok-ready.ensures.0 c.in_ok-ready.ensures.1)) in
    rw (handed_on c.from_residual-in_err-next.result c.from_residual-in_err-next.ensures.1)
    (step_refused a.plan.now a.table.now a.run.now a.v a.grants.now c.in_ok-ready.ensures.0 slot)

pub returns : goal.returns
returns c =
    let a = c.args in
    let slot = rw (c.moment_in.ensures, c.run_of-at.ensures)
    at (c.in_ok-next.ensures (plan_of a.plan.now) (ready_columns a.plan.now a.run.now c.in_ok-ready.ensures.0 c.in_ok-ready.ensures.1)) in
    rw c.put_slot.ensures (step_carried a.plan.now a.table.now a.run.now a.v a.grants.now c.in_ok-ready.ensures.0 slot)
