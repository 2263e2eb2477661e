-- `gateway::slots::end_in` meets its contract.
use Rattle.dispatch.proofs.Readiness.{handed_on}
use Rattle.hostmemory.specs.Memory.{plan_of}
use Rattle.gateway.proofs.Ready.{end_unready, ready_columns}
use Rattle.gateway.proofs.Laws.{end_words, end_refused}
use Rattle.gateway.proofs.slots.end_in.Goals as goal

pub returns-in_err-ready : goal.returns-in_err-ready
returns-in_err-ready c =
    let a = c.args in
    rw (handed_on c.from_residual.result c.from_residual.ensures.1) (end_unready a.plan.now a.run.now a.position _ c.in_err-ready.ensures.0)

pub returns-in_err-end_over : goal.returns-in_err-end_over
returns-in_err-end_over c =
    let a = c.args in
    let told = rw c.run_of.ensures at (c.in_err-end_over.ensures (plan_of a.plan.now) (ready_columns a.plan.now a.run.now c.in_ok-ready.ensures.0 c.in_ok-ready.ensures.1)) in
    rw (handed_on c.from_residual-in_err-end_over.result c.from_residual-in_err-end_over.ensures.1)
    (end_refused a.plan.now a.run.now a.position c.in_ok-ready.ensures.0 told)

pub returns : goal.returns
returns c =
    let a = c.args in
    let told = rw c.run_of.ensures at (c.in_ok-end_over.ensures (plan_of a.plan.now) (ready_columns a.plan.now a.run.now c.in_ok-ready.ensures.0 c.in_ok-ready.ensures.1)) in
    rw c.put_run.ensures (end_words a.plan.now a.run.now a.position c.in_ok-ready.ensures.0 told)
