-- `gateway::slots::outcome_in` meets its contract.
use mathlib.Core.Path.{◌∙◌, ap, sym}
use Rattle.dispatch.proofs.Readiness.{handed_on}
use Rattle.hostmemory.specs.Memory.{plan_of}
use Rattle.gateway.specs.Calls.{ending_number}
use Rattle.gateway.proofs.Ready.{outcome_unready, ready_columns}
use Rattle.gateway.proofs.Laws.{outcome_words}
use Rattle.gateway.proofs.slots.outcome_in.Goals as goal

pub returns-in_err-ready : goal.returns-in_err-ready
returns-in_err-ready c =
    let a = c.args in
    rw (handed_on c.from_residual.result c.from_residual.ensures.1) (outcome_unready a.plan.now a.run.now a.position _ c.in_err-ready.ensures.0)

pub returns : goal.returns
returns c =
    let a = c.args in
    let ending = rw c.run_of.ensures at (c.outcome_over.ensures (plan_of a.plan.now) (ready_columns a.plan.now a.run.now c.in_ok-ready.ensures.0 c.in_ok-ready.ensures.1)) in
    ap ending_number ending ∙ sym (outcome_words a.plan.now a.run.now a.position c.in_ok-ready.ensures.0)
