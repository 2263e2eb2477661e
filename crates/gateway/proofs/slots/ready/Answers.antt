-- `gateway::slots::ready` meets its contract.
use mathlib.Core.Path.{sym, ◌∙◌, ap}
use mathlib.Core.Bool.{not}
use borrow.Author.Tests.{not-false}
use Rattle.gateway.proofs.Ready.{filled_ready}
use Rattle.gateway.proofs.slots.ready.Goals as goal

pub returns : goal.returns
returns c =
    filled_ready c.args.plan.now c.args.run.now c.args.cols.now _ _ c.if-plan-run.false (sym c.marks_hold.ensures ∙ not-false _ (ap not c.if-not-marks_hold.false)) c.columns_in.ensures
