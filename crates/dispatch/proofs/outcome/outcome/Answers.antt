-- `dispatch::outcome::outcome` meets its contract: with columns of the plan the answer is that over them, and
-- without room for a size the plan breaks rule 9.
use mathlib.Core.Path.{refl}
use Rattle.dispatch.specs.Step
use Rattle.dispatch.proofs.Readiness.{handed_on}
use Rattle.dispatch.proofs.SlotSoundness.{unput_lem, put_lem}
use Rattle.dispatch.proofs.outcome.outcome.Goals as goal

pub returns-in_err-put : goal.returns-in_err-put
unfolding Step.outcome
returns-in_err-put c =
    let bad = unput_lem c.args.p c.put.ensures c.in_err-put.was in
    rw (handed_on c.from_residual.result c.from_residual.ensures.1, bad.0, bad.1 c.args.run) refl

pub returns : goal.returns
returns c =
    c.outcome_over.ensures c.args.p (put_lem c.args.p c.put.ensures c.in_ok-put.was)
