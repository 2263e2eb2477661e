-- `dispatch::early::end_early` meets its contract: with columns of the plan the answer is that over them, and
-- without room for a size the plan breaks rule 9.
use Rattle.dispatch.proofs.EndColumns.{unsound_told}
use Rattle.dispatch.proofs.Readiness.{handed_on}
use Rattle.dispatch.proofs.SlotSoundness.{unput_lem, put_lem}
use Rattle.dispatch.proofs.early.end_early.Goals as goal

pub returns-in_err-put : goal.returns-in_err-put
returns-in_err-put c =
    let bad = unput_lem c.args.p c.put.ensures c.in_err-put.was in
    rw (handed_on c.from_residual.result c.from_residual.ensures.1, bad.0) (unsound_told c.args.p c.args.run c.args.position (bad.1 c.args.run))

pub returns : goal.returns
returns c =
    c.end_over.ensures c.args.p (put_lem c.args.p c.put.ensures c.in_ok-put.was)
