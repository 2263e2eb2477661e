-- `dispatch::shift::shift` meets its contract: with columns of the plan the answer is that over them, and
-- without room for a size the plan breaks rule 9.
use Rattle.dispatch.proofs.ShiftLimits.{refused_shift_run}
use Rattle.dispatch.proofs.SlotsInTurn.{unsound_shift}
use Rattle.dispatch.proofs.Readiness.{handed_on}
use Rattle.dispatch.proofs.SlotSoundness.{unput_lem, put_lem}
use Rattle.dispatch.proofs.shift.shift.Goals as goal

pub returns-in_err-put : goal.returns-in_err-put
returns-in_err-put c =
    let a = c.args in
    let bad = unput_lem a.p c.put.ensures c.in_err-put.was in
    rw (handed_on c.from_residual.result c.from_residual.ensures.1, bad.0) (unsound_shift a.p a.table.now a.run a.speeds.now a.rows.now a.numbers.now (bad.1 a.run))

pub returns-in_err-next : goal.returns-in_err-next
returns-in_err-next c =
    let a = c.args in
    let has = put_lem a.p c.put.ensures c.in_ok-put.was in
    rw (handed_on c.from_residual-in_err-next.result c.from_residual-in_err-next.ensures.1)
    (refused_shift_run a.p a.table.now a.run a.speeds.now a.rows.now a.numbers.now (rw c.moment.ensures at (c.in_err-next.ensures a.p has)))

pub returns : goal.returns
returns c =
    let has = put_lem c.args.p c.put.ensures c.in_ok-put.was in
    rw c.with.ensures (rw c.moment.ensures at (c.in_ok-next.ensures c.args.p has))
