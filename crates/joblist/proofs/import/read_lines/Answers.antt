-- `joblist::import::read_lines` meets its contract: after i jobs, reading the remaining lines gives the
-- result of the whole.
use Rattle.std.proofs.Common.{arith, rules}
use Rattle.joblist.proofs.LineLoop.{lines_end, lines_too_many, lines_refused}
use Rattle.joblist.proofs.import.read_lines.Goals as goal

pub returns-then-text-next : goal.returns-then-text-next
returns-then-text-next c = lines_end c.loop-i.invariant c.if-text-next.true

pub returns-in_err-job : goal.returns-in_err-job
returns-in_err-job c =
    let refused = lines_refused c.loop-i.invariant (omega arith) (omega arith) c.in_err-job.ensures in
    search rules

pub returns-then-next-text : goal.returns-then-next-text
returns-then-next-text c = lines_too_many c.loop-i.invariant c.if-next-text.true (omega arith)

pub returns : goal.returns
returns c = lines_end c.loop-i.invariant c.if-next-text.false
