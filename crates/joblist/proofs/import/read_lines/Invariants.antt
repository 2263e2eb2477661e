-- `joblist::import::read_lines` meets its contract: after i jobs, reading the remaining lines gives the
-- result of the whole.
use Rattle.joblist.proofs.LineLoop.{LinesRead}
use Rattle.joblist.proofs.import.read_lines.Given as goal

abbrev pub invariant-loop-i : goal.invariant-loop-i
invariant-loop-i l = LinesRead l.text l.at l.names l.list l.next l.i
