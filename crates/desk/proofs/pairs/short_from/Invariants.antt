-- `desk::pairs::short_from` meets its contract: after k times none of their pairs asks too much.
use Rattle.std.proofs.Common.{◌≡◌, []}
use Rattle.plan.specs.Report.{first}
use Rattle.desk.specs.Inner.Lists.{pairs_from}
use Rattle.desk.specs.Inner.Tasks.{times_of}
use Rattle.desk.proofs.pairs.short_from.Given as goal

abbrev pub invariant-loop-k : goal.invariant-loop-k
invariant-loop-k l = first (pairs_from l.task.columns (times_of l.task) l.due.0 l.high l.lows) l.k ≡ []
