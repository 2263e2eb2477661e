-- `desk::pairs::short_pair` meets its contract: after m times no pair with one of them asks too much.
use Rattle.std.proofs.Common.{◌≡◌, [], None, length, get_or}
use Rattle.plan.specs.Report.{first}
use Rattle.desk.specs.Inner.Lists.{pairs_from}
use Rattle.desk.specs.Inner.Tasks.{times_of}
use Rattle.desk.proofs.pairs.short_pair.Given as goal

abbrev pub invariant-loop-m : goal.invariant-loop-m
invariant-loop-m l =
    first (λ m. first (pairs_from l.task.columns (times_of l.task) (get_or (times_of l.task) m 0) (get_or l.highs m None) l.lows) (length (times_of l.task))) l.m ≡ []
