-- `desk::pairs::sizes_due` meets its contract: after i jobs the sum over them.
use Rattle.std.proofs.Common.{◌≡◌, ◌*◌, ◌≤◌}
use Rattle.base.specs.Sum.{sum}
use Rattle.desk.specs.Inner.Classes.{from_back}
use Rattle.desk.specs.Inner.Lists.{due_size, most_in_column}
use Rattle.desk.proofs.pairs.sizes_due.Given as goal

abbrev pub invariant-loop-i : goal.invariant-loop-i
invariant-loop-i l = (l.total.0 ≡ sum (due_size (from_back l.class) l.columns l.time) l.i) × (l.total.0 ≤ l.i * most_in_column)
