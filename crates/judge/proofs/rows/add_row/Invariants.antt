-- `judge::rows::add_row` meets its contract. Loop invariant: the first j numbers of the row are added.
use Rattle.std.proofs.Common.{get_or}
use Rattle.judge.proofs.Columns.{Added}
use Rattle.judge.proofs.rows.add_row.Given as goal

abbrev pub invariant-loop-j : goal.invariant-loop-j
invariant-loop-j l = Added l.initial.sums (λ k. get_or l.row k 0) l.j l.sums
