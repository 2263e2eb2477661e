-- `judge::rows::add_due` meets its contract. Loop invariant: the rows of the jobs among the
-- first i that are due at boundary m are added.
use Rattle.std.proofs.Common.{◌≡◌, ℕ, ◌+◌, ◌<◌, length, get_or}
use Rattle.base.specs.Sum.{sum}
use Rattle.plan.specs.Boundaries.{intervals}
use Rattle.judge.proofs.FloorPass.{due_of}
use Rattle.judge.proofs.rows.add_due.Given as goal

abbrev pub invariant-loop-i : goal.invariant-loop-i
invariant-loop-i l =
    (length l.sums ≡ length l.initial.sums)
    × ((j : ℕ) → j < intervals l.hand.plan.now → get_or l.sums j 0 ≡ get_or l.initial.sums j 0 + sum (due_of l.hand.table.now l.deadlines l.time j) l.i)
