-- `judge::rows::hi_deadlines_of` meets its contract. Loop invariant:
-- the deadlines of the first i jobs are written.
use Rattle.judge.proofs.Columns.{DeadlinesTo}
use Rattle.judge.proofs.rows.hi_deadlines_of.Given as goal

abbrev pub invariant-loop-i : goal.invariant-loop-i
invariant-loop-i l = DeadlinesTo l.hand.plan.now l.i l.row
