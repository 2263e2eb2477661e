-- `judge::rows::hi_deadlines_of` meets its contract. Loop invariant:
-- the deadlines of the first i jobs are written.
use Rattle.judge.proofs.Columns.{deadlines_start}
use Rattle.judge.proofs.rows.hi_deadlines_of.Goals as goal

pub loop-i-init : goal.loop-i-init
loop-i-init c = deadlines_start c.args.hand.plan.now
