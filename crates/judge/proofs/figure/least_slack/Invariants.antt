-- `judge::figure::least_slack` meets its contract. Loop invariant: after m boundaries, the column
-- sums of the jobs due so far, and the least slack of the pairs with these boundaries.
use Rattle.judge.specs.Answers.{found_view}
use Rattle.judge.specs.Inner.Columns.{Summed}
use Rattle.judge.specs.Slack.{LeastAmong}
use Rattle.judge.proofs.SlackPass.{Before}
use Rattle.judge.proofs.figure.least_slack.Given as goal

abbrev pub invariant-loop-m : goal.invariant-loop-m
invariant-loop-m l =
    let p = l.hand.plan.now in
    let table = l.hand.table.now in
    Summed p table l.m l.sums × LeastAmong p table (Before p l.m) (found_view l.best)
