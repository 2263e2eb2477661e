-- `judge::figure::column_taken_in` meets its contract. Loop invariant: the sum from interval l on,
-- and a least slack that leads, with the intervals before l, to the figure of the whole column.
use Rattle.std.proofs.Common.{◌≡◌, ◌+◌, ◌-◌, ◌≤◌, get_or}
use Rattle.base.specs.Sum.{sum}
use Rattle.judge.specs.Inner.Columns.{sooner, column_taken}
use Rattle.judge.specs.Answers.{found_view}
use Rattle.judge.proofs.figure.column_taken_in.Given as goal

abbrev pub invariant-loop-l : goal.invariant-loop-l
invariant-loop-l l =
    (l.asked.0 ≡ sum (λ k. get_or l.sums (l.l + k) 0) (l.m - l.l))
    × (column_taken l.hand.plan.now.d.0 l.sums l.hand.times.now l.m l.l (sooner (found_view l.known) l.slack l.interval (get_or l.hand.times.now l.m 0))
    ≡ column_taken l.hand.plan.now.d.0 l.sums l.hand.times.now l.m l.m (found_view l.known))
    × (l.l ≤ l.interval)
