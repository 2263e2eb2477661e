-- `judge::floor::lowered` meets its contract. Loop invariant: the sum and the
-- lowest violating interval, from interval l on.
use Rattle.std.proofs.Common.{◌≡◌, ◌+◌, ◌-◌, get_or}
use Rattle.base.specs.Sum.{sum}
use Rattle.judge.specs.Inner.Columns.{lowest, asks_more}
use Rattle.judge.proofs.floor.lowered.Given as goal

abbrev pub invariant-loop-l : goal.invariant-loop-l
invariant-loop-l l =
    (l.asked.0 ≡ sum (λ k. get_or l.sums (l.l + k) 0) (l.m - l.l))
    × (l.low ≡ lowest (asks_more l.hand.plan.now.d.0 l.sums l.hand.times.now l.m) l.other l.l (l.m - l.l))
