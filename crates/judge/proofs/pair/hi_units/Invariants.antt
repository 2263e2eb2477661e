-- `judge::pair::hi_units` meets its contract. Loop invariant: the sum over the first i jobs.
use Rattle.std.proofs.Common.{◌≡◌, ◌&&◌, ◌+◌, ◌*◌, ◌≤◌, leb}
use Rattle.plan.specs.Edition.{most_intervals}
use Rattle.plan.specs.Rules.{deadline, is_hi}
use Rattle.base.specs.Sum.{sum, on, strided}
use Rattle.judge.specs.Inner.Widths.{most_at_place}
use Rattle.judge.proofs.pair.hi_units.Given as goal

abbrev pub invariant-loop-i : goal.invariant-loop-i
invariant-loop-i l =
    (l.total.0 ≡ sum (λ k. on (is_hi l.p k && leb (deadline l.p k) l.time) (sum (strided l.table (most_intervals * k + l.l) 1) l.count)) l.i) × (l.total.0 ≤ l.i * (most_intervals * most_at_place))
