-- `meter::reading::whole_rate` meets its contract: the number that it finds stays between `low` and `high`.
use Prim.Native.Nat.{◌+◌, ◌-◌, ◌≤◌, ◌<◌}
use Rattle.meter.specs.Speed.{whole_rate}
use Rattle.meter.proofs.reading.whole_rate.Given as goal

abbrev pub invariant-loop-low : goal.invariant-loop-low
invariant-loop-low l = (l.low ≤ whole_rate l.rate l.n) × (whole_rate l.rate l.n < l.high) × (l.high ≤ l.n + 1)

abbrev pub decreases-loop-low : goal.decreases-loop-low
decreases-loop-low l = l.high - l.low
