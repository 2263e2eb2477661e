-- `meter::reading::whole_rate` meets its contract: the number that it finds stays between `low` and `high`.
use Rattle.std.proofs.Common.{arith}
use Rattle.meter.proofs.RateLaws.{rate_within}
use Rattle.meter.proofs.reading.whole_rate.Goals as goal

pub loop-low-init : goal.loop-low-init
loop-low-init c = let w = rate_within c.args.rate c.args.n in (omega arith, omega arith, omega arith)
