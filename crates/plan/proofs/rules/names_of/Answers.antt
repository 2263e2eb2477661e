-- After i iterations the first i entries are the names of the first i jobs, and the others are 0.
use Rattle.std.proofs.Common.{arith}
use Rattle.plan.proofs.Names.{none_named, all_named}
use Rattle.plan.proofs.rules.names_of.Goals as goal

pub loop-i-init : goal.loop-i-init
loop-i-init c =
    none_named c.args.p

pub returns : goal.returns
returns c =
    all_named c.args.p c.loop-i.row c.loop-i.i c.loop-i.invariant (omega arith) (omega arith)
