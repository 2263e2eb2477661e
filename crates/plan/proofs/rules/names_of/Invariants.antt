-- After i iterations the first i entries are the names of the first i jobs, and the others are 0.
use Rattle.plan.proofs.Names.{NamedTo}
use Rattle.plan.proofs.rules.names_of.Given as goal

abbrev pub invariant-loop-i : goal.invariant-loop-i
invariant-loop-i l = NamedTo l.fn.p l.row l.i
