-- `desk::placing::rooms_of` meets its contract: after j intervals their rooms stand.
use Rattle.std.proofs.Common.{◌≡◌, suc, ◌*◌, ◌-◌, get_or}
use lib.ListN.{replicate}
use Rattle.base.specs.Fill.{filled}
use Rattle.plan.specs.Edition.{most_intervals}
use Rattle.desk.specs.Inner.Tasks.{times_of}
use Rattle.desk.proofs.placing.rooms_of.Given as goal

abbrev pub invariant-loop-j : goal.invariant-loop-j
invariant-loop-j l =
    l.rooms ≡ filled (λ j. l.task.columns.n.0 * (get_or (times_of l.task) (suc j) 0 - get_or (times_of l.task) j 0)) l.j (replicate most_intervals 0)
