-- `hostmemory::jobs::jobs_in` meets its contract. Loop invariant: the first i jobs are decoded.
use mathlib.Core.Path.{◌≡◌}
use lib.ListN.{length, take}
use Rattle.plan.specs.Edition.{most_jobs}
use Rattle.hostmemory.specs.Memory.{jobs_to}
use Rattle.hostmemory.proofs.jobs.jobs_in.Given as goal

abbrev pub invariant-loop-i : goal.invariant-loop-i
invariant-loop-i l = (length l.jobs ≡ most_jobs) × (take l.i l.jobs ≡ jobs_to l.words l.from l.i)
