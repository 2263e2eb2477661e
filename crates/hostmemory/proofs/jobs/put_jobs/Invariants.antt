-- `hostmemory::jobs::put_jobs` meets its contract. Loop invariant:
-- the words of the first i jobs are written.
use mathlib.Core.Path.{◌≡◌}
use lib.Seq.{sets}
use Rattle.hostmemory.specs.Memory.{jobs_out}
use Rattle.hostmemory.proofs.jobs.put_jobs.Given as goal

abbrev pub invariant-loop-i : goal.invariant-loop-i
invariant-loop-i l = (l.words ≡ sets l.initial.words l.from (jobs_out l.jobs l.i))
