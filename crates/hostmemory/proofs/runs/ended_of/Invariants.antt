-- `hostmemory::runs::ended_of` meets its contract. Loop invariant: the first i marks are read.
use mathlib.Core.Path.{◌≡◌}
use mathlib.Core.List.{map}
use lib.ListN.{length, take}
use Rattle.plan.specs.Edition.{most_jobs}
use Rattle.hostmemory.specs.Memory.{is_set}
use Rattle.hostmemory.proofs.runs.ended_of.Given as goal

abbrev pub invariant-loop-i : goal.invariant-loop-i
invariant-loop-i l = (length l.ended ≡ most_jobs) × (take l.i l.ended ≡ map is_set (take l.i l.words))
