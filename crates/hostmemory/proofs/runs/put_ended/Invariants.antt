-- `hostmemory::runs::put_ended` meets its contract. Loop invariant: the first i marks are written.
use mathlib.Core.Path.{◌≡◌}
use mathlib.Core.List.{map}
use lib.ListN.{take}
use lib.Seq.{sets}
use Rattle.hostmemory.specs.Memory.{ended_start, mark_out}
use Rattle.hostmemory.proofs.runs.put_ended.Given as goal

abbrev pub invariant-loop-i : goal.invariant-loop-i
invariant-loop-i l = (l.words ≡ sets l.initial.words ended_start (map mark_out (take l.i l.ended)))
