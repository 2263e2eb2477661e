-- `hostmemory::runs::are_marks` meets its contract: what was found of the words so far, and what is to be found of the rest, make up the whole.
use Rattle.std.proofs.Common.{◌≡◌, drop}
use mathlib.Core.Bool.{◌&&◌}
use Rattle.hostmemory.specs.Memory.{are_marks}
use Rattle.hostmemory.proofs.runs.are_marks.Given as goal

abbrev pub invariant-loop-word : goal.invariant-loop-word
invariant-loop-word l = (l.so_far && are_marks (drop l.word-index l.words)) ≡ are_marks l.words
