-- After each turn fewer are left, and it has added its chunk.
use Rattle.std.proofs.Common.{◌≡◌, ◌-◌, length}
use Rattle.lines.specs.Lines.{longest_line}
use Rattle.program.specs.Turns.{most_turns}
use Rattle.runplan.proofs.Turns.{Going}
use Rattle.runplan.proofs.play.Given as goal

abbrev pub invariant-loop-turn : goal.invariant-loop-turn
invariant-loop-turn l =
    Going l.initial.done.progress l.table l.initial.done.heard l.initial.done.told (most_turns - l.turn) l.done.progress l.done.heard l.done.told
    × (length l.line ≡ longest_line)
