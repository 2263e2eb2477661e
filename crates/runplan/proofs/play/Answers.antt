-- `runplan::play` meets its contract: each turn of the loop adds its chunk.
use mathlib.Core.Path.{◌≡◌, sym, ◌∙◌}
use mathlib.Core.Logic.{inr}
use Prim.Native.Nat.{◌+◌, ◌-◌}
use native.Mathlib.Omega.{arith}
use Rattle.program.specs.Turns.{over, most_turns}
use Rattle.runplan.proofs.Turns.{going_start, going_room, going_next, played, on_when_true, ends_when_false}
use Rattle.runplan.proofs.play.Goals as goal

pub loop-turn-init : goal.loop-turn-init
loop-turn-init c =
    let a = c.args in
    (going_start a.first.progress a.table.now a.first.heard a.first.told c.requires.1 c.requires.2, c.requires.0)

pub one-done-requires : goal.one-done-requires
one-done-requires c =
    let l = c.loop-turn in
    let room = going_room l.invariant.0 (omega arith) in
    (l.invariant.1, room.0, room.1)

pub loop-turn-preserved : goal.loop-turn-preserved
loop-turn-preserved c =
    let l = c.loop-turn in
    let on = on_when_true l.done.written (over l.done.progress.phase) (sym c.goes_on.ensures ∙ c.if-not-goes_on.false) in
    let next = going_next l.invariant.0 (omega arith) on c.one-done.ensures in
    let left : most_turns - l.turn - 1 ≡ most_turns - (l.turn + 1) = omega arith in
    (rw left at next, omega (arith, l.invariant.1))

pub returns-then-not-goes_on : goal.returns-then-not-goes_on
returns-then-not-goes_on c =
    let done = c.loop-turn.done in
    played c.loop-turn.invariant.0 (ends_when_false done.written (over done.progress.phase) (sym c.goes_on.ensures ∙ c.if-not-goes_on.true))

pub returns-after-loop-turn : goal.returns-after-loop-turn
returns-after-loop-turn c =
    let g = c.loop-turn.invariant.0 in
    played g (inr (inr (omega (arith, g.all))))
