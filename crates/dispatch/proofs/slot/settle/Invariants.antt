-- `dispatch::slot::settle` meets its contract: after i iterations the first i entries are written.
use mathlib.Core.Path.{◌≡◌}
use Rattle.base.specs.Fill.{filled}
use Rattle.dispatch.specs.Inner.Turns.{settled_in}
use Rattle.dispatch.proofs.slot.settle.Given as goal

abbrev pub invariant-loop-i : goal.invariant-loop-i
invariant-loop-i l = l.settled ≡ filled (settled_in l.ended l.sizes l.carried) l.i l.initial.settled
