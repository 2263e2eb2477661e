-- `dispatch::shift::Kept::of` meets its contract: after i iterations the goals of the first i jobs are written.
use mathlib.Core.Path.{◌≡◌}
use Rattle.base.specs.Fill.{filled}
use Rattle.dispatch.specs.Inner.Turns.{kept_goal}
use Rattle.dispatch.proofs.shift.Kept.of.Given as goal

abbrev pub invariant-loop-i : goal.invariant-loop-i
invariant-loop-i l = l.goals ≡ filled (kept_goal l.spans l.sizes l.table) l.i l.initial.goals
