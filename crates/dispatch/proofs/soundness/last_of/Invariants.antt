-- `dispatch::soundness::last_of` meets its contract:
-- `so_far` is the greatest of the first i deadlines.
use mathlib.Core.Path.{◌≡◌}
use lib.ListN.{get_or}
use Rattle.base.specs.Below.{greatest}
use Rattle.dispatch.proofs.soundness.last_of.Given as goal

abbrev pub invariant-loop-i : goal.invariant-loop-i
invariant-loop-i l = l.so_far ≡ greatest (λ k. get_or l.deadlines k 0) l.i
