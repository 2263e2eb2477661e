-- `dispatch::soundness::first_of` meets its contract:
-- `so_far` is the least of the first i releases.
use mathlib.Core.Path.{◌≡◌}
use lib.ListN.{get_or}
use Rattle.base.specs.Below.{least}
use Rattle.dispatch.proofs.soundness.first_of.Given as goal

abbrev pub invariant-loop-i : goal.invariant-loop-i
invariant-loop-i l = l.so_far ≡ least (λ k. get_or l.releases k 0) l.i
