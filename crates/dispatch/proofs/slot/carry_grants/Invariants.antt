-- `dispatch::slot::carry_grants` meets its contract: after i iterations the first i grants are carried.
use mathlib.Core.Path.{◌≡◌}
use Prim.Native.Nat.{◌+◌}
use lib.ListN.{get_or}
use Rattle.base.specs.Fill.{filled}
use Rattle.dispatch.proofs.slot.carry_grants.Given as goal

abbrev pub invariant-loop-i : goal.invariant-loop-i
invariant-loop-i l = l.carried ≡ filled (λ k. get_or l.initial.carried k 0 + get_or l.grants k 0) l.i l.initial.carried
