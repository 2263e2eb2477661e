-- `base::sum_of` meets its contract: the loop sums the terms inside the slice,
-- and the others are 0.
use mathlib.Core.Path.{◌≡◌}
use Prim.Native.Nat.{◌*◌, ◌≤◌}
use Rattle.base.specs.Sum.{sum, strided}
use Rattle.base.proofs.sum_of.Given as goal

abbrev pub invariant-loop-k : goal.invariant-loop-k
invariant-loop-k l =
    (l.total ≡ sum (strided l.s l.start l.stride) l.k) × (l.total ≤ 4294967295 * l.k)
