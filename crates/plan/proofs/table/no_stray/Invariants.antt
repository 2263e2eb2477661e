-- `plan::table::no_stray` meets its contract:
-- after i iterations `clear` says whether the first i rows are 0 after the intervals.
use mathlib.Core.Path.{◌≡◌}
use Prim.Native.Nat.{◌+◌, ◌*◌}
use lib.Dec.{eqb}
use lib.ListN.{get_or}
use Rattle.plan.specs.Edition.{most_intervals}
use Rattle.base.specs.Below.{every}
use Rattle.plan.proofs.table.no_stray.Given as goal

abbrev pub invariant-loop-i : goal.invariant-loop-i
invariant-loop-i l =
    l.clear ≡ every (λ i'. every (λ k. eqb (get_or l.table (most_intervals * i' + l.spans + k) 0) 0) l.rest) l.i
