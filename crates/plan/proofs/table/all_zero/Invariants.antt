-- `plan::table::all_zero` meets its contract:
-- at index q, `zero` says whether the entries from `start` up to q are 0.
use mathlib.Core.Path.{◌≡◌}
use Prim.Native.Nat.{◌+◌, ◌-◌, ◌≤◌}
use lib.Dec.{eqb}
use lib.ListN.{get_or}
use Rattle.base.specs.Below.{every}
use Rattle.plan.proofs.table.all_zero.Given as goal

abbrev pub invariant-loop-q : goal.invariant-loop-q
invariant-loop-q l =
    (l.q ≤ l.start + l.count) × (l.zero ≡ every (λ k. eqb (get_or l.table (l.start + k) 0) 0) (l.q - l.start))
