-- `plan::rules::names_differ` meets its contract:
-- after i iterations `differ` says whether the first i names are pairwise different.
use mathlib.Core.Path.{◌≡◌}
use mathlib.Core.Bool.{not}
use lib.Dec.{eqb}
use lib.ListN.{get_or}
use Rattle.base.specs.Below.{every}
use Rattle.plan.proofs.rules.names_differ.Given as goal

abbrev pub invariant-loop-i : goal.invariant-loop-i
invariant-loop-i l =
    l.differ ≡ every (λ j. every (λ k. not (eqb (get_or l.names k 0) (get_or l.names j 0))) j) l.i
