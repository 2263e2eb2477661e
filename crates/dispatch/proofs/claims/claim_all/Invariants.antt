-- `dispatch::claims::claim_all` meets its contract: after i turns the first i claims are written and added up.
use mathlib.Core.Path.{◌≡◌}
use Prim.Native.Nat.{◌*◌, ◌≤◌}
use lib.ListN.{replicate}
use Rattle.base.specs.Fill.{filled}
use Rattle.base.specs.Sum.{sum}
use Rattle.plan.specs.Edition.{most_jobs}
use Rattle.dispatch.specs.Inner.Turns.{claim_by, unknown}
use Rattle.dispatch.proofs.claims.claim_all.Given as goal

abbrev pub invariant-loop-i : goal.invariant-loop-i
invariant-loop-i l =
    (l.claims ≡ filled (claim_by l.clock.0 l.slow l.cols l.dues) l.i (replicate most_jobs unknown))
    × (l.sum ≡ sum (claim_by l.clock.0 l.slow l.cols l.dues) l.i)
    × (l.sum ≤ l.i * unknown)
