-- `dispatch::claims::all_fit` meets its contract: after i iterations the first i claims are written and added up.
use mathlib.Core.Path.{◌≡◌}
use lib.ListN.{replicate}
use Rattle.base.specs.Fill.{filled}
use Rattle.base.specs.Sum.{sum}
use Rattle.plan.specs.Edition.{most_jobs}
use Rattle.dispatch.specs.Inner.Turns.{claim_by, unknown}
use Rattle.dispatch.proofs.claims.all_fit.Given as goal

abbrev pub invariant-loop-i : goal.invariant-loop-i
invariant-loop-i l =
    (l.claims ≡ filled (claim_by l.clock.0 l.slow l.cols l.dues) l.i (replicate most_jobs unknown))
    × (l.total ≡ sum (claim_by l.clock.0 l.slow l.cols l.dues) l.i)
