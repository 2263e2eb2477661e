-- `dispatch::slot::settle` meets its contract: after i iterations the first i entries are written.
use mathlib.Core.Path.{◌≡◌, sym}
use native.Mathlib.Omega.{arith}
use Rattle.base.proofs.FillLaws.{filled_start, filled_next}
use Rattle.plan.specs.Edition.{most_jobs}
use Rattle.dispatch.proofs.slot.settle.Goals as goal

pub loop-i-init : goal.loop-i-init
loop-i-init c = sym (filled_start _ _)

pub loop-i-preserved : goal.loop-i-preserved
loop-i-preserved c = filled_next _ c.loop-i.i _ c.loop-i.invariant c.settled_of.ensures

pub returns : goal.returns
returns c =
    let whole : c.loop-i.i ≡ most_jobs = omega arith in
    rw whole at c.loop-i.invariant
