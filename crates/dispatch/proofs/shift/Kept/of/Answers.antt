-- `dispatch::shift::Kept::of` meets its contract: after i iterations the goals of the first i jobs are written.
use mathlib.Core.Path.{refl, sym, ◌∙◌, ap}
use native.Mathlib.Omega.{arith}
use lib.ListN.{get_or, length-replicate}
use Rattle.base.proofs.FillLaws.{filled_start, filled_next, filled_at}
use Rattle.dispatch.specs.Inner.Turns.{kept_goal}
use Rattle.dispatch.proofs.shift.Kept.of.Goals as goal

pub loop-i-init : goal.loop-i-init
loop-i-init c = sym (filled_start _ _)

pub loop-i-preserved : goal.loop-i-preserved
loop-i-preserved c = filled_next _ c.loop-i.i _ c.loop-i.invariant c.at.ensures

pub returns : goal.returns
returns c = (
  refl,
  λ k h. ap (λ g. get_or g k 0) c.loop-i.invariant
      ∙ filled_at (kept_goal c.args.spans c.args.sizes.now c.args.table.now) c.loop-i.i _ k (rw length-replicate (omega arith)) (omega arith),
)
