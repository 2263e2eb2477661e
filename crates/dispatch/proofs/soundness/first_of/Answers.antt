-- `dispatch::soundness::first_of` meets its contract:
-- `so_far` is the least of the first i releases.
use mathlib.Core.Path.{◌≡◌, sym, ◌∙◌, ap}
use native.Mathlib.Omega.{arith}
use Rattle.base.specs.Below.{least}
use Rattle.base.proofs.Below.{least_start, least_one, least_next}
use Rattle.dispatch.proofs.soundness.first_of.Goals as goal

pub returns-then-jobs-eq0 : goal.returns-then-jobs-eq0
returns-then-jobs-eq0 c =
    sym (ap (least _) c.if-jobs-eq0.true ∙ least_start _)

pub loop-i-init : goal.loop-i-init
loop-i-init c = sym (least_one _)

pub loop-i-preserved : goal.loop-i-preserved
loop-i-preserved c = c.min-so_far.ensures ∙ least_next _ c.loop-i.i (omega arith) c.loop-i.invariant

pub returns : goal.returns
returns c =
    let whole : c.loop-i.i ≡ c.args.jobs = omega arith in
    c.loop-i.invariant ∙ ap (least _) whole
