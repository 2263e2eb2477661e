-- `dispatch::soundness::jobs_sound` meets its contract:
-- `sound` is the test over the first i jobs.
use mathlib.Core.Path.{◌≡◌, refl, sym, ◌∙◌, ap}
use native.Mathlib.Omega.{arith}
use Rattle.base.specs.Below.{every}
use Rattle.base.proofs.Below.{every_start, every_next}
use Rattle.dispatch.proofs.soundness.jobs_sound.Goals as goal

pub loop-i-init : goal.loop-i-init
loop-i-init c = sym (every_start _)

pub loop-i-preserved : goal.loop-i-preserved
loop-i-preserved c =
    every_next _ c.loop-i.i c.loop-i.invariant (rw (c.is_grade.ensures, c.size_allowed.ensures, c.window_allowed-window.ensures, c.as_units.ensures) refl)

pub returns : goal.returns
returns c =
    let whole : c.loop-i.i ≡ c.args.jobs = omega arith in
    c.loop-i.invariant ∙ ap (every _) whole
