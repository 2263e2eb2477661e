-- `dispatch::soundness::jobs_sound` meets its contract:
-- `sound` is the test over the first i jobs.
use mathlib.Core.Path.{◌≡◌}
use Rattle.base.specs.Below.{every}
use Rattle.dispatch.specs.Inner.Readiness.{job_sound}
use Rattle.dispatch.proofs.soundness.jobs_sound.Given as goal

abbrev pub invariant-loop-i : goal.invariant-loop-i
invariant-loop-i l = l.sound ≡ every (job_sound l.cols l.carried) l.i
