-- `hostmemory::jobs::jobs_in` meets its contract. Loop invariant: the first i jobs are decoded.
use mathlib.Core.Path.{◌≡◌, refl, sym, ◌∙◌, ap}
use native.Mathlib.Numerals.{add-one}
use native.Mathlib.Omega.{arith}
use lib.ListN.{take, length-set}
use lib.Seq.{take-suc-set, take_all}
use Rattle.plan.specs.Edition.{most_jobs}
use Rattle.hostmemory.specs.Memory.{jobs_to}
use Rattle.hostmemory.proofs.jobs.jobs_in.Goals as goal

pub loop-i-init : goal.loop-i-init
unfolding jobs_to
loop-i-init c =
    (refl, refl)

pub loop-i-preserved : goal.loop-i-preserved
unfolding jobs_to
loop-i-preserved c =
    let l = c.loop-i in
    let inv = l.invariant in (
      simp length-set inv.0,
      rw (add-one, take-suc-set l.jobs l.i _ (omega arith), inv.1, c.job_at.ensures) refl,
    )

pub returns : goal.returns
returns c =
    let l = c.loop-i in
    let whole : l.i ≡ most_jobs = omega arith in
    sym (take_all most_jobs l.jobs (omega (arith, l.invariant.0))) ∙ ap (λ i. take i l.jobs) (sym whole) ∙ l.invariant.1 ∙ ap (jobs_to _ _) whole
