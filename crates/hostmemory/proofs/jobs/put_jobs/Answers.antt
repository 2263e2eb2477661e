-- `hostmemory::jobs::put_jobs` meets its contract. Loop invariant:
-- the words of the first i jobs are written.
use mathlib.Core.Path.{◌≡◌, refl, ◌∙◌, ap}
use native.Mathlib.Numerals.{add-one}
use native.Mathlib.Omega.{arith}
use lib.ListN.{length}
use lib.Seq.{sets, length-sets}
use Rattle.plan.specs.Edition.{most_jobs}
use Rattle.hostmemory.specs.Memory.{jobs_out}
use Rattle.hostmemory.proofs.Writes.{jobs_next}
use Rattle.hostmemory.proofs.jobs.put_jobs.Goals as goal

pub loop-i-init : goal.loop-i-init
unfolding jobs_out
loop-i-init c =
    refl

pub put_job-requires : goal.put_job-requires
put_job-requires c =
    let long : length c.loop-i.words ≡ length c.args.words.now = let a = c.args in
    ap length c.loop-i.invariant ∙ length-sets a.words.now a.from (jobs_out a.jobs.now c.loop-i.i) in
    omega (arith, long)

pub loop-i-preserved : goal.loop-i-preserved
loop-i-preserved c =
    let l = c.loop-i in
    let a = c.args in
    rw (add-one, ← (jobs_next a.jobs.now a.words.now a.from l.i), ← l.invariant) c.put_job.ensures

pub shape_of-words : goal.shape_of-words
shape_of-words c =
    let long : length c.loop-i.words ≡ length c.args.words.now = let a = c.args in
    ap length c.loop-i.invariant ∙ length-sets a.words.now a.from (jobs_out a.jobs.now c.loop-i.i) in
    long

pub returns : goal.returns
returns c =
    let a = c.args in
    let whole : c.loop-i.i ≡ most_jobs = omega arith in
    c.loop-i.invariant ∙ ap (λ i. sets a.words.now a.from (jobs_out a.jobs.now i)) whole
