-- After some iterations the jobs so far are written.
use Rattle.std.proofs.Common.{◌≡◌, ◌<◌, refl, ◌∙◌, length-take, arith}
use lib.Seq.{get_or-take}
use Rattle.plan.specs.Rules.{job_of, no_job}
use Rattle.planwriter.specs.Writing.{job_bytes}
use Rattle.planwriter.proofs.Sets.{put_start, put_length, put_on}
use Rattle.planwriter.proofs.JobAndRowBytes.{job_long, jobs_long, jobs_start, jobs_next}
use Rattle.planwriter.proofs.writer.put_jobs.Goals as goal

pub loop-job-init : goal.loop-job-init
loop-job-init c =
    rw (jobs_start c.args.p) (put_start c.args.out.now c.args.at)

pub put_job-next-requires : goal.put_job-next-requires
put_job-next-requires c =
    let l = c.loop-job in
    let p = c.args.p in
    let i = l.job-index in
    let inside : i < p.count = omega (arith, length-take p.count p.jobs) in
    (omega (arith, c.requires.0, l.invariant.ends, jobs_long p i, put_length l.invariant, inside), rw (get_or-take p.count p.jobs i no_job inside) (c.requires.2 i inside))

pub loop-job-preserved : goal.loop-job-preserved
loop-job-preserved c =
    let p = c.args.p in
    let i = c.loop-job.job-index in
    let inside : i < p.count = omega (arith, length-take p.count p.jobs) in
    let put = rw (get_or-take p.count p.jobs i no_job inside) at c.put_job-next.ensures in
    rw (← (jobs_next p i)) (put_on c.loop-job.invariant (job_bytes (job_of p i)) (rw (job_long (job_of p i)) put.0) put.1)

pub returns : goal.returns
returns c =
    let p = c.args.p in
    let whole : c.loop-job.job-index ≡ p.count = omega (arith, length-take p.count p.jobs, c.requires.1) in
    let put = rw whole at c.loop-job.invariant in
    (put.ends ∙ rw (jobs_long p p.count) refl, put.stands)
