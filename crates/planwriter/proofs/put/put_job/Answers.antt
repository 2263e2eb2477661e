-- `planwriter::put::put_job` meets its contract: each field is written after the one before.
use mathlib.Core.Path.{refl, ◌∙◌}
use native.Mathlib.Omega.{arith}
use borrow.Author.Rules.{rules}
use Rattle.planfields.specs.Layout.{job_length}
use Rattle.planwriter.proofs.Sets.{put_start}
use Rattle.planwriter.proofs.JobAndRowBytes.{put_field, job_long}
use Rattle.planwriter.proofs.put.put_job.Goals as goal

pub put-requires : goal.put-requires
put-requires c =
    (omega (arith, c.requires.0, c.put-after_length.ensures.0, c.put-after_length.auto.out, c.put-after_name.ensures.0, c.put-after_name.auto.out, c.put-after_grade.ensures.0, c.put-after_grade.auto.out, c.put-after_release.ensures.0, c.put-after_release.auto.out, c.put-after_size.ensures.0, c.put-after_size.auto.out), search rules)

pub returns : goal.returns
returns c =
    let a = c.args in
    let p1 = put_field (put_start a.out.now a.at) 1 job_length refl c.put-after_length.ensures.0 c.put-after_length.ensures.1 in
    let p2 = put_field p1 8 a.job.name.0 refl c.put-after_name.ensures.0 c.put-after_name.ensures.1 in
    let p3 = put_field p2 1 a.job.grade c.from.ensures c.put-after_grade.ensures.0 c.put-after_grade.ensures.1 in
    let p4 = put_field p3 4 a.job.release.0 c.from-2.ensures c.put-after_release.ensures.0 c.put-after_release.ensures.1 in
    let p5 = put_field p4 4 a.job.size.0 refl c.put-after_size.ensures.0 c.put-after_size.ensures.1 in
    let p6 = put_field p5 4 a.job.deadline.0 c.from-3.ensures c.put.ensures.0 c.put.ensures.1 in
    (p6.ends ∙ rw (job_long a.job) refl, p6.stands)
