-- The test of each counted job, over the jobs' positions.
use Rattle.std.proofs.Common.{Bool, ◌∙◌, rules, tests, arith}
use Rattle.std.proofs.lemmas.Iterator.{YieldsList-from_slice}
use Rattle.std.proofs.lemmas.Iterator.Search.{all_from_yields_List}
use Rattle.plan.specs.Rules.{grade_allowed, grades_hold}
use Rattle.plan.specs.declared.kinds.Job.{Job}
use Rattle.plan.proofs.CountedJobs.{every_job}
use Rattle.plan.proofs.rules.grades_hold.Goals as goal

pub returns : goal.returns
unfolding grades_hold
returns c =
    let test : Job → Bool = λ j. grade_allowed j.grade in
    let jobs = c.counted_jobs.result.now in
    all_from_yields_List test _ _ _ c.all.ensures.ran (YieldsList-from_slice jobs cc) (λ x b q k. search (rules, tests))
    ∙ every_job test c.args.p jobs c.counted_jobs.ensures.records (omega arith)
