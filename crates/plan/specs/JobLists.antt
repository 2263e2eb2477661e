-- Jobs that are read one after the other: their names, and the list in hand that they make.
use Rattle.std.specs.Prelude.{List, ◌++◌, map, ℕ, ◌-◌, length, replicate}
use Rattle.plan.specs.Edition.{most_jobs}
use Rattle.plan.specs.Rules.{no_job}
use Rattle.plan.specs.declared.kinds.Job.{Job}
use Rattle.plan.specs.declared.kinds.JobList.{JobList}

-- The names of some jobs.
abbrev pub names_of : List Job → List ℕ
names_of jobs = map (λ (j : Job). j.name.0) jobs

-- Jobs, then zero records up to `most_jobs`.
abbrev pub records_of : List Job → List Job
records_of jobs = jobs ++ replicate (most_jobs - length jobs) no_job

-- The list in hand of some jobs.
abbrev pub list_of : List Job → JobList
list_of jobs = record { count = length jobs; jobs = records_of jobs }
