-- For the contracts of internal functions; no promise rests on this file. A plan made from columns, in
-- the logic alone: the code never holds it.
use Rattle.std.specs.Prelude.{List, [], ◌∷◌, ◌++◌, ℕ, zero, suc, get_or}
use Rattle.plan.specs.Edition.{most_jobs}
use Rattle.plan.specs.declared.kinds.Job.{Job}
use Rattle.plan.specs.declared.columns.Columns.{Columns}
use Rattle.plan.specs.declared.kinds.Plan.{Plan}

-- Job i of the columns; its name is 0.
abbrev pub job_on : (cols : Columns) (i : ℕ) → Job
job_on cols i =
    record {
      name = record { 0 = 0 };
      grade = get_or cols.grades i 0;
      release = record { 0 = get_or cols.releases i 0 };
      size = record { 0 = get_or cols.sizes i 0 };
      deadline = record { 0 = get_or cols.deadlines i 0 };
    }

-- The first n jobs of the columns.
unfoldable pub jobs_on : (cols : Columns) (n : ℕ) → List Job
jobs_on cols zero = []
jobs_on cols (suc n) =
    jobs_on cols n ++ (job_on cols n ∷ [])

-- The plan of columns.
abbrev pub plan_on : (cols : Columns) → Plan
plan_on cols =
    record { n = cols.n; d = cols.d; count = cols.count; jobs = jobs_on cols most_jobs }
