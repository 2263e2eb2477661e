-- Parsers for the parts of a plan file before its rows: the head and one job, in file order.
use Rattle.std.specs.Prelude.{Bool, ◌&&◌, List, ℕ}
use Rattle.plan.specs.Edition.{name_bytes}
use Rattle.plan.specs.Versions.{newest_version, count_allowed_in}
use Rattle.plan.specs.Refusal.{wrong_rates, wrong_job_count, wrong_name_byte, name_taken, wrong_grade, wrong_job_bounds}
use Rattle.plan.specs.Rules.{rates_allowed, name_allowed, is_absent, grade_allowed, window_allowed, size_allowed}
use Rattle.plan.specs.declared.kinds.Job.{Job}
use Rattle.fields.specs.Parsers.{Parser, ◌>>=◌, ◌>>◌, done, here, test, field, checked, record_length, opening}
use Rattle.planfields.specs.Layout.{job_length}

-- The fields before the jobs, without the length field.
pub record Head : Type 0 where
  pub version : ℕ
  pub n : ℕ
  pub d : ℕ
  pub count : ℕ

-- The opening, both rates, which must pass rule 4 (otherwise it is refused at n), and a job count that the
-- version allows (rule 5). The length field is compared with the bytes after it, or only read.
unfoldable pub head : (compared : Bool) → Parser Head
head compared = do
  version ← opening newest_version compared
  from ← here
  n ← field 2
  d ← field 2
  test (rates_allowed n d) wrong_rates from
  count ← checked 1 (count_allowed_in version) wrong_job_count
  done (record { version = version; n = n; d = d; count = count })

-- The length byte and the name of a job;
-- the name must pass rule 6 and be none of the earlier names (rule 7).
unfoldable pub job_name : List ℕ → Parser ℕ
job_name earlier = do
  record_length job_length
  from ← here
  name ← field name_bytes
  test (name_allowed name) wrong_name_byte from
  test (is_absent earlier name) name_taken from
  done name

-- One job, given the names of the jobs before it. Where its window or size is not allowed (rule 9), it is
-- refused at its release.
unfoldable pub one_job : List ℕ → Parser Job
one_job earlier = do
  name ← job_name earlier
  grade ← checked 1 grade_allowed wrong_grade
  from ← here
  release ← field 4
  size ← field 4
  deadline ← field 4
  test (window_allowed release deadline && size_allowed size) wrong_job_bounds from
  done
      (record {
        name = record { 0 = name };
        grade = grade;
        release = record { 0 = release };
        size = record { 0 = size };
        deadline = record { 0 = deadline };
      })
