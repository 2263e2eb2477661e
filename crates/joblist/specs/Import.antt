-- Reading a job list: its header, then a line for each job. Each refusal says at which offset.
use Rattle.std.specs.Prelude.{cond, ◌&&◌, List, [], ◌∷◌, ◌++◌, ℕ, zero, suc, leb, length}
use Rattle.plan.specs.Kinds.{Bytes}
use Rattle.plan.specs.Edition.{most_jobs}
use Rattle.plan.specs.Refusal.{wrong_job_count, wrong_name_byte, name_taken, wrong_grade, wrong_job_bounds, wrong_header}
use Rattle.plan.specs.Report.{Report}
use Rattle.plan.specs.Rules.{name_allowed, is_absent, grade_allowed, window_allowed, size_allowed}
use Rattle.plan.specs.JobLists.{names_of, list_of}
use Rattle.plan.specs.declared.kinds.Job.{Job}
use Rattle.plan.specs.declared.kinds.JobList.{JobList}
use Rattle.fields.specs.Parsers.{Parsed, got, no, Parser, ◌>>=◌, ◌>>◌, done, here, at_end, test}
use Rattle.text.specs.Text.{text}
use Rattle.csvtext.specs.Grammar.{comma, line_end}
use Rattle.csvtext.specs.Items.{exactly, name_item, grade_item, number_item}

-- The five fields of a line, with the offsets of the grade's field and of the release's.
pub record Line : Type 0 where
  pub name : ℕ
  pub grade_at : ℕ
  pub grade : ℕ
  pub release_at : ℕ
  pub release : ℕ
  pub size : ℕ
  pub deadline : ℕ

-- A line by its text alone: five fields, all of them well formed, or 23 at its first byte.
unfoldable pub line : Parser Line
line = do
  from ← here
  name ← name_item from
  grade_at ← here
  grade ← grade_item from
  release_at ← here
  release ← number_item (comma ∷ []) from
  size ← number_item (comma ∷ []) from
  deadline ← number_item line_end from
  done (record { name = name; grade_at = grade_at; grade = grade; release_at = release_at; release = release; size = size; deadline = deadline })

-- The job of a line.
abbrev pub job_on : Line → Job
job_on l =
    record {
      name = record { 0 = l.name };
      grade = l.grade;
      release = record { 0 = l.release };
      size = record { 0 = l.size };
      deadline = record { 0 = l.deadline };
    }

-- One job: a well-formed line, then rules 6 to 9, of which 7 is told the names of the jobs before it.
unfoldable pub one_job : (earlier : List ℕ) → Parser Job
one_job earlier = do
  from ← here
  l ← line
  test (name_allowed l.name) wrong_name_byte from
  test (is_absent earlier l.name) name_taken from
  test (grade_allowed l.grade) wrong_grade l.grade_at
  test (window_allowed l.release l.deadline && size_allowed l.size) wrong_job_bounds l.release_at
  done (job_on l)

-- Lines up to the end of the text, at most `room` of them, after the jobs that were read. One line more is
-- refused before its text is looked at.
unfoldable pub all_lines : (room : ℕ) (jobs : List Job) → Parser (List Job)
all_lines zero jobs = do
  from ← here
  over ← at_end
  test over wrong_job_count from
  done jobs
all_lines (suc room) jobs = do
  over ← at_end
  cond over (done jobs) (do
    job ← one_job (names_of jobs)
    all_lines room (jobs ++ (job ∷ [])))

-- The header, the first line of every job list.
abbrev pub header : Bytes
header = text "name,grade,release,size,deadline" ++ line_end

-- A job list: the header, and at least one line; if there is none, it is refused at the end of the text.
unfoldable pub job_text : Parser (List Job)
job_text = do
  exactly header wrong_header 0
  jobs ← all_lines most_jobs []
  end ← here
  test (leb 1 (length jobs)) wrong_job_count end
  done jobs

-- What a call of the import leaves: its report (empty for a list that was read, otherwise the refusal number
-- and the offset), and the jobs.
pub record ImportEffect : Type 0 where
  pub answer : Report
  pub list : JobList

-- By what was read: the jobs, or with a refusal none.
abbrev pub imported_from : Parsed (List Job) → ImportEffect
imported_from (got jobs next) = record { answer = []; list = list_of jobs }
imported_from (no refusal) = record { answer = refusal.number ∷ refusal.offset ∷ []; list = list_of [] }

-- The import of a text.
unfoldable pub imported : (bytes : Bytes) → ImportEffect
imported bytes = imported_from (job_text bytes 0)
