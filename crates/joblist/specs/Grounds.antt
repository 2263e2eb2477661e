-- The grounds of the import's refusals: for each number, what is wrong with the text, and where.
use Rattle.std.specs.Prelude.{◌≡◌, true, false, ◌&&◌, List, [], ◌∷◌, ◌++◌, ℕ, ◌<◌, length}
use Rattle.plan.specs.Kinds.{Bytes, Number, Offset}
use Rattle.plan.specs.Edition.{most_jobs}
use Rattle.plan.specs.JobLists.{names_of}
use Rattle.plan.specs.Refusal.{Refusal, wrong_job_count, wrong_name_byte, name_taken, wrong_grade, wrong_job_bounds, wrong_line, wrong_header}
use Rattle.plan.specs.Rules.{name_allowed, is_absent, grade_allowed, window_allowed, size_allowed}
use Rattle.plan.specs.declared.kinds.Job.{Job}
use Rattle.fields.specs.Parsers.{got, no}
use Rattle.csvtext.specs.Grammar.{begins}
use Rattle.joblist.specs.Import.{Line, line, one_job, header}

-- After the header, and a line for each of these jobs that was taken, the next line would begin at `at`.
pub data Reached (text : Bytes) : (jobs : List Job) (at : Offset) → Type 0 where
  begun : begins header text ≡ true → Reached text [] (length header)
  further : {jobs : List Job} {at : Offset} {job : Job} {next : Offset} → Reached text jobs at → at < length text → length jobs < most_jobs
      → one_job (names_of jobs) text at ≡ got job next → Reached text (jobs ++ (job ∷ [])) next

-- A line at `at` is wrong, after jobs with the names `earlier`: with this number, at this offset.
pub data WrongLine (text : Bytes) (earlier : List ℕ) (at : Offset) : (number : Number) (offset : Offset) → Type 0 where
  not_formed : {refusal : Refusal} → line text at ≡ no refusal → WrongLine text earlier at wrong_line at
  name_byte : {l : Line} {next : Offset} → line text at ≡ got l next → name_allowed l.name ≡ false → WrongLine text earlier at wrong_name_byte at
  name_taken_lem : {l : Line} {next : Offset} → line text at ≡ got l next → name_allowed l.name ≡ true → is_absent earlier l.name ≡ false
      → WrongLine text earlier at name_taken at
  grade : {l : Line} {next : Offset} → line text at ≡ got l next → name_allowed l.name ≡ true → is_absent earlier l.name ≡ true
      → grade_allowed l.grade ≡ false → WrongLine text earlier at wrong_grade l.grade_at
  bounds : {l : Line} {next : Offset} → line text at ≡ got l next → name_allowed l.name ≡ true → is_absent earlier l.name ≡ true
      → grade_allowed l.grade ≡ true → (window_allowed l.release l.deadline && size_allowed l.size) ≡ false
      → WrongLine text earlier at wrong_job_bounds l.release_at

-- A text is wrong: with this number, at this offset.
pub data WrongText (text : Bytes) : (number : Number) (offset : Offset) → Type 0 where
  no_header : begins header text ≡ false → WrongText text wrong_header 0
  no_line : text ≡ header → WrongText text wrong_job_count (length text)
  line_too_many : {jobs : List Job} {at : Offset} → Reached text jobs at → at < length text → length jobs ≡ most_jobs
      → WrongText text wrong_job_count at
  in_line : {jobs : List Job} {at : Offset} {number : Number} {offset : Offset} → Reached text jobs at → at < length text → length jobs < most_jobs
      → WrongLine text (names_of jobs) at number offset → WrongText text number offset
