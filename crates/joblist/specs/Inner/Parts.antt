-- No promise rests on this file: it is here for the contracts of inner functions.
-- The views of the parts of the import.
use Rattle.std.specs.Prelude.{List, Result}
use Rattle.plan.specs.JobLists.{list_of}
use Rattle.plan.specs.declared.kinds.Job.{Job}
use Rattle.plan.specs.declared.kinds.JobList.{JobList}
use Rattle.plan.specs.declared.refusal.Refusal.{Refusal}
use Rattle.fields.specs.Answers.{parsed_view}
use Rattle.fields.specs.declared.field.Parsed as code
use Rattle.fields.specs.Parsers.{Parsed, got, no}
use Rattle.csvtext.specs.Answers.{grade_told}
use Rattle.joblist.specs.declared.line.Line.{Line}
use Rattle.joblist.specs.Import as rule

-- A line as the rules have it.
abbrev pub line_of : Line → rule.Line
line_of l =
    record {
      name = l.name.0;
      grade_at = l.grade_at;
      grade = grade_told l.grade;
      release_at = l.release_at;
      release = l.release.0;
      size = l.size.0;
      deadline = l.deadline.0;
    }

-- The views of a line, of a job and of a list that is read, each with the offset of the next line.
abbrev pub line_view : Result (code.Parsed Line) Refusal → Parsed rule.Line
line_view = parsed_view line_of

abbrev pub job_view : Result (code.Parsed Job) Refusal → Parsed Job
job_view = parsed_view (λ j. j)

abbrev pub list_view : Result (code.Parsed JobList) Refusal → Parsed JobList
list_view = parsed_view (λ l. l)

-- The jobs that are read, as a list.
abbrev pub lines_listed : Parsed (List Job) → Parsed JobList
lines_listed (got jobs next) = got (list_of jobs) next
lines_listed (no refusal) = no refusal
