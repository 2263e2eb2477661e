-- The views of the answers of head and job as parser results, and the contracts of the readers.
use Rattle.std.specs.Prelude.{◌≡◌, not, List, ℕ, ltb, eqb, Result}
use Rattle.plan.specs.Kinds.{Bytes, Offset}
use Rattle.plan.specs.Versions.{rows_allowed_in}
use Rattle.plan.specs.Refusal.{too_many_rows, row_without_interval, row_without_units}
use Rattle.plan.specs.declared.kinds.Job.{Job}
use Rattle.plan.specs.declared.refusal.Refusal.{Refusal}
use Rattle.fields.specs.declared.field.Parsed as code
use Rattle.fields.specs.declared.opening.LengthRule.{LengthRule}
use Rattle.fields.specs.Parsers.{Parsed, checked}
use Rattle.fields.specs.Answers.{parsed_view, field_view, is_compared}
use Rattle.planfields.specs.declared.head.Head.{Head}
use Rattle.planfields.specs.Records as rule

-- A head as the rules have it: plain numbers instead of rates.
abbrev pub head_of : Head → rule.Head
head_of h = record { version = h.version; n = h.n.0; d = h.d.0; count = h.count }

-- The view of what `read_head` gives: the head and the offset of the next field, or the refusal.
abbrev pub head_view : Result (code.Parsed Head) Refusal → Parsed rule.Head
head_view = parsed_view head_of

-- The view of what `read_job` gives: the record and the offset of the next field, or the refusal.
abbrev pub job_view : Result (code.Parsed Job) Refusal → Parsed Job
job_view = parsed_view (λ j. j)

-- The contract of `read_head`: all fields before the jobs, from offset 0 on.
abbrev pub ReadsHead : (file : Bytes) (lengths : LengthRule) (r : Result (code.Parsed Head) Refusal) → Type 0
ReadsHead file lengths r = head_view r ≡ rule.head (is_compared lengths) file 0

-- The contract of `read_job`: one job, given the names of the jobs before it.
abbrev pub ReadsJob : (file : Bytes) (at : Offset) (earlier : List ℕ) (r : Result (code.Parsed Job) Refusal) → Type 0
ReadsJob file at earlier r = job_view r ≡ rule.one_job earlier file at

-- The contract of `read_row_count`: two bytes, a number of rows that the version allows.
abbrev pub ReadsRowCount : (file : Bytes) (at : Offset) (version : ℕ) (r : Result (code.Parsed ℕ) Refusal) → Type 0
ReadsRowCount file at version r = field_view r ≡ checked 2 (rows_allowed_in version) too_many_rows file at

-- The contract of `read_interval`: two bytes, below `spans`. The type of what is read bounds it.
abbrev pub ReadsInterval : (file : Bytes) (at : Offset) (spans : ℕ) (r : Result (code.Parsed ℕ) Refusal) → Type 0
ReadsInterval file at spans r = field_view r ≡ checked 2 (λ j. ltb j spans) row_without_interval file at

-- The contract of `read_units`: four bytes, not 0. The type of what is read bounds it.
abbrev pub ReadsUnits : (file : Bytes) (at : Offset) (r : Result (code.Parsed ℕ) Refusal) → Type 0
ReadsUnits file at r = field_view r ≡ checked 4 (λ u. not (eqb u 0)) row_without_units file at
