-- The contracts of the readers of items. Their answers are those of `fields`, with its views.
use Rattle.std.specs.Prelude.{◌≡◌, ℕ, ◌+◌, cond, length, drop, Option, Some, None, Result, Ok, Err}
use Rattle.plan.specs.Kinds.{Bytes, Offset}
use Rattle.plan.specs.Rules.{lo, hi}
use Rattle.plan.specs.declared.refusal.Refusal.{Refusal}
use Rattle.fields.specs.Answers.{parsed_view, field_view}
use Rattle.fields.specs.declared.field.Parsed.{Parsed}
use Rattle.csvtext.specs.declared.item.Grade.{Grade}
use Rattle.csvtext.specs.declared.item.Grade.TheVariants as grade
use Rattle.csvtext.specs.Grammar.{begins}
use Rattle.csvtext.specs.Items.{no_grade, name_item, grade_item, number_item}

-- The number of a grade, and of what names none.
abbrev pub grade_number : Grade → ℕ
grade_number grade.Lo = lo
grade_number grade.Hi = hi

abbrev pub grade_told : Option Grade → ℕ
grade_told (Some g) = grade_number g
grade_told None = no_grade

-- The contract of `read_exactly`: the offset after the bytes if they stand there, otherwise `wrong`, whatever that is. At a refusal this is
-- what `exactly` gives.
abbrev pub ReadsExactly : {E : Type 0} (text : Bytes) (at : Offset) (bytes : Bytes) (wrong : E) (r : Result ℕ E) → Type 0
ReadsExactly text at bytes wrong r = r ≡ cond (begins bytes (drop at text)) (Ok (at + length bytes)) (Err wrong)

-- The contract of `read_name`: a name and the comma after it, in a line that begins at `from`.
abbrev pub ReadsName : (text : Bytes) (at from : Offset) (r : Result (Parsed ℕ) Refusal) → Type 0
ReadsName text at from r = field_view r ≡ name_item from text at

-- The contract of `read_grade`: a grade, or none, and the comma after it.
abbrev pub ReadsGrade : (text : Bytes) (at from : Offset) (r : Result (Parsed (Option Grade)) Refusal) → Type 0
ReadsGrade text at from r = parsed_view grade_told r ≡ grade_item from text at

-- The contract of `read_number`: a number and what ends it. The type of the number says that it has four bytes.
abbrev pub ReadsNumber : (text : Bytes) (at : Offset) (ends : Bytes) (from : Offset) (r : Result (Parsed ℕ) Refusal) → Type 0
ReadsNumber text at ends from r = field_view r ≡ number_item ends from text at
