-- The views of the field readers' answers as parser results, and the contracts of the readers.
use Rattle.std.specs.Prelude.{◌≡◌, Bool, true, false, ℕ, Result, Ok, Err}
use Rattle.plan.specs.Kinds.{Bytes, Offset}
use Rattle.plan.specs.Refusal.{refusal_view}
use Rattle.plan.specs.declared.refusal.Refusal.{Refusal}
use Rattle.fields.specs.declared.field.Parsed as code
use Rattle.fields.specs.declared.opening.LengthRule.{LengthRule}
use Rattle.fields.specs.declared.opening.LengthRule.TheVariants as length_rule
use Rattle.fields.specs.Parsers as rule
use Rattle.fields.specs.Parsers.{Parsed, got, no}

-- The view of what a reader gives: the view of the value with the offset of the next field, or the refusal.
abbrev pub parsed_view : {A B : Type 0} (view : A → B) → Result (code.Parsed A) Refusal → Parsed B
parsed_view view (Ok parsed) = got (view parsed.value) parsed.next
parsed_view view (Err refusal) = no (refusal_view refusal)

-- The same of a number.
abbrev pub field_view : Result (code.Parsed ℕ) Refusal → Parsed ℕ
field_view = parsed_view (λ x. x)

-- The view of what a reader passes: the offset of the next field, or the refusal.
abbrev pub passed_view : Result ℕ Refusal → Parsed (Unit {0})
passed_view (Ok next) = got tt next
passed_view (Err refusal) = no (refusal_view refusal)

-- Whether a length field is compared with the bytes after it.
abbrev pub is_compared : LengthRule → Bool
is_compared length_rule.Compared = true
is_compared length_rule.Ignored = false

-- The contract of `read`: a field of w bytes, whose number is told by `number`. The type of what is read bounds it.
abbrev pub ReadsField : {N : Type 0} (w : ℕ) (number : N → ℕ) (file : Bytes) (at : Offset) (r : Result (code.Parsed N) Refusal) → Type 0
ReadsField w number file at r = parsed_view number r ≡ rule.field w file at

-- The contract of `read_length`: a length byte, which must be `long`.
abbrev pub ReadsLength : (file : Bytes) (at : Offset) (long : ℕ) (r : Result ℕ Refusal) → Type 0
ReadsLength file at long r = passed_view r ≡ rule.record_length long file at

-- The contract of `read_opening`: the version, at most `newest`, and the length field, from offset 0 on.
abbrev pub ReadsOpening : (file : Bytes) (newest : ℕ) (lengths : LengthRule) (r : Result (code.Parsed ℕ) Refusal) → Type 0
ReadsOpening file newest lengths r = field_view r ≡ rule.opening newest (is_compared lengths) file 0

-- The contract of `read_end`: the offset if the file ends there, otherwise the refusal.
abbrev pub ReadsEnd : (file : Bytes) (at : Offset) (r : Result ℕ Refusal) → Type 0
ReadsEnd file at r = passed_view r ≡ rule.ended file at
