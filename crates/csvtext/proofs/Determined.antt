-- The contracts of the readers of items determine their results, and can be met for every input.
use Rattle.std.proofs.Common.{◌≡◌, Bool, true, false, cond, ℕ, ◌+◌, ◌<◌, ◌^◌, [], ◌∷◌, length, drop, refl, sym, ◌∙◌, arith}
use mathlib.Core.Path.{ap}
use Rattle.std.specs.Prelude.{map, List, Option, Some, None, Result, Ok, Err, IfOk}
use Rattle.plan.specs.Kinds.{Bytes, Offset}
use Rattle.plan.specs.Refusal.{number_of, wrong_line}
use Rattle.plan.specs.Rules.{lo, hi}
use Rattle.plan.specs.declared.refusal.Reason.{Reason}
use Rattle.plan.specs.declared.refusal.Reason.TheVariants as reason
use Rattle.plan.specs.declared.refusal.Refusal.{Refusal}
use Rattle.plan.proofs.Reasons.{refusal_some}
use Rattle.fields.specs.Parsers.{Parsed, got, no}
use Rattle.fields.specs.Answers.{parsed_view, field_view}
use Rattle.fields.specs.declared.field.Parsed as code
use Rattle.fields.proofs.Injective.{parsed_one, fields_one, field_some}
use Rattle.fields.proofs.Only.{among, Only}
use Rattle.fields.proofs.ParserLaws.{through, past, same_value}
use Rattle.text.specs.Text.{text}
use Rattle.csvtext.specs.declared.item.Grade.{Grade}
use Rattle.csvtext.specs.declared.item.Grade.TheVariants as grade
use Rattle.csvtext.specs.Grammar.{comma, begins}
use Rattle.csvtext.specs.Decimals.{is_decimal}
use Rattle.csvtext.specs.Items.{item, name_item, same_text, no_grade, grade_named, grade_item, number_item}
use Rattle.csvtext.specs.Answers.{grade_told, ReadsExactly, ReadsName, ReadsGrade, ReadsNumber}
use Rattle.csvtext.proofs.ItemRefusals.{name_refuses, grade_refuses, number_refuses}

-- `csvtext::item::read_exactly`.
pub one_exactly : {E : Type 0} (file : Bytes) (at : Offset) (bytes : Bytes) (wrong : E) (r s : Result ℕ E) → ReadsExactly file at bytes wrong r
    → ReadsExactly file at bytes wrong s → r ≡ s
one_exactly file at bytes wrong r s d e = d ∙ sym e

pub some_exactly : {E : Type 0} (file : Bytes) (at : Offset) (bytes : Bytes) (wrong : E) → (r : Result ℕ E) × ReadsExactly file at bytes wrong r
some_exactly file at bytes wrong = (cond (begins bytes (drop at file)) (Ok (at + length bytes)) (Err wrong), refl)

-- An item is refused for one reason.
abbrev line_reasons : List Reason
line_reasons = reason.WrongLine ∷ []

-- `csvtext::item::read_name`.
pub one_name_item : (file : Bytes) (at from : Offset) (r s : Result (code.Parsed ℕ) Refusal) → ReadsName file at from r → ReadsName file at from s → r ≡ s
one_name_item file at from r s d e = fields_one r s (d ∙ sym e)

pub some_name_item : (file : Bytes) (at from : Offset) → (r : Result (code.Parsed ℕ) Refusal) × ReadsName file at from r
some_name_item file at from = field_some line_reasons (name_item from file at) (name_refuses (among (map number_of line_reasons)) file from refl at)

-- Different grades, and none, have different numbers.
grade_one : (a b : Option Grade) → grade_told a ≡ grade_told b → a ≡ b
grade_one None None e = refl
grade_one None (Some grade.Lo) e = absurd (omega arith)
grade_one None (Some grade.Hi) e = absurd (omega arith)
grade_one (Some grade.Lo) None e = absurd (omega arith)
grade_one (Some grade.Lo) (Some grade.Lo) e = refl
grade_one (Some grade.Lo) (Some grade.Hi) e = absurd (omega arith)
grade_one (Some grade.Hi) None e = absurd (omega arith)
grade_one (Some grade.Hi) (Some grade.Lo) e = absurd (omega arith)
grade_one (Some grade.Hi) (Some grade.Hi) e = refl

-- What a text names is a grade, or none.
grade_some : (l : Bytes) → (a : Option Grade) × (grade_told a ≡ grade_named l)
grade_some l = by (same_text (text "H") l) (same_text (text "L") l)
  where
    by : (h l : Bool) → (a : Option Grade) × (grade_told a ≡ cond h hi (cond l lo no_grade))
    by true l = (Some grade.Hi, refl)
    by false true = (Some grade.Lo, refl)
    by false false = (None, refl)

-- `csvtext::item::read_grade`.
pub one_grade_item : (file : Bytes) (at from : Offset) (r s : Result (code.Parsed (Option Grade)) Refusal) → ReadsGrade file at from r → ReadsGrade file at from s → r ≡ s
one_grade_item file at from r s d e = parsed_one grade_told grade_one r s (d ∙ sym e)

pub some_grade_item : (file : Bytes) (at from : Offset) → (r : Result (code.Parsed (Option Grade)) Refusal) × ReadsGrade file at from r
unfolding grade_item
some_grade_item file at from = by (grade_item from file at) refl (grade_refuses (among (map number_of line_reasons)) file from refl at)
  where
    by : (p : Parsed ℕ) → grade_item from file at ≡ p → Only (map number_of line_reasons) p → (r : Result (code.Parsed (Option Grade)) Refusal) × (parsed_view grade_told r ≡ p)
    by (got g next) e h =
        let t = through (item (comma ∷ []) from file at) e in
        let a = grade_some t.value in
        (Ok (record { value = a.0; next = next }), ap (λ v. got v next) (a.1 ∙ same_value t.on))
    by (no k) e h = let r = refusal_some line_reasons k h in (Err r.0, ap no r.1)

-- `csvtext::item::read_number`.
pub one_number_item : (file : Bytes) (at : Offset) (ends : Bytes) (from : Offset) (r s : Result (code.Parsed ℕ) Refusal) → ReadsNumber file at ends from r
    → ReadsNumber file at ends from s → r ≡ s
one_number_item file at ends from r s d e = fields_one r s (d ∙ sym e)

-- A number is at most `most_number`, so it has four bytes.
number_below : (file : Bytes) (at : Offset) (ends : Bytes) (from : Offset) {n next : ℕ} → number_item ends from file at ≡ got n next → n < 256 ^ 4
unfolding number_item
number_below file at ends from e =
    let t = through (item ends from file at) e in
    let p = past (is_decimal t.value) wrong_line from file t.next t.on in
    omega (arith, same_value p.on)

pub some_number_item : (file : Bytes) (at : Offset) (ends : Bytes) (from : Offset)
    → (r : Result (code.Parsed ℕ) Refusal) × ReadsNumber file at ends from r × IfOk r (λ parsed. parsed.value < 256 ^ 4)
some_number_item file at ends from =
    by (number_item ends from file at) refl (number_refuses (among (map number_of line_reasons)) file from refl ends at)
  where
    by : (p : Parsed ℕ) → number_item ends from file at ≡ p → Only (map number_of line_reasons) p
        → (r : Result (code.Parsed ℕ) Refusal) × (field_view r ≡ p) × IfOk r (λ parsed. parsed.value < 256 ^ 4)
    by (got n next) e h = (Ok (record { value = n; next = next }), refl, number_below file at ends from e)
    by (no k) e h = let r = refusal_some line_reasons k h in (Err r.0, ap no r.1, tt)
