-- No promise rests on this file: it is here for the contracts of inner functions.
-- Items as the code tells them.
use Rattle.std.specs.Prelude.{cond, ◌&&◌, List, ℕ, eqb, Result}
use Rattle.plan.specs.Rules.{lo, hi}
use Rattle.plan.specs.declared.refusal.Refusal.{Refusal}
use Rattle.fields.specs.Answers.{parsed_view}
use Rattle.fields.specs.declared.field.Parsed as code
use Rattle.fields.specs.Parsers.{Parsed, got, no}
use Rattle.csvtext.specs.declared.field.Seen.{Seen}
use Rattle.csvtext.specs.Items.{no_grade}
use Rattle.csvtext.specs.Inner.Seen.{nothing, with_bytes}

-- The view of an item: what is known of the bytes of its field.
abbrev pub item_view : Result (code.Parsed Seen) Refusal → Parsed Seen
item_view = parsed_view (λ s. s)

-- An item as the code tells it.
abbrev pub item_seen : Parsed (List ℕ) → Parsed Seen
item_seen (got l next) = got (with_bytes nothing l) next
item_seen (no refusal) = no refusal

-- The bytes of the letters that name the grades, H and L.
abbrev pub letter_hi : ℕ
letter_hi = 72

abbrev pub letter_lo : ℕ
letter_lo = 76

-- The grade that a field names, from what is known of its bytes.
abbrev pub grade_seen : Seen → ℕ
grade_seen s =
    cond (eqb s.length 1 && eqb s.name letter_hi) hi (cond (eqb s.length 1 && eqb s.name letter_lo) lo no_grade)
