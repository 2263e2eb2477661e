-- Items of comma-separated text: a field and what ends it, and the three kinds of it: a name, a grade, a number.
use Rattle.std.specs.Prelude.{Bool, cond, ◌&&◌, List, [], ◌∷◌, ℕ, ◌+◌, eqb, length, drop}
use Rattle.plan.specs.Kinds.{Bytes, Number, Offset}
use Rattle.plan.specs.Edition.{name_bytes}
use Rattle.plan.specs.Refusal.{refusal_at, wrong_line}
use Rattle.plan.specs.Rules.{lo, hi}
use Rattle.fields.specs.Bytes.{value}
use Rattle.fields.specs.Parsers.{Parsed, got, no, Parser, ◌>>=◌, ◌>>◌, done, test}
use Rattle.text.specs.Text.{text}
use Rattle.csvtext.specs.Grammar.{comma, Found, found, broken, field, begins}
use Rattle.csvtext.specs.Decimals.{is_decimal, number_in}

-- These bytes must stand here; otherwise it is refused with the number, at `from`.
unfoldable pub exactly : (bytes : Bytes) (number : Number) (from : Offset) → Parser (Unit {0})
exactly bytes number from file at = cond (begins bytes (drop at file)) (got tt (at + length bytes)) (no (refusal_at number from))

-- A field that was found at an offset, in a line that begins at `from`.
abbrev pub standing : (from at : Offset) → Found → Parsed (List ℕ)
standing from at (found l used) = got l (at + used)
standing from at broken = no (refusal_at wrong_line from)

-- A field of a line that begins at `from`, and what ends it, a comma or the end of the line: the bytes
-- that the field stands for.
unfoldable pub item : (ends : Bytes) (from : Offset) → Parser (List ℕ)
item ends from = do
  l ← (λ file at. standing from at (field (drop at file)))
  exactly ends wrong_line from
  done l

-- A name: eight bytes.
unfoldable pub name_item : (from : Offset) → Parser ℕ
name_item from = do
  l ← item (comma ∷ []) from
  test (eqb (length l) name_bytes) wrong_line from
  done (value 0 l)

-- A number: a decimal.
unfoldable pub number_item : (ends : Bytes) (from : Offset) → Parser ℕ
number_item ends from = do
  l ← item ends from
  test (is_decimal l) wrong_line from
  done (number_in l)

-- Two texts are the same.
abbrev pub same_text : Bytes → Bytes → Bool
same_text a b = eqb (length a) (length b) && begins a b

-- What no grade has for its number.
abbrev pub no_grade : ℕ
no_grade = 2

-- The grade that a text names: H is HI, L is LO, and any other is none.
abbrev pub grade_named : Bytes → ℕ
grade_named l = cond (same_text (text "H") l) hi (cond (same_text (text "L") l) lo no_grade)

-- A grade, allowed or not.
unfoldable pub grade_item : (from : Offset) → Parser ℕ
grade_item from = do
  l ← item (comma ∷ []) from
  done (grade_named l)
