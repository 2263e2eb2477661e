-- Laws of reading rows.
use mathlib.Core.Path.{◌≡◌, refl, sym, ◌∙◌, ap}
use mathlib.Core.Bool.{not}
use mathlib.Core.List.{List}
use Prim.Native.Nat.{ℕ, zero, suc, ◌+◌, ◌*◌, ◌-◌, ◌≤◌, ◌<◌}
use native.Mathlib.Numerals.{add-one}
use native.Mathlib.Omega.{arith}
use borrow.Author.Tests.{ltb-true}
use lib.Dec.{leb, ltb, eqb}
use lib.ListN.{length, set}
use Rattle.plan.specs.Edition.{most_intervals}
use Rattle.planfields.specs.Layout.{row_length}
use Rattle.plan.specs.Refusal.{Refusal, row_without_job, row_without_interval, row_without_units, row_out_of_order}
use Rattle.plan.specs.Table.{place}
use Rattle.fields.specs.Parsers.{Parsed, got, no, onward, field, checked, record_length}
use Rattle.planfile.specs.Reader.{position, Row, row_job, one_row, all_rows}
use Rattle.fields.proofs.ParserLaws.{through, past, checked_is, same_value}

-- Where a row's job is read, it is the position of the name that stands there.
pub job_there : (names file : List ℕ) (at : ℕ) {job next : ℕ} → row_job names file at ≡ got job next → job < length names
unfolding row_job
job_there names file at e =
    let t₁ = through (record_length row_length file at) e in
    let t₂ = through (field 8 file t₁.next) t₁.on in
    let t₃ = past (ltb (position names t₂.value) (length names)) row_without_job t₁.next file t₂.next t₂.on in
    omega (arith, same_value t₃.on, ltb-true (position names t₂.value) (length names) t₃.is)

-- The place of a row that is read is below most_intervals times the number of jobs.
pub row_inside : (names : List ℕ) (spans low : ℕ) (file : List ℕ) (at : ℕ) {row : Row} {next : ℕ}
    → one_row most_intervals names spans low file at ≡ got row next → spans ≤ most_intervals → row.at < most_intervals * length names
unfolding one_row
row_inside names spans low file at e h =
    let t₁ = through (row_job names file at) e in
    let t₃ = through (checked 2 (λ j. ltb j spans) row_without_interval file t₁.next) t₁.on in
    let t₄ = through (checked 4 (λ u. not (eqb u 0)) row_without_units file t₃.next) t₃.on in
    let t₅ = past (leb low (place most_intervals t₁.value t₃.value)) row_out_of_order at file t₄.next t₄.on in
    let i = job_there names file at t₁.is in
    let j = ltb-true t₃.value spans (checked_is 2 (λ j. ltb j spans) row_without_interval file t₁.next t₃.is).1 in
    let q = ap (λ (r : Row). r.at) (same_value t₅.on) in
    omega (arith, q)

-- `all_rows` with a next row that is read, with one that is refused, and with none left.
pub rows_step : (n width : ℕ) (names : List ℕ) (spans low : ℕ) (table file : List ℕ) (at : ℕ) {row : Row} {next : ℕ}
    → one_row width names spans low file at ≡ got row next
    → all_rows (suc n) width names spans low table file at ≡ all_rows n width names spans (suc row.at) (set table row.at row.units) file next
unfolding all_rows
rows_step n width names spans low table file at e = rw e

pub rows_stop : (n width : ℕ) (names : List ℕ) (spans low : ℕ) (table file : List ℕ) (at : ℕ) {k : Refusal}
    → one_row width names spans low file at ≡ no k → all_rows (suc n) width names spans low table file at ≡ no k
unfolding all_rows
rows_stop n width names spans low table file at e = rw e

pub rows_done : (width : ℕ) (names : List ℕ) (spans low : ℕ) (table file : List ℕ) (at : ℕ) → all_rows zero width names spans low table file at ≡ got table at
unfolding all_rows
rows_done width names spans low table file at = refl

-- A parser result without its value: the next offset, or the refusal number.
abbrev pub only_passed : {A : Type 0} → Parsed A → Parsed (Unit {0})
only_passed (got a next) = got tt next
only_passed (no refusal) = no refusal

-- Whether rows are refused, and where they end, does not depend on the table.
pub rows_only : (n width : ℕ) (names : List ℕ) (spans low : ℕ) (t u file : List ℕ) (at : ℕ)
    → only_passed (all_rows n width names spans low t file at) ≡ only_passed (all_rows n width names spans low u file at)
unfolding all_rows
rows_only zero width names spans low t u file at = refl
rows_only (suc n) width names spans low t u file at =
    by (one_row width names spans low file at) (λ row next. rows_only n width names spans (suc row.at) (set t row.at row.units) (set u row.at row.units) file next)
  where
    on : List ℕ → Row → List ℕ → ℕ → Parsed (List ℕ)
    on l row = all_rows n width names spans (suc row.at) (set l row.at row.units)

    by : (s : Parsed Row) → ((row : Row) (next : ℕ) → only_passed (on t row file next) ≡ only_passed (on u row file next))
        → only_passed (onward s (on t) file) ≡ only_passed (onward s (on u) file)
    by (got row next) h = h row next
    by (no k) h = refl

-- The loop invariant after k rows: reading the remaining ones gives the result of the whole.
module _ (rows k width : ℕ) (names : List ℕ) (spans low : ℕ) (table file : List ℕ) (at : ℕ) {whole : Parsed (List ℕ)}
    (left : all_rows (rows - k) width names spans low table file at ≡ whole) where
  pub left_next : k < rows → {row : Row} {next : ℕ} → one_row width names spans low file at ≡ got row next
      → all_rows (rows - (k + 1)) width names spans (row.at + 1) (set table row.at row.units) file next ≡ whole
  left_next h {row} {next} e =
      let n : rows - k ≡ suc (rows - (k + 1)) = omega arith in
      rw (add-one row.at)
      (sym (rows_step (rows - (k + 1)) width names spans low table file at e)
      ∙ ap (λ m. all_rows m width names spans low table file at) (sym n) ∙ left)

  pub left_stop : k < rows → {x : Refusal} → one_row width names spans low file at ≡ no x → whole ≡ no x
  left_stop h e =
      let n : rows - k ≡ suc (rows - (k + 1)) = omega arith in
      sym left ∙ ap (λ m. all_rows m width names spans low table file at) n
      ∙ rows_stop (rows - (k + 1)) width names spans low table file at e

  pub left_done : k ≡ rows → whole ≡ got table at
  left_done e =
      let n : rows - k ≡ 0 = omega (arith, e) in
      sym left ∙ ap (λ m. all_rows m width names spans low table file at) n ∙ rows_done width names spans low table file at
