-- The offset of a refused import lies inside the text, or is its length.
use mathlib.Core.Path.{◌≡◌, sym, ap}
use mathlib.Core.List.{List, [], ◌∷◌}
use Prim.Native.Nat.{ℕ, ◌≤◌}
use native.Mathlib.Omega.{arith}
use lib.ListN.{length}
use Rattle.fields.specs.Parsers.{got}
use Rattle.fields.proofs.ParserLaws.{through, same_value}
use Rattle.csvtext.specs.Grammar.{comma, line_end}
use Rattle.csvtext.specs.Items.{name_item, grade_item, number_item}
use Rattle.csvtext.proofs.ItemInside.{name_inside, grade_inside}
use Rattle.joblist.specs.Import.{Line, line, imported}
use Rattle.joblist.specs.Grounds.{WrongLine, not_formed, name_byte, name_taken_lem, grade, bounds, WrongText, no_header, no_line, line_too_many, in_line}
use Rattle.joblist.proofs.ImportExactly.{import_exactly}

module _ (text : List ℕ) where
  -- The grade and the release of a line begin inside the text.
  line_inside : (at : ℕ) {l : Line} {next : ℕ} → line text at ≡ got l next → (l.grade_at ≤ length text) × (l.release_at ≤ length text)
  unfolding line
  line_inside at e =
      let t₁ = through (name_item at text at) e in
      let t₂ = through (grade_item at text t₁.next) t₁.on in
      let t₃ = through (number_item (comma ∷ []) at text t₂.next) t₂.on in
      let t₄ = through (number_item (comma ∷ []) at text t₃.next) t₃.on in
      let t₅ = through (number_item line_end at text t₄.next) t₄.on in
      let is = sym (same_value t₅.on) in
      (rw (ap (λ (l : Line). l.grade_at) is) (name_inside text at at t₁.is), rw (ap (λ (l : Line). l.release_at) is) (grade_inside text at t₁.next t₂.is))

  wrong_line_inside : {earlier : List ℕ} {at number offset : ℕ} → at ≤ length text → WrongLine text earlier at number offset → offset ≤ length text
  wrong_line_inside h (not_formed e) = h
  wrong_line_inside h (name_byte e t) = h
  wrong_line_inside h (name_taken_lem e t₁ t) = h
  wrong_line_inside {at = at} h (grade e t₁ t₂ t) = (line_inside at e).0
  wrong_line_inside {at = at} h (bounds e t₁ t₂ t₃ t) = (line_inside at e).1

  wrong_text_inside : {number offset : ℕ} → WrongText text number offset → offset ≤ length text
  wrong_text_inside (no_header e) = omega arith
  wrong_text_inside (no_line e) = omega arith
  wrong_text_inside (line_too_many r h full) = omega arith
  wrong_text_inside (in_line r h few w) = wrong_line_inside (omega arith) w

pub import_offset_inside : (text : List ℕ) (number offset : ℕ) → (imported text).answer ≡ number ∷ offset ∷ [] → offset ≤ length text
import_offset_inside text number offset e = wrong_text_inside text ((import_exactly text number offset).0 e)
