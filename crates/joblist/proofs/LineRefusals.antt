-- A line refuses with 23 at its first byte alone.
use mathlib.Core.Path.{◌≡◌, refl}
use mathlib.Core.List.{List, [], ◌∷◌}
use Prim.Native.Nat.{ℕ}
use native.Mathlib.Omega.{arith}
use Rattle.plan.specs.Refusal.{Refusal, refusal_at, wrong_line}
use Rattle.fields.specs.Parsers.{Parsed, got, no}
use Rattle.fields.proofs.Only.{Refuses, refuses_onward}
use Rattle.csvtext.specs.Grammar.{comma, line_end}
use Rattle.csvtext.specs.Items.{name_item, grade_item, number_item}
use Rattle.csvtext.proofs.ItemRefusals.{name_refuses, grade_refuses, number_refuses}
use Rattle.joblist.specs.Import.{line}

pub line_refuses : (such : Refusal → Type 0) (text : List ℕ) (at : ℕ) → such (refusal_at wrong_line at) → Refuses such (line text at)
unfolding line
line_refuses such text at h =
    refuses_onward such (name_item at text at) _ text (name_refuses such text at h at)
    (λ _ a₁. refuses_onward such (grade_item at text a₁) _ text (grade_refuses such text at h a₁)
    (λ _ a₂. refuses_onward such (number_item (comma ∷ []) at text a₂) _ text (number_refuses such text at h (comma ∷ []) a₂)
    (λ _ a₃. refuses_onward such (number_item (comma ∷ []) at text a₃) _ text (number_refuses such text at h (comma ∷ []) a₃)
    (λ _ a₄. refuses_onward such (number_item line_end at text a₄) _ text (number_refuses such text at h line_end a₄) (λ _ _. tt)))))

-- A refused line is refused with 23 at its first byte.
pub line_no : (text : List ℕ) (at : ℕ) {k : Refusal} → line text at ≡ no k → k ≡ refusal_at wrong_line at
line_no text at {k} e = by (line text at) (line_refuses (λ k. k ≡ refusal_at wrong_line at) text at refl) e
  where
    by : {A : Type 0} (s : Parsed A) → Refuses (λ k. k ≡ refusal_at wrong_line at) s → s ≡ no k → k ≡ refusal_at wrong_line at
    by (got a next) h e = absurd (let z : ◌≡◌ {A = ℕ} 0 1 = cc in omega arith)
    by (no x) h e = let q : k ≡ x = cc in rw q h
