-- An item refuses with 23 at its line's first byte alone.
use mathlib.Core.List.{List, [], ◌∷◌}
use Prim.Native.Nat.{ℕ, ◌+◌}
use lib.Dec.{eqb}
use lib.ListN.{length, drop}
use Rattle.plan.specs.Edition.{name_bytes}
use Rattle.plan.specs.Refusal.{Refusal, refusal_at, wrong_line}
use Rattle.fields.specs.Parsers.{test}
use Rattle.fields.proofs.Only.{Refuses, refuses_onward, refuses_cond, refuses_test}
use Rattle.csvtext.specs.Grammar.{comma, Found, found, broken, field, begins}
use Rattle.csvtext.specs.Decimals.{is_decimal}
use Rattle.csvtext.specs.Items.{exactly, standing, item, name_item, grade_item, number_item}

module _ (such : Refusal → Type 0) (text : List ℕ) where
  pub exactly_refuses : (bytes : List ℕ) (number from at : ℕ) → such (refusal_at number from) → Refuses such (exactly bytes number from text at)
  unfolding exactly
  exactly_refuses bytes number from at h = refuses_cond such (begins bytes (drop at text)) (refusal_at number from) tt (at + length bytes) h

  module _ (from : ℕ) (h : such (refusal_at wrong_line from)) where
    standing_refuses : (at : ℕ) (f : Found) → Refuses such (standing from at f)
    standing_refuses at (found l used) = tt
    standing_refuses at broken = h

    item_refuses : (ends : List ℕ) (at : ℕ) → Refuses such (item ends from text at)
    unfolding item
    item_refuses ends at =
        refuses_onward such (standing from at (field (drop at text))) _ text (standing_refuses at (field (drop at text)))
        (λ l next. refuses_onward such (exactly ends wrong_line from text next) _ text (exactly_refuses ends wrong_line from next h) (λ _ _. tt))

    pub name_refuses : (at : ℕ) → Refuses such (name_item from text at)
    unfolding name_item
    name_refuses at =
        refuses_onward such (item (comma ∷ []) from text at) _ text (item_refuses (comma ∷ []) at)
        (λ l next. refuses_onward such (test (eqb (length l) name_bytes) wrong_line from text next) _ text
        (refuses_test such (eqb (length l) name_bytes) wrong_line from text next h) (λ _ _. tt))

    pub grade_refuses : (at : ℕ) → Refuses such (grade_item from text at)
    unfolding grade_item
    grade_refuses at = refuses_onward such (item (comma ∷ []) from text at) _ text (item_refuses (comma ∷ []) at) (λ _ _. tt)

    pub number_refuses : (ends : List ℕ) (at : ℕ) → Refuses such (number_item ends from text at)
    unfolding number_item
    number_refuses ends at =
        refuses_onward such (item ends from text at) _ text (item_refuses ends at)
        (λ l next. refuses_onward such (test (is_decimal l) wrong_line from text next) _ text
        (refuses_test such (is_decimal l) wrong_line from text next h) (λ _ _. tt))
