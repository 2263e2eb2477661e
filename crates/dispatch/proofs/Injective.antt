-- The views are injective: answers with equal views are equal, where what tells different refusals has different numbers.
use mathlib.Core.Path.{◌≡◌, refl, sym, ◌∙◌, ap}
use mathlib.Core.List.{[], ◌∷◌}
use Prim.Native.Nat.{ℕ}
use native.Mathlib.Omega.{arith}
use Rattle.std.proofs.Common.{Result, Ok, Err}
use Rattle.std.specs.Result.{result_unwrap_or}
use Rattle.plan.specs.Refusal.{number_of}
use Rattle.plan.specs.Report.{Report}
use Rattle.plan.specs.declared.refusal.Reason.{Reason}
use Rattle.plan.proofs.Reasons.{number_one}
use Rattle.dispatch.specs.declared.answers.Outcome.{Outcome}
use Rattle.dispatch.specs.declared.answers.Outcome.TheVariants.{Met, Ended, Discarded, Missed, Open}
use Rattle.dispatch.specs.Answers.{answer_by, answer_view, outcome_by, outcome_view}
use Rattle.dispatch.specs.Step.{Ending, met, ended_early, discarded, missed, still_open, refused}

-- An answer that tells the number of a refusal in place of what told it.
abbrev numbered : {A E : Type 0} (number : E → ℕ) → Result A E → Result A ℕ
numbered number (Ok left) = Ok left
numbered number (Err refusal) = Err (number refusal)

numbered_injective : {A E : Type 0} (number : E → ℕ) → ((x y : E) → number x ≡ number y → x ≡ y) → (r s : Result A E) → numbered number r ≡ numbered number s → r ≡ s
numbered_injective number one (Ok a) (Ok b) e = ap Ok (cc)
numbered_injective number one (Ok a) (Err y) e = absurd (let z : ◌≡◌ {A = ℕ} 0 1 = cc in omega arith)
numbered_injective number one (Err x) (Ok b) e = absurd (let z : ◌≡◌ {A = ℕ} 0 1 = cc in omega arith)
numbered_injective number one (Err x) (Err y) e = ap Err (one x y (cc))

-- A left inverse of `answer_by`, up to the numbers, for an answer that leaves what is given after a refusal.
abbrev answer_of : {A : Type 0} → Report → A → Result A ℕ
answer_of [] left = Ok left
answer_of (number ∷ rest) left = Err number

answer_back : {A E : Type 0} (number : E → ℕ) (was : A) (r : Result A E) → answer_of (answer_by number r) (result_unwrap_or r was) ≡ numbered number r
answer_back number was (Ok left) = refl
answer_back number was (Err refusal) = refl

-- Answers with equal views that leave the same are equal.
pub answer_by_injective : {A E : Type 0} (number : E → ℕ) → ((x y : E) → number x ≡ number y → x ≡ y) → (was : A) (r s : Result A E)
    → answer_by number r ≡ answer_by number s → result_unwrap_or r was ≡ result_unwrap_or s was → r ≡ s
answer_by_injective number one was r s e left =
    numbered_injective number one r s
    (sym (answer_back number was r) ∙ ap (λ v. answer_of v (result_unwrap_or r was)) e ∙ ap (answer_of (answer_by number s)) left ∙ answer_back number was s)

pub answer_view_injective : {A : Type 0} (was : A) (r s : Result A Reason) → answer_view r ≡ answer_view s
    → result_unwrap_or r was ≡ result_unwrap_or s was → r ≡ s
answer_view_injective was r s e left = answer_by_injective number_of number_one was r s e left

-- A left inverse of `outcome_by`, up to the numbers.
abbrev outcome_of : Ending → Result Outcome ℕ
outcome_of met = Ok Met
outcome_of ended_early = Ok Ended
outcome_of discarded = Ok Discarded
outcome_of missed = Ok Missed
outcome_of still_open = Ok Open
outcome_of (refused n) = Err n

outcome_back : {E : Type 0} (number : E → ℕ) (o : Result Outcome E) → outcome_of (outcome_by number o) ≡ numbered number o
outcome_back number (Ok Met) = refl
outcome_back number (Ok Ended) = refl
outcome_back number (Ok Discarded) = refl
outcome_back number (Ok Missed) = refl
outcome_back number (Ok Open) = refl
outcome_back number (Err refusal) = refl

-- Outcomes with equal views are equal.
pub outcome_by_injective : {E : Type 0} (number : E → ℕ) → ((x y : E) → number x ≡ number y → x ≡ y) → (a b : Result Outcome E)
    → outcome_by number a ≡ outcome_by number b → a ≡ b
outcome_by_injective number one a b e =
    numbered_injective number one a b (sym (outcome_back number a) ∙ ap outcome_of e ∙ outcome_back number b)

pub outcome_view_injective : (a b : Result Outcome Reason) → outcome_view a ≡ outcome_view b → a ≡ b
outcome_view_injective a b e = outcome_by_injective number_of number_one a b e
