-- The views of the writer's answers and effects are injective.
use Rattle.std.proofs.Common.{◌≡◌, List, ℕ, Result, Ok, Err, ap, arith}
use Rattle.plan.specs.Refusal.{number_of}
use Rattle.plan.specs.declared.refusal.Reason.{Reason}
use Rattle.plan.proofs.Reasons.{number_one}
use Rattle.planwriter.specs.Writing as writing
use Rattle.planwriter.specs.Answers.{written_view, write_view}

pub written_view_injective : (a b : Result ℕ Reason) → written_view a ≡ written_view b → a ≡ b
written_view_injective (Ok m) (Ok n) e = cc
written_view_injective (Ok m) (Err s) e = absurd (let z : ◌≡◌ {A = ℕ} 0 1 = cc in omega arith)
written_view_injective (Err r) (Ok n) e = absurd (let z : ◌≡◌ {A = ℕ} 0 1 = cc in omega arith)
written_view_injective (Err r) (Err s) e = let z : number_of r ≡ number_of s = cc in ap Err (number_one r s z)

pub write_view_injective : (a b : Result ℕ Reason) (t u : List ℕ) → write_view a t ≡ write_view b u → (a ≡ b) × (t ≡ u)
write_view_injective a b t u e =
    (written_view_injective a b (ap (λ (o : writing.WriteEffect). o.answer) e), ap (λ (o : writing.WriteEffect). o.out) e)
