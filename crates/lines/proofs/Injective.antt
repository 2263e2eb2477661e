-- The views are injective: results with equal views are equal, where what tells different refusals has different numbers.
use Rattle.std.proofs.Common.{◌≡◌, ℕ, ap, arith}
use Rattle.std.specs.Prelude.{Result, Ok, Err}
use Rattle.plan.specs.Refusal.{number_of}
use Rattle.plan.specs.declared.refusal.Reason.{Reason}
use Rattle.plan.proofs.Reasons.{number_one}
use Rattle.lines.specs.Answers.{printed_by, printed_view}

pub printed_by_injective : {E : Type 0} (number : E → ℕ) → ((x y : E) → number x ≡ number y → x ≡ y) → (r s : Result ℕ E) → printed_by number r ≡ printed_by number s
    → r ≡ s
printed_by_injective number one (Ok m) (Ok n) e = ap Ok (cc)
printed_by_injective number one (Ok m) (Err b) e = absurd (let z : ◌≡◌ {A = ℕ} 0 1 = cc in omega arith)
printed_by_injective number one (Err a) (Ok n) e = absurd (let z : ◌≡◌ {A = ℕ} 0 1 = cc in omega arith)
printed_by_injective number one (Err a) (Err b) e = ap Err (one a b (cc))

pub printed_view_injective : (r s : Result ℕ Reason) → printed_view r ≡ printed_view s → r ≡ s
printed_view_injective r s e = printed_by_injective number_of number_one r s e
