-- The views of the answers of import and export are injective.
use Rattle.std.proofs.Common.{◌≡◌, ℕ, ap, arith}
use Rattle.std.specs.Prelude.{Result, Ok, Err}
use Rattle.plan.specs.Refusal.{number_of}
use Rattle.plan.specs.declared.kinds.JobList.{JobList}
use Rattle.plan.specs.declared.refusal.Reason.{Reason}
use Rattle.plan.specs.declared.refusal.Refusal.{Refusal}
use Rattle.plan.proofs.Reasons.{number_one, refusal_one}
use Rattle.joblist.specs.Import.{ImportEffect}
use Rattle.joblist.specs.Answers.{import_view, export_view}

pub import_view_injective : (r s : Result JobList Refusal) → import_view r ≡ import_view s → r ≡ s
import_view_injective (Ok l) (Ok m) e = ap Ok (ap (λ (x : ImportEffect). x.list) e)
import_view_injective (Ok l) (Err k) e = absurd (let z : ◌≡◌ {A = ℕ} 0 1 = cc (ap (λ (x : ImportEffect). x.answer) e) in omega arith)
import_view_injective (Err k) (Ok l) e = absurd (let z : ◌≡◌ {A = ℕ} 0 1 = cc (ap (λ (x : ImportEffect). x.answer) e) in omega arith)
import_view_injective (Err j) (Err k) e =
    let answer = ap (λ (x : ImportEffect). x.answer) e in
    let number : number_of j.reason ≡ number_of k.reason = cc in
    let offset : j.offset ≡ k.offset = cc in
    ap Err (refusal_one j k (cc))

pub export_view_injective : (a b : Result ℕ Reason) → export_view a ≡ export_view b → a ≡ b
export_view_injective (Ok m) (Ok n) e = ap Ok (cc)
export_view_injective (Ok m) (Err r) e = absurd (let z : ◌≡◌ {A = ℕ} 0 1 = cc in omega arith)
export_view_injective (Err r) (Ok m) e = absurd (let z : ◌≡◌ {A = ℕ} 0 1 = cc in omega arith)
export_view_injective (Err r) (Err s) e = ap Err (number_one r s (cc))
