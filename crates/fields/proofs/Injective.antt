-- The views of the readers' answers are injective, and a parser's result that is refused only for reasons is the view of some answer.
use mathlib.Core.Path.{ap₂}
use Rattle.std.proofs.Common.{◌≡◌, ℕ, refl, ap, arith}
use Rattle.std.specs.Prelude.{List, map, Result, Ok, Err}
use Rattle.plan.specs.Refusal.{number_of}
use Rattle.plan.specs.declared.refusal.Reason.{Reason}
use Rattle.plan.specs.declared.refusal.Refusal.{Refusal}
use Rattle.plan.proofs.Reasons.{refusal_one, refusal_some}
use Rattle.fields.specs.Parsers.{Parsed, got, no}
use Rattle.fields.specs.Answers.{parsed_view, field_view, passed_view}
use Rattle.fields.specs.declared.field.Parsed as code
use Rattle.fields.proofs.Only.{Only}

as_read : {A : Type 0} → A → ℕ → Result (code.Parsed A) Refusal
as_read value next = Ok (record { value = value; next = next })

-- A value is told by its view, so what was read is told by its view.
module _ {A B : Type 0} (view : A → B) where
  pub parsed_one : ((a b : A) → view a ≡ view b → a ≡ b) → (r s : Result (code.Parsed A) Refusal) → parsed_view view r ≡ parsed_view view s → r ≡ s
  unfolding as_read
  parsed_one one (Ok p) (Ok q) e =
      let value : p.value ≡ q.value = one p.value q.value (cc) in
      let next : p.next ≡ q.next = cc in
      ap₂ as_read value next
  parsed_one one (Ok p) (Err k) e = absurd (let z : ◌≡◌ {A = ℕ} 0 1 = cc in omega arith)
  parsed_one one (Err k) (Ok p) e = absurd (let z : ◌≡◌ {A = ℕ} 0 1 = cc in omega arith)
  parsed_one one (Err j) (Err k) e = ap Err (refusal_one j k (cc))

  pub parsed_some : ((b : B) → (a : A) × (view a ≡ b)) → (some : List Reason) (s : Parsed B) → Only (map number_of some) s
      → (r : Result (code.Parsed A) Refusal) × (parsed_view view r ≡ s)
  parsed_some each some (got b next) h = let a = each b in (Ok (record { value = a.0; next = next }), ap (λ v. got v next) a.1)
  parsed_some each some (no k) h = let r = refusal_some some k h in (Err r.0, ap no r.1)

pub fields_one : (r s : Result (code.Parsed ℕ) Refusal) → field_view r ≡ field_view s → r ≡ s
fields_one = parsed_one (λ x. x) (λ a b e. e)

pub field_some : (some : List Reason) (s : Parsed ℕ) → Only (map number_of some) s → (r : Result (code.Parsed ℕ) Refusal) × (field_view r ≡ s)
field_some = parsed_some (λ x. x) (λ b. (b, refl))

pub passed_one : (r s : Result ℕ Refusal) → passed_view r ≡ passed_view s → r ≡ s
passed_one (Ok m) (Ok n) e = ap Ok (cc)
passed_one (Ok m) (Err k) e = absurd (let z : ◌≡◌ {A = ℕ} 0 1 = cc in omega arith)
passed_one (Err k) (Ok m) e = absurd (let z : ◌≡◌ {A = ℕ} 0 1 = cc in omega arith)
passed_one (Err j) (Err k) e = ap Err (refusal_one j k (cc))

pub passed_some : (some : List Reason) (s : Parsed (Unit {0})) → Only (map number_of some) s → (r : Result ℕ Refusal) × (passed_view r ≡ s)
passed_some some (got u next) h = (Ok next, refl)
passed_some some (no k) h = let r = refusal_some some k h in (Err r.0, ap no r.1)
