-- The reasons of refusals and their numbers: each reason has a number of its own.
use Rattle.std.proofs.Common.{◌≡◌, ℕ, ◌-◌, refl, sym, ◌∙◌, ap, arith}
use mathlib.Core.Path.{ap₂}
use Rattle.std.specs.Prelude.{Bool, true, false, ◌||◌, List, [], ◌∷◌, map, get_or, eqb}
use borrow.Author.Tests.{eqb-true}
use Rattle.plan.specs.Report.{done_number, is_one_of}
use Rattle.plan.specs.Refusal.{Refusal, wrong_version, number_of, refusal_view}
use Rattle.plan.specs.declared.refusal.Reason.{Reason}
use Rattle.plan.specs.declared.refusal.Reason.TheVariants as reason
use Rattle.plan.specs.declared.refusal.Refusal as code

-- All reasons, in the order of their numbers.
reasons : List Reason
reasons =
    reason.WrongVersion ∷
    reason.WrongExtent ∷
    reason.WrongRecordLength ∷
    reason.WrongRates ∷
    reason.WrongJobCount ∷
    reason.WrongNameByte ∷
    reason.NameTaken ∷
    reason.WrongGrade ∷
    reason.WrongJobBounds ∷
    reason.TooManyRows ∷
    reason.RowWithoutJob ∷
    reason.RowWithoutInterval ∷
    reason.RowWithoutUnits ∷
    reason.RowOutOfOrder ∷
    reason.OutsideWindow ∷
    reason.WrongTotal ∷
    reason.OverCapacity ∷
    reason.BelowFloorRule ∷
    reason.ClockAtEnd ∷
    reason.SpeedAboveNormal ∷
    reason.Unsound ∷
    reason.BufferTooShort ∷
    reason.WrongLine ∷
    reason.WrongHeader ∷
    reason.NoSuchJob ∷
    reason.CannotEnd ∷
    reason.TooManySpeeds ∷
    reason.ReleasesDiffer ∷
    reason.NoTimetable ∷
    reason.NotFinite ∷
    reason.WrongLowest ∷ []

-- The reason with a number: a left inverse of `number_of`.
pub reason_at : ℕ → Reason
reason_at n = get_or reasons (n - 1) reason.WrongVersion

pub reason_back : (r : Reason) → reason_at (number_of r) ≡ r
unfolding reason_at reasons
reason_back reason.WrongVersion = refl
reason_back reason.WrongExtent = refl
reason_back reason.WrongRecordLength = refl
reason_back reason.WrongRates = refl
reason_back reason.WrongJobCount = refl
reason_back reason.WrongNameByte = refl
reason_back reason.NameTaken = refl
reason_back reason.WrongGrade = refl
reason_back reason.WrongJobBounds = refl
reason_back reason.TooManyRows = refl
reason_back reason.RowWithoutJob = refl
reason_back reason.RowWithoutInterval = refl
reason_back reason.RowWithoutUnits = refl
reason_back reason.RowOutOfOrder = refl
reason_back reason.OutsideWindow = refl
reason_back reason.WrongTotal = refl
reason_back reason.OverCapacity = refl
reason_back reason.BelowFloorRule = refl
reason_back reason.ClockAtEnd = refl
reason_back reason.SpeedAboveNormal = refl
reason_back reason.Unsound = refl
reason_back reason.BufferTooShort = refl
reason_back reason.WrongLine = refl
reason_back reason.WrongHeader = refl
reason_back reason.NoSuchJob = refl
reason_back reason.CannotEnd = refl
reason_back reason.TooManySpeeds = refl
reason_back reason.ReleasesDiffer = refl
reason_back reason.NoTimetable = refl
reason_back reason.NotFinite = refl
reason_back reason.WrongLowest = refl

-- Different reasons have different numbers, and refusals with the same view are the same.
pub number_one : (r s : Reason) → number_of r ≡ number_of s → r ≡ s
number_one r s e = sym (reason_back r) ∙ ap reason_at e ∙ reason_back s

-- No reason has the number of no refusal.
pub never_done : (r : Reason) → number_of r ≡ done_number → ⊥
unfolding reason_at reasons
never_done r e =
    let first : reason.WrongVersion ≡ r = sym (ap reason_at e) ∙ reason_back r in
    let none : wrong_version ≡ done_number = ap number_of first ∙ e in
    absurd (omega (arith, none))

as_refusal : Reason → ℕ → code.Refusal
as_refusal reason offset = record { reason = reason; offset = offset }

pub refusal_one : (r s : code.Refusal) → refusal_view r ≡ refusal_view s → r ≡ s
unfolding as_refusal
refusal_one r s e =
    let reason : r.reason ≡ s.reason = number_one r.reason s.reason (ap (λ (v : Refusal). v.number) e) in
    let offset : r.offset ≡ s.offset = ap (λ (v : Refusal). v.offset) e in
    ap₂ (λ (a : Reason) (b : ℕ). as_refusal a b) reason offset

-- A number that is one of those of some reasons is that of a reason.
pub number_some : (some : List Reason) (n : ℕ) → is_one_of (map number_of some) n ≡ true → (r : Reason) × (number_of r ≡ n)
number_some [] n h = absurd (let z : ◌≡◌ {A = Bool} false true = h in cc)
number_some (r ∷ some) n h = by (eqb n (number_of r)) refl h (number_some some n)
  where
    by : (b : Bool) → eqb n (number_of r) ≡ b → (b || is_one_of (map number_of some) n) ≡ true
        → (is_one_of (map number_of some) n ≡ true → (r : Reason) × (number_of r ≡ n)) → (r : Reason) × (number_of r ≡ n)
    by true e h others = (r, sym (eqb-true n (number_of r) e))
    by false e h others = others h

-- And a refusal with such a number is the view of one.
pub refusal_some : (some : List Reason) (k : Refusal) → is_one_of (map number_of some) k.number ≡ true → (r : code.Refusal) × (refusal_view r ≡ k)
refusal_some some k h =
    let s = number_some some k.number h in
    (record { reason = s.0; offset = k.offset }, ap (λ n. record { number = n; offset = k.offset }) s.1)
