-- Readiness as the code tests it: what it says of the plan and the run, and what a refused call leaves.
use mathlib.Core.Path.{◌≡◌, refl, sym, ◌∙◌, ap}
use mathlib.Core.Bool.{Bool, true, false, cond, true≢false}
use mathlib.Core.List.{List, [], ◌∷◌}
use Prim.Native.Nat.{ℕ}
use denote.Enum.Bare.{sameb}
use lib.Dec.{eqb}
use Rattle.std.proofs.Common.{Result, Ok, Err}
use Rattle.std.specs.Result.{IsErrAnd}
use Rattle.plan.specs.Boundaries.{last_deadline}
use Rattle.plan.specs.declared.kinds.Plan.{Plan}
use Rattle.plan.specs.declared.refusal.Reason.{Reason}
use Rattle.plan.specs.declared.refusal.Reason.TheVariants.{Unsound}
use Rattle.plan.specs.Report.{Report, is_none}
use Rattle.dispatch.specs.declared.Run.{Run}
use Rattle.dispatch.specs.declared.soundness.Readiness.{Readiness}
use Rattle.dispatch.specs.declared.soundness.Readiness.TheVariants.{Over, Running}
use Rattle.dispatch.specs.Step.{sound_at, slot_by}
use Rattle.dispatch.specs.Inner.Readiness.{readiness}
use Rattle.dispatch.specs.contracts.soundness.Readiness.{the_type}

-- A readiness tells that plan and run are sound, and whether the clock is at the last deadline.
pub ready_lem : (p : Plan) (t : ℕ) (carried : List ℕ) {found : Result Readiness Reason} {r : Readiness} → found ≡ Ok r → found ≡ readiness p t carried
    → (sound_at p t carried ≡ true) × (r ≡ cond (eqb t (last_deadline p)) Over Running)
ready_lem p t carried {found} {r} was e = by (sound_at p t carried) refl
  where
    by : (b : Bool) → sound_at p t carried ≡ b → (sound_at p t carried ≡ true) × (r ≡ cond (eqb t (last_deadline p)) Over Running)
    by true s = (s, cc)
    by false s = let none : ◌≡◌ {A = Result Readiness Reason} (Ok r) (Err Unsound) = sym was ∙ e ∙ rw s refl in absurd (cc)

-- No readiness is the refusal 21, of a plan or a run that is not sound.
pub unready_lem : (p : Plan) (t : ℕ) (carried : List ℕ) {found : Result Readiness Reason} {reason : Reason} → found ≡ Err reason → found ≡ readiness p t carried
    → (sound_at p t carried ≡ false) × (reason ≡ Unsound)
unready_lem p t carried {found} {reason} was e = by (sound_at p t carried) refl
  where
    by : (b : Bool) → sound_at p t carried ≡ b → (sound_at p t carried ≡ false) × (reason ≡ Unsound)
    by true s = let none : ◌≡◌ {A = Result Readiness Reason} (Err reason) (Ok (cond (eqb t (last_deadline p)) Over Running)) = sym was ∙ e ∙ rw s refl in absurd (cc)
    by false s = (s, cc)

-- A readiness is over exactly if the clock is at the last deadline, as the derived equality tells.
pub over_lem : (late : Bool) {r : Readiness} → r ≡ cond late Over Running → sameb the_type r Over ≡ late
over_lem true e = rw e refl
over_lem false e = rw e refl

-- The answer of a call that hands on a refusal.
pub handed_on : {A E : Type 0} (r : Result A E) {reason : E} → IsErrAnd r (λ e. e ≡ reason) → r ≡ Err reason
handed_on (Ok x) h = absurd h
handed_on (Err e) h = ap Err h

-- A refused call leaves the run and the grants as they were.
pub left_by : (f : Report) (p : Plan) (table : List ℕ) (run : Run) (v : ℕ) (grants : List ℕ) → is_none f ≡ false
    → slot_by f p table run v grants ≡ record { answer = f; run = run; grants = grants }
left_by [] p table run v grants h = absurd (true≢false h)
left_by (number ∷ rest) p table run v grants h = refl
