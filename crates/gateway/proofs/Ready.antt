-- A call on lent words, by what stands against it before anything else is looked at.
use mathlib.Core.Path.{◌≡◌, refl, sym, ◌∙◌, ap}
use mathlib.Core.Bool.{Bool, true, false, not, cond, ◌||◌, ◌&&◌}
use mathlib.Core.List.{List, [], ◌∷◌}
use Prim.Native.Nat.{ℕ}
use lib.ListN.{replicate}
use Rattle.std.specs.Prelude.{Result, Ok, Err}
use Rattle.plan.specs.Edition.{most_jobs}
use Rattle.plan.specs.Refusal.{unsound, buffer_too_short}
use Rattle.plan.specs.Report.{Report, fault, or_else}
use Rattle.plan.specs.Columns.{HasColumns}
use Rattle.plan.specs.declared.columns.Columns.{Columns}
use Rattle.plan.specs.declared.refusal.Reason.{Reason}
use Rattle.plan.specs.declared.refusal.Reason.TheVariants as reason
use Rattle.dispatch.specs.Step.{SlotEffect, WordEffect, stepped, outcome, told_ended}
use Rattle.dispatch.specs.Shift.{ShiftEffect, shifted}
use Rattle.dispatch.proofs.SlotOver.{unsound_refused}
use Rattle.dispatch.proofs.SlotsInTurn.{unsound_shift}
use Rattle.dispatch.proofs.EndColumns.{unsound_told}
use Rattle.hostmemory.specs.Memory.{short_plan, short_run, plan_of, marks_hold, words_fit, run_of, run_put}
use Rattle.hostmemory.specs.Answers.{columns_over, ReadsColumns}
use Rattle.hostmemory.proofs.ColumnLaws.{columns_read, too_large_unsound}
use Rattle.hostmemory.proofs.RoundTrip.{run_again}
use Rattle.gateway.specs.Calls.{slot_words, step_call, shift_words, shift_call, ending_number, outcome_call, told_words, end_call}
use Rattle.gateway.specs.Inner.{unready, Readies}

-- Columns of no jobs, at rates of zero.
abbrev no_columns : Columns
no_columns =
    record {
      n = record { 0 = 0 };
      d = record { 0 = 0 };
      count = 0;
      grades = replicate most_jobs 0;
      releases = replicate most_jobs 0;
      sizes = replicate most_jobs 0;
      deadlines = replicate most_jobs 0;
    }

-- A call by its two tests: `told n` is what it gives with the number n and nothing changed, `held` what it gives otherwise.
abbrev by_tests : {A : Type 0} (told : ℕ → A) (held : A) (short marks : Bool) → A
by_tests told held short marks = cond short (told buffer_too_short) (cond (not marks) (told unsound) held)

abbrev unready_by : (short marks fit : Bool) → Report
unready_by short marks fit = or_else (fault short (buffer_too_short ∷ [])) (fault (not (marks && fit)) (unsound ∷ []))

-- If something stands against the call, it gives that number, with nothing changed.
unready_call : {A : Type 0} (told : ℕ → A) (held : A) (plan run : List ℕ) (number : ℕ)
    → (marks_hold run ≡ true → words_fit plan ≡ false → told unsound ≡ held) → number ∷ [] ≡ unready plan run
    → told number ≡ by_tests told held (short_plan plan || short_run run) (marks_hold run)
unready_call told held plan run number broken = go (short_plan plan || short_run run) (marks_hold run) refl (words_fit plan) refl
  where
    go : (short marks : Bool) → marks_hold run ≡ marks → (fit : Bool) → words_fit plan ≡ fit → number ∷ [] ≡ unready_by short marks fit
        → told number ≡ by_tests told held short marks
    go true marks m fit f e = ap told (cc)
    go false false m fit f e = ap told (cc)
    go false true m false f e = let same : number ≡ unsound = cc in ap told same ∙ broken m f
    go false true m true f e = absurd (cc)

-- If nothing does, the words are long enough, the marks hold, and empty columns become those of the lent plan.
ready_by : (short marks fit : Bool) → [] ≡ unready_by short marks fit → (short ≡ false) × (marks ≡ true) × (fit ≡ true)
ready_by true marks fit e = absurd (cc)
ready_by false false fit e = absurd (cc)
ready_by false true false e = absurd (cc)
ready_by false true true e = (refl, refl, refl)

pub ready_call : (plan run : List ℕ) → [] ≡ unready plan run → ((short_plan plan || short_run run) ≡ false) × (marks_hold run ≡ true)
ready_call plan run e = let r = ready_by (short_plan plan || short_run run) (marks_hold run) (words_fit plan) e in (r.0, r.1)

pub ready_columns : (plan run : List ℕ) {left : Columns} → [] ≡ unready plan run → left ≡ columns_over plan no_columns → HasColumns (plan_of plan) left
ready_columns plan run e filled =
    let r = ready_by (short_plan plan || short_run run) (marks_hold run) (words_fit plan) e in
    rw filled (columns_read plan no_columns r.2 refl refl refl refl)

-- The part that the calls share, by what the columns give.
pub filled_ready : (plan run : List ℕ) (was left : Columns) (r : Result Unit Reason) → (short_plan plan || short_run run) ≡ false → marks_hold run ≡ true
    → ReadsColumns plan was r left → Readies plan run was r left
filled_ready plan run was left r long marks e = go (words_fit plan) refl e.0
  where
    go : (fit : Bool) → words_fit plan ≡ fit → r ≡ cond fit (Ok tt) (Err reason.Unsound) → Readies plan run was r left
    go true f told = rw (told, long, marks, f) (refl, e.1)
    go false f told = rw (told, long, marks, f) (refl, tt)

-- Each of the calls, if something stands against it.
pub step_unready : (plan table run : List ℕ) (v : ℕ) (grants : List ℕ) (number : ℕ) → number ∷ [] ≡ unready plan run
    → record { number = number; run = run; grants = grants } ≡ step_call plan table run v grants
unfolding step_call
step_unready plan table run v grants number =
    unready_call (λ n. record { number = n; run = run; grants = grants }) (slot_words (stepped (plan_of plan) table (run_of run) v grants) run) plan run number
    (λ marks broken.
    ap (λ r. record { number = unsound; run = r; grants = grants }) (sym (run_again run marks))
    ∙ ap (λ (s : SlotEffect). slot_words s run) (unsound_refused (plan_of plan) table (run_of run) v grants (too_large_unsound plan (run_of run) broken)))

pub shift_unready : (plan table run speeds rows numbers : List ℕ) (number : ℕ) → number ∷ [] ≡ unready plan run
    → record { number = number; run = run; rows = rows; numbers = numbers } ≡ shift_call plan table run speeds rows numbers
unfolding shift_call
shift_unready plan table run speeds rows numbers number =
    unready_call (λ n. record { number = n; run = run; rows = rows; numbers = numbers })
    (shift_words (shifted (plan_of plan) table (run_of run) speeds rows numbers) run) plan run number
    (λ marks broken.
    ap (λ r. record { number = unsound; run = r; rows = rows; numbers = numbers }) (sym (run_again run marks))
    ∙ ap (λ (s : ShiftEffect). shift_words s run) (unsound_shift (plan_of plan) table (run_of run) speeds rows numbers (too_large_unsound plan (run_of run) broken)))

pub outcome_unready : (plan run : List ℕ) (position : ℕ) (number : ℕ) → number ∷ [] ≡ unready plan run → number ≡ outcome_call plan run position
unfolding outcome outcome_call
outcome_unready plan run position number =
    unready_call (λ n. n) (ending_number (outcome (plan_of plan) (run_of run) position)) plan run number
    (λ marks broken. rw (too_large_unsound plan (run_of run) broken) refl)

pub end_unready : (plan run : List ℕ) (position : ℕ) (number : ℕ) → number ∷ [] ≡ unready plan run
    → record { number = number; run = run } ≡ end_call plan run position
unfolding end_call
end_unready plan run position number =
    unready_call (λ n. record { number = n; run = run }) (told_words (told_ended (plan_of plan) (run_of run) position) run) plan run number
    (λ marks broken.
    ap (λ r. record { number = unsound; run = r }) (sym (run_again run marks))
    ∙ ap (λ (t : WordEffect). told_words t run) (unsound_told (plan_of plan) (run_of run) position (too_large_unsound plan (run_of run) broken)))
