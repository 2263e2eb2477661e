-- A refused step or shift leaves the lent buffers as they were.
use mathlib.Core.Path.{◌≡◌, refl, sym, ◌∙◌, ap}
use mathlib.Core.Bool.{Bool, true, false, not, cond, ◌||◌}
use mathlib.Core.List.{List, [], ◌∷◌}
use Prim.Native.Nat.{ℕ}
use borrow.Author.Tests.{not-false}
use Rattle.plan.specs.Refusal.{unsound, buffer_too_short}
use Rattle.plan.specs.Report.{Report, number_of}
use Rattle.dispatch.specs.Step.{SlotEffect, stepped}
use Rattle.dispatch.specs.Shift.{ShiftEffect, shifted}
use Rattle.dispatch.proofs.SlotLimits.{refused_changes_nothing}
use Rattle.dispatch.proofs.ShiftLimits.{refused_shift_changes_nothing}
use Rattle.hostmemory.specs.Memory.{short_plan, short_run, plan_of, marks_hold, run_of, run_put}
use Rattle.hostmemory.proofs.RoundTrip.{run_again}
use Rattle.gateway.specs.Calls.{HostStepEffect, slot_words, step_call, HostShiftEffect, shift_words, shift_call}

-- A step's call, by the results of its two tests.
abbrev step_by : Bool → Bool → SlotEffect → List ℕ → List ℕ → HostStepEffect
step_by short bad slot run grants =
    cond short (record { number = buffer_too_short; run = run; grants = grants })
    (cond bad (record { number = unsound; run = run; grants = grants }) (slot_words slot run))

-- A step's call that is refused leaves run and grants as they were, if the slot's refusals do.
refused_by_lem : (short bad : Bool) (slot : SlotEffect) (run grants : List ℕ)
    → (short ≡ false → bad ≡ false → (n : ℕ) (rest : Report) → slot.answer ≡ n ∷ rest → (run_put run slot.run ≡ run) × (slot.grants ≡ grants))
    → ((step_by short bad slot run grants).number ≡ 0 → ⊥) → ((step_by short bad slot run grants).run ≡ run) × ((step_by short bad slot run grants).grants ≡ grants)
refused_by_lem true bad slot run grants kept busy = (refl, refl)
refused_by_lem false true slot run grants kept busy = (refl, refl)
refused_by_lem false false slot run grants kept busy = by_answer slot.answer refl
  where
    by_answer : (a : Report) → slot.answer ≡ a → (run_put run slot.run ≡ run) × (slot.grants ≡ grants)
    by_answer [] e = absurd (busy (ap number_of e))
    by_answer (n ∷ rest) e = kept refl refl n rest e

-- A refused step leaves the lent run and the grant row as they were, word for word.
pub refused_step_stays : (plan table run : List ℕ) (v : ℕ) (grants : List ℕ) → ((step_call plan table run v grants).number ≡ 0 → ⊥)
    → ((step_call plan table run v grants).run ≡ run) × ((step_call plan table run v grants).grants ≡ grants)
unfolding step_call
refused_step_stays plan table run v grants =
    refused_by_lem (short_plan plan || short_run run) (not (marks_hold run)) (stepped (plan_of plan) table (run_of run) v grants) run grants
    (λ long marks n rest e.
    let so = refused_changes_nothing (plan_of plan) table (run_of run) v grants n rest e in
    (ap (run_put run) so.0 ∙ run_again run (not-false (marks_hold run) marks), so.1))

-- So a step that is refused need not put its run back.
pub refused_words : (plan table run : List ℕ) (v : ℕ) (grants : List ℕ) {number : ℕ} {left row : List ℕ}
    → record { number = number; run = left; grants = row } ≡ step_call plan table run v grants → (number ≡ 0 → ⊥)
    → record { number = number; run = run; grants = row } ≡ step_call plan table run v grants
refused_words plan table run v grants {number} {left} {row} so busy =
    let stays = refused_step_stays plan table run v grants (λ e. busy (ap (λ (r : HostStepEffect). r.number) so ∙ e)) in
    ap (λ r. record { number = number; run = r; grants = row }) (sym (ap (λ (r : HostStepEffect). r.run) so ∙ stays.0)) ∙ so

-- A refused shift leaves the lent run, the rows and the numbers as they were, word for word.
pub refused_shift_stays : (plan table run speeds rows numbers : List ℕ) → ((shift_call plan table run speeds rows numbers).number ≡ 0 → ⊥)
    → shift_call plan table run speeds rows numbers
    ≡ record { number = (shift_call plan table run speeds rows numbers).number; run = run; rows = rows; numbers = numbers }
unfolding shift_call
refused_shift_stays plan table run speeds rows numbers = by (short_plan plan || short_run run) (marks_hold run) refl
  where
    shift : ShiftEffect
    shift = shifted (plan_of plan) table (run_of run) speeds rows numbers

    left : Bool → Bool → HostShiftEffect
    left short marks =
        cond short (record { number = buffer_too_short; run = run; rows = rows; numbers = numbers })
        (cond (not marks) (record { number = unsound; run = run; rows = rows; numbers = numbers }) (shift_words shift run))

    by_answer : (r : Report) → shift.answer ≡ r → marks_hold run ≡ true → (number_of r ≡ 0 → ⊥)
        → shift_words shift run ≡ record { number = number_of shift.answer; run = run; rows = rows; numbers = numbers }
    by_answer [] e marks busy = absurd (busy refl)
    by_answer (number ∷ rest) e marks busy =
        let so = refused_shift_changes_nothing (plan_of plan) table (run_of run) speeds rows numbers number rest e in
        λ i. record {
          number = number_of shift.answer;
          run = (ap (λ (s : ShiftEffect). run_put run s.run) so ∙ run_again run marks) i;
          rows = (so i).rows;
          numbers = (so i).numbers;
        }

    by : (short marks : Bool) → marks_hold run ≡ marks → ((left short marks).number ≡ 0 → ⊥)
        → left short marks ≡ record { number = (left short marks).number; run = run; rows = rows; numbers = numbers }
    by true marks e busy = refl
    by false true e busy = by_answer shift.answer refl e busy
    by false false e busy = refl

-- So a shift that is refused need not put its run back.
pub refused_shift_words : (plan table run speeds rows numbers : List ℕ) {number : ℕ} {left filled told : List ℕ}
    → record { number = number; run = left; rows = filled; numbers = told } ≡ shift_call plan table run speeds rows numbers → (number ≡ 0 → ⊥)
    → record { number = number; run = run; rows = filled; numbers = told } ≡ shift_call plan table run speeds rows numbers
refused_shift_words plan table run speeds rows numbers {number} {left} {filled} {told} so busy =
    let stays = refused_shift_stays plan table run speeds rows numbers (λ e. busy (ap (λ (r : HostShiftEffect). r.number) so ∙ e)) in
    ap (λ r. record { number = number; run = r; rows = filled; numbers = told }) (sym (ap (λ (r : HostShiftEffect). r.run) (so ∙ stays))) ∙ so
