-- Laws for the calls on a run: what a slot, a shift or a word gives on the lent words, if nothing stands against the call.
use mathlib.Core.Path.{◌≡◌, refl, sym, ◌∙◌, ap}
use mathlib.Core.Bool.{true}
use mathlib.Core.List.{List, [], ◌∷◌}
use Prim.Native.Nat.{ℕ}
use lib.ListN.{length}
use Rattle.plan.specs.Rules.{counted}
use Rattle.plan.specs.declared.kinds.Plan.{Plan}
use Rattle.plan.specs.Report.{Report, number_of}
use Rattle.dispatch.specs.Step.{SlotEffect, WordEffect, slot_fault, granted, advanced, slot_by, stepped, outcome, told_ended}
use Rattle.dispatch.specs.Shift.{ShiftEffect, shifted}
use Rattle.dispatch.specs.Answers.{run_at}
use Rattle.dispatch.specs.declared.Moment.{Moment}
use Rattle.dispatch.specs.declared.Run.{Run}
use Rattle.dispatch.proofs.RowShares.{added_length}
use Rattle.dispatch.proofs.ShiftLimits.{shift_keeps, refused_shift_changes_nothing}
use Rattle.dispatch.proofs.SlotLimits.{refused_changes_nothing}
use Rattle.dispatch.proofs.WordLimits.{refused_word_changes_nothing}
use Rattle.hostmemory.specs.Memory.{plan_of, marks_hold, run_of, slot_put, run_put}
use Rattle.hostmemory.proofs.RoundTrip.{run_again, slot_put_lem, carried_all}
use Rattle.gateway.specs.Calls.{step_call, shift_call, ending_number, outcome_call, end_call}
use Rattle.gateway.specs.Inner.{unready}
use Rattle.gateway.proofs.Ready.{ready_call}

-- A slot leaves as many carried units as there were.
pub stepped_long : (p : Plan) (table : List ℕ) (run : Run) (v : ℕ) (grants : List ℕ)
    → length (stepped p table run v grants).run.carried ≡ length run.carried
unfolding stepped advanced
stepped_long p table run v grants = by (slot_fault p table run v grants)
  where
    by : (r : Report) → length (slot_by r p table run v grants).run.carried ≡ length run.carried
    by [] = added_length (counted p) run.carried (granted p table run v grants)
    by (number ∷ rest) = refl

-- So does a shift.
pub shifted_long : (p : Plan) (table : List ℕ) (run : Run) (speeds rows numbers : List ℕ)
    → length (shifted p table run speeds rows numbers).run.carried ≡ length run.carried
shifted_long p table run speeds rows numbers =
    shift_keeps p table (λ r. length r.carried ≡ length run.carried) (λ r v grants e. stepped_long p table r v grants ∙ e) run speeds rows numbers refl

-- Putting back what a slot or a shift changes of a run puts back the run.
put_back : (run : List ℕ) (at : Moment) (carried : List ℕ) → marks_hold run ≡ true → length carried ≡ length (run_of run).carried
    → slot_put run at carried ≡ run_put run (run_at at carried (run_of run).ended)
put_back run at carried marks long = slot_put_lem run at carried marks (long ∙ carried_all run)

module _ (plan table run : List ℕ) (v : ℕ) (grants : List ℕ) (ready : [] ≡ unready plan run) where
  -- The step's call by the effect of the slot's call.
  step_words : {answer : Report} {next : Run} {row : List ℕ}
      → record { answer = answer; run = next; grants = row } ≡ stepped (plan_of plan) table (run_of run) v grants
      → record { number = number_of answer; run = run_put run next; grants = row } ≡ step_call plan table run v grants
  unfolding step_call
  step_words slot = let r = ready_call plan run ready in rw (r.0, r.1, ← slot) refl

  -- A slot that is carried: its moment and carried units are put back.
  pub step_carried : {at : Moment} {carried row : List ℕ}
      → record { answer = []; run = run_at at carried (run_of run).ended; grants = row } ≡ stepped (plan_of plan) table (run_of run) v grants
      → record { number = 0; run = slot_put run at carried; grants = row } ≡ step_call plan table run v grants
  step_carried {at} {carried} {row} slot =
      ap (λ words. record { number = 0; run = words; grants = row })
      (put_back run at carried (ready_call plan run ready).1
      (ap (λ (s : SlotEffect). length s.run.carried) slot ∙ stepped_long (plan_of plan) table (run_of run) v grants))
      ∙ step_words slot

  -- A slot that is refused: nothing is put back.
  pub step_refused : {number : ℕ} {next : Run} {row : List ℕ}
      → record { answer = number ∷ []; run = next; grants = row } ≡ stepped (plan_of plan) table (run_of run) v grants
      → record { number = number; run = run; grants = row } ≡ step_call plan table run v grants
  step_refused {number} {next} {row} slot =
      let same : next ≡ run_of run
      = ap (λ (s : SlotEffect). s.run) slot
      ∙ (refused_changes_nothing (plan_of plan) table (run_of run) v grants number [] (sym (ap (λ (s : SlotEffect). s.answer) slot))).0 in
      ap (λ words. record { number = number; run = words; grants = row }) (sym (ap (run_put run) same ∙ run_again run (ready_call plan run ready).1))
      ∙ step_words slot

module _ (plan table run speeds rows numbers : List ℕ) (ready : [] ≡ unready plan run) where
  -- The same for the shift's call.
  shift_words_lem : {answer : Report} {next : Run} {filled told : List ℕ}
      → record { answer = answer; run = next; rows = filled; numbers = told } ≡ shifted (plan_of plan) table (run_of run) speeds rows numbers
      → record { number = number_of answer; run = run_put run next; rows = filled; numbers = told } ≡ shift_call plan table run speeds rows numbers
  unfolding shift_call
  shift_words_lem shift = let r = ready_call plan run ready in rw (r.0, r.1, ← shift) refl

  pub shift_carried : {at : Moment} {carried filled told : List ℕ}
      → record { answer = []; run = run_at at carried (run_of run).ended; rows = filled; numbers = told } ≡ shifted (plan_of plan) table (run_of run) speeds rows numbers
      → record { number = 0; run = slot_put run at carried; rows = filled; numbers = told } ≡ shift_call plan table run speeds rows numbers
  shift_carried {at} {carried} {filled} {told} shift =
      ap (λ words. record { number = 0; run = words; rows = filled; numbers = told })
      (put_back run at carried (ready_call plan run ready).1
      (ap (λ (s : ShiftEffect). length s.run.carried) shift ∙ shifted_long (plan_of plan) table (run_of run) speeds rows numbers))
      ∙ shift_words_lem shift

  pub shift_refused : {number : ℕ} {next : Run} {filled told : List ℕ}
      → record { answer = number ∷ []; run = next; rows = filled; numbers = told } ≡ shifted (plan_of plan) table (run_of run) speeds rows numbers
      → record { number = number; run = run; rows = filled; numbers = told } ≡ shift_call plan table run speeds rows numbers
  shift_refused {number} {next} {filled} {told} shift =
      let same : next ≡ run_of run
      = ap (λ (s : ShiftEffect). s.run) shift
      ∙ ap (λ (s : ShiftEffect). s.run)
      (refused_shift_changes_nothing (plan_of plan) table (run_of run) speeds rows numbers number [] (sym (ap (λ (s : ShiftEffect). s.answer) shift))) in
      ap (λ words. record { number = number; run = words; rows = filled; numbers = told }) (sym (ap (run_put run) same ∙ run_again run (ready_call plan run ready).1))
      ∙ shift_words_lem shift

module _ (plan run : List ℕ) (position : ℕ) (ready : [] ≡ unready plan run) where
  -- The outcome's call by the outcome.
  pub outcome_words : outcome_call plan run position ≡ ending_number (outcome (plan_of plan) (run_of run) position)
  unfolding outcome_call
  outcome_words = let r = ready_call plan run ready in rw (r.0, r.1) refl

  -- The call that tells of an ended job, by the effect of the word.
  pub end_words : {answer : Report} {next : Run} → record { answer = answer; run = next } ≡ told_ended (plan_of plan) (run_of run) position
      → record { number = number_of answer; run = run_put run next } ≡ end_call plan run position
  unfolding end_call
  end_words told = let r = ready_call plan run ready in rw (r.0, r.1, ← told) refl

  -- A word that is refused: nothing is put back.
  pub end_refused : {number : ℕ} {next : Run} → record { answer = number ∷ []; run = next } ≡ told_ended (plan_of plan) (run_of run) position
      → record { number = number; run = run } ≡ end_call plan run position
  end_refused {number} {next} told =
      let same : next ≡ run_of run
      = ap (λ (w : WordEffect). w.run) told
      ∙ refused_word_changes_nothing (plan_of plan) (run_of run) position number [] (sym (ap (λ (w : WordEffect). w.answer) told)) in
      ap (λ words. record { number = number; run = words }) (sym (ap (run_put run) same ∙ run_again run (ready_call plan run ready).1))
      ∙ end_words told
