-- Demand 3 for hosts: what is promised holds for every night through the calls for hosts, the words
-- that `gateway_read` leaves are the reader's plan, and the marks in a run's words stay good.
use mathlib.Core.Path.{◌≡◌, refl, sym, ◌∙◌, ap, ap₂}
use mathlib.Core.Logic.{◌≢◌, ◌⊎◌, inl, inr, ⊎_elim}
use mathlib.Core.Bool.{Bool, true, false, cond, ◌&&◌, ◌||◌, or-false, false≢true}
use mathlib.Core.List.{List, [], ◌∷◌}
use Prim.Native.Nat.{ℕ, ◌+◌, ◌≤◌, ◌<◌}
use native.Mathlib.Omega.{arith}
use borrow.Author.Tests.{le-ltb, ltb-false, ne_eqb}
use lib.Dec.{eqb}
use lib.ListN.{length, get_or, replicate, length-replicate}
use Rattle.base.specs.Sum.{sum, on}
use Rattle.base.specs.Below
use Rattle.base.proofs.Logic.{neither, if_true}
use Rattle.plan.specs.Edition.{most_jobs}
use Rattle.plan.specs.Refusal.{outside_window, wrong_total, over_capacity, below_floor_rule, speed_above_normal, unsound, buffer_too_short, no_such_job, cannot_end, too_many_speeds}
use Rattle.plan.specs.Report.{Report, done_number, number_of, first}
use Rattle.plan.specs.Rules.{no_plan, counted, name_allowed, names_hold, names_differ, grades_hold, bounds_hold, rules_hold}
use Rattle.plan.specs.Boundaries.{insert, boundaries_to}
use Rattle.plan.specs.Table.{no_stray, sound}
use Rattle.plan.specs.declared.kinds.Plan.{Plan}
use Rattle.judge.specs.Verdict.{outside_fault, total_fault, capacity_fault, is_hi_deadline, floor_fault, judged}
use Rattle.dispatch.specs.declared.Run.{Run}
use Rattle.dispatch.specs.Step.{SlotEffect, WordEffect, started, slot_sound, slot_fault, stepped, outcome, end_fault, told_ended}
use Rattle.dispatch.specs.Shift.{ShiftEffect, row_start, shift_fault, shifted}
use Rattle.dispatch.proofs.ShiftLimits.{shift_keeps}
use Rattle.dispatch.proofs.WordLimits.{word_leaves, word_long, slot_keeps_ended}
use Rattle.hostmemory.specs.Memory.{plan_words, run_words, short_plan, short_run, jobs_to, plan_in, plan_of, jobs_out, plan_out, are_marks, marks_in, marks_hold, run_in, run_of, run_out, run_put}
use Rattle.hostmemory.proofs.RoundTrip.{run_back, put_marks, carried_all, ended_all}
use Rattle.gateway.specs.Calls.{HostStartEffect, HostStepEffect, HostShiftEffect, HostEndEffect, start_words, located, short_location, slot_words, shift_words, told_words, ending_number, start_call, step_call, shift_call, outcome_call, end_call}
use Rattle.gateway.proofs.Laws.{stepped_long, shifted_long}
use Rattle.promises.specs.Night.{is_done, run_after, had, told}
use Rattle.promises.specs.NightParts.{ShiftCall, shift_effect, part_answer, part_given, run_after_parts, calls_of, AllowedPart, AllowedParts}
use Rattle.promises.specs.HostNight.{HostStart, HostStep, HostShift, HostCall, step, end, shift, returned, MeetsContract, part_of, run_words_left, plan_started, HostAllowed, HostNight, night_of, host_run, host_calls, host_given, host_had, host_tells, host_told, CallShown, Shown, HostKept}
use Rattle.plan.specs.Report.{is_one_of}
use Rattle.promises.proofs.Cases.{table_of, plan_e, table_e}
use Rattle.promises.proofs.Strategy.{same_self}
use Rattle.promises.proofs.RefusalNumbers.{number_tells, judge_numbers_lem, shift_numbers, end_numbers}
use Rattle.promises.proofs.NightParts.{calls_leave_the_run, kept_in_parts, outcomes_kept_in_parts, slot_number_done, shift_gives, shift_tells_none}
use Rattle.promises.proofs.SameSlot.{counted_same}
use Rattle.promises.proofs.Progress.{unless_told}

-- Words with good marks are enough for a run.
marks_long : (w : List ℕ) → marks_hold w ≡ true → run_words ≤ length w
unfolding marks_hold
marks_long w m = go (short_run w) refl m
  where
    go : (t : Bool) → short_run w ≡ t → cond t false (marks_in w) ≡ true → run_words ≤ length w
    go true e m = absurd (false≢true m)
    go false e m = ltb-false (length w) run_words e

-- A start that returns 0 has an accepted plan, enough words, and leaves the words of the started run.
record Started (plan table run location : List ℕ) : Type 0 where
  accepted : judged (plan_of plan) table ≡ []
  plan_long : plan_words ≤ length plan
  run_long : run_words ≤ length run
  leaves : (start_call plan table run location).run ≡ run_put run (started (plan_of plan))

start_done : (plan table run location : List ℕ) → (start_call plan table run location).number ≡ done_number → Started plan table run location
unfolding start_call
start_done plan table run location e = go (short_plan plan || short_run run || short_location location) refl (judged (plan_of plan) table) refl e
  where
    numbers : List ℕ
    numbers = outside_window ∷ wrong_total ∷ over_capacity ∷ below_floor_rule ∷ unsound ∷ buffer_too_short ∷ []

    left : Bool → Report → HostStartEffect
    left b r =
        cond b (record { number = buffer_too_short; run = run; location = location })
        (record { number = number_of r; run = start_words r (plan_of plan) run; location = located r location })

    go : (b : Bool) → (short_plan plan || short_run run || short_location location) ≡ b → (r : Report) → judged (plan_of plan) table ≡ r
        → (left b r).number ≡ done_number → Started plan table run location
    go true s r j e = absurd (omega (arith, e))
    go false s [] j e =
        let words = neither (short_plan plan) (short_run run) (neither (short_plan plan || short_run run) (short_location location) s).0 in
        record {
          accepted = j;
          plan_long = ltb-false (length plan) plan_words words.0;
          run_long = ltb-false (length run) run_words words.1;
          leaves = rw (s, j) refl;
        }
    go false s (number ∷ places) j e =
        absurd (false≢true (sym (ap (is_one_of numbers) e) ∙ judge_numbers_lem (plan_of plan) table number places j))

-- If the marks are good, a step is refused for its words only if those of the plan are too few.
pub good_marks_step : (plan table run : List ℕ) (v : ℕ) (grants : List ℕ) → marks_hold run ≡ true
    → step_call plan table run v grants
    ≡ cond (short_plan plan) (record { number = buffer_too_short; run = run; grants = grants }) (slot_words (stepped (plan_of plan) table (run_of run) v grants) run)
unfolding step_call
good_marks_step plan table run v grants m =
    rw (le-ltb (length run) run_words (marks_long run m), or-false (short_plan plan), m) refl

pub good_marks_outcome : (plan run : List ℕ) (position : ℕ) → marks_hold run ≡ true
    → outcome_call plan run position ≡ cond (short_plan plan) buffer_too_short (ending_number (outcome (plan_of plan) (run_of run) position))
unfolding outcome_call
good_marks_outcome plan run position m =
    rw (le-ltb (length run) run_words (marks_long run m), or-false (short_plan plan), m) refl

-- What a step on words with good marks leaves, beside the slot's call on what they encode.
record StepShown (call : HostStepEffect) (slot : SlotEffect) : Type 0 where
  number : eqb call.number done_number ≡ is_done slot.answer
  run : run_of call.run ≡ slot.run
  marks : marks_hold call.run ≡ true
  row : is_done slot.answer ≡ true → call.grants ≡ slot.grants

module _ (plan table run : List ℕ) (v : ℕ) (grants : List ℕ) (m : marks_hold run ≡ true) where
  abbrev slot : SlotEffect
  slot = stepped (plan_of plan) table (run_of run) v grants

  -- Too few words encode a plan of zeros, which a slot's call refuses.
  no_plan_refused : (r : Run) → stepped no_plan table r v grants ≡ record { answer = unsound ∷ []; run = r; grants = grants }
  unfolding slot_sound slot_fault stepped
  no_plan_refused r = refl

  refused_shown : short_plan plan ≡ true → StepShown (record { number = buffer_too_short; run = run; grants = grants }) slot
  unfolding plan_of
  refused_shown s =
      rw (s, no_plan_refused (run_of run))
      (record { number = refl; run = refl; marks = m; row = λ e. absurd (false≢true e) })

  slot_shown : StepShown (slot_words slot run) slot
  slot_shown =
      let long = marks_long run m in
      let places : length slot.run.carried ≡ most_jobs = stepped_long (plan_of plan) table (run_of run) v grants ∙ carried_all run in
      let ends : length slot.run.ended ≡ most_jobs = ap length (slot_keeps_ended (plan_of plan) table (run_of run) v grants) ∙ ended_all run in
      record {
        number = slot_number_done (plan_of plan) table (run_of run) v grants;
        run = run_back run slot.run places ends long;
        marks = put_marks run slot.run places ends long;
        row = λ e. refl;
      }

  step_shown : StepShown (step_call plan table run v grants) slot
  step_shown = rw (good_marks_step plan table run v grants m) (go (short_plan plan) refl)
    where
      go : (b : Bool) → short_plan plan ≡ b
          → StepShown (cond b (record { number = buffer_too_short; run = run; grants = grants }) (slot_words slot run)) slot
      go true s = refused_shown s
      go false s = slot_shown

-- What a shift on words with good marks leaves, beside the shift on what they encode.
record ShiftShown (call : HostShiftEffect) (effect : ShiftEffect) : Type 0 where
  number : eqb call.number done_number ≡ is_done effect.answer
  run : run_of call.run ≡ effect.run
  marks : marks_hold call.run ≡ true
  rows : is_done effect.answer ≡ true → call.rows ≡ effect.rows
  numbers : is_done effect.answer ≡ true → call.numbers ≡ effect.numbers

module _ (plan table run speeds rows numbers : List ℕ) (m : marks_hold run ≡ true) where
  abbrev shift_of_lem : ShiftEffect
  shift_of_lem = shifted (plan_of plan) table (run_of run) speeds rows numbers

  pub good_marks_shift : shift_call plan table run speeds rows numbers
      ≡ cond (short_plan plan) (record { number = buffer_too_short; run = run; rows = rows; numbers = numbers }) (shift_words shift_of_lem run)
  unfolding shift_call
  good_marks_shift = rw (le-ltb (length run) run_words (marks_long run m), or-false (short_plan plan), m) refl

  no_plan_shifted : (r : Run) → shifted no_plan table r speeds rows numbers ≡ record { answer = unsound ∷ []; run = r; rows = rows; numbers = numbers }
  unfolding slot_sound shift_fault shifted
  no_plan_shifted r = refl

  refused_shift_shown : short_plan plan ≡ true → ShiftShown (record { number = buffer_too_short; run = run; rows = rows; numbers = numbers }) shift_of_lem
  unfolding plan_of
  refused_shift_shown s =
      rw (s, no_plan_shifted (run_of run))
      (record { number = refl; run = refl; marks = m; rows = λ e. absurd (false≢true e); numbers = λ e. absurd (false≢true e) })

  words_shown : ShiftShown (shift_words shift_of_lem run) shift_of_lem
  words_shown =
      let long = marks_long run m in
      let places : length shift_of_lem.run.carried ≡ most_jobs = shifted_long (plan_of plan) table (run_of run) speeds rows numbers ∙ carried_all run in
      let ends : length shift_of_lem.run.ended ≡ most_jobs
      = shift_keeps (plan_of plan) table (λ r. length r.ended ≡ most_jobs) (λ r v grants e. ap length (slot_keeps_ended (plan_of plan) table r v grants) ∙ e)
      (run_of run) speeds rows numbers (ended_all run) in
      record {
        number = number_tells (unsound ∷ too_many_speeds ∷ buffer_too_short ∷ []) shift_of_lem.answer refl (shift_numbers (plan_of plan) table (run_of run) speeds rows numbers);
        run = run_back run shift_of_lem.run places ends long;
        marks = put_marks run shift_of_lem.run places ends long;
        rows = λ e. refl;
        numbers = λ e. refl;
      }

  shift_shown : ShiftShown (shift_call plan table run speeds rows numbers) shift_of_lem
  shift_shown = rw good_marks_shift (go (short_plan plan) refl)
    where
      go : (b : Bool) → short_plan plan ≡ b
          → ShiftShown (cond b (record { number = buffer_too_short; run = run; rows = rows; numbers = numbers }) (shift_words shift_of_lem run)) shift_of_lem
      go true s = refused_shift_shown s
      go false s = words_shown

-- What the word that a job has ended leaves of words with good marks, beside the word on what they encode.
record WordShown (call : HostEndEffect) (word : WordEffect) : Type 0 where
  number : eqb call.number done_number ≡ is_done word.answer
  run : run_of call.run ≡ word.run
  marks : marks_hold call.run ≡ true

module _ (plan run : List ℕ) (position : ℕ) (m : marks_hold run ≡ true) where
  abbrev told_of : WordEffect
  told_of = told_ended (plan_of plan) (run_of run) position

  pub good_marks_end : end_call plan run position ≡ cond (short_plan plan) (record { number = buffer_too_short; run = run }) (told_words told_of run)
  unfolding end_call
  good_marks_end = rw (le-ltb (length run) run_words (marks_long run m), or-false (short_plan plan), m) refl

  no_plan_told : (r : Run) → told_ended no_plan r position ≡ record { answer = unsound ∷ []; run = r }
  unfolding slot_sound end_fault told_ended
  no_plan_told r = refl

  refused_word_shown : short_plan plan ≡ true → WordShown (record { number = buffer_too_short; run = run }) told_of
  unfolding plan_of
  refused_word_shown s = rw (s, no_plan_told (run_of run)) (record { number = refl; run = refl; marks = m })

  told_shown : WordShown (told_words told_of run) told_of
  told_shown =
      let long = marks_long run m in
      let places : length told_of.run.carried ≡ most_jobs = ap length (word_leaves (plan_of plan) (run_of run) position).3 ∙ carried_all run in
      let ends : length told_of.run.ended ≡ most_jobs = word_long (plan_of plan) (run_of run) position ∙ ended_all run in
      record {
        number = number_tells (unsound ∷ no_such_job ∷ cannot_end ∷ []) told_of.answer refl (end_numbers (plan_of plan) (run_of run) position);
        run = run_back run told_of.run places ends long;
        marks = put_marks run told_of.run places ends long;
      }

  word_shown : WordShown (end_call plan run position) told_of
  word_shown = rw good_marks_end (go (short_plan plan) refl)
    where
      go : (b : Bool) → short_plan plan ≡ b → WordShown (cond b (record { number = buffer_too_short; run = run }) (told_words told_of run)) told_of
      go true s = refused_word_shown s
      go false s = told_shown

-- Neither a step, a shift nor a word spoils good marks, whatever else it is lent.
pub marks_stay_good : (plan table run : List ℕ) (v : ℕ) (grants : List ℕ) → marks_hold run ≡ true → marks_hold (step_call plan table run v grants).run ≡ true
marks_stay_good plan table run v grants m = (step_shown plan table run v grants m).marks

pub marks_stay_good_shifted : (plan table run speeds rows numbers : List ℕ) → marks_hold run ≡ true → marks_hold (shift_call plan table run speeds rows numbers).run ≡ true
marks_stay_good_shifted plan table run speeds rows numbers m = (shift_shown plan table run speeds rows numbers m).marks

pub marks_stay_good_told : (plan run : List ℕ) (position : ℕ) → marks_hold run ≡ true → marks_hold (end_call plan run position).run ≡ true
marks_stay_good_told plan run position m = (word_shown plan run position m).marks

-- The start's words have good marks and encode the started run.
begun : (s : HostStart) → HostNight s [] → Started s.plan s.table s.run s.location
unfolding HostNight
begun s e = start_done s.plan s.table s.run s.location (sym (ap (λ (x : HostStartEffect). x.number) e))

begun_words : (s : HostStart) → HostNight s [] → s.run_left_lem ≡ run_put s.run (started (plan_started s))
unfolding HostNight
begun_words s e = ap (λ (x : HostStartEffect). x.run) e ∙ (begun s e).leaves

started_long : (p : Plan) → (length (started p).carried ≡ most_jobs) × (length (started p).ended ≡ most_jobs)
unfolding started
started_long p = (length-replicate {A = ℕ} most_jobs 0, length-replicate {A = Bool} most_jobs false)

-- The start of a host's night.
start_of : (s : HostStart) (calls : List HostCall) → HostNight s calls → HostNight s []
unfolding HostNight
start_of s [] h = h
start_of s (c ∷ earlier) h = start_of s earlier h.0

-- The latest words have good marks and encode the run after the night.
shown_run : (s : HostStart) (calls : List HostCall) → Shown s calls → run_of (run_words_left s calls) ≡ host_run s calls
unfolding Shown run_after_parts
shown_run s [] h = h.0
shown_run s (c ∷ earlier) h = h.1.run_left_lem

shown_marks : (s : HostStart) (calls : List HostCall) → Shown s calls → marks_hold (run_words_left s calls) ≡ true
unfolding Shown
shown_marks s [] h = h.1
shown_marks s (c ∷ earlier) h = h.1.marks

-- A number that counts under one test is that which counts under an equal one.
on_same : (a b : Bool) {x y : ℕ} → a ≡ b → (b ≡ true → x ≡ y) → on a x ≡ on b y
on_same a true e h = rw e (h refl)
on_same a false e h = rw e refl

-- A call on words with good marks is shown to the host as the night's part on the run that they
-- encode.
call_shown : (c : HostCall) (words : List ℕ) (run : Run) → marks_hold words ≡ true → run_of words ≡ run → MeetsContract c words → CallShown c run
call_shown (step c) words run marks was contract =
    let so = step_shown c.plan c.table words c.speed c.row marks in
    let done : eqb c.number done_number ≡ is_done (effect run).answer
    = ap (λ (x : HostStepEffect). eqb x.number done_number) contract ∙ so.number ∙ ap (λ r. is_done (effect r).answer) was in
    record {
      run_left_lem = ap (λ (x : HostStepEffect). run_of x.run) contract ∙ so.run ∙ ap (λ r. (effect r).run) was;
      marks = ap (λ (x : HostStepEffect). marks_hold x.run) contract ∙ so.marks;
      done = done;
      gives = λ i.
          on_same (eqb c.number done_number) (is_done (effect run).answer) done
          (λ e. ap (λ l. get_or l i 0)
          (ap (λ (x : HostStepEffect). x.grants) contract ∙ so.row (ap (λ r. is_done (effect r).answer) was ∙ e) ∙ ap (λ r. (effect r).grants) was));
    }
  where
    effect : Run → SlotEffect
    effect r = stepped (plan_of c.plan) c.table r c.speed c.row
call_shown (end c) words run marks was contract =
    let so = word_shown c.plan words c.position marks in
    record {
      run_left_lem = ap (λ (x : HostEndEffect). run_of x.run) contract ∙ so.run ∙ ap (λ r. (effect r).run) was;
      marks = ap (λ (x : HostEndEffect). marks_hold x.run) contract ∙ so.marks;
      done = ap (λ (x : HostEndEffect). eqb x.number done_number) contract ∙ so.number ∙ ap (λ r. is_done (effect r).answer) was;
      gives = λ i. refl;
    }
  where
    effect : Run → WordEffect
    effect r = told_ended (plan_of c.plan) r c.position
call_shown (shift c) words run marks was contract =
    let so = shift_shown c.plan c.table words c.speeds c.rows c.numbers marks in
    let done : eqb c.number done_number ≡ is_done (effect run).answer
    = ap (λ (x : HostShiftEffect). eqb x.number done_number) contract ∙ so.number ∙ ap (λ r. is_done (effect r).answer) was in
    record {
      run_left_lem = ap (λ (x : HostShiftEffect). run_of x.run) contract ∙ so.run ∙ ap (λ r. (effect r).run) was;
      marks = ap (λ (x : HostShiftEffect). marks_hold x.run) contract ∙ so.marks;
      done = done;
      gives = λ i.
          on_same (eqb c.number done_number) (is_done (effect run).answer) done
          (λ e.
          let before = ap (λ r. is_done (effect r).answer) was ∙ e in
          let rows_are = ap (λ (x : HostShiftEffect). x.rows) contract ∙ so.rows before ∙ ap (λ r. (effect r).rows) was in
          let numbers_are = ap (λ (x : HostShiftEffect). x.numbers) contract ∙ so.numbers before ∙ ap (λ r. (effect r).numbers) was in
          ap₂ (λ rows numbers. sum (λ k. on (eqb (get_or numbers k 0) done_number) (get_or rows (row_start (plan_of c.plan) k + i) 0)) (length c.speeds)) rows_are numbers_are);
    }
  where
    effect : Run → ShiftEffect
    effect r = shifted (plan_of c.plan) c.table r c.speeds c.rows c.numbers

-- Every host's night is shown to the host as the night that its words encode.
pub night_shown : (s : HostStart) (calls : List HostCall) → HostNight s calls → Shown s calls
unfolding HostNight Shown run_after_parts
night_shown s [] h =
    let b = begun s h in
    let e = begun_words s h in
    let long = started_long (plan_started s) in (
      ap run_of e ∙ run_back s.run (started (plan_started s)) long.0 long.1 b.run_long,
      ap marks_hold e ∙ put_marks s.run (started (plan_started s)) long.0 long.1 b.run_long,
    )
night_shown s (c ∷ earlier) h =
    let before = night_shown s earlier h.0 in
    (before, call_shown c (run_words_left s earlier) (host_run s earlier) (shown_marks s earlier before) (shown_run s earlier before) h.1)

-- What is asked of a host's call is what is asked of the night's part that it is.
call_allowed : (s : HostStart) (c : HostCall) → HostAllowed s c → AllowedPart (plan_started s) s.table (part_of c)
call_allowed s (step c) w = w
call_allowed s (end c) w = w
call_allowed s (shift c) w = w

-- The night that the words encode is allowed.
night_allowed : (s : HostStart) (calls : List HostCall) → HostNight s calls → AllowedParts (plan_started s) s.table (night_of calls)
unfolding HostNight AllowedParts Shown
night_allowed s [] h = tt
night_allowed s (c ∷ earlier) h =
    let shown = night_shown s (c ∷ earlier) h in (
      night_allowed s earlier h.0,
      ⊎_elim (λ busy. inl (sym shown.1.done ∙ ne_eqb (returned c) done_number busy)) (λ w. inr (call_allowed s c w)) h.2,
    )

-- The shift of a night that a host's is.
abbrev shift_of : HostShift → ShiftCall
shift_of c = record { plan = plan_of c.plan; table = c.table; speeds = c.speeds; rows = c.rows; numbers = c.numbers }

-- What a part of a host's night gives, a job has had more after it.
part_gives : (s : HostStart) (c : HostCall) (earlier : List HostCall) (i : ℕ) → i < counted (plan_started s) → CallShown c (host_run s earlier)
    → (returned c ≢ done_number) ⊎ HostAllowed s c
    → had (plan_started s) (host_calls s (c ∷ earlier)) i ≡ had (plan_started s) (host_calls s earlier) i + host_given c i
unfolding had calls_of
part_gives s (step c) earlier i l shown asked =
    ap (λ x. had (plan_started s) (host_calls s earlier) i + x)
    (ap (λ r. part_given (part_of (step c)) r i) (sym (calls_leave_the_run (plan_started s) (night_of earlier))) ∙ sym (shown.gives i))
part_gives s (end c) earlier i l shown asked = refl
part_gives s (shift c) earlier i l shown asked =
    shift_gives (plan_started s) (shift_of c) (host_run s earlier) (host_calls s earlier) i (calls_leave_the_run (plan_started s) (night_of earlier))
    (λ e. ⊎_elim
    (λ busy. absurd (false≢true (sym (ne_eqb c.number done_number busy) ∙ shown.done ∙ e)))
    (λ w. omega (arith, l, counted_same (plan_started s) s.table (plan_of c.plan) c.table w.0))
    asked)
    ∙ ap (λ x. had (plan_started s) (host_calls s earlier) i + x) (sym (shown.gives i))

-- What a job has had by the rows is what it has had in the night.
pub had_by_rows : (s : HostStart) (calls : List HostCall) → HostNight s calls → (i : ℕ) → i < counted (plan_started s)
    → host_had calls i ≡ had (plan_started s) (host_calls s calls) i
unfolding HostNight Shown host_had had calls_of
had_by_rows s [] h i l = refl
had_by_rows s (c ∷ earlier) h i l =
    ap (λ x. x + host_given c i) (had_by_rows s earlier h.0 i l) ∙ sym (part_gives s c earlier i l (night_shown s (c ∷ earlier) h).1 h.2)

-- A part of a host's night tells what its call tells.
part_tells : (s : HostStart) (c : HostCall) (earlier : List HostCall) (i : ℕ) → CallShown c (host_run s earlier)
    → told (plan_started s) (host_calls s (c ∷ earlier)) i ≡ (told (plan_started s) (host_calls s earlier) i || host_tells c i)
unfolding told calls_of
part_tells s (step c) earlier i shown = refl
part_tells s (end c) earlier i shown =
    let was = calls_leave_the_run (plan_started s) (night_of earlier) in
    ap (λ b. told (plan_started s) (host_calls s earlier) i || b && eqb c.position i)
    (ap (λ r. is_done (part_answer (part_of (end c)) r)) (sym was) ∙ sym shown.done)
part_tells s (shift c) earlier i shown =
    shift_tells_none (plan_started s) (shift_of c) (host_run s earlier) (host_calls s earlier) i (shift_effect (shift_of c) (host_run s earlier)).answer
    ∙ sym (or-false (told (plan_started s) (host_calls s earlier) i))

-- What the host was heard to tell by its calls is what was told in the night.
pub told_by_calls : (s : HostStart) (calls : List HostCall) → HostNight s calls → (i : ℕ) → host_told calls i ≡ told (plan_started s) (host_calls s calls) i
unfolding HostNight Shown host_told told calls_of
told_by_calls s [] h i = refl
told_by_calls s (c ∷ earlier) h i =
    ap (λ b. b || host_tells c i) (told_by_calls s earlier h.0 i) ∙ sym (part_tells s c earlier i (night_shown s (c ∷ earlier) h).1)

-- Demand 3 for hosts: what is promised of a host's night holds.
pub host_promise_kept : (s : HostStart) (calls : List HostCall) → HostNight s calls → HostKept s calls
host_promise_kept s calls h =
    let b = begun s (start_of s calls h) in
    let p = plan_started s in
    let shown = night_shown s calls h in
    let allowed = night_allowed s calls h in
    let kept = (kept_in_parts p s.table b.accepted (night_of calls) allowed).0 in
    let outcomes = outcomes_kept_in_parts p s.table b.accepted (night_of calls) allowed in
    let after : host_run s calls ≡ run_after p (host_calls s calls) = calls_leave_the_run p (night_of calls) in
    let run_is = shown_run s calls shown in
    let endings : (i : ℕ) → outcome_call s.plan (run_words_left s calls) i ≡ ending_number (outcome p (host_run s calls) i)
    = λ i. good_marks_outcome s.plan (run_words_left s calls) i (shown_marks s calls shown)
    ∙ rw (le-ltb (length s.plan) plan_words b.plan_long, run_is) refl in
    let ended : (i : ℕ) → outcome_call s.plan (run_words_left s calls) i ≡ ending_number (outcome p (run_after p (host_calls s calls)) i)
    = λ i. endings i ∙ ap (λ r. ending_number (outcome p r i)) after in
    record {
      shown = shown;
      kept = kept;
      outcomes_kept = outcomes;
      endings = endings;
      essential = λ i k e come.
          let came = rw (run_is, after) at come in
          if_true (told p (host_calls s calls) i)
          (λ t. inl (told_by_calls s calls h i ∙ t, ended i ∙ ap ending_number (outcomes.told_ended_lem i k t)))
          (λ t. inr (
            had_by_rows s calls h i k ∙ (unless_told t (kept.essential i k e came)).0,
            ended i ∙ ap ending_number (outcomes.essential_met i k e came t),
          ));
      no_more = λ i k. rw (had_by_rows s calls h i k) (kept.no_more i k);
    }

-- An instance: plan E is started in words that held sevens, a step at speed 3 is refused, one
-- with no plan's words is refused, and one at the floor is done.
abbrev plan_words_e : List ℕ
plan_words_e = plan_out plan_e

abbrev started_e : HostStartEffect
started_e = start_call plan_words_e table_e (replicate run_words 7) (7 ∷ 7 ∷ [])

abbrev start_e : HostStart
start_e =
    record {
      plan = plan_words_e;
      table = table_e;
      run = replicate run_words 7;
      location = 7 ∷ 7 ∷ [];
      run_left_lem = started_e.run;
      location_left = started_e.location;
    }

-- A step with given plan words and speed, on given words of a run.
abbrev step_e : List ℕ → ℕ → List ℕ → HostStep
step_e plan v run =
    let left = step_call plan table_e run v (7 ∷ 7 ∷ []) in
    record {
      plan = plan;
      table = table_e;
      speed = v;
      row = 7 ∷ 7 ∷ [];
      number = left.number;
      run_left_lem = left.run;
      row_left = left.grants;
    }

abbrev fast_e : HostStep
fast_e = step_e plan_words_e 3 start_e.run_left_lem

abbrev planless_e : HostStep
planless_e = step_e [] 2 fast_e.run_left_lem

abbrev slow_e : HostStep
slow_e = step_e plan_words_e 1 planless_e.run_left_lem

start_e_done : started_e.number ≡ done_number
unfolding table_of sum Below.every Below.least name_allowed names_hold names_differ grades_hold bounds_hold rules_hold insert boundaries_to no_stray sound first outside_fault total_fault capacity_fault is_hi_deadline floor_fault judged started jobs_to plan_in plan_of jobs_out plan_out run_out run_put start_call
start_e_done = refl

fast_e_refused : fast_e.number ≡ speed_above_normal
unfolding table_of sum Below.every Below.least Below.greatest name_allowed names_hold names_differ grades_hold bounds_hold rules_hold insert boundaries_to no_stray sound first outside_fault total_fault capacity_fault is_hi_deadline floor_fault judged started slot_sound slot_fault stepped jobs_to plan_in plan_of jobs_out plan_out are_marks marks_hold run_in run_of run_out run_put start_call step_call
fast_e_refused = refl

planless_e_refused : planless_e.number ≡ buffer_too_short
unfolding step_call
planless_e_refused = refl

rates_e : ((plan_of plan_words_e).n.0 ≡ 2) × ((plan_of plan_words_e).d.0 ≡ 1)
unfolding jobs_to plan_in plan_of jobs_out plan_out
rates_e = (refl, refl)

-- A start's effect with number 0, part by part.
start_meets : (x : HostStartEffect) → x.number ≡ done_number → record { number = done_number; run = x.run; location = x.location } ≡ x
start_meets x e = λ t. record { number = sym e t; run = x.run; location = x.location }

abbrev calls_e : List HostCall
calls_e = step slow_e ∷ step planless_e ∷ step fast_e ∷ []

night_e : HostNight start_e calls_e
unfolding HostNight
night_e = (
  ((start_meets started_e start_e_done, refl, inl (λ e. absurd (omega (arith, fast_e_refused, e)))), refl, inl (λ e. absurd (omega (arith, planless_e_refused, e)))),
  refl,
  inr (same_self (plan_of plan_words_e) table_e, omega (arith, rates_e), omega (arith, rates_e)),
)

kept_e : HostKept start_e calls_e
kept_e = host_promise_kept start_e calls_e night_e
