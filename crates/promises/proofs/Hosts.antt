-- Demand 1 for the calls for hosts: they return only the numbers that the rules give them, a
-- refusal leaves the buffers as it must, and words that encode the same plan get the same.
use mathlib.Core.Path.{◌≡◌, refl, sym, ◌∙◌, ap}
use mathlib.Core.Bool.{Bool, true, false, not, cond, ◌||◌, false≢true}
use mathlib.Core.List.{List, [], ◌∷◌, ◌++◌}
use mathlib.Core.Logic.{◌≢◌}
use Prim.Native.Nat.{ℕ, ◌≤◌}
use native.Mathlib.Omega.{arith}
use borrow.Author.Tests.{le-ltb, not-false}
use lib.Dec.{eqb, lit≤}
use lib.IntN.{ℤ}
use lib.ListN.{length, drop, replicate}
use Rattle.plan.specs.Edition.{places}
use Rattle.base.specs.Below
use Rattle.plan.specs.Rules.{grades_hold, bounds_hold}
use Rattle.plan.specs.Refusal.{wrong_version, wrong_extent, wrong_record_length, wrong_rates, wrong_job_count, wrong_name_byte, name_taken, wrong_grade, wrong_job_bounds, too_many_rows, row_without_job, row_without_interval, row_without_units, row_out_of_order, outside_window, wrong_total, over_capacity, below_floor_rule, clock_at_end, speed_above_normal, unsound, buffer_too_short, no_such_job, cannot_end, too_many_speeds}
use Rattle.plan.specs.Same.{Same}
use Rattle.fields.specs.Parsers.{version, opening, field}
use Rattle.planfields.specs.Records.{head}
use Rattle.plan.specs.Rules.{no_plan}
use Rattle.planfile.specs.Reader.{preamble, plan_file, reader}
use Rattle.planwriter.specs.Writing as writing
use Rattle.planwriter.specs.Writing.{writer}
use Rattle.judge.specs.Verdict.{judged}
use Rattle.plan.specs.Report.{Report, done_number, number_of}
use Rattle.judge.specs.Slack as slack
use Rattle.judge.specs.Slack.{slack_figure}
use Rattle.dispatch.specs.Step as step
use Rattle.dispatch.specs.Shift.{ShiftEffect, shifted}
use Rattle.dispatch.specs.Step.{SlotEffect, WordEffect, Ending, started, slot_sound, slot_fault, stepped, outcome, told_ended}
use Rattle.hostmemory.specs.Memory.{plan_words, short_plan, short_run, jobs_to, plan_in, plan_of, jobs_out, plan_out, plan_put, are_marks, marks_hold, run_in, run_of, run_out, run_put}
use Rattle.gateway.specs.Calls.{HostJudgeEffect, HostStartEffect, HostReadEffect, HostWriteEffect, none_number, met_number, ended_number, discarded_number, missed_number, open_number, short_location, start_words, located, slot_words, ending_number, figure_number, slack_words, read_words, written_number, wrote_words, judge_call, start_call, step_call, outcome_call, HostEndEffect, told_words, end_call, slack_call, read_call, write_call, shift_words, shift_call}
use Rattle.gateway.proofs.RefusedCalls.{refused_step_stays}
use Rattle.dispatch.proofs.WordLimits.{refused_word_changes_nothing}
use Rattle.hostmemory.proofs.RoundTrip.{run_again}
use Rattle.promises.proofs.Cases.{table_of, plan_e, table_e}
use Rattle.promises.proofs.RefusalNumbers.{reader_numbers, writer_numbers, judge_numbers_lem, slack_numbers, step_numbers, outcome_numbers, end_numbers, shift_numbers}
use Rattle.plan.specs.Report.{is_one_of}
use Rattle.promises.proofs.RefusalEffects.{reader_22_leaves, reader_other_leaves, writer_refused_leaves}
use Rattle.promises.proofs.SameSlot.{same_slot, same_word, same_outcome, else_e, else_table, same_e, same_shift}
use Rattle.promises.proofs.SameVerdict.{same_verdict, same_slack, started_same}
use Rattle.promises.proofs.SameFile.{same_written}

-- A member of a list is a member of a longer one.
pub or_one : (x y : ℕ) (l : List ℕ) → is_one_of l x ≡ true → is_one_of (y ∷ l) x ≡ true
or_one x y l h = by (eqb x y)
  where
    by : (b : Bool) → (b || is_one_of l x) ≡ true
    by true = refl
    by false = h

-- The number of a report is that of no refusal, or one of those that can refuse it.
pub report_one : (numbers : List ℕ) (r : Report) → ((number : ℕ) (rest : Report) → r ≡ number ∷ rest → is_one_of numbers number ≡ true)
    → is_one_of (done_number ∷ numbers) (number_of r) ≡ true
report_one numbers [] h = refl
report_one numbers (number ∷ rest) h = or_one number done_number numbers (h number rest refl)

-- `gateway_read`: 0, 1 to 14, 22.
pub host_read_numbers : (file plan table : List ℕ) (was : ℕ)
    → is_one_of
    (done_number ∷ wrong_version ∷ wrong_extent ∷ wrong_record_length ∷ wrong_rates ∷ wrong_job_count ∷ wrong_name_byte ∷ name_taken ∷ wrong_grade ∷ wrong_job_bounds
    ∷ too_many_rows ∷ row_without_job ∷ row_without_interval ∷ row_without_units ∷ row_out_of_order ∷ buffer_too_short ∷ [])
    (read_call file plan table was).number
    ≡ true
unfolding read_call
host_read_numbers file plan table was = by (short_plan plan)
  where
    numbers : List ℕ
    numbers =
        wrong_version ∷ wrong_extent ∷ wrong_record_length ∷ wrong_rates ∷ wrong_job_count ∷ wrong_name_byte ∷ name_taken ∷ wrong_grade ∷ wrong_job_bounds
        ∷ too_many_rows ∷ row_without_job ∷ row_without_interval ∷ row_without_units ∷ row_out_of_order ∷ buffer_too_short ∷ []

    by : (b : Bool)
        → is_one_of (done_number ∷ numbers) (cond b (record { number = buffer_too_short; plan = plan; table = table; offset = was }) (read_words (reader file table) plan)).number ≡ true
    by true = refl
    by false = report_one numbers (reader file table).answer (reader_numbers file table)

-- `gateway_write`: 0, 21, 22.
pub host_write_numbers : (plan table out : List ℕ) (was : ℕ)
    → is_one_of (done_number ∷ unsound ∷ buffer_too_short ∷ []) (write_call plan table out was).number ≡ true
unfolding write_call
host_write_numbers plan table out was = by (short_plan plan)
  where
    numbers : List ℕ
    numbers = unsound ∷ buffer_too_short ∷ []

    by_answer : (a : writing.Answer) → (writer (plan_of plan) table out).answer ≡ a → is_one_of (done_number ∷ numbers) (written_number a) ≡ true
    by_answer (writing.wrote n) e = refl
    by_answer (writing.refused number) e = or_one number done_number numbers (writer_numbers (plan_of plan) table out number e)

    by : (b : Bool)
        → is_one_of (done_number ∷ numbers)
        (cond b (record { number = buffer_too_short; length = was; out = out }) (wrote_words (writer (plan_of plan) table out))).number
        ≡ true
    by true = refl
    by false = by_answer (writer (plan_of plan) table out).answer refl

-- `gateway_judge`: 0, 15 to 18, 21, 22.
abbrev judge_numbers : List ℕ
judge_numbers = outside_window ∷ wrong_total ∷ over_capacity ∷ below_floor_rule ∷ unsound ∷ buffer_too_short ∷ []

pub host_judge_numbers : (plan table location : List ℕ) → is_one_of (done_number ∷ judge_numbers) (judge_call plan table location).number ≡ true
unfolding judge_call
host_judge_numbers plan table location = by (short_plan plan || short_location location)
  where
    by : (b : Bool)
        → is_one_of (done_number ∷ judge_numbers)
        (cond {A = HostJudgeEffect} b (record { number = buffer_too_short; location = location })
        (record { number = number_of (judged (plan_of plan) table); location = located (judged (plan_of plan) table) location })).number
        ≡ true
    by true = refl
    by false = report_one judge_numbers (judged (plan_of plan) table) (judge_numbers_lem (plan_of plan) table)

-- `gateway_start`: the same.
pub host_start_numbers : (plan table run location : List ℕ) → is_one_of (done_number ∷ judge_numbers) (start_call plan table run location).number ≡ true
unfolding start_call
host_start_numbers plan table run location = by (short_plan plan || short_run run || short_location location)
  where
    by : (b : Bool)
        → is_one_of (done_number ∷ judge_numbers)
        (cond {A = HostStartEffect} b (record { number = buffer_too_short; run = run; location = location })
        (record {
          number = number_of (judged (plan_of plan) table);
          run = start_words (judged (plan_of plan) table) (plan_of plan) run;
          location = located (judged (plan_of plan) table) location;
        })).number
        ≡ true
    by true = refl
    by false = report_one judge_numbers (judged (plan_of plan) table) (judge_numbers_lem (plan_of plan) table)

-- `gateway_slack`: 0 or none essential, 15 to 17, 21, 22.
pub host_slack_numbers : (plan table : List ℕ) (was : ℤ) (location : List ℕ)
    → is_one_of (done_number ∷ none_number ∷ outside_window ∷ wrong_total ∷ over_capacity ∷ unsound ∷ buffer_too_short ∷ []) (slack_call plan table was location).number ≡ true
unfolding slack_call
host_slack_numbers plan table was location = by (short_plan plan || short_location location)
  where
    numbers : List ℕ
    numbers = outside_window ∷ wrong_total ∷ over_capacity ∷ unsound ∷ buffer_too_short ∷ []

    by_answer : (f : slack.Figure) → slack_figure (plan_of plan) table ≡ f → is_one_of (done_number ∷ none_number ∷ numbers) (figure_number f) ≡ true
    by_answer slack.none_essential e = refl
    by_answer (slack.least s l D) e = refl
    by_answer (slack.refused report) e =
        let r = slack_numbers (plan_of plan) table report e in
        ap (λ x. is_one_of (done_number ∷ none_number ∷ numbers) (number_of x)) r.2
        ∙ or_one r.0 done_number (none_number ∷ numbers) (or_one r.0 none_number numbers r.3)

    by : (b : Bool)
        → is_one_of (done_number ∷ none_number ∷ numbers)
        (cond b (record { number = buffer_too_short; slack = was; location = location }) (slack_words (slack_figure (plan_of plan) table) location)).number
        ≡ true
    by true = refl
    by false = by_answer (slack_figure (plan_of plan) table) refl

-- `gateway_step`: 0, 19 to 22.
pub host_step_numbers : (plan table run : List ℕ) (v : ℕ) (grants : List ℕ)
    → is_one_of (done_number ∷ clock_at_end ∷ speed_above_normal ∷ unsound ∷ buffer_too_short ∷ []) (step_call plan table run v grants).number ≡ true
unfolding step_call
host_step_numbers plan table run v grants = by (short_plan plan || short_run run) (not (marks_hold run))
  where
    numbers : List ℕ
    numbers = clock_at_end ∷ speed_above_normal ∷ unsound ∷ buffer_too_short ∷ []

    slot : SlotEffect
    slot = stepped (plan_of plan) table (run_of run) v grants

    by : (b c : Bool)
        → is_one_of (done_number ∷ numbers)
        (cond b (record { number = buffer_too_short; run = run; grants = grants })
        (cond c (record { number = unsound; run = run; grants = grants }) (slot_words slot run))).number
        ≡ true
    by true c = refl
    by false true = refl
    by false false = report_one numbers slot.answer (step_numbers (plan_of plan) table (run_of run) v grants)

-- `gateway_outcome`: the five outcomes, 21, 22.
pub host_outcome_numbers : (plan run : List ℕ) (position : ℕ)
    → is_one_of (met_number ∷ ended_number ∷ discarded_number ∷ missed_number ∷ open_number ∷ unsound ∷ buffer_too_short ∷ []) (outcome_call plan run position) ≡ true
unfolding outcome_call
host_outcome_numbers plan run position = by (short_plan plan || short_run run) (not (marks_hold run))
  where
    numbers : List ℕ
    numbers = met_number ∷ ended_number ∷ discarded_number ∷ missed_number ∷ open_number ∷ unsound ∷ buffer_too_short ∷ []

    by_answer : (e : Ending) → outcome (plan_of plan) (run_of run) position ≡ e → is_one_of numbers (ending_number e) ≡ true
    by_answer step.met e = refl
    by_answer step.ended_early e = refl
    by_answer step.discarded e = refl
    by_answer step.missed e = refl
    by_answer step.still_open e = refl
    by_answer (step.refused number) e = ap (is_one_of numbers) (outcome_numbers (plan_of plan) (run_of run) position number e)

    by : (b c : Bool) → is_one_of numbers (cond b buffer_too_short (cond c unsound (ending_number (outcome (plan_of plan) (run_of run) position)))) ≡ true
    by true c = refl
    by false true = refl
    by false false = by_answer (outcome (plan_of plan) (run_of run) position) refl

-- `gateway_shift`: 0, 21, 22, 27.
pub host_shift_numbers : (plan table run speeds rows numbers : List ℕ)
    → is_one_of (done_number ∷ unsound ∷ too_many_speeds ∷ buffer_too_short ∷ []) (shift_call plan table run speeds rows numbers).number ≡ true
unfolding shift_call
host_shift_numbers plan table run speeds rows numbers = by (short_plan plan || short_run run) (not (marks_hold run))
  where
    three : List ℕ
    three = unsound ∷ too_many_speeds ∷ buffer_too_short ∷ []

    shift : ShiftEffect
    shift = shifted (plan_of plan) table (run_of run) speeds rows numbers

    by : (b c : Bool)
        → is_one_of (done_number ∷ three)
        (cond b (record { number = buffer_too_short; run = run; rows = rows; numbers = numbers })
        (cond c (record { number = unsound; run = run; rows = rows; numbers = numbers }) (shift_words shift run))).number
        ≡ true
    by true c = refl
    by false true = refl
    by false false = report_one three shift.answer (shift_numbers (plan_of plan) table (run_of run) speeds rows numbers)

-- `gateway_end`: 0, 21, 22, 25, 26.
pub host_end_numbers : (plan run : List ℕ) (position : ℕ)
    → is_one_of (done_number ∷ unsound ∷ no_such_job ∷ cannot_end ∷ buffer_too_short ∷ []) (end_call plan run position).number ≡ true
unfolding end_call
host_end_numbers plan run position = by (short_plan plan || short_run run) (not (marks_hold run))
  where
    numbers : List ℕ
    numbers = unsound ∷ no_such_job ∷ cannot_end ∷ buffer_too_short ∷ []

    word : WordEffect
    word = told_ended (plan_of plan) (run_of run) position

    longer : (x : ℕ) → is_one_of (unsound ∷ no_such_job ∷ cannot_end ∷ []) x ≡ true → is_one_of numbers x ≡ true
    longer x h = go (eqb x unsound) (eqb x no_such_job) (eqb x cannot_end) (eqb x buffer_too_short) h
      where
        go : (a b c d : Bool) → (a || (b || (c || false))) ≡ true → (a || (b || (c || (d || false)))) ≡ true
        go true b c d h = refl
        go false true c d h = refl
        go false false true d h = refl
        go false false false d h = absurd (false≢true h)

    by : (b c : Bool)
        → is_one_of (done_number ∷ numbers)
        (cond b (record { number = buffer_too_short; run = run }) (cond c (record { number = unsound; run = run }) (told_words word run))).number
        ≡ true
    by true c = refl
    by false true = refl
    by false false = report_one numbers word.answer (λ n rest e. longer n (end_numbers (plan_of plan) (run_of run) position n rest e))

-- A refused `gateway_end` leaves the lent run as it was, word for word.
pub host_end_leaves : (plan run : List ℕ) (position : ℕ) → (end_call plan run position).number ≢ done_number → (end_call plan run position).run ≡ run
unfolding end_call
host_end_leaves plan run position = by (short_plan plan || short_run run) (not (marks_hold run)) refl
  where
    word : WordEffect
    word = told_ended (plan_of plan) (run_of run) position

    left : Bool → Bool → HostEndEffect
    left b c = cond b (record { number = buffer_too_short; run = run }) (cond c (record { number = unsound; run = run }) (told_words word run))

    by_answer : marks_hold run ≡ true → (a : Report) → word.answer ≡ a → number_of a ≢ done_number → run_put run word.run ≡ run
    by_answer m [] e busy = absurd (busy refl)
    by_answer m (n ∷ rest) e busy =
        ap (run_put run) (refused_word_changes_nothing (plan_of plan) (run_of run) position n rest e) ∙ run_again run m

    by : (b c : Bool) → not (marks_hold run) ≡ c → (left b c).number ≢ done_number → (left b c).run ≡ run
    by true c m busy = refl
    by false true m busy = refl
    by false false m busy = by_answer (not-false (marks_hold run) m) word.answer refl busy

-- `gateway_read`: 22 leaves the table unchanged; any other refusal leaves zeros in its own
-- places, and the words of a plan of zeros.
pub host_read_22_leaves : (file plan table : List ℕ) (was : ℕ) → (read_call file plan table was).number ≡ buffer_too_short → (read_call file plan table was).table ≡ table
unfolding read_call
host_read_22_leaves file plan table was = by (short_plan plan)
  where
    left : Bool → HostReadEffect
    left b = cond b (record { number = buffer_too_short; plan = plan; table = table; offset = was }) (read_words (reader file table) plan)

    by_answer : (r : Report) → (reader file table).answer ≡ r → number_of r ≡ buffer_too_short → (reader file table).table ≡ table
    by_answer [] e n = absurd (omega (arith, n))
    by_answer (number ∷ rest) e n = (reader_22_leaves file table rest (e ∙ ap (λ x. x ∷ rest) n)).0

    by : (b : Bool) → (left b).number ≡ buffer_too_short → (left b).table ≡ table
    by true n = refl
    by false n = by_answer (reader file table).answer refl n

pub host_read_other_leaves : (file plan table : List ℕ) (was : ℕ) → (read_call file plan table was).number ≢ done_number → (read_call file plan table was).number ≢ buffer_too_short
    → ((read_call file plan table was).table ≡ replicate places 0 ++ drop places table) × ((read_call file plan table was).plan ≡ plan_put plan no_plan)
unfolding read_call
host_read_other_leaves file plan table was = by (short_plan plan)
  where
    left : Bool → HostReadEffect
    left b = cond b (record { number = buffer_too_short; plan = plan; table = table; offset = was }) (read_words (reader file table) plan)

    by_answer : (r : Report) → (reader file table).answer ≡ r → number_of r ≢ done_number → number_of r ≢ buffer_too_short
        → ((reader file table).table ≡ replicate places 0 ++ drop places table) × (plan_put plan (reader file table).plan ≡ plan_put plan no_plan)
    by_answer [] e busy other = absurd (busy refl)
    by_answer (number ∷ rest) e busy other =
        let l = reader_other_leaves file table number rest e other in
        (l.0, ap (plan_put plan) l.1)

    by : (b : Bool) → (left b).number ≢ done_number → (left b).number ≢ buffer_too_short
        → ((left b).table ≡ replicate places 0 ++ drop places table) × ((left b).plan ≡ plan_put plan no_plan)
    by true busy other = absurd (other refl)
    by false busy other = by_answer (reader file table).answer refl busy other

-- `gateway_write`: a refusal leaves the output unchanged.
pub host_write_leaves : (plan table out : List ℕ) (was : ℕ) → (write_call plan table out was).number ≢ done_number
    → (write_call plan table out was).out ≡ out
unfolding write_call
host_write_leaves plan table out was = by (short_plan plan)
  where
    left : Bool → HostWriteEffect
    left b = cond b (record { number = buffer_too_short; length = was; out = out }) (wrote_words (writer (plan_of plan) table out))

    by_answer : (a : writing.Answer) → (writer (plan_of plan) table out).answer ≡ a → written_number a ≢ done_number → (writer (plan_of plan) table out).out ≡ out
    by_answer (writing.wrote n) e busy = absurd (busy refl)
    by_answer (writing.refused number) e busy = writer_refused_leaves (plan_of plan) table out number e

    by : (b : Bool) → (left b).number ≢ done_number → (left b).out ≡ out
    by true busy = refl
    by false busy = by_answer (writer (plan_of plan) table out).answer refl busy

-- `gateway_start`: a refusal leaves the run's words unchanged. (`refused_step_stays` of gateway
-- says the same of `gateway_step`, and of the grants.)
pub host_start_leaves : (plan table run location : List ℕ) → (start_call plan table run location).number ≢ done_number → (start_call plan table run location).run ≡ run
unfolding start_call
host_start_leaves plan table run location = by (short_plan plan || short_run run || short_location location) (judged (plan_of plan) table)
  where
    left : Bool → Report → HostStartEffect
    left b r =
        cond b (record { number = buffer_too_short; run = run; location = location })
        (record { number = number_of r; run = start_words r (plan_of plan) run; location = located r location })

    by : (b : Bool) (r : Report) → (left b r).number ≢ done_number → (left b r).run ≡ run
    by true r busy = refl
    by false [] busy = absurd (busy refl)
    by false (number ∷ rest) busy = refl

-- Words that encode the same plan, if there are enough of them, get
-- the same from every call that takes a plan.
module _ (plan table other_plan other : List ℕ) (same : Same (plan_of plan) table (plan_of other_plan) other) (long : plan_words ≤ length plan)
    (other_long : plan_words ≤ length other_plan) where
  both : short_plan plan ≡ short_plan other_plan
  both = le-ltb (length plan) plan_words long ∙ sym (le-ltb (length other_plan) plan_words other_long)

  verdict : judged (plan_of plan) table ≡ judged (plan_of other_plan) other
  verdict = same_verdict (plan_of plan) table (plan_of other_plan) other same

  pub same_host_judge : (location : List ℕ) → judge_call plan table location ≡ judge_call other_plan other location
  unfolding judge_call
  same_host_judge location = rw (both, verdict) refl

  pub same_host_slack : (was : ℤ) (location : List ℕ) → slack_call plan table was location ≡ slack_call other_plan other was location
  unfolding slack_call
  same_host_slack was location = rw (both, same_slack (plan_of plan) table (plan_of other_plan) other same) refl

  pub same_host_start : (run location : List ℕ) → start_call plan table run location ≡ start_call other_plan other run location
  unfolding start_call
  same_host_start run location = rw (both, verdict, starts (judged (plan_of other_plan) other)) refl
    where
      starts : (r : Report) → start_words r (plan_of plan) run ≡ start_words r (plan_of other_plan) run
      starts [] = ap (run_put run) (started_same (plan_of plan) table (plan_of other_plan) other same)
      starts (number ∷ places) = refl

  pub same_host_step : (run : List ℕ) (v : ℕ) (grants : List ℕ) → step_call plan table run v grants ≡ step_call other_plan other run v grants
  unfolding step_call
  same_host_step run v grants = rw (both, same_slot (plan_of plan) table (plan_of other_plan) other same (run_of run) v grants) refl

  pub same_host_shift : (run speeds rows numbers : List ℕ) → shift_call plan table run speeds rows numbers ≡ shift_call other_plan other run speeds rows numbers
  unfolding shift_call
  same_host_shift run speeds rows numbers = rw (both, same_shift (plan_of plan) table (plan_of other_plan) other same (run_of run) speeds rows numbers) refl

  pub same_host_outcome : (run : List ℕ) (position : ℕ) → outcome_call plan run position ≡ outcome_call other_plan run position
  unfolding outcome_call
  same_host_outcome run position = rw (both, same_outcome (plan_of plan) table (plan_of other_plan) other same (run_of run) position) refl

  pub same_host_end : (run : List ℕ) (position : ℕ) → end_call plan run position ≡ end_call other_plan run position
  unfolding end_call
  same_host_end run position = rw (both, same_word (plan_of plan) table (plan_of other_plan) other same (run_of run) position) refl

  pub same_host_write : (out : List ℕ) (was : ℕ) → write_call plan table out was ≡ write_call other_plan other out was
  unfolding write_call
  same_host_write out was = rw (both, same_written (plan_of plan) table (plan_of other_plan) other same out) refl

-- Two lists of words for plan E encode the same plan.
abbrev words_e : List ℕ
words_e = plan_out plan_e

abbrev else_words : List ℕ
else_words = plan_out else_e ++ (9 ∷ [])

words_same : Same (plan_of words_e) table_e (plan_of else_words) else_table
unfolding jobs_to plan_in plan_of jobs_out plan_out
words_same = same_e

same_host_step_e : (run : List ℕ) → step_call words_e table_e run 2 (7 ∷ 7 ∷ []) ≡ step_call else_words else_table run 2 (7 ∷ 7 ∷ [])
unfolding plan_out jobs_out
same_host_step_e run = same_host_step words_e table_e else_words else_table words_same (lit≤ tt) (lit≤ tt) run 2 (7 ∷ 7 ∷ [])

-- Instances that meet the premises of what refusals leave: an empty file, a table of one place, no
-- words for a plan, no words for a location, and plan E at speed 3.
empty_file_host_leaves : ((read_call [] words_e (replicate places 7) 9).table ≡ replicate places 0) × ((read_call [] words_e (replicate places 7) 9).plan ≡ plan_put words_e no_plan)
unfolding field version opening head preamble plan_file reader read_call jobs_out plan_out
empty_file_host_leaves = host_read_other_leaves [] words_e (replicate places 7) 9 (λ e. absurd (omega (arith, e))) (λ e. absurd (omega (arith, e)))

short_table_host_stays : (read_call [] words_e (7 ∷ []) 9).table ≡ 7 ∷ []
unfolding reader read_call jobs_out plan_out
short_table_host_stays = host_read_22_leaves [] words_e (7 ∷ []) 9 refl

no_room_host_stays : ((write_call [] table_e (7 ∷ []) 5).out ≡ 7 ∷ []) × ((write_call [] table_e (7 ∷ []) 5).length ≡ 5)
unfolding write_call
no_room_host_stays = (host_write_leaves [] table_e (7 ∷ []) 5 (λ e. absurd (omega (arith, e))), refl)

no_location_host_stays : (start_call words_e table_e (7 ∷ []) []).run ≡ 7 ∷ []
unfolding start_call jobs_out plan_out
no_location_host_stays = host_start_leaves words_e table_e (7 ∷ []) [] (λ e. absurd (omega (arith, e)))

too_fast_host_stays : ((step_call words_e table_e (run_out (started plan_e)) 3 (7 ∷ 7 ∷ [])).run ≡ run_out (started plan_e))
    × ((step_call words_e table_e (run_out (started plan_e)) 3 (7 ∷ 7 ∷ [])).grants ≡ 7 ∷ 7 ∷ [])
unfolding table_of Below.every Below.least Below.greatest grades_hold bounds_hold started slot_sound slot_fault stepped jobs_to plan_in plan_of jobs_out plan_out run_in run_of run_out are_marks marks_hold step_call
too_fast_host_stays =
    refused_step_stays words_e table_e (run_out (started plan_e)) 3 (7 ∷ 7 ∷ []) (λ e. let z : ◌≡◌ {A = ℕ} speed_above_normal done_number = e in absurd (omega arith))
