-- Demand 1, for every public call: its contract, the predicate in its `ensures`, determines the
-- result and the content of each lent buffer, and can be met for every input.
use mathlib.Core.Path.{◌≡◌, refl, sym, ◌∙◌, ap}
use mathlib.Core.Bool.{Bool, true, false, not, cond, ◌||◌}
use mathlib.Core.List.{List, [], ◌∷◌, ◌++◌}
use mathlib.Core.Logic.{⊎_elim}
use Prim.Native.Nat.{ℕ, zero, suc, ◌-◌, ◌≤◌, ◌<◌, ◌^◌, min}
use native.Mathlib.Omega.{arith}
use lib.Dec.{ltb, eqb}
use lib.IntN.{ℤ}
use lib.ListN.{length, get_or, drop}
use Rattle.std.specs.Prelude.{map, Option, None, Some, Result, Ok, Err}
use Rattle.std.specs.Result.{result_unwrap_or}
use Rattle.plan.specs.Edition.{most_jobs, most_speeds, places}
use Rattle.plan.specs.Versions.{rows_allowed_in}
use Rattle.plan.specs.Refusal.{number_of, HasNumber, too_many_rows, row_without_interval, row_without_units, clock_at_end, speed_above_normal, unsound, buffer_too_short, no_such_job, cannot_end, too_many_speeds}
use Rattle.plan.specs.Rules.{release, deadline, counted}
use Rattle.plan.specs.Boundaries.{insert, boundaries_to, boundaries, come, present, last_slot, last_deadline}
use Rattle.plan.specs.Columns.{sizes_fit, columns_over, PutsColumns, TellsBegun}
use Rattle.plan.specs.declared.columns.Columns.{Columns}
use Rattle.plan.specs.declared.refusal.Reason.{Reason}
use Rattle.plan.specs.declared.refusal.Reason.TheVariants as reason
use Rattle.plan.specs.declared.refusal.Refusal.{Refusal}
use Rattle.plan.proofs.Reasons.{number_one, number_some}
use Rattle.plan.proofs.BoundaryCount.{come_few}
use Rattle.plan.proofs.BoundaryOrder.{boundaries_ext, boundaries_few}
use Rattle.plan.proofs.PresentInterval.{Occurs, insert_origin, all_come}
use Rattle.plan.specs.declared.kinds.Job.{Job}
use Rattle.plan.specs.declared.kinds.Name.{Name}
use Rattle.plan.specs.declared.kinds.Plan.{Plan}
use Rattle.plan.specs.declared.kinds.Slots.{Slots}
use Rattle.fields.specs.Parsers as rule
use Rattle.fields.specs.Parsers.{Parsed, got, no, checked, record_length, opening, ended}
use Rattle.planfields.specs.Records as records
use Rattle.planfields.specs.Records.{Head, one_job}
use Rattle.fields.specs.Answers.{field_view, is_compared, ReadsField, ReadsLength, ReadsOpening, ReadsEnd}
use Rattle.planfields.specs.Answers.{head_of, ReadsHead, ReadsJob, ReadsRowCount, ReadsInterval, ReadsUnits}
use Rattle.fields.specs.declared.field.Parsed as code
use Rattle.fields.specs.declared.opening.LengthRule.{LengthRule}
use Rattle.planfields.specs.declared.head.Head as code_head
use Rattle.fields.proofs.ByteLaws.{Octets}
use Rattle.fields.proofs.Injective.{parsed_one, parsed_some, fields_one, field_some, passed_one, passed_some}
use Rattle.fields.proofs.Only.{Only}
use Rattle.fields.proofs.ParserLaws.{checked_is}
use Rattle.fields.proofs.OpeningLaws.{opening_version}
use Rattle.planfile.specs.Reader.{reader, name_shown}
use Rattle.planfile.specs.Answers as reading
use Rattle.planfile.specs.Answers.{Reads, Shows}
use Rattle.planfile.specs.declared.reader.ReadFault.{ReadFault}
use Rattle.planfile.specs.declared.reader.ReadFault.TheVariants as read_fault
use Rattle.planfile.proofs.Injective.{read_view_injective, reading_some}
use Rattle.planwriter.specs.Writing as writing
use Rattle.planwriter.specs.Writing.{writer}
use Rattle.planwriter.specs.Answers.{Writes}
use Rattle.planwriter.proofs.Injective.{write_view_injective}
use Rattle.fields.proofs.BytesAt.{field_again}
use Rattle.judge.specs.Verdict.{hand_fault, constraint_fault, floor_fault, judged}
use Rattle.plan.specs.Report as report
use Rattle.plan.specs.Report.{Report, or_else, fault, is_one_of}
use Rattle.judge.specs.Slack.{Figure, none_essential, least, refused, slack_of, least_slack, unless, slack_figure}
use Rattle.judge.specs.Answers.{report_of, verdict_view, slack_view, Judges, Measures, MeasuresPair}
use Rattle.judge.specs.Decided.{Decided, short, bad, outside, wrong, over, below, accepted}
use Rattle.judge.specs.declared.answers.Least.{Least}
use Rattle.judge.specs.declared.answers.Fault.{Fault}
use Rattle.judge.specs.declared.answers.Fault.TheVariants.{BufferTooShort, Unsound, OutsideWindow, WrongTotal, OverCapacity, BelowFloor}
use Rattle.judge.proofs.Injective.{verdict_view_injective, slack_view_injective}
use Rattle.judge.proofs.LeastSlack.{first_of_all}
use Rattle.judge.proofs.FirstLocation.{every_place_is_the_first}
use Rattle.dispatch.specs.Step as step
use Rattle.dispatch.specs.Step.{SlotEffect, WordEffect, Ending, is_open, end_fault, told_ended, started, no_run, start_from, start_in, slot_sound, slot_fault, stepped, outcome}
use Rattle.dispatch.specs.Shift.{ShiftEffect, row_start, shift_fault, shifted}
use Rattle.dispatch.specs.Answers as slot
use Rattle.dispatch.specs.Answers.{outcome_view, run_at, Starts, Steps, StepsOver, Shifts, ShiftsOver, Ends, EndsOver, Tells, TellsOver}
use Rattle.dispatch.specs.Inner.Columns.{plan_on}
use Rattle.dispatch.specs.declared.Run.{Run}
use Rattle.dispatch.specs.declared.Moment.{Moment}
use Rattle.dispatch.specs.declared.answers.Outcome.{Outcome}
use Rattle.dispatch.specs.declared.answers.Outcome.TheVariants as ends
use Rattle.dispatch.proofs.StartEffect.{fault_stays}
use Rattle.dispatch.proofs.Alike.{alike_slot, alike_outcome, alike_told}
use Rattle.dispatch.proofs.SlotLimits.{slot_answer, refused_changes_nothing}
use Rattle.dispatch.proofs.ShiftLimits.{shift_keeps, shift_answer, refused_shift_changes_nothing}
use Rattle.dispatch.proofs.SlotsInTurn.{alike_shift}
use Rattle.dispatch.proofs.WordLimits.{word_answer, refused_word_changes_nothing, slot_keeps_ended}
use Rattle.hostmemory.specs.Memory.{moment_of}
use Rattle.dispatch.proofs.ColumnPlan.{own_columns, columns_alike}
use Rattle.dispatch.proofs.Injective.{answer_view_injective, outcome_view_injective}
use Rattle.lentrun.specs.Answers.{StepsIn, ShiftsIn, StartsIn, TellsIn}
use Rattle.lines.specs.Answers as line
use Rattle.lines.specs.Answers.{Prints, PrintsBy, PrintsOutcome, printed, outcome_printed}
use Rattle.lines.proofs.Injective.{printed_by_injective}
use Rattle.program.specs.Turns.{Turned, opened, Takes, Opens}
use Rattle.program.specs.declared.Turn.{Turn}
use Rattle.promises.proofs.Cases.{file_e}
use Rattle.promises.proofs.Demand2.{octets_e}
use Rattle.promises.proofs.RefusalNumbers.{file_reasons, file_numbers, file_only, field_only, checked_only, opening_only, head_only, length_only, job_only, end_only, writer_numbers, outcome_numbers}

-- The effect of a line's call determines its result and buffer, and each line's printing has a result: whatever tells a
-- refusal, if different ones have different numbers and one has the number 22.
outputs_one : {E : Type 0} (number : E → ℕ) → ((x y : E) → number x ≡ number y → x ≡ y) → (r s : Result ℕ E) (left other : List ℕ)
    → ◌≡◌ {A = line.PrintEffect} (record { answer = line.printed_by number r; out = left }) (record { answer = line.printed_by number s; out = other })
    → (r ≡ s) × (left ≡ other)
outputs_one number one r s left other e =
    (printed_by_injective number one r s (ap (λ (o : line.PrintEffect). o.answer) e), ap (λ (o : line.PrintEffect). o.out) e)

output_some : {E : Type 0} (number : E → ℕ) (no_room : E) → number no_room ≡ buffer_too_short → (text out : List ℕ)
    → (r : Result ℕ E) × (left : List ℕ) × PrintsBy number text out r left
unfolding printed
output_some {E} number no_room is text out = by (ltb (length out) (length text))
  where
    by : (b : Bool)
        → (r : Result ℕ E) × (left : List ℕ)
        × (record { answer = line.printed_by number r; out = left }
        ≡ cond b (line.refusal buffer_too_short out) (record { answer = line.wrote (length text); out = text ++ drop (length text) out }))
    by true = (Err no_room, out, ap (λ n. line.refusal n out) is)
    by false = (Ok (length text), text ++ drop (length text) out, refl)

-- `planfile::reader::read`.
pub one_reading_lem : (file table : List ℕ) (r s : Result Plan ReadFault) (left other : List ℕ) → Reads file table r left → Reads file table s other
    → (r ≡ s) × (left ≡ other)
one_reading_lem file table r s left other d e = read_view_injective r s left other (d ∙ sym e)

pub some_reading : (file table : List ℕ) → (r : Result Plan ReadFault) × (left : List ℕ) × Reads file table r left
some_reading file table = reading_some file_reasons file table (file_only file)

-- `planfile::lookup::name_of`.
pub one_name : (file : List ℕ) (position : ℕ) (part other : List ℕ) → Shows file position part → Shows file position other → part ≡ other
one_name file position part other d e = d ∙ sym e

pub some_name : (file : List ℕ) (position : ℕ) → (part : List ℕ) × Shows file position part
some_name file position = (name_shown file position, refl)

-- `planwriter::writer::write`.
pub one_writing : (p : Plan) (table out : List ℕ) (r s : Result ℕ Reason) (left other : List ℕ) → Writes p table out r left
    → Writes p table out s other → (r ≡ s) × (left ≡ other)
one_writing p table out r s left other d e = write_view_injective r s left other (d ∙ sym e)

pub some_writing : (p : Plan) (table out : List ℕ) → (r : Result ℕ Reason) × (left : List ℕ) × Writes p table out r left
some_writing p table out = by (writer p table out).answer refl
  where
    by : (a : writing.Answer) → (writer p table out).answer ≡ a → (r : Result ℕ Reason) × (left : List ℕ) × Writes p table out r left
    by (writing.wrote n) e = (Ok n, (writer p table out).out, λ i. record { answer = sym e i; out = (writer p table out).out })
    by (writing.refused n) e =
        let s = number_some (reason.Unsound ∷ reason.BufferTooShort ∷ []) n (writer_numbers p table out n e) in
        (Err s.0, (writer p table out).out, λ i. record { answer = (ap writing.refused s.1 ∙ sym e) i; out = (writer p table out).out })

-- `judge::judge`.
pub one_verdict : (p : Plan) (table : List ℕ) (r s : Result (Unit {0}) Fault) → Judges p table r → Judges p table s → r ≡ s
one_verdict p table r s d e = verdict_view_injective r s (d ∙ sym e)

pub some_verdict : (p : Plan) (table : List ℕ) → (r : Result (Unit {0}) Fault) × Judges p table r
some_verdict p table = by (judged p table) (every_place_is_the_first p table)
  where
    by : (l : Report) → Decided p table l → (r : Result (Unit {0}) Fault) × (verdict_view r ≡ l)
    by _ (short _) = (Err BufferTooShort, refl)
    by _ (bad _ _) = (Err Unsound, refl)
    by _ (outside _ i j _ _ _ _ _) = (Err (OutsideWindow i j), refl)
    by _ (wrong _ _ i _ _ _) = (Err (WrongTotal i), refl)
    by _ (over _ _ _ j _ _ _) = (Err (OverCapacity j), refl)
    by _ (below _ _ _ _ l m _ _ _ _ _ _) = (Err (BelowFloor l (record { 0 = _ })), refl)
    by _ (accepted _ _ _ _ _) = (Ok tt, refl)

-- A verdict whose view is a refusal is a fault.
fault_of : (r : Result (Unit {0}) Fault) (number : ℕ) (place : Report) → verdict_view r ≡ number ∷ place → (f : Fault) × (report_of f ≡ number ∷ place)
fault_of (Ok done) number place e = absurd (let z : ◌≡◌ {A = ℕ} 0 1 = cc in omega arith)
fault_of (Err f) number place e = (f, e)

-- `judge::figure::slack`.
pub one_figure : (p : Plan) (table : List ℕ) (r s : Result (Option Least) Fault) → Measures p table r → Measures p table s → r ≡ s
one_figure p table r s d e = slack_view_injective r s (d ∙ sym e)

pub some_figure : (p : Plan) (table : List ℕ) → (r : Result (Option Least) Fault) × Measures p table r
unfolding judged slack_figure
some_figure p table = by (or_else (hand_fault p table) (constraint_fault p table)) refl
  where
    whole : (a b c : Report) → or_else a (or_else b c) ≡ or_else (or_else a b) c
    whole [] b c = refl
    whole (number ∷ rest) b c = refl

    never : {A : Type 0} (l : Report) → least_slack p table ≡ refused l → A
    never l e = absurd (rw e at (first_of_all p table).reached)

    measured : (f : Figure) → least_slack p table ≡ f → (r : Result (Option Least) Fault) × (slack_view r ≡ f)
    measured none_essential e = (Ok None, refl)
    measured (least s l D) e = (Ok (Some (record { slack = s; interval = l; deadline = record { 0 = D } })), refl)
    measured (refused l) e = never l e

    by : (l : Report) → or_else (hand_fault p table) (constraint_fault p table) ≡ l → (r : Result (Option Least) Fault) × (slack_view r ≡ unless l (least_slack p table))
    by [] e = measured (least_slack p table) refl
    by (number ∷ rest) e =
        let v = some_verdict p table in
        let f = fault_of v.0 number rest (v.1 ∙ whole (hand_fault p table) (constraint_fault p table) (floor_fault p table) ∙ ap (λ l. or_else l (floor_fault p table)) e) in
        (Err f.0, ap refused f.1)

-- `judge::figure::slack_of`.
pub one_slack : (p : Plan) (table : List ℕ) (interval : ℕ) (deadline : Slots) (r s : ℤ) → MeasuresPair p table interval deadline r
    → MeasuresPair p table interval deadline s → r ≡ s
one_slack p table interval deadline r s d e = d ∙ sym e

pub some_slack : (p : Plan) (table : List ℕ) (interval : ℕ) (deadline : Slots) → (r : ℤ) × MeasuresPair p table interval deadline r
some_slack p table interval deadline = (slack_of p table interval deadline.0, refl)

-- `dispatch::start::start`.
pub one_start : (p : Plan) (table : List ℕ) (r s : Result Run Fault) → Starts p table r → Starts p table s → r ≡ s
one_start p table r s d e = by r s (d.0 ∙ sym e.0) (d.1 ∙ sym e.1)
  where
    by : (r s : Result Run Fault) → verdict_view r ≡ verdict_view s → result_unwrap_or r no_run ≡ result_unwrap_or s no_run → r ≡ s
    by (Ok a) (Ok b) view run = ap Ok run
    by (Ok a) (Err g) view run = let z = verdict_view_injective (Ok tt) (Err g) view in absurd (let z : ◌≡◌ {A = ℕ} 0 1 = cc in omega arith)
    by (Err f) (Ok b) view run = let z = verdict_view_injective (Err f) (Ok tt) view in absurd (let z : ◌≡◌ {A = ℕ} 0 1 = cc in omega arith)
    by (Err f) (Err g) view run = let same = verdict_view_injective (Err f) (Err g) view in ap Err (cc)

pub some_start : (p : Plan) (table : List ℕ) → (r : Result Run Fault) × Starts p table r
some_start p table = by (some_verdict p table).0 (some_verdict p table).1
  where
    by : (v : Result (Unit {0}) Fault) → verdict_view v ≡ judged p table → (r : Result Run Fault) × Starts p table r
    by (Ok done) e = (Ok (started p), (e, ap (λ l. start_from l (started p) no_run) e))
    by (Err f) e = (Err f, (e, sym (fault_stays f (started p) no_run) ∙ ap (λ l. start_from l (started p) no_run) e))

-- `dispatch::step::step`.
pub one_step : (p : Plan) (table : List ℕ) (run : Run) (v : ℕ) (grants : List ℕ) (r s : Result Run Reason) (left other : List ℕ)
    → Steps p table run v grants r left → Steps p table run v grants s other → (r ≡ s) × (left ≡ other)
one_step p table run v grants r s left other d e =
    let same = d ∙ sym e in
    (answer_view_injective run r s (ap (λ (x : SlotEffect). x.answer) same) (ap (λ (x : SlotEffect). x.run) same), ap (λ (x : SlotEffect). x.grants) same)

-- An answer that tells what is left, where a refusal leaves what went in.
telling_left : {A : Type 0} (was left : A) (report : Report) (a : Result (Unit {0}) Reason) → slot.answer_view a ≡ report
    → ((number : ℕ) (rest : Report) → report ≡ number ∷ rest → left ≡ was)
    → (r : Result A Reason) × (slot.answer_view r ≡ report) × (result_unwrap_or r was ≡ left)
telling_left was left report (Ok done) e stays = (Ok left, e, refl)
telling_left was left report (Err k) e stays = (Err k, e, sym (stays (number_of k) [] (sym e)))

-- The report of a slot's call is the view of an answer.
one_number : (p : Plan) (table : List ℕ) (run : Run) (v : ℕ) (grants : List ℕ)
    → (a : Result (Unit {0}) Reason) × (slot.answer_view a ≡ (stepped p table run v grants).answer)
unfolding slot_fault
one_number p table run v grants =
    let a = by (not (slot_sound p run)) (ltb (length table) places || ltb (length grants) (counted p)) (eqb run.clock.0 (last_deadline p)) (ltb p.n.0 v) in
    (a.0, a.1 ∙ sym (slot_answer p table run v grants))
  where
    by : (a b c d : Bool)
        → (r : Result (Unit {0}) Reason)
        × (slot.answer_view r
        ≡ or_else (fault a (unsound ∷ []))
        (or_else (fault b (buffer_too_short ∷ [])) (or_else (fault c (clock_at_end ∷ [])) (fault d (speed_above_normal ∷ [])))))
    by true b c d = (Err reason.Unsound, refl)
    by false true c d = (Err reason.BufferTooShort, refl)
    by false false true d = (Err reason.ClockAtEnd, refl)
    by false false false true = (Err reason.SpeedAboveNormal, refl)
    by false false false false = (Ok tt, refl)

pub some_step : (p : Plan) (table : List ℕ) (run : Run) (v : ℕ) (grants : List ℕ)
    → (r : Result Run Reason) × (left : List ℕ) × Steps p table run v grants r left
some_step p table run v grants =
    let s = stepped p table run v grants in
    let a = one_number p table run v grants in
    let r = telling_left run s.run s.answer a.0 a.1 (λ number rest e. (refused_changes_nothing p table run v grants number rest e).0) in
    (r.0, s.grants, λ i. record { answer = r.1 i; run = r.2 i; grants = s.grants })

-- Answers that tell nothing but the refusal are told by their views.
answered_one : (r s : Result (Unit {0}) Reason) → slot.answer_view r ≡ slot.answer_view s → r ≡ s
answered_one r s e = answer_view_injective tt r s e refl

-- `lentrun::step_in`.
pub one_step_in : (run : Run) (p : Plan) (table : List ℕ) (v : ℕ) (grants : List ℕ) (r s : Result (Unit {0}) Reason) (after later : Run) (left other : List ℕ)
    → StepsIn run p table v grants r after left → StepsIn run p table v grants s later other → (r ≡ s) × (after ≡ later) × (left ≡ other)
one_step_in run p table v grants r s after later left other d e =
    let same = d ∙ sym e in
    (answered_one r s (ap (λ (x : SlotEffect). x.answer) same), ap (λ (x : SlotEffect). x.run) same, ap (λ (x : SlotEffect). x.grants) same)

pub some_step_in : (run : Run) (p : Plan) (table : List ℕ) (v : ℕ) (grants : List ℕ)
    → (r : Result (Unit {0}) Reason) × (after : Run) × (left : List ℕ) × StepsIn run p table v grants r after left
some_step_in run p table v grants =
    let s = stepped p table run v grants in
    let a = one_number p table run v grants in
    (a.0, s.run, s.grants, λ i. record { answer = a.1 i; run = s.run; grants = s.grants })

-- `lentrun::start_in`.
pub one_start_in : (was : Run) (p : Plan) (table : List ℕ) (r s : Result (Unit {0}) Fault) (after later : Run) → StartsIn was p table r after
    → StartsIn was p table s later → (r ≡ s) × (after ≡ later)
one_start_in was p table r s after later d e = (verdict_view_injective r s (d.0 ∙ sym e.0), d.1 ∙ sym e.1)

pub some_start_in : (was : Run) (p : Plan) (table : List ℕ) → (r : Result (Unit {0}) Fault) × (after : Run) × StartsIn was p table r after
some_start_in was p table = let v = some_verdict p table in (v.0, start_in p table was, (v.1, refl))

-- `dispatch::outcome::outcome`.
pub one_outcome : (p : Plan) (run : Run) (position : ℕ) (r s : Result Outcome Reason) → Ends p run position r → Ends p run position s → r ≡ s
one_outcome p run position r s d e = outcome_view_injective r s (d ∙ sym e)

pub some_outcome : (p : Plan) (run : Run) (position : ℕ) → (r : Result Outcome Reason) × Ends p run position r
some_outcome p run position = by (outcome p run position) refl
  where
    by : (e : Ending) → outcome p run position ≡ e → (r : Result Outcome Reason) × (outcome_view r ≡ e)
    by step.met e = (Ok ends.Met, refl)
    by step.ended_early e = (Ok ends.Ended, refl)
    by step.discarded e = (Ok ends.Discarded, refl)
    by step.missed e = (Ok ends.Missed, refl)
    by step.still_open e = (Ok ends.Open, refl)
    by (step.refused number) e = (Err reason.Unsound, ap step.refused (sym (outcome_numbers p run position number e)))

-- `dispatch::step::slot_over`: the promise holds for every plan with the columns, and there is one.
pub one_slot_over : (cols : Columns) (table : List ℕ) (at : Moment) (v : ℕ) (marks : List Bool) (carried grants : List ℕ) (r s : Result Moment Reason)
    (after later left other : List ℕ) → StepsOver cols table at v marks carried grants r after left
    → StepsOver cols table at v marks carried grants s later other → (r ≡ s) × (after ≡ later) × (left ≡ other)
one_slot_over cols table at v marks carried grants r s after later left other d e =
    let p = plan_on cols in
    let own = own_columns cols in
    let same = d p own ∙ sym (e p own) in
    let runs = ap (λ (x : SlotEffect). x.run) same in (
      answer_view_injective at r s (ap (λ (x : SlotEffect). x.answer) same) (ap moment_of runs),
      ap (λ (x : Run). x.carried) runs,
      ap (λ (x : SlotEffect). x.grants) same,
    )

pub some_slot_over : (cols : Columns) (table : List ℕ) (at : Moment) (v : ℕ) (marks : List Bool) (carried grants : List ℕ)
    → (r : Result Moment Reason) × (after left : List ℕ) × StepsOver cols table at v marks carried grants r after left
some_slot_over cols table at v marks carried grants =
    let p = plan_on cols in
    let run = run_at at carried marks in
    let s = stepped p table run v grants in
    let a = one_number p table run v grants in
    let r = telling_left at (moment_of s.run) s.answer a.0 a.1 (λ number rest e. ap moment_of (refused_changes_nothing p table run v grants number rest e).0) in (
      r.0,
      s.run.carried,
      s.grants,
      λ q has.
          (λ i. record { answer = r.1 i; run = run_at (r.2 i) s.run.carried (sym (slot_keeps_ended p table run v grants) i); grants = s.grants })
          ∙ sym (alike_slot q table p table (columns_alike cols q table has) run v grants),
    )

-- The report of a shift is the view of an answer.
one_shift_number : (p : Plan) (table : List ℕ) (run : Run) (speeds rows numbers : List ℕ)
    → (a : Result (Unit {0}) Reason) × (slot.answer_view a ≡ (shifted p table run speeds rows numbers).answer)
unfolding shift_fault
one_shift_number p table run speeds rows numbers =
    let a = by (not (slot_sound p run)) (ltb most_speeds (length speeds))
    (ltb (length table) places || ltb (length rows) (row_start p (length speeds)) || ltb (length numbers) (length speeds)) in
    (a.0, a.1 ∙ sym (shift_answer p table run speeds rows numbers))
  where
    by : (a b c : Bool)
        → (r : Result (Unit {0}) Reason)
        × (slot.answer_view r ≡ or_else (fault a (unsound ∷ [])) (or_else (fault b (too_many_speeds ∷ [])) (fault c (buffer_too_short ∷ []))))
    by true b c = (Err reason.Unsound, refl)
    by false true c = (Err reason.TooManySpeeds, refl)
    by false false true = (Err reason.BufferTooShort, refl)
    by false false false = (Ok tt, refl)

-- `dispatch::shift::shift`.
pub one_shift : (p : Plan) (table : List ℕ) (run : Run) (speeds rows numbers : List ℕ) (r s : Result Run Reason) (filled other told untold : List ℕ)
    → Shifts p table run speeds rows numbers r filled told → Shifts p table run speeds rows numbers s other untold
    → (r ≡ s) × (filled ≡ other) × (told ≡ untold)
one_shift p table run speeds rows numbers r s filled other told untold d e =
    let same = d ∙ sym e in (
      answer_view_injective run r s (ap (λ (x : ShiftEffect). x.answer) same) (ap (λ (x : ShiftEffect). x.run) same),
      ap (λ (x : ShiftEffect). x.rows) same,
      ap (λ (x : ShiftEffect). x.numbers) same,
    )

pub some_shift : (p : Plan) (table : List ℕ) (run : Run) (speeds rows numbers : List ℕ)
    → (r : Result Run Reason) × (filled told : List ℕ) × Shifts p table run speeds rows numbers r filled told
some_shift p table run speeds rows numbers =
    let s = shifted p table run speeds rows numbers in
    let a = one_shift_number p table run speeds rows numbers in
    let r = telling_left run s.run s.answer a.0 a.1 (λ number rest e. ap (λ (x : ShiftEffect). x.run) (refused_shift_changes_nothing p table run speeds rows numbers number rest e)) in
    (r.0, s.rows, s.numbers, λ i. record { answer = r.1 i; run = r.2 i; rows = s.rows; numbers = s.numbers })

-- `lentrun::shift_in`.
pub one_shift_in : (run : Run) (p : Plan) (table speeds rows numbers : List ℕ) (r s : Result (Unit {0}) Reason) (after later : Run) (filled other told untold : List ℕ)
    → ShiftsIn run p table speeds rows numbers r after filled told → ShiftsIn run p table speeds rows numbers s later other untold
    → (r ≡ s) × (after ≡ later) × (filled ≡ other) × (told ≡ untold)
one_shift_in run p table speeds rows numbers r s after later filled other told untold d e =
    let same = d ∙ sym e in (
      answered_one r s (ap (λ (x : ShiftEffect). x.answer) same),
      ap (λ (x : ShiftEffect). x.run) same,
      ap (λ (x : ShiftEffect). x.rows) same,
      ap (λ (x : ShiftEffect). x.numbers) same,
    )

pub some_shift_in : (run : Run) (p : Plan) (table speeds rows numbers : List ℕ)
    → (r : Result (Unit {0}) Reason) × (after : Run) × (filled told : List ℕ) × ShiftsIn run p table speeds rows numbers r after filled told
some_shift_in run p table speeds rows numbers =
    let s = shifted p table run speeds rows numbers in
    let a = one_shift_number p table run speeds rows numbers in
    (a.0, s.run, s.rows, s.numbers, λ i. record { answer = a.1 i; run = s.run; rows = s.rows; numbers = s.numbers })

-- `dispatch::shift::shift_over`: the promise holds for every plan with the columns, and there is one.
pub one_shift_over : (cols : Columns) (table : List ℕ) (at : Moment) (speeds : List ℕ) (marks : List Bool) (carried rows numbers : List ℕ) (r s : Result Moment Reason)
    (after later filled other told untold : List ℕ) → ShiftsOver cols table at speeds marks carried rows numbers r after filled told
    → ShiftsOver cols table at speeds marks carried rows numbers s later other untold
    → (r ≡ s) × (after ≡ later) × (filled ≡ other) × (told ≡ untold)
one_shift_over cols table at speeds marks carried rows numbers r s after later filled other told untold d e =
    let p = plan_on cols in
    let own = own_columns cols in
    let same = d p own ∙ sym (e p own) in
    let runs = ap (λ (x : ShiftEffect). x.run) same in (
      answer_view_injective at r s (ap (λ (x : ShiftEffect). x.answer) same) (ap moment_of runs),
      ap (λ (x : Run). x.carried) runs,
      ap (λ (x : ShiftEffect). x.rows) same,
      ap (λ (x : ShiftEffect). x.numbers) same,
    )

pub some_shift_over : (cols : Columns) (table : List ℕ) (at : Moment) (speeds : List ℕ) (marks : List Bool) (carried rows numbers : List ℕ)
    → (r : Result Moment Reason) × (after filled told : List ℕ) × ShiftsOver cols table at speeds marks carried rows numbers r after filled told
some_shift_over cols table at speeds marks carried rows numbers =
    let p = plan_on cols in
    let run = run_at at carried marks in
    let s = shifted p table run speeds rows numbers in
    let a = one_shift_number p table run speeds rows numbers in
    let kept : s.run.ended ≡ marks
    = shift_keeps p table (λ r. r.ended ≡ marks) (λ r v grants e. slot_keeps_ended p table r v grants ∙ e) run speeds rows numbers refl in
    let r = telling_left at (moment_of s.run) s.answer a.0 a.1
    (λ number rest e. ap (λ (x : ShiftEffect). moment_of x.run) (refused_shift_changes_nothing p table run speeds rows numbers number rest e)) in (
      r.0,
      s.run.carried,
      s.rows,
      s.numbers,
      λ q has.
          (λ i. record { answer = r.1 i; run = run_at (r.2 i) s.run.carried (sym kept i); rows = s.rows; numbers = s.numbers })
          ∙ sym (alike_shift q table p table (columns_alike cols q table has) run speeds rows numbers),
    )

-- The report of the word that a job has ended is the view of an answer.
one_word_number : (p : Plan) (run : Run) (position : ℕ) → (a : Result (Unit {0}) Reason) × (slot.answer_view a ≡ (told_ended p run position).answer)
unfolding end_fault
one_word_number p run position =
    let a = by (not (slot_sound p run)) (not (ltb position p.count)) (ltb run.clock.0 (release p position) || not (is_open (outcome p run position))) in
    (a.0, a.1 ∙ sym (word_answer p run position))
  where
    by : (a b c : Bool)
        → (r : Result (Unit {0}) Reason)
        × (slot.answer_view r ≡ or_else (fault a (unsound ∷ [])) (or_else (fault b (no_such_job ∷ [])) (fault c (cannot_end ∷ []))))
    by true b c = (Err reason.Unsound, refl)
    by false true c = (Err reason.NoSuchJob, refl)
    by false false true = (Err reason.CannotEnd, refl)
    by false false false = (Ok tt, refl)

-- `dispatch::early::end_early`.
pub one_end_early : (p : Plan) (run : Run) (position : ℕ) (r s : Result Run Reason) → Tells p run position r → Tells p run position s → r ≡ s
one_end_early p run position r s d e =
    let same = d ∙ sym e in
    answer_view_injective run r s (ap (λ (x : WordEffect). x.answer) same) (ap (λ (x : WordEffect). x.run) same)

pub some_end_early : (p : Plan) (run : Run) (position : ℕ) → (r : Result Run Reason) × Tells p run position r
some_end_early p run position =
    let t = told_ended p run position in
    let a = one_word_number p run position in
    let r = telling_left run t.run t.answer a.0 a.1 (refused_word_changes_nothing p run position) in
    (r.0, λ i. record { answer = r.1 i; run = r.2 i })

-- `dispatch::early::end_over`.
pub one_end_over : (cols : Columns) (run : Run) (position : ℕ) (r s : Result Run Reason)
    → TellsOver cols run position r → TellsOver cols run position s → r ≡ s
one_end_over cols run position r s d e =
    let own = own_columns cols in
    one_end_early (plan_on cols) run position r s (d _ own) (e _ own)

pub some_end_over : (cols : Columns) (run : Run) (position : ℕ)
    → (r : Result Run Reason) × TellsOver cols run position r
some_end_over cols run position =
    let p = plan_on cols in
    let one = some_end_early p run position in
    (one.0, λ q has. one.1 ∙ sym (alike_told q [] p [] (columns_alike cols q [] has) run position))

-- `lentrun::end_early_in`.
pub one_end_in : (run : Run) (p : Plan) (position : ℕ) (r s : Result (Unit {0}) Reason) (after later : Run) → TellsIn run p position r after
    → TellsIn run p position s later → (r ≡ s) × (after ≡ later)
one_end_in run p position r s after later d e =
    let same = d ∙ sym e in
    (answered_one r s (ap (λ (x : WordEffect). x.answer) same), ap (λ (x : WordEffect). x.run) same)

pub some_end_in : (run : Run) (p : Plan) (position : ℕ) → (r : Result (Unit {0}) Reason) × (after : Run) × TellsIn run p position r after
some_end_in run p position =
    let t = told_ended p run position in
    let a = one_word_number p run position in
    (a.0, t.run, λ i. record { answer = a.1 i; run = t.run })

-- `dispatch::outcome::outcome_over`.
pub one_outcome_over : (cols : Columns) (run : Run) (position : ℕ) (r s : Result Outcome Reason)
    → EndsOver cols run position r → EndsOver cols run position s → r ≡ s
one_outcome_over cols run position r s d e =
    let own = own_columns cols in
    one_outcome (plan_on cols) run position r s (d _ own) (e _ own)

pub some_outcome_over : (cols : Columns) (run : Run) (position : ℕ)
    → (r : Result Outcome Reason) × EndsOver cols run position r
some_outcome_over cols run position =
    let p = plan_on cols in
    let one = some_outcome p run position in
    (one.0, λ q has. one.1 ∙ sym (alike_outcome q [] p [] (columns_alike cols q [] has) run position))

-- `plan::columns::Columns::put`.
pub one_columns : (p : Plan) (cols : Columns) (r s : Result Unit Reason) (left other : Columns) → PutsColumns p cols r left → PutsColumns p cols s other
    → (r ≡ s) × (left ≡ other)
one_columns p cols r s left other one same = (one.0 ∙ sym same.0, one.1 ∙ sym same.1)

pub some_columns : (p : Plan) (cols : Columns) → (r : Result Unit Reason) × (left : Columns) × PutsColumns p cols r left
some_columns p cols = (cond (sizes_fit p) (Ok tt) (Err reason.Unsound), columns_over p cols, (refl, refl))

-- A plan with given releases and deadlines, made from columns.
abbrev times_columns : (count : ℕ) (releases deadlines : List ℕ) → Columns
times_columns count releases deadlines =
    record { n = record { 0 = 0 }; d = record { 0 = 0 }; count = count; grades = []; releases = releases; sizes = []; deadlines = deadlines }

abbrev times_plan : (count : ℕ) (releases deadlines : List ℕ) → Plan
times_plan count releases deadlines = plan_on (times_columns count releases deadlines)

-- Every boundary is at most a bound of all releases and deadlines.
boundaries_bounded : (p : Plan) (b n : ℕ) → ((i : ℕ) → i < n → release p i ≤ b) → ((i : ℕ) → i < n → deadline p i ≤ b)
    → (y : ℕ) → Occurs y (boundaries_to p n) → y ≤ b
unfolding boundaries_to
boundaries_bounded p b zero early due y w = absurd (omega (arith, w.1))
boundaries_bounded p b (suc n) early due y w =
    ⊎_elim (λ e. omega (arith, due n (omega arith)))
    (λ u.
    ⊎_elim (λ e. omega (arith, early n (omega arith)))
    (boundaries_bounded p b n (λ i h. early i (omega arith)) (λ i h. due i (omega arith)) y)
    (insert_origin y (release p n) (boundaries_to p n) u))
    (insert_origin y (deadline p n) (insert (release p n) (boundaries_to p n)) w)

-- `plan::boundaries::begun_by`. Some number meets the promise if no time is beyond the greatest of the code.
pub one_begun : (count : ℕ) (releases deadlines : List ℕ) (t r s : ℕ) → TellsBegun count releases deadlines t r
    → TellsBegun count releases deadlines t s → r ≡ s
one_begun count releases deadlines t r s d e =
    let p = times_plan count releases deadlines in
    let own = own_columns (times_columns count releases deadlines) in
    (d.1 p refl own.release own.deadline).0 ∙ sym (e.1 p refl own.release own.deadline).0

pub some_begun : (count : ℕ) (releases deadlines : List ℕ) (t : ℕ) → ((i : ℕ) → get_or releases i 0 ≤ last_slot) → ((i : ℕ) → get_or deadlines i 0 ≤ last_slot)
    → (r : ℕ) × TellsBegun count releases deadlines t r
some_begun count releases deadlines t early due =
    let p = times_plan count releases deadlines in
    let own = own_columns (times_columns count releases deadlines) in (
      suc (present p t),
      (
        omega (arith, come_few t (boundaries p), boundaries_few p (counted p)),
        λ q counts released ends.
            let many : counted q ≡ counted p = ap (λ n. min n most_jobs) counts in
            let same : boundaries p ≡ boundaries q =
            ap (boundaries_to p) (sym many)
            ∙ boundaries_ext p q (counted q) (λ i h. sym (own.release i (rw (← many) h)) ∙ released i h) (λ i h. sym (own.deadline i (rw (← many) h)) ∙ ends i h) in
            let now = ap (λ l. suc (come t l - 1)) same in
            (now, λ e. now ∙ ap suc (all_come q t (λ y w. omega (arith, boundaries_bounded q last_slot (counted q) (λ i h. rw (← (released i h)) (early i)) (λ i h. rw (← (ends i h)) (due i)) y w)))),
      ),
    )

-- The lines of `lines`, except the next.
pub one_line : (line out : List ℕ) (r s : Result ℕ Reason) (left other : List ℕ) → Prints line out r left → Prints line out s other
    → (r ≡ s) × (left ≡ other)
one_line line out r s left other d e = outputs_one number_of number_one r s left other (d ∙ sym e)

pub some_line : (line out : List ℕ) → (r : Result ℕ Reason) × (left : List ℕ) × Prints line out r left
some_line line out = output_some number_of reason.BufferTooShort refl line out

-- `lines::outcome_line`, whatever tells a refusal, if different ones have different numbers and one has the number 22.
pub one_outcome_line : {E : Type 0} (number : E → ℕ) → ((x y : E) → number x ≡ number y → x ≡ y)
    → (name : Name) (told : Result Outcome E) (carried : ℕ) (out : List ℕ) (r s : Result ℕ E) (left other : List ℕ)
    → PrintsOutcome number name told carried out r left → PrintsOutcome number name told carried out s other → (r ≡ s) × (left ≡ other)
one_outcome_line number one name told carried out r s left other d e = outputs_one number one r s left other (d ∙ sym e)

pub some_outcome_line : {E : Type 0} (number : E → ℕ) (no_room : E) → number no_room ≡ buffer_too_short
    → (name : Name) (told : Result Outcome E) (carried : ℕ) (out : List ℕ)
    → (r : Result ℕ E) × (left : List ℕ) × PrintsOutcome number name told carried out r left
some_outcome_line number no_room is name (Ok ends.Met) carried out = output_some number no_room is _ out
some_outcome_line number no_room is name (Ok ends.Ended) carried out = output_some number no_room is _ out
some_outcome_line number no_room is name (Ok ends.Discarded) carried out = output_some number no_room is _ out
some_outcome_line number no_room is name (Ok ends.Missed) carried out = output_some number no_room is _ out
some_outcome_line number no_room is name (Ok ends.Open) carried out = output_some number no_room is _ out
some_outcome_line number no_room is name (Err k) carried out = (Err k, out, refl)

-- So it is for a reason, and for a number alone.
pub reason_line_one : (name : Name) (told : Result Outcome Reason) (carried : ℕ) (out : List ℕ) (r s : Result ℕ Reason) (left other : List ℕ)
    → PrintsOutcome number_of name told carried out r left → PrintsOutcome number_of name told carried out s other → (r ≡ s) × (left ≡ other)
reason_line_one = one_outcome_line number_of number_one

pub reason_line_some : (name : Name) (told : Result Outcome Reason) (carried : ℕ) (out : List ℕ)
    → (r : Result ℕ Reason) × (left : List ℕ) × PrintsOutcome number_of name told carried out r left
reason_line_some = some_outcome_line number_of reason.BufferTooShort refl

pub number_line_one : (name : Name) (told : Result Outcome ℕ) (carried : ℕ) (out : List ℕ) (r s : Result ℕ ℕ) (left other : List ℕ)
    → PrintsOutcome (λ n. n) name told carried out r left → PrintsOutcome (λ n. n) name told carried out s other → (r ≡ s) × (left ≡ other)
number_line_one = one_outcome_line (λ n. n) (λ x y e. e)

pub number_line_some : (name : Name) (told : Result Outcome ℕ) (carried : ℕ) (out : List ℕ)
    → (r : Result ℕ ℕ) × (left : List ℕ) × PrintsOutcome (λ n. n) name told carried out r left
number_line_some = some_outcome_line (λ n. n) buffer_too_short refl

-- `program::advance`: a turn.
pub one_turn : (t : Turned) (out : List ℕ) (r s : Turn) (left other : List ℕ) → Takes t out r left → Takes t out s other
    → (r ≡ s) × (left ≡ other)
one_turn t out r s left other d e =
    let nights = d.0 ∙ sym e.0 in
    let lines = one_line t.line out r.printed s.printed left other d.1 e.1 in
    (λ i. record { progress = nights i; printed = lines.0 i }, lines.1)

pub some_turn : (t : Turned) (out : List ℕ) → (r : Turn) × (left : List ℕ) × Takes t out r left
some_turn t out =
    let l = some_line t.line out in
    (record { progress = t.progress; printed = l.0 }, l.1, (refl, l.2))

-- `program::open`: the first turn.
pub one_opening : (file table out : List ℕ) (r s : Turn) (filled other_filled left other : List ℕ) → Opens file table out r filled left
    → Opens file table out s other_filled other → (r ≡ s) × (filled ≡ other_filled) × (left ≡ other)
one_opening file table out r s filled other_filled left other d e =
    let t = one_turn (opened (reader file table)) out r s left other (d.0, d.2) (e.0, e.2) in
    (t.0, d.1 ∙ sym e.1, t.1)

pub some_opening : (file table out : List ℕ) → (r : Turn) × (filled : List ℕ) × (left : List ℕ) × Opens file table out r filled left
some_opening file table out =
    let t = some_turn (opened (reader file table)) out in
    (t.0, (reader file table).table, t.1, (t.2.0, refl, t.2.1))

-- What was read is below a bound, as the code's types say of a number that has w bytes.
abbrev Fits : (w : ℕ) → Result (code.Parsed ℕ) Refusal → Type 0
Fits w (Ok parsed) = parsed.value < 256 ^ w
Fits w (Err refusal) = Unit {0}

-- A field that is read or refused for reasons is the view of an answer, whose value is as small as the field's.
fitting : (w : ℕ) (s : Parsed ℕ) → Only (map number_of file_reasons) s → ((v next : ℕ) → s ≡ got v next → v < 256 ^ w)
    → (r : Result (code.Parsed ℕ) Refusal) × (field_view r ≡ s) × Fits w r
fitting w s only small = by (field_some file_reasons s only).0 (field_some file_reasons s only).1
  where
    by : (r : Result (code.Parsed ℕ) Refusal) → field_view r ≡ s → (r : Result (code.Parsed ℕ) Refusal) × (field_view r ≡ s) × Fits w r
    by (Ok parsed) e = (Ok parsed, e, small parsed.value parsed.next (sym e))
    by (Err refusal) e = (Err refusal, e, tt)

-- `fields::field::read`, by the width of its number.
pub one_field : {N : Type 0} (w : ℕ) (number : N → ℕ) → ((a b : N) → number a ≡ number b → a ≡ b) → (file : List ℕ) (at : ℕ) (r s : Result (code.Parsed N) Refusal)
    → ReadsField w number file at r → ReadsField w number file at s → r ≡ s
one_field w number one file at r s d e = parsed_one number one r s (d ∙ sym e)

pub one_number_field : (w : ℕ) (file : List ℕ) (at : ℕ) (r s : Result (code.Parsed ℕ) Refusal) → ReadsField w (λ x. x) file at r
    → ReadsField w (λ x. x) file at s → r ≡ s
one_number_field w = one_field w (λ x. x) (λ a b e. e)

pub some_field : (w : ℕ) (file : List ℕ) → Octets file → (at : ℕ) → (r : Result (code.Parsed ℕ) Refusal) × ReadsField w (λ x. x) file at r × Fits w r
some_field w file octets at = fitting w (rule.field w file at) (field_only file w at) (λ v next e. (field_again w file at octets e).1)

-- `fields::record::read_length`.
pub one_length : (file : List ℕ) (at long : ℕ) (r s : Result ℕ Refusal) → ReadsLength file at long r → ReadsLength file at long s → r ≡ s
one_length file at long r s d e = passed_one r s (d ∙ sym e)

pub some_length : (file : List ℕ) (at long : ℕ) → (r : Result ℕ Refusal) × ReadsLength file at long r
some_length file at long = passed_some file_reasons (record_length long file at) (length_only file long at)

-- `fields::opening::read_opening`. (The code's types give that the newest version is a byte.)
pub one_file_opening : (file : List ℕ) (newest : ℕ) (lengths : LengthRule) (r s : Result (code.Parsed ℕ) Refusal) → ReadsOpening file newest lengths r
    → ReadsOpening file newest lengths s → r ≡ s
one_file_opening file newest lengths r s d e = fields_one r s (d ∙ sym e)

pub some_file_opening : (file : List ℕ) (newest : ℕ) → newest < 256 ^ 1 → (lengths : LengthRule)
    → (r : Result (code.Parsed ℕ) Refusal) × ReadsOpening file newest lengths r × Fits 1 r
some_file_opening file newest small lengths =
    fitting 1 (opening newest (is_compared lengths) file 0) (opening_only file newest (is_compared lengths) 0)
    (λ v next e. omega (arith, small, opening_version newest (is_compared lengths) file e))

-- `fields::end::read_end`.
pub one_end : (file : List ℕ) (at : ℕ) (r s : Result ℕ Refusal) → ReadsEnd file at r → ReadsEnd file at s → r ≡ s
one_end file at r s d e = passed_one r s (d ∙ sym e)

pub some_end : (file : List ℕ) (at : ℕ) → (r : Result ℕ Refusal) × ReadsEnd file at r
some_end file at = passed_some file_reasons (ended file at) (end_only file at)

-- A head of the rules as the code has it.
abbrev from_head : Head → code_head.Head
from_head h = record { version = h.version; n = record { 0 = h.n }; d = record { 0 = h.d }; count = h.count }

-- `planfields::head::read_head`.
pub one_head_lem : (file : List ℕ) (lengths : LengthRule) (r s : Result (code.Parsed code_head.Head) Refusal) → ReadsHead file lengths r → ReadsHead file lengths s
    → r ≡ s
one_head_lem file lengths r s d e = parsed_one head_of (λ a b e. ap from_head e) r s (d ∙ sym e)

pub some_head : (file : List ℕ) (lengths : LengthRule) → (r : Result (code.Parsed code_head.Head) Refusal) × ReadsHead file lengths r
some_head file lengths = parsed_some head_of (λ h. (from_head h, refl)) file_reasons (records.head (is_compared lengths) file 0) (head_only file (is_compared lengths) 0)

-- `planfields::job::read_job`.
pub one_job_lem : (file : List ℕ) (at : ℕ) (earlier : List ℕ) (r s : Result (code.Parsed Job) Refusal) → ReadsJob file at earlier r → ReadsJob file at earlier s → r ≡ s
one_job_lem file at earlier r s d e = parsed_one (λ j. j) (λ a b e. e) r s (d ∙ sym e)

pub some_job : (file : List ℕ) (at : ℕ) (earlier : List ℕ) → (r : Result (code.Parsed Job) Refusal) × ReadsJob file at earlier r
some_job file at earlier = parsed_some (λ j. j) (λ j. (j, refl)) file_reasons (one_job earlier file at) (job_only file earlier at)

-- `planfields::numbers::read_row_count`.
pub one_row_count : (file : List ℕ) (at version : ℕ) (r s : Result (code.Parsed ℕ) Refusal) → ReadsRowCount file at version r → ReadsRowCount file at version s → r ≡ s
one_row_count file at version r s d e = fields_one r s (d ∙ sym e)

pub some_row_count : (file : List ℕ) (at version : ℕ) → (r : Result (code.Parsed ℕ) Refusal) × ReadsRowCount file at version r
some_row_count file at version = field_some file_reasons (checked 2 (rows_allowed_in version) too_many_rows file at) (checked_only file 2 (rows_allowed_in version) too_many_rows at refl)

-- A checked field as an answer whose value has the field's width. (The
-- code's types give that a byte is below 256.)
checked_some : (file : List ℕ) → Octets file → (w : ℕ) (ok : ℕ → Bool) (number at : ℕ) → is_one_of file_numbers number ≡ true
    → (r : Result (code.Parsed ℕ) Refusal) × (field_view r ≡ checked w ok number file at) × Fits w r
checked_some file octets w ok number at h =
    fitting w (checked w ok number file at) (checked_only file w ok number at h) (λ v next e. (field_again w file at octets (checked_is w ok number file at e).0).1)

-- `planfields::numbers::read_interval`.
pub one_interval : (file : List ℕ) (at spans : ℕ) (r s : Result (code.Parsed ℕ) Refusal) → ReadsInterval file at spans r → ReadsInterval file at spans s → r ≡ s
one_interval file at spans r s d e = fields_one r s (d ∙ sym e)

pub some_interval : (file : List ℕ) → Octets file → (at spans : ℕ) → (r : Result (code.Parsed ℕ) Refusal) × ReadsInterval file at spans r × Fits 2 r
some_interval file octets at spans = checked_some file octets 2 (λ j. ltb j spans) row_without_interval at refl

-- `planfields::numbers::read_units`.
pub one_units : (file : List ℕ) (at : ℕ) (r s : Result (code.Parsed ℕ) Refusal) → ReadsUnits file at r → ReadsUnits file at s → r ≡ s
one_units file at r s d e = fields_one r s (d ∙ sym e)

pub some_units : (file : List ℕ) → Octets file → (at : ℕ) → (r : Result (code.Parsed ℕ) Refusal) × ReadsUnits file at r × Fits 4 r
some_units file octets at = checked_some file octets 4 (λ u. not (eqb u 0)) row_without_units at refl

-- Instances: the interval and the units of the first row in plan E's file.
some_interval_e : (r : Result (code.Parsed ℕ) Refusal) × ReadsInterval file_e 65 3 r × Fits 2 r
some_interval_e = some_interval file_e octets_e 65 3

some_units_e : (r : Result (code.Parsed ℕ) Refusal) × ReadsUnits file_e 67 r × Fits 4 r
some_units_e = some_units file_e octets_e 67

-- Every other public call returns a plain value and changes no lent buffer: its contract
-- is that the value is that of a definition.
pub one_value : {A : Type 0} (value r s : A) → r ≡ value → s ≡ value → r ≡ s
one_value value r s d e = d ∙ sym e

pub some_value : {A : Type 0} (value : A) → (r : A) × (r ≡ value)
some_value value = (value, refl)

-- The calls that answer the reason of a fault: `reason` of the judge's, of the reader's and, in Timetables, of the desk's.
pub one_reason : (number : ℕ) (r s : Reason) → HasNumber number r → HasNumber number s → r ≡ s
one_reason number r s d e = number_one r s (d ∙ sym e)

pub some_fault_reason : (f : Fault) → (r : Reason) × HasNumber (report.number_of (report_of f)) r
some_fault_reason BufferTooShort = (reason.BufferTooShort, refl)
some_fault_reason Unsound = (reason.Unsound, refl)
some_fault_reason (OutsideWindow i j) = (reason.OutsideWindow, refl)
some_fault_reason (WrongTotal i) = (reason.WrongTotal, refl)
some_fault_reason (OverCapacity j) = (reason.OverCapacity, refl)
some_fault_reason (BelowFloor l D) = (reason.BelowFloorRule, refl)

pub some_reading_reason : (f : ReadFault) → (r : Reason) × HasNumber (report.number_of (reading.answer_view (Err f))) r
some_reading_reason read_fault.TooShort = (reason.BufferTooShort, refl)
some_reading_reason (read_fault.Refused refusal) = (refusal.reason, refl)
