-- The calls for hosts: the number that each returns, and what it leaves in every lent buffer.
use Rattle.std.specs.Prelude.{Bool, not, cond, ◌||◌, List, [], ◌∷◌, ℕ, ltb, Float, ℤ, pos, length, set}
use Rattle.plan.specs.Kinds.{Bytes, Offset, Position, Row, Speed, Table, Words}
use Rattle.plan.specs.Refusal.{unsound, buffer_too_short}
use Rattle.plan.specs.declared.kinds.Plan.{Plan}
use Rattle.judge.specs.Verdict.{judged}
use Rattle.plan.specs.Report.{Report, done_number, number_of}
use Rattle.judge.specs.Slack as slack
use Rattle.planfile.specs.Reader.{ReadEffect, reader}
use Rattle.planwriter.specs.Writing as writing
use Rattle.joblist.specs.Import.{ImportEffect, imported}
use Rattle.joblist.specs.Export as export
use Rattle.meter.specs.Speed.{Told, speed, metered}
use Rattle.meter.specs.Speed as reading
use Rattle.meter.specs.Log as log
use Rattle.desk.specs.Desk.{shortage_of, draw_fault, table_left}
use Rattle.dispatch.specs.Step.{SlotEffect, WordEffect, Ending, met, ended_early, discarded, missed, still_open, refused, started, stepped, outcome, told_ended}
use Rattle.dispatch.specs.Shift.{ShiftEffect, shifted}
use Rattle.hostmemory.specs.Memory.{location_words, pair_words, short_list, short_plan, short_run, list_held, list_put, plan_of, plan_put, marks_hold, run_of, run_put}

-- The number for no HI job. Like those of the outcomes it is above
-- every refusal number, which has one byte.
abbrev pub none_number : ℕ
none_number = 256

-- The job is met.
abbrev pub met_number : ℕ
met_number = 257

-- The job is discarded.
abbrev pub discarded_number : ℕ
discarded_number = 258

-- The job is missed.
abbrev pub missed_number : ℕ
missed_number = 259

-- The job is open.
abbrev pub open_number : ℕ
open_number = 260

-- The job has ended.
abbrev pub ended_number : ℕ
ended_number = 261

-- The first part of a report's location: of a judge's report a job or an interval, of the reader's the
-- offset; 0 if it has none.
abbrev pub first_of : Report → ℕ
first_of [] = 0
first_of (number ∷ []) = 0
first_of (number ∷ a ∷ rest) = a

-- The second part of a report's location: of a judge's report an interval or a deadline; 0 if it has
-- none.
abbrev pub second_of : Report → ℕ
second_of [] = 0
second_of (number ∷ []) = 0
second_of (number ∷ a ∷ []) = 0
second_of (number ∷ a ∷ b ∷ rest) = b

-- A lent location after a report's is written to its first two words, as far as it has them.
abbrev pub located : (report : Report) (location : Words) → List ℕ
located report location = set (set location 0 (first_of report)) 1 (second_of report)

-- Whether a lent location has too few words.
abbrev pub short_location : Words → Bool
short_location location = ltb (length location) location_words

-- The effect of the judge's call.
pub record HostJudgeEffect : Type 0 where
  pub number : ℕ
  pub location : List ℕ

-- The judge's call: 22 if plan or location is too short, with nothing changed; otherwise the verdict's
-- number, and its location, 0 and 0 if it names none.
unfoldable pub judge_call : (plan : Words) (table : Table) (location : Words) → HostJudgeEffect
judge_call plan table location =
    cond (short_plan plan || short_location location) (record { number = buffer_too_short; location = location })
    (record { number = number_of (judged (plan_of plan) table); location = located (judged (plan_of plan) table) location })

-- The effect of the desk's call.
pub record HostDrawEffect : Type 0 where
  pub number : ℕ
  pub table : List ℕ

-- The desk's call: 22 if the plan is too short, with nothing changed; otherwise the number of the desk's refusal or of none,
-- and the table that it leaves.
unfoldable pub draw_call : (plan : Words) (table : Table) → HostDrawEffect
draw_call plan table =
    cond (short_plan plan) (record { number = buffer_too_short; table = table })
    (record { number = number_of (draw_fault (plan_of plan) table); table = table_left (plan_of plan) table })

-- The third and the fourth part of a report's location: of a pair what is asked and what the link carries; 0 if it has none.
abbrev pub third_of : Report → ℕ
third_of [] = 0
third_of (number ∷ []) = 0
third_of (number ∷ a ∷ []) = 0
third_of (number ∷ a ∷ b ∷ []) = 0
third_of (number ∷ a ∷ b ∷ c ∷ rest) = c

abbrev pub fourth_of : Report → ℕ
fourth_of [] = 0
fourth_of (number ∷ []) = 0
fourth_of (number ∷ a ∷ []) = 0
fourth_of (number ∷ a ∷ b ∷ []) = 0
fourth_of (number ∷ a ∷ b ∷ c ∷ []) = 0
fourth_of (number ∷ a ∷ b ∷ c ∷ d ∷ rest) = d

-- The effect of the call that says why there is no timetable.
pub record HostShortageEffect : Type 0 where
  pub number : ℕ
  pub pair : List ℕ

-- The effect of a shortage on a lent pair, of which four words are written, 0 where there is no pair.
abbrev pub shortage_words : (report : Report) (pair : Words) → HostShortageEffect
shortage_words report pair =
    record {
      number = number_of report;
      pair = set (set (set (set pair 0 (first_of report)) 1 (second_of report)) 2 (third_of report)) 3 (fourth_of report);
    }

-- The call that says why there is no timetable: 22 if plan or pair is too short, with nothing changed; otherwise the shortage.
unfoldable pub shortage_call : (plan pair : Words) → HostShortageEffect
shortage_call plan pair =
    cond (short_plan plan || ltb (length pair) pair_words) (record { number = buffer_too_short; pair = pair })
    (shortage_words (shortage_of (plan_of plan)) pair)

-- The effect of the start's call.
pub record HostStartEffect : Type 0 where
  pub number : ℕ
  pub run : List ℕ
  pub location : List ℕ

-- A lent run after a start's report: the new run if nothing is refused, otherwise as it was.
abbrev pub start_words : Report → Plan → Words → List ℕ
start_words [] p run = run_put run (started p)
start_words (number ∷ places) p run = run

-- The start's call: 22 if plan, run or location is too short, with nothing changed; otherwise as the
-- judge's call, and the started run if the plan is accepted.
unfoldable pub start_call : (plan : Words) (table : Table) (run location : Words) → HostStartEffect
start_call plan table run location =
    cond (short_plan plan || short_run run || short_location location) (record { number = buffer_too_short; run = run; location = location })
    (record {
      number = number_of (judged (plan_of plan) table);
      run = start_words (judged (plan_of plan) table) (plan_of plan) run;
      location = located (judged (plan_of plan) table) location;
    })

-- The effect of the step's call.
pub record HostStepEffect : Type 0 where
  pub number : ℕ
  pub run : List ℕ
  pub grants : List ℕ

-- The effect of a slot on a lent run and a grant row.
abbrev pub slot_words : (slot : SlotEffect) (run : Words) → HostStepEffect
slot_words slot run = record { number = number_of slot.answer; run = run_put run slot.run; grants = slot.grants }

-- The step's call: 22 if plan or run is too short, 21 for a mark that is neither 0 nor 1, each with
-- nothing changed; otherwise the slot's call.
unfoldable pub step_call : (plan : Words) (table : Table) (run : Words) (v : Speed) (grants : Row) → HostStepEffect
step_call plan table run v grants =
    cond (short_plan plan || short_run run) (record { number = buffer_too_short; run = run; grants = grants })
    (cond (not (marks_hold run)) (record { number = unsound; run = run; grants = grants })
    (slot_words (stepped (plan_of plan) table (run_of run) v grants) run))

-- The effect of the shift's call.
pub record HostShiftEffect : Type 0 where
  pub number : ℕ
  pub run : List ℕ
  pub rows : List ℕ
  pub numbers : List ℕ

-- The effect of a shift on a lent run, rows of grants and numbers.
abbrev pub shift_words : (shift : ShiftEffect) (run : Words) → HostShiftEffect
shift_words shift run =
    record { number = number_of shift.answer; run = run_put run shift.run; rows = shift.rows; numbers = shift.numbers }

-- The shift's call: 22 if plan or run is too short, 21 for a mark that is neither 0 nor 1, each with nothing changed; otherwise
-- the shift.
unfoldable pub shift_call : (plan : Words) (table : Table) (run : Words) (speeds : List ℕ) (rows : Row) (numbers : List ℕ) → HostShiftEffect
shift_call plan table run speeds rows numbers =
    cond (short_plan plan || short_run run) (record { number = buffer_too_short; run = run; rows = rows; numbers = numbers })
    (cond (not (marks_hold run)) (record { number = unsound; run = run; rows = rows; numbers = numbers })
    (shift_words (shifted (plan_of plan) table (run_of run) speeds rows numbers) run))

-- The number of an outcome.
abbrev pub ending_number : Ending → ℕ
ending_number met = met_number
ending_number ended_early = ended_number
ending_number discarded = discarded_number
ending_number missed = missed_number
ending_number still_open = open_number
ending_number (refused number) = number

-- The outcome's call: 22 if plan or run is too short, 21 for a mark that
-- is neither 0 nor 1; otherwise the outcome.
unfoldable pub outcome_call : (plan run : Words) (position : Position) → ℕ
outcome_call plan run position =
    cond (short_plan plan || short_run run) buffer_too_short
    (cond (not (marks_hold run)) unsound
    (ending_number (outcome (plan_of plan) (run_of run) position)))

-- The effect of the call that tells of an ended job.
pub record HostEndEffect : Type 0 where
  pub number : ℕ
  pub run : List ℕ

-- The effect of such a word on a lent run.
abbrev pub told_words : (told : WordEffect) (run : Words) → HostEndEffect
told_words told run = record { number = number_of told.answer; run = run_put run told.run }

-- The call that tells of an ended job: 22 if plan or run is too short, 21 for a mark that is neither 0 nor 1, each with
-- nothing changed; otherwise the effect of the word.
unfoldable pub end_call : (plan run : Words) (position : Position) → HostEndEffect
end_call plan run position =
    cond (short_plan plan || short_run run) (record { number = buffer_too_short; run = run })
    (cond (not (marks_hold run)) (record { number = unsound; run = run }) (told_words (told_ended (plan_of plan) (run_of run) position) run))

-- The effect of the slack's call.
pub record HostSlackEffect : Type 0 where
  pub number : ℕ
  pub slack : ℤ
  pub location : List ℕ

-- The number of a figure: that of no HI job, that of no refusal if there is a least slack, or the
-- report's.
abbrev pub figure_number : slack.Figure → ℕ
figure_number slack.none_essential = none_number
figure_number (slack.least s l D) = done_number
figure_number (slack.refused report) = number_of report

-- The slack of a figure; 0 if it has none.
abbrev pub figure_slack : slack.Figure → ℤ
figure_slack slack.none_essential = pos 0
figure_slack (slack.least s l D) = s
figure_slack (slack.refused report) = pos 0

-- The first part of a figure's location: the interval of the least slack, or the first
-- part of a refusal's location; otherwise 0.
abbrev pub figure_first : slack.Figure → ℕ
figure_first slack.none_essential = 0
figure_first (slack.least s l D) = l
figure_first (slack.refused report) = first_of report

-- The second part: the deadline of the least slack, or the second
-- part of a refusal's location; otherwise 0.
abbrev pub figure_second : slack.Figure → ℕ
figure_second slack.none_essential = 0
figure_second (slack.least s l D) = D
figure_second (slack.refused report) = second_of report

-- The effect of a figure on the slack and a lent location.
abbrev pub slack_words : (figure : slack.Figure) (location : Words) → HostSlackEffect
slack_words figure location =
    record {
      number = figure_number figure;
      slack = figure_slack figure;
      location = set (set location 0 (figure_first figure)) 1 (figure_second figure);
    }

-- The slack's call: 22 if plan or location is too short, with nothing changed; otherwise the figure.
unfoldable pub slack_call : (plan : Words) (table : Table) (was : ℤ) (location : Words) → HostSlackEffect
slack_call plan table was location =
    cond (short_plan plan || short_location location) (record { number = buffer_too_short; slack = was; location = location })
    (slack_words (slack.slack_figure (plan_of plan) table) location)

-- The effect of the read's call.
pub record HostReadEffect : Type 0 where
  pub number : ℕ
  pub plan : List ℕ
  pub table : List ℕ
  pub offset : ℕ

-- The effect of the reader on a lent plan and a table, and where a refused file is wrong: 0 if it was read
-- or the table is too short.
abbrev pub read_words : (left : ReadEffect) (plan : Words) → HostReadEffect
read_words left plan =
    record { number = number_of left.answer; plan = plan_put plan left.plan; table = left.table; offset = first_of left.answer }

-- The read's call: 22 if the plan is too short, with nothing changed; otherwise the effect of the
-- reader, whose plan is all zeros with every refusal.
unfoldable pub read_call : (file : Bytes) (plan : Words) (table : Table) (offset : Offset) → HostReadEffect
read_call file plan table offset =
    cond (short_plan plan) (record { number = buffer_too_short; plan = plan; table = table; offset = offset })
    (read_words (reader file table) plan)

-- The effect of the write's call.
pub record HostWriteEffect : Type 0 where
  pub number : ℕ
  pub length : ℕ
  pub out : List ℕ

-- The number of a writer's answer.
abbrev pub written_number : writing.Answer → ℕ
written_number (writing.wrote n) = done_number
written_number (writing.refused number) = number

-- The length of the written file; 0 after a refusal.
abbrev pub written_length : writing.Answer → ℕ
written_length (writing.wrote n) = n
written_length (writing.refused number) = 0

-- The effect of the writer, with the length.
abbrev pub wrote_words : writing.WriteEffect → HostWriteEffect
wrote_words o = record { number = written_number o.answer; length = written_length o.answer; out = o.out }

-- The write's call: 22 if the plan is too short, with the length and the output
-- unchanged; otherwise the effect of the writer.
unfoldable pub write_call : (plan : Words) (table : Table) (out : Bytes) (length : ℕ) → HostWriteEffect
write_call plan table out length =
    cond (short_plan plan) (record { number = buffer_too_short; length = length; out = out }) (wrote_words (writing.writer (plan_of plan) table out))

-- The effect of the import's call.
pub record HostImportEffect : Type 0 where
  pub number : ℕ
  pub list : List ℕ
  pub offset : ℕ

-- The effect of the import on a lent list, and where a refused text is wrong: 0 if it was read.
abbrev pub import_words : (left : ImportEffect) (list : Words) → HostImportEffect
import_words left list = record { number = number_of left.answer; list = list_put list left.list; offset = first_of left.answer }

-- The import's call: 22 if the list is too short, with nothing changed; otherwise the effect of the import,
-- which yields no jobs with every refusal.
unfoldable pub import_call : (text : Bytes) (list : Words) (offset : Offset) → HostImportEffect
import_call text list offset =
    cond (short_list list) (record { number = buffer_too_short; list = list; offset = offset }) (import_words (imported text) list)

-- The effect of the export's call.
pub record HostExportEffect : Type 0 where
  pub number : ℕ
  pub length : ℕ
  pub out : List ℕ

-- The number of an export's answer.
abbrev pub exported_number : export.Answer → ℕ
exported_number (export.wrote n) = done_number
exported_number (export.refused number) = number

-- The length of the exported text; 0 after a refusal.
abbrev pub exported_length : export.Answer → ℕ
exported_length (export.wrote n) = n
exported_length (export.refused number) = 0

-- The effect of the export, with the length.
abbrev pub export_words : export.ExportEffect → HostExportEffect
export_words o = record { number = exported_number o.answer; length = exported_length o.answer; out = o.out }

-- The export's call: 22 if the list is too short, with the length and the output unchanged; otherwise the
-- effect of the export.
unfoldable pub export_call : (list : Words) (out : Bytes) (length : ℕ) → HostExportEffect
export_call list out length =
    cond (short_list list) (record { number = buffer_too_short; length = length; out = out }) (export_words (export.exported (list_held list) out))

-- The effect of the call for a single reading.
pub record HostSpeedEffect : Type 0 where
  pub number : ℕ
  pub speed : ℕ

-- The number of what is told of a reading.
abbrev pub told_number : Told → ℕ
told_number (speed v) = done_number
told_number (reading.refused number) = number

-- The speed that is told; 0 after a refusal.
abbrev pub told_speed : Told → ℕ
told_speed (speed v) = v
told_speed (reading.refused number) = 0

-- The effect of what is told of a reading.
abbrev pub speed_words : Told → HostSpeedEffect
speed_words t = record { number = told_number t; speed = told_speed t }

-- The call for a single reading.
unfoldable pub speed_call : (mean lowest : Float) (n : ℕ) → HostSpeedEffect
speed_call mean lowest n = speed_words (metered (record { mean = mean; lowest = lowest }) n)

-- The effect of the log reader's call.
pub record HostLogEffect : Type 0 where
  pub number : ℕ
  pub speeds : List ℕ
  pub count : ℕ
  pub offset : ℕ

-- The number of the log reader's answer.
abbrev pub log_number : log.Answer → ℕ
log_number (log.took count) = done_number
log_number (log.refused report) = number_of report

-- How many speeds were written; 0 after a refusal.
abbrev pub log_count : log.Answer → ℕ
log_count (log.took count) = count
log_count (log.refused report) = 0

-- The offset of a refusal; 0 if it has none, and if the log was read.
abbrev pub log_offset : log.Answer → Offset
log_offset (log.took count) = 0
log_offset (log.refused report) = first_of report

-- The effect of the log reader, with count and offset.
abbrev pub log_words : log.LogEffect → HostLogEffect
log_words e = record { number = log_number e.answer; speeds = e.list; count = log_count e.answer; offset = log_offset e.answer }

-- The log reader's call.
unfoldable pub log_call : (file : Bytes) (n : ℕ) (speeds : List ℕ) → HostLogEffect
log_call file n speeds = log_words (log.log_read file n speeds)
