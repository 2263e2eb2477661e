-- The grounds of the refusals of writer, desk, step, outcome and the word that a job has ended as facts about the numbers of a plan and
-- a run, and what each answer says: its ground holds, and no ground that is tested before it does.
use Rattle.std.specs.Prelude.{◌≡◌, ◌≢◌, ◌⊎◌, Bool, true, false, List, [], ◌∷◌, ℕ, ◌≤◌, ◌<◌, length, take}
use Rattle.plan.specs.Kinds.{Row, Table, Time}
use Rattle.plan.specs.Edition.{name_bytes, most_jobs, most_intervals, most_rate, most_deadline, most_size, places, most_speeds}
use Rattle.plan.specs.Refusal.{clock_at_end, speed_above_normal, unsound, buffer_too_short, no_such_job, cannot_end, too_many_speeds, releases_differ, no_timetable}
use Rattle.plan.specs.Report.{Report, done_number}
use Rattle.plan.specs.Rules.{lo, hi, byte_of, counted, job_of, name, release, size, deadline}
use Rattle.plan.specs.Boundaries.{boundary, intervals, first_release, last_deadline}
use Rattle.plan.specs.Table.{allotment}
use Rattle.plan.specs.declared.kinds.Plan.{Plan}
use Rattle.judge.specs.Verdict.{judged}
use Rattle.desk.specs.Timetable.{in_class}
use Rattle.desk.specs.Pairs.{asked, carries, is_end}
use Rattle.planwriter.specs.Writing as writing
use Rattle.planwriter.specs.Writing.{written}
use Rattle.dispatch.specs.declared.Run.{Run}
use Rattle.dispatch.specs.Shift.{row_start}
use Rattle.dispatch.specs.Dues.{carried_of, ended_of}
use Rattle.dispatch.specs.Step as step
use Rattle.dispatch.specs.Step.{Ending}

-- Rule 4: 1 ≤ d < n, and n is at most `most_rate`.
abbrev pub Rule4 : Plan → Type 0
Rule4 p = (1 ≤ p.d.0) × (p.d.0 < p.n.0) × (p.n.0 ≤ most_rate)

-- Rule 5: there are 1 to `most_jobs` jobs.
abbrev pub Rule5 : Plan → Type 0
Rule5 p = (1 ≤ p.count) × (p.count ≤ most_jobs)

-- Rule 6: each byte of a counted job's name is in 0x21 to 0x7E.
abbrev pub Rule6 : Plan → Type 0
Rule6 p = (i : ℕ) → i < counted p → (k : ℕ) → k < name_bytes → (0x21 ≤ byte_of (name p i) k) × (byte_of (name p i) k ≤ 0x7E)

-- Rule 7: no counted job has the name of an earlier one.
abbrev pub Rule7 : Plan → Type 0
Rule7 p = (i : ℕ) → i < counted p → (k : ℕ) → k < i → name p k ≢ name p i

-- Rule 8: a counted job's grade is LO or HI.
abbrev pub Rule8 : Plan → Type 0
Rule8 p = (i : ℕ) → i < counted p → ((job_of p i).grade ≡ lo) ⊎ ((job_of p i).grade ≡ hi)

-- Rule 9: a counted job's release is before its deadline, which is at most `most_deadline`, and its
-- size is from 1 to `most_size`.
abbrev pub Rule9 : Plan → Type 0
Rule9 p = (i : ℕ) → i < counted p → (release p i < deadline p i) × (deadline p i ≤ most_deadline) × (1 ≤ size p i) × (size p i ≤ most_size)

-- No stray place: one whose job or interval the plan has not holds 0.
abbrev pub NoStray : Plan → Table → Type 0
NoStray p table = (i j : ℕ) → i < most_jobs → j < most_intervals → (counted p ≤ i) ⊎ (intervals p ≤ j) → allotment most_intervals table i j ≡ 0

-- Rules 4 to 9 hold of a plan's rates and jobs, for the desk; 21 is its negation.
pub record SoundJobs (p : Plan) : Type 0 where
  pub rates : Rule4 p
  pub count : Rule5 p
  pub names : Rule6 p
  pub differ : Rule7 p
  pub grades : Rule8 p
  pub bounds : Rule9 p

-- A plan and its table are sound, for judge and writer; 21 is its negation.
pub record SoundPlan (p : Plan) (table : List ℕ) : Type 0 where
  pub jobs : SoundJobs p
  pub clear : NoStray p table

-- A plan and a run are sound, for step and outcome; 21 is its negation. Names and the table are
-- not asked about.
pub record SoundRun (p : Plan) (run : Run) : Type 0 where
  pub rates : Rule4 p
  pub count : Rule5 p
  pub grades : Rule8 p
  pub bounds : Rule9 p
  pub begun : first_release p ≤ run.clock.0
  pub not_over : run.clock.0 ≤ last_deadline p
  pub carried : (i : ℕ) → i < counted p → carried_of run i ≤ size p i

-- The length of the file that the writer has to write.
abbrev pub written_length : Plan → Table → ℕ
written_length p table = length (written p (take places table))

-- What an answer of the writer says, by case in its order.
pub data WriterDecided (p : Plan) (table out : List ℕ) : writing.Answer → Type 0 where
  table_short : length table < places → WriterDecided p table out (writing.refused buffer_too_short)
  plan_unsound : places ≤ length table → (SoundPlan p table → ⊥) → WriterDecided p table out (writing.refused unsound)
  output_short : places ≤ length table → SoundPlan p table → length out < written_length p table → WriterDecided p table out (writing.refused buffer_too_short)
  file_written : places ≤ length table → SoundPlan p table → written_length p table ≤ length out → WriterDecided p table out (writing.wrote (written_length p table))

-- Table and grant row have all the places that a slot's call needs.
abbrev pub Room : (p : Plan) (table : Table) (grants : Row) → Type 0
Room p table grants = (places ≤ length table) × (counted p ≤ length grants)

-- What an answer of the step says, by case in its order.
pub data StepDecided (p : Plan) (table : List ℕ) (run : Run) (v : ℕ) (grants : List ℕ) : Report → Type 0 where
  run_unsound : (SoundRun p run → ⊥) → StepDecided p table run v grants (unsound ∷ [])
  buffer_short : SoundRun p run → (length table < places) ⊎ (length grants < counted p) → StepDecided p table run v grants (buffer_too_short ∷ [])
  at_end_lem : SoundRun p run → Room p table grants → run.clock.0 ≡ last_deadline p → StepDecided p table run v grants (clock_at_end ∷ [])
  too_fast : SoundRun p run → Room p table grants → run.clock.0 ≢ last_deadline p → p.n.0 < v → StepDecided p table run v grants (speed_above_normal ∷ [])
  slot_done : SoundRun p run → Room p table grants → run.clock.0 ≢ last_deadline p → v ≤ p.n.0 → StepDecided p table run v grants []

-- Table, rows and numbers have all the places that a shift needs.
abbrev pub ShiftRoom : (p : Plan) (table : Table) (speeds : List ℕ) (rows : Row) (numbers : List ℕ) → Type 0
ShiftRoom p table speeds rows numbers = (places ≤ length table) × (row_start p (length speeds) ≤ length rows) × (length speeds ≤ length numbers)

-- What an answer of the shift says, by case in its order.
pub data ShiftDecided (p : Plan) (table : List ℕ) (run : Run) (speeds rows numbers : List ℕ) : Report → Type 0 where
  shift_unsound : (SoundRun p run → ⊥) → ShiftDecided p table run speeds rows numbers (unsound ∷ [])
  too_many : SoundRun p run → most_speeds < length speeds → ShiftDecided p table run speeds rows numbers (too_many_speeds ∷ [])
  shift_short : SoundRun p run → length speeds ≤ most_speeds
      → (length table < places) ⊎ (length rows < row_start p (length speeds)) ⊎ (length numbers < length speeds)
      → ShiftDecided p table run speeds rows numbers (buffer_too_short ∷ [])
  shift_done : SoundRun p run → length speeds ≤ most_speeds → ShiftRoom p table speeds rows numbers → ShiftDecided p table run speeds rows numbers []

-- Plan and run are sound, and a job has the position: an outcome is not refused.
abbrev pub Asked : (p : Plan) (run : Run) (i : ℕ) → Type 0
Asked p run i = SoundRun p run × (i < p.count)

-- What an answer of the outcome says, by case in its order.
pub data OutcomeDecided (p : Plan) (run : Run) (i : ℕ) : Ending → Type 0 where
  not_asked : (SoundRun p run → ⊥) ⊎ (p.count ≤ i) → OutcomeDecided p run i (step.refused unsound)
  all_carried : Asked p run i → carried_of run i ≡ size p i → OutcomeDecided p run i step.met
  told_of : Asked p run i → carried_of run i ≢ size p i → ended_of run i ≡ true → OutcomeDecided p run i step.ended_early
  dropped : Asked p run i → carried_of run i ≢ size p i → ended_of run i ≡ false → (job_of p i).grade ≡ lo → run.slow ≡ true → OutcomeDecided p run i step.discarded
  late : Asked p run i → carried_of run i ≢ size p i → ended_of run i ≡ false → ((job_of p i).grade ≡ hi) ⊎ (run.slow ≡ false) → deadline p i ≤ run.clock.0
      → OutcomeDecided p run i step.missed
  waiting : Asked p run i → carried_of run i ≢ size p i → ended_of run i ≡ false → ((job_of p i).grade ≡ hi) ⊎ (run.slow ≡ false) → run.clock.0 < deadline p i
      → OutcomeDecided p run i step.still_open

-- What an answer of the word that a job has ended says, by case in its order.
pub data EndDecided (p : Plan) (run : Run) (i : ℕ) : Report → Type 0 where
  word_unsound : (SoundRun p run → ⊥) → EndDecided p run i (unsound ∷ [])
  no_such_job_lem : SoundRun p run → p.count ≤ i → EndDecided p run i (no_such_job ∷ [])
  cannot_end_lem : Asked p run i → (run.clock.0 < release p i) ⊎ (step.outcome p run i ≢ step.still_open) → EndDecided p run i (cannot_end ∷ [])
  word_done : Asked p run i → release p i ≤ run.clock.0 → step.outcome p run i ≡ step.still_open → EndDecided p run i []

-- All counted jobs have the same release.
abbrev pub OneRelease : Plan → Type 0
OneRelease p = (i k : ℕ) → i < counted p → k < counted p → release p i ≡ release p k

-- Some table whatever is accepted for a plan's rates and jobs.
abbrev pub SomeTable : Plan → Type 0
SomeTable p = (table : Table) × (judged p table ≡ [])

-- A time of the closed form: the common release, or the deadline of a counted LO job, or of a HI job.
abbrev pub IsTime : (p : Plan) (lo : Bool) (t : Time) → Type 0
IsTime p lo t = (t ≡ first_release p) ⊎ ((i : ℕ) × (i < counted p) × (in_class p lo i ≡ true) × (deadline p i ≡ t))

-- The closed form: by no two times more is asked than the link carries.
abbrev pub ClosedForm : Plan → Type 0
ClosedForm p = (D E : Time) → IsTime p false D → IsTime p true E → asked p D E ≤ carries p D E

-- What the number of the desk says, by case in its order.
pub data DrawDecided (p : Plan) (table : List ℕ) : ℕ → Type 0 where
  draw_short : length table < places → DrawDecided p table buffer_too_short
  draw_unsound : places ≤ length table → (SoundJobs p → ⊥) → DrawDecided p table unsound
  draw_releases : places ≤ length table → SoundJobs p → (OneRelease p → ⊥) → DrawDecided p table releases_differ
  draw_none : places ≤ length table → SoundJobs p → OneRelease p → (SomeTable p → ⊥) → DrawDecided p table no_timetable
  drawn_up : places ≤ length table → SoundJobs p → OneRelease p → SomeTable p → DrawDecided p table done_number

-- The times D and E are the first by which no timetable exists: D is a HI deadline or the first boundary and E a LO deadline or
-- the first boundary, more is asked by them than the link carries, and no such times before them, by D and then by E, ask more.
pub record FirstShort (p : Plan) (D E : ℕ) : Type 0 where
  pub m : ℕ
  pub k : ℕ
  pub high : (m ≤ intervals p) × (boundary p m ≡ D) × (is_end p false m ≡ true)
  pub low : (k ≤ intervals p) × (boundary p k ≡ E) × (is_end p true k ≡ true)
  pub short : carries p D E < asked p D E
  pub before : (a c : ℕ) → a ≤ intervals p → c ≤ intervals p → (a < m) ⊎ ((a ≡ m) × (c < k)) → is_end p false a ≡ true → is_end p true c ≡ true
      → asked p (boundary p a) (boundary p c) ≤ carries p (boundary p a) (boundary p c)
