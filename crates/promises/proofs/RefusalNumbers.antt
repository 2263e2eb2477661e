-- Demand 1, the numbers: each call is refused only by the numbers that the rules give it.
use mathlib.Core.Path.{◌≡◌, refl, sym, ◌∙◌, ap}
use mathlib.Core.Bool.{Bool, true, false, not, cond, ◌&&◌, ◌||◌, false≢true}
use mathlib.Core.List.{List, [], ◌∷◌, ◌++◌}
use Prim.Native.Nat.{ℕ, zero, suc, ◌+◌, ◌*◌}
use native.Mathlib.Omega.{arith}
use borrow.Author.Tests.{ne_eqb}
use lib.Dec.{leb, ltb, eqb}
use lib.ListN.{length, take, drop, set, replicate}
use Rattle.base.specs.Sum.{sum}
use Rattle.plan.specs.Edition.{most_intervals, places, most_speeds}
use Rattle.plan.specs.Versions.{newest_version, count_allowed_in, rows_allowed_in}
use Rattle.planfields.specs.Layout.{job_length, row_length}
use Rattle.plan.specs.Refusal.{wrong_version, wrong_extent, wrong_record_length, wrong_rates, wrong_job_count, wrong_name_byte, name_taken, wrong_grade, wrong_job_bounds, too_many_rows, row_without_job, row_without_interval, row_without_units, row_out_of_order, outside_window, wrong_total, over_capacity, below_floor_rule, clock_at_end, speed_above_normal, unsound, buffer_too_short, no_such_job, cannot_end, too_many_speeds}
use Rattle.base.specs.Below
use Rattle.plan.specs.Rules.{counted, release, size, deadline, is_hi, rates_allowed, name_allowed, is_absent, grade_allowed, window_allowed, size_allowed, names_hold, names_differ, grades_hold, bounds_hold, rules_hold}
use Rattle.plan.specs.Boundaries.{insert, boundaries_to, boundary, intervals, last_deadline}
use Rattle.plan.specs.Table.{place, no_stray, sound}
use Rattle.plan.specs.declared.kinds.Job.{Job}
use Rattle.plan.specs.declared.kinds.Plan.{Plan}
use Rattle.plan.specs.declared.refusal.Reason.{Reason}
use Rattle.plan.specs.declared.refusal.Reason.TheVariants as reason
use Rattle.fields.specs.Bytes.{bytes, value}
use Rattle.fields.specs.Parsers.{Parsed, got, no, test, field, checked, record_length, refused_as, is_version, version, extent, opening, ended}
use Rattle.planfields.specs.Records.{head, job_name, one_job}
use Rattle.plan.specs.Rules.{no_plan}
use Rattle.plan.specs.JobLists.{names_of}
use Rattle.planfile.specs.Reader.{all_jobs, position, row_job, one_row, all_rows, Contents, preamble, plan_file, read_file, leaves, reader}
use Rattle.planwriter.specs.Writing as writing
use Rattle.planwriter.specs.Writing.{wrote, withheld, written, writer}
use Rattle.judge.specs.Constraints.{interval_length, total, load}
use Rattle.judge.specs.Verdict.{is_outside, is_pair, is_hi_deadline, falls_short, outside_fault, total_fault, capacity_fault, floor_fault, hand_fault, constraint_fault, judged}
use Rattle.plan.specs.Report.{Report, or_else, fault, first, done_number, number_of, is_one_of}
use Rattle.judge.specs.Slack.{refused, least_slack, unless, slack_figure}
use Rattle.judge.proofs.LeastSlack.{first_of_all}
use Rattle.dispatch.specs.Dues.{carried_of, ended_of}
use Rattle.dispatch.specs.Step as step
use Rattle.promises.specs.Night.{is_done}
use Rattle.dispatch.specs.Step.{started, slot_sound, slot_fault, stepped, outcome, is_open, end_fault, told_ended}
use Rattle.dispatch.specs.Shift.{row_start, shift_fault, shifted}
use Rattle.dispatch.proofs.SlotLimits.{slot_answer}
use Rattle.dispatch.proofs.ShiftLimits.{shift_answer}
use Rattle.dispatch.proofs.WordLimits.{word_answer}
use Rattle.dispatch.specs.declared.Run.{Run}
use Rattle.lines.specs.Answers as line
use Rattle.lines.specs.Answers.{refusal, printed}
use Rattle.lines.specs.Lines.{stray_line}
use Rattle.promises.proofs.Cases.{plan_with, table_of, plan_e, table_e, P3, P4}
use Rattle.fields.proofs.Only.{Only, only_onward, only_cond, only_test}

-- Equal reports have equal numbers.
same_number : {m n : ℕ} {a b : Report} → m ∷ a ≡ n ∷ b → m ≡ n
same_number e = cc

-- The refusals of reading a plan file: 1 to 14.
abbrev pub file_numbers : List ℕ
file_numbers =
    wrong_version ∷ wrong_extent ∷ wrong_record_length ∷ wrong_rates ∷ wrong_job_count ∷ wrong_name_byte ∷ name_taken ∷ wrong_grade ∷ wrong_job_bounds
    ∷ too_many_rows ∷ row_without_job ∷ row_without_interval ∷ row_without_units ∷ row_out_of_order ∷ []

-- Their reasons.
abbrev pub file_reasons : List Reason
file_reasons =
    reason.WrongVersion ∷ reason.WrongExtent ∷ reason.WrongRecordLength ∷ reason.WrongRates ∷ reason.WrongJobCount ∷ reason.WrongNameByte ∷ reason.NameTaken
    ∷ reason.WrongGrade ∷ reason.WrongJobBounds ∷ reason.TooManyRows ∷ reason.RowWithoutJob ∷ reason.RowWithoutInterval ∷ reason.RowWithoutUnits
    ∷ reason.RowOutOfOrder ∷ []

module _ (file : List ℕ) where
  pub field_only : (w at : ℕ) → Only file_numbers (field w file at)
  unfolding field
  field_only w at = only_cond file_numbers (leb (at + w) (length file)) wrong_extent at (value 0 (take w (drop at file))) (at + w) refl

  pub checked_only : (w : ℕ) (ok : ℕ → Bool) (number at : ℕ) → is_one_of file_numbers number ≡ true → Only file_numbers (checked w ok number file at)
  checked_only w ok number at h =
      only_onward file_numbers (field w file at) _ file (field_only w at)
      (λ x next. only_onward file_numbers (test (ok x) number at file next) _ file (only_test file_numbers (ok x) number at file next h) (λ _ _. tt))

  version_only : (newest at : ℕ) → Only file_numbers (version newest file at)
  unfolding field version
  version_only newest at = by (checked 1 (is_version newest) wrong_version file at)
    where
      by : (s : Parsed ℕ) → Only file_numbers (refused_as wrong_version s)
      by (got v next) = tt
      by (no k) = refl

  extent_only : (compared : Bool) (at : ℕ) → Only file_numbers (extent compared file at)
  unfolding extent
  extent_only compared at =
      only_onward file_numbers (field 4 file at) _ file (field_only 4 at)
      (λ says next. only_test file_numbers (not compared || eqb (next + says) (length file)) wrong_extent at file next refl)

  pub opening_only : (newest : ℕ) (compared : Bool) (at : ℕ) → Only file_numbers (opening newest compared file at)
  unfolding opening
  opening_only newest compared at =
      only_onward file_numbers (version newest file at) _ file (version_only newest at)
      (λ _ next. only_onward file_numbers (extent compared file next) _ file (extent_only compared next) (λ _ _. tt))

  pub head_only : (compared : Bool) (at : ℕ) → Only file_numbers (head compared file at)
  unfolding head
  head_only compared at =
      only_onward file_numbers (opening newest_version compared file at) _ file (opening_only newest_version compared at)
      (λ v a₁. only_onward file_numbers (field 2 file a₁) _ file (field_only 2 a₁)
      (λ n a₂. only_onward file_numbers (field 2 file a₂) _ file (field_only 2 a₂)
      (λ d a₃. only_onward file_numbers (test (rates_allowed n d) wrong_rates a₁ file a₃) _ file (only_test file_numbers (rates_allowed n d) wrong_rates a₁ file a₃ refl)
      (λ _ a₄. only_onward file_numbers (checked 1 (count_allowed_in v) wrong_job_count file a₄) _ file (checked_only 1 (count_allowed_in v) wrong_job_count a₄ refl)
      (λ _ _. tt)))))

  pub length_only : (long at : ℕ) → Only file_numbers (record_length long file at)
  unfolding record_length
  length_only long at =
      only_onward file_numbers (field 1 file at) _ file (field_only 1 at)
      (λ x next. only_test file_numbers (eqb x long) wrong_record_length at file next refl)

  name_only : (earlier : List ℕ) (at : ℕ) → Only file_numbers (job_name earlier file at)
  unfolding job_name
  name_only earlier at =
      only_onward file_numbers (record_length job_length file at) _ file (length_only job_length at)
      (λ _ a₁. only_onward file_numbers (field 8 file a₁) _ file (field_only 8 a₁)
      (λ name a₂. only_onward file_numbers (test (name_allowed name) wrong_name_byte a₁ file a₂) _ file (only_test file_numbers (name_allowed name) wrong_name_byte a₁ file a₂ refl)
      (λ _ a₃. only_onward file_numbers (test (is_absent earlier name) name_taken a₁ file a₃) _ file (only_test file_numbers (is_absent earlier name) name_taken a₁ file a₃ refl)
      (λ _ _. tt))))

  pub job_only : (earlier : List ℕ) (at : ℕ) → Only file_numbers (one_job earlier file at)
  unfolding one_job
  job_only earlier at =
      only_onward file_numbers (job_name earlier file at) _ file (name_only earlier at)
      (λ _ a₁. only_onward file_numbers (checked 1 grade_allowed wrong_grade file a₁) _ file (checked_only 1 grade_allowed wrong_grade a₁ refl)
      (λ _ a₂. only_onward file_numbers (field 4 file a₂) _ file (field_only 4 a₂)
      (λ release a₃. only_onward file_numbers (field 4 file a₃) _ file (field_only 4 a₃)
      (λ size a₄. only_onward file_numbers (field 4 file a₄) _ file (field_only 4 a₄)
      (λ deadline a₅.
      let ok : Bool = window_allowed release deadline && size_allowed size in
      only_onward file_numbers (test ok wrong_job_bounds a₂ file a₅) _ file (only_test file_numbers ok wrong_job_bounds a₂ file a₅ refl) (λ _ _. tt))))))

  jobs_only : (n : ℕ) (jobs : List Job) (at : ℕ) → Only file_numbers (all_jobs n jobs file at)
  unfolding all_jobs
  jobs_only zero jobs at = tt
  jobs_only (suc n) jobs at =
      only_onward file_numbers (one_job (names_of jobs) file at) _ file (job_only (names_of jobs) at) (λ job next. jobs_only n (jobs ++ (job ∷ [])) next)

  row_job_only : (names : List ℕ) (at : ℕ) → Only file_numbers (row_job names file at)
  unfolding row_job
  row_job_only names at =
      only_onward file_numbers (record_length row_length file at) _ file (length_only row_length at)
      (λ _ a₁. only_onward file_numbers (field 8 file a₁) _ file (field_only 8 a₁)
      (λ name a₂.
      let found : Bool = ltb (position names name) (length names) in
      only_onward file_numbers (test found row_without_job a₁ file a₂) _ file (only_test file_numbers found row_without_job a₁ file a₂ refl) (λ _ _. tt)))

  row_only : (width : ℕ) (names : List ℕ) (spans low at : ℕ) → Only file_numbers (one_row width names spans low file at)
  unfolding one_row
  row_only width names spans low at =
      only_onward file_numbers (row_job names file at) _ file (row_job_only names at)
      (λ job a₁. only_onward file_numbers (checked 2 (λ j. ltb j spans) row_without_interval file a₁) _ file (checked_only 2 (λ j. ltb j spans) row_without_interval a₁ refl)
      (λ interval a₂. only_onward file_numbers (checked 4 (λ u. not (eqb u 0)) row_without_units file a₂) _ file (checked_only 4 (λ u. not (eqb u 0)) row_without_units a₂ refl)
      (λ _ a₃.
      let after : Bool = leb low (place width job interval) in
      only_onward file_numbers (test after row_out_of_order at file a₃) _ file (only_test file_numbers after row_out_of_order at file a₃ refl) (λ _ _. tt))))

  rows_only : (n width : ℕ) (names : List ℕ) (spans low : ℕ) (table : List ℕ) (at : ℕ) → Only file_numbers (all_rows n width names spans low table file at)
  unfolding all_rows
  rows_only zero width names spans low table at = tt
  rows_only (suc n) width names spans low table at =
      only_onward file_numbers (one_row width names spans low file at) _ file (row_only width names spans low at)
      (λ row next. rows_only n width names spans (suc row.at) (set table row.at row.units) next)

  pub end_only : (at : ℕ) → Only file_numbers (ended file at)
  unfolding ended
  end_only at = only_test file_numbers (eqb at (length file)) wrong_extent at file at refl

  pub file_only : Only file_numbers (read_file file)
  unfolding plan_file preamble
  file_only =
      only_onward file_numbers (preamble file 0) _ file
      (only_onward file_numbers (head true file 0) _ file (head_only true 0)
      (λ h a₁. only_onward file_numbers (all_jobs h.count [] file a₁) _ file (jobs_only h.count [] a₁)
      (λ _ a₂. only_onward file_numbers (checked 2 (rows_allowed_in h.version) too_many_rows file a₂) _ file (checked_only 2 (rows_allowed_in h.version) too_many_rows a₂ refl)
      (λ _ _. tt))))
      (λ f b₁. only_onward file_numbers (all_rows f.rows most_intervals f.names (intervals f.plan) 0 (replicate places 0) file b₁) _ file
      (rows_only f.rows most_intervals f.names (intervals f.plan) 0 (replicate places 0) b₁)
      (λ _ b₂. only_onward file_numbers (ended file b₂) _ file (end_only b₂) (λ _ _. tt)))

-- The reader is refused only by 1 to 14 and 22.
pub reader_numbers : (file table : List ℕ) (number : ℕ) (rest : List ℕ) → (reader file table).answer ≡ number ∷ rest
    → is_one_of
    (wrong_version ∷ wrong_extent ∷ wrong_record_length ∷ wrong_rates ∷ wrong_job_count ∷ wrong_name_byte ∷ name_taken ∷ wrong_grade ∷ wrong_job_bounds
    ∷ too_many_rows ∷ row_without_job ∷ row_without_interval ∷ row_without_units ∷ row_out_of_order ∷ buffer_too_short ∷ [])
    number
    ≡ true
unfolding reader
reader_numbers file table number rest e = by (ltb (length table) places) (read_file file) (file_only file) e
  where
    numbers : List ℕ
    numbers = file_numbers ++ (buffer_too_short ∷ [])

    more : (l : List ℕ) (x y : ℕ) → is_one_of l x ≡ true → is_one_of (l ++ (y ∷ [])) x ≡ true
    more (z ∷ l) x y h = over (eqb x z) h (more l x y)
      where
        over : (b : Bool) → (b || is_one_of l x) ≡ true → (is_one_of l x ≡ true → is_one_of (l ++ (y ∷ [])) x ≡ true) → (b || is_one_of (l ++ (y ∷ [])) x) ≡ true
        over true h r = refl
        over false h r = r h
    more [] x y h = absurd (false≢true h)

    by : (b : Bool) (s : Parsed Contents) → Only file_numbers s
        → (cond b (record { answer = buffer_too_short ∷ []; plan = no_plan; table = table }) (leaves s table)).answer ≡ number ∷ rest
        → is_one_of numbers number ≡ true
    by true s h e = ap (is_one_of numbers) (sym (same_number e))
    by false (got contents end) h e = absurd (let z : ◌≡◌ {A = ℕ} 0 1 = cc in omega arith)
    by false (no k) h e = ap (is_one_of numbers) (sym (same_number e)) ∙ more file_numbers k.number buffer_too_short h

-- The writer is refused only by 21 and 22.
pub writer_numbers : (p : Plan) (table out : List ℕ) (number : ℕ) → (writer p table out).answer ≡ writing.refused number
    → is_one_of (unsound ∷ buffer_too_short ∷ []) number ≡ true
unfolding writer
writer_numbers p table out number e =
    by (ltb (length table) places) (not (sound p table)) (ltb (length out) (length (written p (take places table)))) e
  where
    file : List ℕ
    file = written p (take places table)

    same : {m n : ℕ} → writing.refused m ≡ writing.refused n → m ≡ n
    same e = cc

    by : (a b c : Bool)
        → (cond a (withheld buffer_too_short out)
        (cond b (withheld unsound out)
        (cond c (withheld buffer_too_short out) (record { answer = wrote (length file); out = file ++ drop (length file) out })))
        ).answer ≡ writing.refused number
        → is_one_of (unsound ∷ buffer_too_short ∷ []) number ≡ true
    by true b c e = ap (is_one_of (unsound ∷ buffer_too_short ∷ [])) (sym (same e))
    by false true c e = ap (is_one_of (unsound ∷ buffer_too_short ∷ [])) (sym (same e))
    by false false true e = ap (is_one_of (unsound ∷ buffer_too_short ∷ [])) (sym (same e))
    by false false false e = absurd (let z : ◌≡◌ {A = ℕ} 0 1 = cc in omega arith)

-- A report has no number but the listed ones. `fault`, `or_else` and `first` preserve this.
abbrev Within : List ℕ → Report → Type 0
Within numbers [] = Unit {0}
Within numbers (number ∷ rest) = is_one_of numbers number ≡ true

within_fault : (numbers : List ℕ) (b : Bool) (number : ℕ) (rest : Report) → is_one_of numbers number ≡ true → Within numbers (fault b (number ∷ rest))
within_fault numbers true number rest h = h
within_fault numbers false number rest h = tt

within_or : (numbers : List ℕ) (a b : Report) → Within numbers a → Within numbers b → Within numbers (or_else a b)
within_or numbers [] b h k = k
within_or numbers (number ∷ rest) b h k = h

within_first : (numbers : List ℕ) (f : ℕ → Report) (n : ℕ) → ((k : ℕ) → Within numbers (f k)) → Within numbers (first f n)
unfolding first
within_first numbers f zero h = tt
within_first numbers f (suc n) h = within_or numbers (first f n) (f n) (within_first numbers f n h) (h n)

is_within : (numbers : List ℕ) {report : Report} {number : ℕ} {rest : Report} → Within numbers report → report ≡ number ∷ rest → is_one_of numbers number ≡ true
is_within numbers h e = rw e at h

-- The refusals that judge and slack share: 22, 21, 15, 16 and 17.
module _ (p : Plan) (table : List ℕ) (numbers : List ℕ) (h22 : is_one_of numbers buffer_too_short ≡ true) (h21 : is_one_of numbers unsound ≡ true)
    (h15 : is_one_of numbers outside_window ≡ true) (h16 : is_one_of numbers wrong_total ≡ true) (h17 : is_one_of numbers over_capacity ≡ true) where
  hand_within : Within numbers (hand_fault p table)
  hand_within =
      within_or numbers (fault (ltb (length table) places) (buffer_too_short ∷ [])) (fault (not (sound p table)) (unsound ∷ []))
      (within_fault numbers (ltb (length table) places) buffer_too_short [] h22) (within_fault numbers (not (sound p table)) unsound [] h21)

  constraint_within : Within numbers (constraint_fault p table)
  unfolding outside_fault total_fault capacity_fault
  constraint_within =
      within_or numbers (outside_fault p table) (or_else (total_fault p table) (capacity_fault p table))
      (within_first numbers (λ i. first (λ j. fault (is_outside p table i j) (outside_window ∷ i ∷ j ∷ [])) (intervals p)) (counted p)
      (λ i. within_first numbers (λ j. fault (is_outside p table i j) (outside_window ∷ i ∷ j ∷ [])) (intervals p)
      (λ j. within_fault numbers (is_outside p table i j) outside_window (i ∷ j ∷ []) h15)))
      (within_or numbers (total_fault p table) (capacity_fault p table)
      (within_first numbers (λ i. fault (not (eqb (total p table i) (size p i))) (wrong_total ∷ i ∷ [])) (counted p)
      (λ i. within_fault numbers (not (eqb (total p table i) (size p i))) wrong_total (i ∷ []) h16))
      (within_first numbers (λ j. fault (ltb (p.n.0 * interval_length p j) (load p table j)) (over_capacity ∷ j ∷ [])) (intervals p)
      (λ j. within_fault numbers (ltb (p.n.0 * interval_length p j) (load p table j)) over_capacity (j ∷ []) h17)))

-- The judge, and so a start, is refused only by 15 to 18, 21 and 22.
pub judge_numbers_lem : (p : Plan) (table : List ℕ) (number : ℕ) (place : Report) → judged p table ≡ number ∷ place
    → is_one_of (outside_window ∷ wrong_total ∷ over_capacity ∷ below_floor_rule ∷ unsound ∷ buffer_too_short ∷ []) number ≡ true
unfolding judged floor_fault
judge_numbers_lem p table number place e =
    is_within numbers
    (within_or numbers (hand_fault p table) (or_else (constraint_fault p table) (floor_fault p table)) (hand_within p table numbers refl refl refl refl refl)
    (within_or numbers (constraint_fault p table) (floor_fault p table) (constraint_within p table numbers refl refl refl refl refl)
    (within_first numbers (λ l. first (λ m. fault (is_pair p l m && falls_short p table l m) (below_floor_rule ∷ l ∷ boundary p m ∷ [])) (suc (intervals p))) (intervals p)
    (λ l. within_first numbers (λ m. fault (is_pair p l m && falls_short p table l m) (below_floor_rule ∷ l ∷ boundary p m ∷ [])) (suc (intervals p))
    (λ m. within_fault numbers (is_pair p l m && falls_short p table l m) below_floor_rule (l ∷ boundary p m ∷ []) refl)))))
    e
  where
    numbers : List ℕ
    numbers = outside_window ∷ wrong_total ∷ over_capacity ∷ below_floor_rule ∷ unsound ∷ buffer_too_short ∷ []

-- The slack figure is refused only by 15 to 17, 21 and 22, and never without a number.
pub slack_numbers : (p : Plan) (table : List ℕ) (report : Report) → slack_figure p table ≡ refused report
    → (number : ℕ) × (place : Report) × (report ≡ number ∷ place)
    × (is_one_of (outside_window ∷ wrong_total ∷ over_capacity ∷ unsound ∷ buffer_too_short ∷ []) number ≡ true)
unfolding slack_figure
slack_numbers p table report e =
    by (or_else (hand_fault p table) (constraint_fault p table))
    (within_or numbers (hand_fault p table) (constraint_fault p table) (hand_within p table numbers refl refl refl refl refl)
    (constraint_within p table numbers refl refl refl refl refl))
    e
  where
    numbers : List ℕ
    numbers = outside_window ∷ wrong_total ∷ over_capacity ∷ unsound ∷ buffer_too_short ∷ []

    same : {a b : Report} → refused a ≡ refused b → a ≡ b
    same e = cc

    by : (l : Report) → Within numbers l → unless l (least_slack p table) ≡ refused report
        → (number : ℕ) × (place : Report) × (report ≡ number ∷ place) × (is_one_of numbers number ≡ true)
    by [] h e = absurd (rw e at (first_of_all p table).reached)
    by (number ∷ place) h e = (number, place, sym (same e), h)

-- A call whose refusals have some numbers, none of which is that of no refusal, has that number exactly if it is done.
pub number_tells : (numbers : List ℕ) (answer : Report) → is_one_of numbers done_number ≡ false
    → ((number : ℕ) (rest : Report) → answer ≡ number ∷ rest → is_one_of numbers number ≡ true) → eqb (number_of answer) done_number ≡ is_done answer
number_tells numbers [] none only = refl
number_tells numbers (number ∷ rest) none only =
    ne_eqb number done_number (λ e. absurd (false≢true (sym none ∙ ap (is_one_of numbers) (sym e) ∙ only number rest refl)))

-- A slot's call is refused only by 19 to 22.
pub step_numbers : (p : Plan) (table : List ℕ) (run : Run) (v : ℕ) (grants : List ℕ) (number : ℕ) (rest : Report)
    → (stepped p table run v grants).answer ≡ number ∷ rest
    → is_one_of (clock_at_end ∷ speed_above_normal ∷ unsound ∷ buffer_too_short ∷ []) number ≡ true
unfolding slot_fault
step_numbers p table run v grants number rest e =
    is_within numbers
    (within_or numbers (fault (not (slot_sound p run)) (unsound ∷ []))
    (or_else (fault short (buffer_too_short ∷ [])) (or_else (fault ends (clock_at_end ∷ [])) (fault fast (speed_above_normal ∷ []))))
    (within_fault numbers (not (slot_sound p run)) unsound [] refl)
    (within_or numbers (fault short (buffer_too_short ∷ [])) (or_else (fault ends (clock_at_end ∷ [])) (fault fast (speed_above_normal ∷ [])))
    (within_fault numbers short buffer_too_short [] refl)
    (within_or numbers (fault ends (clock_at_end ∷ [])) (fault fast (speed_above_normal ∷ [])) (within_fault numbers ends clock_at_end [] refl)
    (within_fault numbers fast speed_above_normal [] refl))))
    (sym (slot_answer p table run v grants) ∙ e)
  where
    numbers : List ℕ
    numbers = clock_at_end ∷ speed_above_normal ∷ unsound ∷ buffer_too_short ∷ []

    short : Bool
    short = ltb (length table) places || ltb (length grants) (counted p)

    ends : Bool
    ends = eqb run.clock.0 (last_deadline p)

    fast : Bool
    fast = ltb p.n.0 v

-- A shift is refused only by 21, 22 and 27.
pub shift_numbers : (p : Plan) (table : List ℕ) (run : Run) (speeds rows numbers : List ℕ) (number : ℕ) (rest : Report)
    → (shifted p table run speeds rows numbers).answer ≡ number ∷ rest → is_one_of (unsound ∷ too_many_speeds ∷ buffer_too_short ∷ []) number ≡ true
unfolding shift_fault
shift_numbers p table run speeds rows numbers number rest e =
    is_within three
    (within_or three (fault bad (unsound ∷ [])) (or_else (fault many (too_many_speeds ∷ [])) (fault short (buffer_too_short ∷ [])))
    (within_fault three bad unsound [] refl)
    (within_or three (fault many (too_many_speeds ∷ [])) (fault short (buffer_too_short ∷ [])) (within_fault three many too_many_speeds [] refl)
    (within_fault three short buffer_too_short [] refl)))
    (sym (shift_answer p table run speeds rows numbers) ∙ e)
  where
    three : List ℕ
    three = unsound ∷ too_many_speeds ∷ buffer_too_short ∷ []

    bad : Bool
    bad = not (slot_sound p run)

    many : Bool
    many = ltb most_speeds (length speeds)

    short : Bool
    short = ltb (length table) places || ltb (length rows) (row_start p (length speeds)) || ltb (length numbers) (length speeds)

-- The word that a job has ended is refused only by 21, 25 and 26.
pub end_numbers : (p : Plan) (run : Run) (position number : ℕ) (rest : Report) → (told_ended p run position).answer ≡ number ∷ rest
    → is_one_of (unsound ∷ no_such_job ∷ cannot_end ∷ []) number ≡ true
unfolding end_fault
end_numbers p run i number rest e =
    is_within numbers
    (within_or numbers (fault bad (unsound ∷ [])) (or_else (fault none (no_such_job ∷ [])) (fault over (cannot_end ∷ [])))
    (within_fault numbers bad unsound [] refl)
    (within_or numbers (fault none (no_such_job ∷ [])) (fault over (cannot_end ∷ [])) (within_fault numbers none no_such_job [] refl)
    (within_fault numbers over cannot_end [] refl)))
    (sym (word_answer p run i) ∙ e)
  where
    numbers : List ℕ
    numbers = unsound ∷ no_such_job ∷ cannot_end ∷ []

    bad : Bool
    bad = not (slot_sound p run)

    none : Bool
    none = not (ltb i p.count)

    over : Bool
    over = ltb run.clock.0 (release p i) || not (is_open (outcome p run i))

-- An outcome is refused only by 21.
pub outcome_numbers : (p : Plan) (run : Run) (position number : ℕ) → outcome p run position ≡ step.refused number → number ≡ unsound
unfolding outcome
outcome_numbers p run i number e =
    by (not (slot_sound p run && ltb i p.count)) (eqb (carried_of run i) (size p i)) (ended_of run i) (not (is_hi p i) && run.slow) (leb (deadline p i) run.clock.0) e
  where
    by : (a b e c d : Bool)
        → cond a (step.refused unsound) (cond b step.met (cond e step.ended_early (cond c step.discarded (cond d step.missed step.still_open)))) ≡ step.refused number
        → number ≡ unsound
    by true b e c d is = cc
    by false true e c d is = absurd (let z : ◌≡◌ {A = ℕ} 0 1 = cc in omega arith)
    by false false true c d is = absurd (let z : ◌≡◌ {A = ℕ} 0 1 = cc in omega arith)
    by false false false true d is = absurd (let z : ◌≡◌ {A = ℕ} 0 1 = cc in omega arith)
    by false false false false true is = absurd (let z : ◌≡◌ {A = ℕ} 0 1 = cc in omega arith)
    by false false false false false is = absurd (let z : ◌≡◌ {A = ℕ} 0 1 = cc in omega arith)

-- A line is refused only by 22.
pub line_numbers : (text out : List ℕ) (number : ℕ) → (printed text out).answer ≡ line.withheld number → number ≡ buffer_too_short
unfolding printed
line_numbers text out number e = by (ltb (length out) (length text)) e
  where
    by : (b : Bool)
        → (cond b (refusal buffer_too_short out) (record { answer = line.wrote (length text); out = text ++ drop (length text) out })).answer
        ≡ line.withheld number
        → number ≡ buffer_too_short
    by true e = cc
    by false e = absurd (let z : ◌≡◌ {A = ℕ} 0 1 = cc in omega arith)

-- For each theorem above, an instance that meets its premise. An empty file is refused by 1,
-- at offset 0.
pub empty_file : (reader [] (replicate places 7)).answer ≡ wrong_version ∷ 0 ∷ []
unfolding field version opening head preamble plan_file reader
empty_file = refl

-- Writing plan E is refused by 22 if the output has no room.
pub E_without_room : (writer plan_e table_e []).answer ≡ writing.refused buffer_too_short
unfolding table_of Below.every name_allowed names_hold names_differ grades_hold bounds_hold rules_hold insert boundaries_to no_stray sound bytes writing.jobs_bytes writing.rows_bytes writing.row_count writing.body written writer
E_without_room = refl

-- P3 is refused by 18, at interval 2 and deadline 10.
pub P3_refused : judged (plan_with P3.jobs) (table_of P3.rows) ≡ below_floor_rule ∷ 2 ∷ 10 ∷ []
unfolding table_of sum Below.every name_allowed names_hold names_differ grades_hold bounds_hold rules_hold insert boundaries_to no_stray sound first outside_fault total_fault capacity_fault is_hi_deadline floor_fault judged
P3_refused = refl

-- The slack of P4 is refused by 16, at job 1.
P4_unmeasured : slack_figure (plan_with P4.jobs) (table_of P4.rows) ≡ refused (wrong_total ∷ 1 ∷ [])
unfolding table_of sum Below.every name_allowed names_hold names_differ grades_hold bounds_hold rules_hold insert boundaries_to no_stray sound first outside_fault total_fault capacity_fault is_hi_deadline slack_figure
P4_unmeasured = refl

-- Plan E's first slot at speed 3 is refused by 20.
pub E_too_fast : (stepped plan_e table_e (started plan_e) 3 (7 ∷ 7 ∷ [])).answer ≡ speed_above_normal ∷ []
unfolding table_of Below.every Below.least Below.greatest grades_hold bounds_hold started slot_sound slot_fault stepped
E_too_fast = refl

-- Plan E has no third job: its outcome is refused by 21.
E_no_third : outcome plan_e (started plan_e) 2 ≡ step.refused unsound
unfolding Below.every Below.least Below.greatest grades_hold bounds_hold started slot_sound outcome
E_no_third = refl

-- A line into an empty buffer is refused by 22.
pub line_without_room : (printed stray_line []).answer ≡ line.withheld buffer_too_short
unfolding printed
line_without_room = refl
