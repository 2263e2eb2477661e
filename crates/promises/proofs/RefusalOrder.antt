-- The order of the refusals of each call, case by case: two grounds hold at once, and the answer is
-- the one that the rules test first. Then corners of the definitions that no rule's case reaches.
use mathlib.Core.Path.{◌≡◌, refl, sym, ◌∙◌, ap, ap₂}
use mathlib.Core.Bool.{Bool, true, false}
use mathlib.Core.List.{List, [], ◌∷◌, ◌++◌, map}
use Prim.Native.Nat.{ℕ, suc, ◌+◌, ◌≤◌, ◌<◌}
use borrow.Author.Tests.{lt-ltb}
use lib.IntN.{pos}
use lib.ListN.{length, replicate}
use Rattle.base.specs.Sum.{sum}
use Rattle.base.specs.Below
use Rattle.plan.specs.Edition.{most_jobs, most_rows, most_rate, places}
use Rattle.plan.specs.Versions.{newest_version}
use Rattle.plan.specs.Refusal.{wrong_version, wrong_extent, wrong_record_length, wrong_rates, wrong_job_count, wrong_name_byte, name_taken, wrong_grade, wrong_job_bounds, too_many_rows, row_without_job, row_without_interval, row_without_units, row_out_of_order, outside_window, wrong_total, over_capacity, below_floor_rule, clock_at_end, speed_above_normal, unsound, buffer_too_short, no_such_job, cannot_end, too_many_speeds}
use Rattle.plan.specs.Report.{Report, done_number, first}
use Rattle.plan.specs.Rules.{lo, hi, no_plan, name_allowed, is_absent, names_hold, names_differ, grades_hold, bounds_hold, rules_hold}
use Rattle.plan.specs.Boundaries.{insert, boundaries_to, come}
use Rattle.plan.specs.Table.{no_stray, sound}
use Rattle.plan.specs.declared.kinds.Plan.{Plan}
use Rattle.planfields.specs.Layout.{job_length, row_length}
use Rattle.fields.specs.Bytes.{bytes, value}
use Rattle.fields.specs.Parsers.{field, version, extent, opening, ended, record_length}
use Rattle.planfields.specs.Records.{head, job_name, one_job}
use Rattle.planfile.specs.Reader.{all_jobs, position, row_job, one_row, all_rows, preamble, plan_file, read_file, leaves, reader, ReadEffect}
use Rattle.planfile.proofs.WholeFile.{reader_long}
use Rattle.planwriter.specs.Writing as writing
use Rattle.planwriter.specs.Writing.{written, writer}
use Rattle.judge.specs.Verdict.{outside_fault, total_fault, capacity_fault, is_hi_deadline, floor_fault, judged}
use Rattle.judge.specs.Slack.{refused, slack_of, slack_figure}
use Rattle.dispatch.specs.declared.Run.{Run}
use Rattle.dispatch.specs.Step as step
use Rattle.dispatch.specs.Step.{started, no_run, start_from, start_in, slot_sound, slot_fault, stepped, outcome, end_fault, ended_with, told_ended, granted, added, advanced}
use Rattle.dispatch.specs.Order.{enqueue, queue, order, serve}
use Rattle.dispatch.specs.Shift.{slots_from, shift_fault, shifted}
use Rattle.hostmemory.specs.Memory.{plan_words, run_words, jobs_to, plan_in, plan_of, jobs_out, plan_out, are_marks, marks_hold, run_in, run_of}
use Rattle.gateway.specs.Calls.{open_number, judge_call, start_call, step_call, outcome_call, end_call, read_call, write_call, shift_call}
use Rattle.promises.proofs.Cases.{job, padded, plan_with, table_of, capital_mirror, small_mirror, plan_e, table_e}

-- A file with the version and the right length before its body.
abbrev whole : List ℕ → List ℕ
whole body = bytes 1 newest_version ++ bytes 4 (length body) ++ body

-- Both rates and the job count.
abbrev head_bytes : ℕ → ℕ → ℕ → List ℕ
head_bytes n d count = bytes 2 n ++ bytes 2 d ++ bytes 1 count

-- A job: its length byte, name, grade, release, size and deadline.
abbrev job_fields : ℕ → ℕ → ℕ → ℕ → ℕ → ℕ → List ℕ
job_fields length name grade release size deadline =
    bytes 1 length ++ bytes 8 name ++ bytes 1 grade ++ bytes 4 release ++ bytes 4 size ++ bytes 4 deadline

-- A row: its length byte, name, interval and units.
abbrev row_fields : ℕ → ℕ → ℕ → ℕ → List ℕ
row_fields length name interval units = bytes 1 length ++ bytes 8 name ++ bytes 2 interval ++ bytes 4 units

-- A name whose first byte is a space, which no name may have.
abbrev spaced_mirror : ℕ
spaced_mirror = 0x2069_7272_6F72_2D41

-- The head and the job of a plan of one job, which has one interval, 0.
abbrev one_good : List ℕ
one_good = head_bytes 2 1 1 ++ job_fields job_length capital_mirror lo 0 6 5

-- The head of a plan of one job.
abbrev one_head : List ℕ
one_head = head_bytes 2 1 1

-- Head and jobs of plan E, which has three intervals.
abbrev two_good : List ℕ
two_good = head_bytes 2 1 2 ++ job_fields job_length capital_mirror lo 0 6 5 ++ job_fields job_length small_mirror hi 1 8 10

-- A good row of plan E's second job.
abbrev second_row : List ℕ
second_row = row_fields row_length small_mirror 1 4

-- A file, the number that must refuse it, and the offset of the field in hand.
pub record FileCase : Type 0 where
  pub file : List ℕ
  pub must : ℕ
  pub at : ℕ

abbrev gives : List ℕ → ℕ → ℕ → FileCase
gives file must at = record { file = file; must = must; at = at }

-- The reader, front to back. A field that the bytes do not hold whole is 2 before its value counts,
-- and after a test that fails nothing more is read.
abbrev head_cases : List FileCase
head_cases =
    -- No first byte is 1, and a wrong one is 1 although the length field is missing.
    gives [] wrong_version 0
    ∷ gives (suc newest_version ∷ []) wrong_version 0
    -- A length field that is missing is 2.
    ∷ gives (bytes 1 newest_version) wrong_extent 1
    -- A wrong length field is 2 although the rates are wrong.
    ∷ gives (bytes 1 newest_version ++ bytes 4 9 ++ bytes 2 2 ++ bytes 2 2) wrong_extent 1
    -- n is out of bounds, but d is cut.
    ∷ gives (whole (bytes 2 (most_rate + 1) ++ bytes 1 0)) wrong_extent 7
    -- Wrong rates are 4 although the count is missing, or is wrong too.
    ∷ gives (whole (bytes 2 2 ++ bytes 2 2)) wrong_rates 5
    ∷ gives (whole (head_bytes 2 2 0)) wrong_rates 5
    -- A wrong count is 5 although the first job is missing, or its length byte is wrong.
    ∷ gives (whole (head_bytes 2 1 (most_jobs + 1))) wrong_job_count 9
    ∷ gives (whole (head_bytes 2 1 (most_jobs + 1) ++ job_fields (job_length + 1) capital_mirror lo 0 6 5)) wrong_job_count 9
    ∷ []

abbrev job_cases : List FileCase
job_cases =
    -- A wrong length byte is 3 although the name is cut, or has a byte that it may not have.
    gives (whole (one_head ++ bytes 1 (job_length + 1) ++ bytes 1 0)) wrong_record_length 10
    ∷ gives (whole (one_head ++ job_fields (job_length + 1) spaced_mirror lo 0 6 5)) wrong_record_length 10
    -- A job that would begin at the end of the file is 2 there.
    ∷ gives (whole one_head) wrong_extent 10
    -- A name that is cut is 2 although its first byte is wrong.
    ∷ gives (whole (one_head ++ bytes 1 job_length ++ bytes 1 0x20)) wrong_extent 11
    -- A wrong name is 6, and a name that is taken is 7, although the grade is wrong. (Both cannot
    -- be: the earlier job with that name is refused.)
    ∷ gives (whole (one_head ++ job_fields job_length spaced_mirror 2 0 6 5)) wrong_name_byte 11
    ∷ gives (whole (head_bytes 2 1 2 ++ job_fields job_length capital_mirror lo 0 6 5 ++ job_fields job_length capital_mirror 2 1 8 10)) name_taken 33
    -- A wrong grade is 8 although the release is missing, or the size is wrong.
    ∷ gives (whole (one_head ++ bytes 1 job_length ++ bytes 8 capital_mirror ++ bytes 1 2)) wrong_grade 19
    ∷ gives (whole (one_head ++ job_fields job_length capital_mirror 2 0 0 5)) wrong_grade 19
    -- The size is 0, but the deadline is cut.
    ∷ gives (whole (one_head ++ bytes 1 job_length ++ bytes 8 capital_mirror ++ bytes 1 lo ++ bytes 4 0 ++ bytes 4 0 ++ bytes 3 0)) wrong_extent 28
    -- A wrong size is 9 although the next job's length byte is wrong, the row count is missing, or
    -- it is above its bound.
    ∷ gives (whole (head_bytes 2 1 2 ++ job_fields job_length capital_mirror lo 0 0 5 ++ job_fields (job_length + 1) small_mirror hi 1 8 10)) wrong_job_bounds 20
    ∷ gives (whole (one_head ++ job_fields job_length capital_mirror lo 0 0 5)) wrong_job_bounds 20
    ∷ gives (whole (one_head ++ job_fields job_length capital_mirror lo 0 0 5 ++ bytes 2 (most_rows + 1))) wrong_job_bounds 20
    ∷ []

abbrev row_cases : List FileCase
row_cases =
    -- Too many rows are 10 although none is there, or the first one's length byte is wrong.
    gives (whole (one_good ++ bytes 2 (most_rows + 1))) too_many_rows 32
    ∷ gives (whole (one_good ++ bytes 2 (most_rows + 1) ++ row_fields (row_length + 1) capital_mirror 0 6)) too_many_rows 32
    -- A wrong length byte is 3 although no job has the name.
    ∷ gives (whole (one_good ++ bytes 2 1 ++ row_fields (row_length + 1) small_mirror 0 6)) wrong_record_length 34
    -- A name that is cut is 2, and one with a byte that no name may have is 11.
    ∷ gives (whole (one_good ++ bytes 2 1 ++ bytes 1 row_length ++ bytes 1 0x20)) wrong_extent 35
    ∷ gives (whole (one_good ++ bytes 2 1 ++ row_fields row_length spaced_mirror 0 6)) row_without_job 35
    -- An unknown name is 11 although the interval is missing, or past the last one.
    ∷ gives (whole (one_good ++ bytes 2 1 ++ bytes 1 row_length ++ bytes 8 small_mirror)) row_without_job 35
    ∷ gives (whole (one_good ++ bytes 2 1 ++ row_fields row_length small_mirror 1 6)) row_without_job 35
    -- An interval past the last one is 12 although the units are missing, or 0.
    ∷ gives (whole (one_good ++ bytes 2 1 ++ bytes 1 row_length ++ bytes 8 capital_mirror ++ bytes 2 1)) row_without_interval 43
    ∷ gives (whole (one_good ++ bytes 2 1 ++ row_fields row_length capital_mirror 1 0)) row_without_interval 43
    -- A row out of order is 12 if its interval is past the last one, 13 if it has 0 units.
    ∷ gives (whole (two_good ++ bytes 2 2 ++ second_row ++ row_fields row_length capital_mirror 3 4)) row_without_interval 80
    ∷ gives (whole (two_good ++ bytes 2 2 ++ second_row ++ row_fields row_length capital_mirror 0 0)) row_without_units 82
    -- Otherwise it is 14, also a second row of one place, although the next row is missing, or bytes
    -- are left.
    ∷ gives (whole (two_good ++ bytes 2 3 ++ second_row ++ second_row)) row_out_of_order 71
    ∷ gives (whole (two_good ++ bytes 2 2 ++ second_row ++ row_fields row_length capital_mirror 0 2 ++ bytes 1 0)) row_out_of_order 71
    -- Bytes that are left after good rows are 2.
    ∷ gives (whole (two_good ++ bytes 2 1 ++ second_row ++ bytes 1 0)) wrong_extent 71
    ∷ []

abbrev pub file_cases : List FileCase
file_cases = head_cases ++ job_cases ++ row_cases

file_cases_lem : (table : List ℕ) → map (λ (c : FileCase). (leaves (read_file c.file) table).answer) file_cases ≡ map (λ (c : FileCase). c.must ∷ c.at ∷ []) file_cases
unfolding Below.every name_allowed is_absent insert boundaries_to bytes value field version extent opening head record_length job_name one_job all_jobs position row_job one_row all_rows preamble plan_file ended
file_cases_lem table = refl

-- The reader gives each file its number and its offset, if the table is long enough.
pub reader_order : (table : List ℕ) → places ≤ length table
    → map (λ (c : FileCase). (reader c.file table).answer) file_cases ≡ map (λ (c : FileCase). c.must ∷ c.at ∷ []) file_cases
reader_order table long = each file_cases ∙ file_cases_lem table
  where
    each : (l : List FileCase) → map (λ (c : FileCase). (reader c.file table).answer) l ≡ map (λ (c : FileCase). (leaves (read_file c.file) table).answer) l
    each [] = refl
    each (c ∷ l) = ap₂ ◌∷◌ (ap (λ (x : ReadEffect). x.answer) (sym (reader_long c.file table long))) (each l)

-- A table that is too short is 22, whatever the file is.
pub reader_22_first : (file table : List ℕ) → length table < places → (reader file table).answer ≡ buffer_too_short ∷ []
unfolding reader
reader_22_first file table l = rw (lt-ltb (length table) places l) refl

-- A plan in hand with its table, and the report that the judge must give.
pub record JudgeCase : Type 0 where
  pub plan : Plan
  pub table : List ℕ
  pub must : Report

-- A case of the judge.
abbrev answers : Plan → List ℕ → Report → JudgeCase
answers plan table must = record { plan = plan; table = table; must = must }

-- Plan E with a second grade that is neither LO nor HI.
abbrev gradeless_e : Plan
gradeless_e = plan_with (job capital_mirror lo 0 6 5 ∷ job small_mirror 2 1 8 10 ∷ [])

-- The order of the judge: 22, 21, 15, 16, 17, 18.
abbrev pub shared_cases : List JudgeCase
shared_cases =
    -- A short table is 22 although the plan is unsound.
    answers no_plan [] (buffer_too_short ∷ [])
    -- A wrong grade is 21, and so is a stray place, although units lie outside a window.
    ∷ answers gradeless_e (table_of ((2 ∷ 3 ∷ 1 ∷ []) ∷ (0 ∷ 4 ∷ 4 ∷ []) ∷ [])) (unsound ∷ [])
    ∷ answers plan_e (table_of ((2 ∷ 3 ∷ 1 ∷ 1 ∷ []) ∷ (0 ∷ 4 ∷ 4 ∷ []) ∷ [])) (unsound ∷ [])
    -- Units outside a window are 15 although the job's total is wrong, or an earlier job's.
    ∷ answers plan_e (table_of ((2 ∷ 3 ∷ 2 ∷ []) ∷ (0 ∷ 4 ∷ 4 ∷ []) ∷ [])) (outside_window ∷ 0 ∷ 2 ∷ [])
    ∷ answers plan_e (table_of ((2 ∷ 3 ∷ 0 ∷ []) ∷ (1 ∷ 4 ∷ 3 ∷ []) ∷ [])) (outside_window ∷ 1 ∷ 0 ∷ [])
    -- A wrong total is 16 although an interval is over its capacity.
    ∷ answers plan_e (table_of ((2 ∷ 4 ∷ 0 ∷ []) ∷ (0 ∷ 5 ∷ 2 ∷ []) ∷ [])) (wrong_total ∷ 1 ∷ [])
    -- An interval over its capacity is 17 although the floor rule is broken.
    ∷ answers (plan_with (job capital_mirror lo 0 5 2 ∷ job small_mirror hi 0 4 4 ∷ [])) (table_of ((5 ∷ 0 ∷ []) ∷ (0 ∷ 4 ∷ []) ∷ [])) (over_capacity ∷ 0 ∷ [])
    ∷ []

-- The same plan within its capacities is 18.
abbrev pub judge_cases : List JudgeCase
judge_cases =
    shared_cases
    ++ answers (plan_with (job capital_mirror lo 0 4 2 ∷ job small_mirror hi 0 4 4 ∷ [])) (table_of ((4 ∷ 0 ∷ []) ∷ (0 ∷ 4 ∷ []) ∷ [])) (below_floor_rule ∷ 1 ∷ 4 ∷ [])
    ∷ []

pub judge_order : map (λ (c : JudgeCase). judged c.plan c.table) judge_cases ≡ map (λ (c : JudgeCase). c.must) judge_cases
unfolding table_of sum Below.every name_allowed names_hold names_differ grades_hold bounds_hold rules_hold insert boundaries_to no_stray sound first outside_fault total_fault capacity_fault is_hi_deadline floor_fault judged
judge_order = refl

-- The slack figure is refused in the same order.
pub slack_order : map (λ (c : JudgeCase). slack_figure c.plan c.table) shared_cases ≡ map (λ (c : JudgeCase). refused c.must) shared_cases
unfolding table_of sum Below.every name_allowed names_hold names_differ grades_hold bounds_hold rules_hold insert boundaries_to no_stray sound first outside_fault total_fault capacity_fault slack_figure
slack_order = refl

-- The writer: 22 for the table although the plan is unsound, 21 although the output is too
-- short, and then 22 for the output.
pub writer_order : ((writer no_plan [] []).answer ≡ writing.refused buffer_too_short)
    × ((writer gradeless_e table_e []).answer ≡ writing.refused unsound)
    × ((writer plan_e table_e (replicate 115 7)).answer ≡ writing.refused buffer_too_short)
    × ((writer plan_e table_e (replicate 116 7)).answer ≡ writing.wrote 116)
unfolding table_of Below.every name_allowed names_hold names_differ grades_hold bounds_hold rules_hold insert boundaries_to no_stray sound bytes writing.jobs_bytes writing.rows_bytes writing.row_count writing.body written writer
writer_order = (refl, refl, refl, refl)

-- A run of plan E at a clock, with what is carried for its jobs.
abbrev run_e : ℕ → Bool → ℕ → ℕ → Run
run_e clock slow first second = record { clock = record { 0 = clock }; slow = slow; below = false; carried = padded most_jobs 0 (first ∷ second ∷ []); ended = replicate most_jobs false }

-- The step: 21 (more is carried than the size) although the table is too short; 22 (table, or grant
-- row) although the clock stands at the last deadline; 19 although the speed is above n; then 20.
pub step_order : ((stepped plan_e [] (run_e 10 false 7 8) 3 []).answer ≡ unsound ∷ [])
    × ((stepped plan_e [] (run_e 10 false 6 8) 3 (7 ∷ 7 ∷ [])).answer ≡ buffer_too_short ∷ [])
    × ((stepped plan_e table_e (run_e 10 false 6 8) 3 (7 ∷ [])).answer ≡ buffer_too_short ∷ [])
    × ((stepped plan_e table_e (run_e 10 false 6 8) 3 (7 ∷ 7 ∷ [])).answer ≡ clock_at_end ∷ [])
    × ((stepped plan_e table_e (run_e 9 false 6 8) 3 (7 ∷ 7 ∷ [])).answer ≡ speed_above_normal ∷ [])
unfolding table_of Below.every Below.least Below.greatest grades_hold bounds_hold slot_sound slot_fault stepped
step_order = (refl, refl, refl, refl, refl)

-- The shift: 21 (more is carried than the size) although there are too many speeds; 27 although the table is too short; 22
-- for the table, even without a speed, for the rows, and for the numbers; then it is done, with 256 speeds and with none.
pub shift_order : ((shifted plan_e [] (run_e 10 false 7 8) (replicate 257 3) [] []).answer ≡ unsound ∷ [])
    × ((shifted plan_e [] (run_e 10 false 6 8) (replicate 257 3) [] []).answer ≡ too_many_speeds ∷ [])
    × ((shifted plan_e [] (run_e 10 false 6 8) [] [] []).answer ≡ buffer_too_short ∷ [])
    × ((shifted plan_e table_e (run_e 10 false 6 8) (3 ∷ []) (7 ∷ []) (7 ∷ [])).answer ≡ buffer_too_short ∷ [])
    × ((shifted plan_e table_e (run_e 10 false 6 8) (3 ∷ []) (7 ∷ 7 ∷ []) []).answer ≡ buffer_too_short ∷ [])
    × (shift_fault plan_e table_e (run_e 10 false 6 8) (replicate 256 3) (replicate 512 7) (replicate 256 7) ≡ [])
    × ((shifted plan_e table_e (run_e 10 false 6 8) [] [] []).answer ≡ [])
unfolding table_of Below.every Below.least Below.greatest grades_hold bounds_hold slot_sound slots_from shift_fault shifted
shift_order = (refl, refl, refl, refl, refl, refl, refl)

-- A shift of plan E from its start at speeds 2, 3 and 1, with one place of rows and numbers too many: the first slot carries
-- 2 units for the LO job; 3 is above n, so its row stays; the third is slow, and the HI job has its one unit.
pub shift_of_e : shifted plan_e table_e (run_e 0 false 0 0) (2 ∷ 3 ∷ 1 ∷ []) (replicate 7 9) (replicate 4 5)
    ≡ record { answer = []; run = run_e 2 true 2 1; rows = 2 ∷ 0 ∷ 9 ∷ 9 ∷ 0 ∷ 1 ∷ 9 ∷ []; numbers = 0 ∷ 20 ∷ 0 ∷ 5 ∷ [] }
unfolding table_of sum Below.every Below.least Below.greatest grades_hold bounds_hold insert boundaries_to come enqueue queue order serve added granted advanced slot_sound slot_fault stepped slots_from shift_fault shifted
shift_of_e = refl

-- The outcome: 21 although the job has its size (more is carried for another than its size), or
-- where no job is; met although the job would be discarded and its deadline is reached; discarded
-- although the deadline is reached; missed at the deadline; and open before it.
pub outcome_order : (outcome plan_e (run_e 5 false 7 8) 1 ≡ step.refused unsound)
    × (outcome plan_e (run_e 5 false 6 8) 2 ≡ step.refused unsound)
    × (outcome plan_e (run_e 5 true 6 4) 0 ≡ step.met)
    × (outcome plan_e (run_e 5 true 5 4) 0 ≡ step.discarded)
    × (outcome plan_e (run_e 5 false 5 4) 0 ≡ step.missed)
    × (outcome plan_e (run_e 4 false 5 4) 0 ≡ step.still_open)
    × (outcome plan_e (run_e 10 true 5 7) 1 ≡ step.missed)
unfolding Below.every Below.least Below.greatest grades_hold bounds_hold slot_sound outcome
outcome_order = (refl, refl, refl, refl, refl, refl, refl)

-- The word that a job has ended: 21 (more is carried for another than its size) although there is no such job; 25 where no
-- job is, of which the outcome says 21; 26 for a job that is met, discarded or missed, and before the release, where the
-- outcome is open; taken at the release; and ended, 26 for the same job again, which has not been given anything.
pub end_order : ((told_ended plan_e (run_e 5 false 7 8) 2).answer ≡ unsound ∷ [])
    × ((told_ended plan_e (run_e 5 false 6 8) 2).answer ≡ no_such_job ∷ [])
    × ((told_ended plan_e (run_e 4 false 6 4) 0).answer ≡ cannot_end ∷ [])
    × ((told_ended plan_e (run_e 4 true 5 4) 0).answer ≡ cannot_end ∷ [])
    × ((told_ended plan_e (run_e 5 false 5 4) 0).answer ≡ cannot_end ∷ [])
    × ((told_ended plan_e (run_e 0 false 0 0) 1).answer ≡ cannot_end ∷ [])
    × ((told_ended plan_e (run_e 1 false 2 0) 1).answer ≡ [])
    × (outcome plan_e (told_ended plan_e (run_e 1 false 2 0) 1).run 1 ≡ step.ended_early)
    × ((told_ended plan_e (told_ended plan_e (run_e 1 false 2 0) 1).run 1).answer ≡ cannot_end ∷ [])
unfolding Below.every Below.least Below.greatest grades_hold bounds_hold slot_sound outcome end_fault told_ended
end_order = (refl, refl, refl, refl, refl, refl, refl, refl, refl)

-- Ended comes before discarded and before missed, and after met: here in runs made by hand.
pub ended_before_discarded : (outcome plan_e (ended_with (run_e 4 true 5 4) 0) 0 ≡ step.ended_early)
    × (outcome plan_e (ended_with (run_e 5 false 5 4) 0) 0 ≡ step.ended_early)
    × (outcome plan_e (ended_with (run_e 4 true 6 4) 0) 0 ≡ step.met)
unfolding Below.every Below.least Below.greatest grades_hold bounds_hold slot_sound outcome
ended_before_discarded = (refl, refl, refl)

-- The words of plan E, word for word: n, d, the count, and for each job its name, grade, release,
-- size and deadline; then zeros.
abbrev pub words_of_e : List ℕ
words_of_e =
    2 ∷ 1 ∷ 2
    ∷ capital_mirror ∷ 0 ∷ 0 ∷ 6 ∷ 5
    ∷ small_mirror ∷ 1 ∷ 1 ∷ 8 ∷ 10
    ∷ replicate 150 0

-- They encode plan E.
pub words_encode_e : plan_of words_of_e ≡ plan_e
unfolding jobs_to plan_in plan_of
words_encode_e = refl

-- The words of a run, word for word: clock, slow mark, below-floor mark, the carried units and the ended marks.
abbrev run_words_of : ℕ → ℕ → ℕ → List ℕ
run_words_of clock slow below = clock ∷ slow ∷ below ∷ 5 ∷ 3 ∷ replicate 62 0

-- They encode that run. Either mark is read from its own word.
pub words_encode_run : (run_of (run_words_of 4 1 0) ≡ run_e 4 true 5 3)
    × (run_of (run_words_of 4 0 1)
    ≡ record { clock = record { 0 = 4 }; slow = false; below = true; carried = padded most_jobs 0 (5 ∷ 3 ∷ []); ended = replicate most_jobs false })
unfolding run_in run_of
words_encode_run = (refl, refl)

-- The calls for hosts. The step: 22 for too few words of plan or run although a mark is 2; 21 for
-- such a mark although the table is too short; and then the order of the step, 21 before 22.
pub host_step_order : ((step_call [] table_e (run_words_of 4 2 0) 3 []).number ≡ buffer_too_short)
    × ((step_call words_of_e table_e (4 ∷ 2 ∷ []) 3 []).number ≡ buffer_too_short)
    × ((step_call words_of_e [] (run_words_of 4 2 0) 3 []).number ≡ unsound)
    × ((step_call words_of_e [] (run_words_of 4 0 2) 3 []).number ≡ unsound)
    × ((step_call words_of_e [] (run_words_of 11 0 0) 3 []).number ≡ unsound)
    × ((step_call words_of_e [] (run_words_of 4 0 0) 3 []).number ≡ buffer_too_short)
unfolding table_of Below.every Below.least Below.greatest grades_hold bounds_hold slot_sound slot_fault stepped jobs_to plan_in plan_of are_marks marks_hold run_in run_of step_call
host_step_order = (refl, refl, refl, refl, refl, refl)

-- The shift: the same, and 27 before 22 for the table.
pub host_shift_order : ((shift_call [] table_e (run_words_of 4 2 0) (replicate 257 3) [] []).number ≡ buffer_too_short)
    × ((shift_call words_of_e table_e (4 ∷ 2 ∷ []) (replicate 257 3) [] []).number ≡ buffer_too_short)
    × ((shift_call words_of_e [] (run_words_of 4 2 0) (replicate 257 3) [] []).number ≡ unsound)
    × ((shift_call words_of_e [] (run_words_of 11 0 0) (replicate 257 3) [] []).number ≡ unsound)
    × ((shift_call words_of_e [] (run_words_of 4 0 0) (replicate 257 3) [] []).number ≡ too_many_speeds)
    × ((shift_call words_of_e [] (run_words_of 4 0 0) [] [] []).number ≡ buffer_too_short)
    × ((shift_call words_of_e table_e (run_words_of 4 0 0) [] [] []).number ≡ done_number)
unfolding table_of Below.every Below.least Below.greatest grades_hold bounds_hold slot_sound slots_from shift_fault shifted jobs_to plan_in plan_of are_marks marks_hold run_in run_of shift_call
host_shift_order = (refl, refl, refl, refl, refl, refl, refl)

-- The outcome: the same, and 21 for a position without a job.
pub host_outcome_order : (outcome_call [] (run_words_of 4 2 0) 2 ≡ buffer_too_short)
    × (outcome_call words_of_e (4 ∷ 2 ∷ []) 2 ≡ buffer_too_short)
    × (outcome_call words_of_e (run_words_of 4 2 0) 0 ≡ unsound)
    × (outcome_call words_of_e (run_words_of 4 0 0) 2 ≡ unsound)
    × (outcome_call words_of_e (run_words_of 4 0 0) 0 ≡ open_number)
unfolding Below.every Below.least Below.greatest grades_hold bounds_hold slot_sound outcome jobs_to plan_in plan_of are_marks marks_hold run_in run_of outcome_call
host_outcome_order = (refl, refl, refl, refl, refl)

-- The word: 22 and 21 in that order, as the outcome; then 25, and 26 before the release.
pub host_end_order : ((end_call [] (run_words_of 4 2 0) 2).number ≡ buffer_too_short)
    × ((end_call words_of_e (4 ∷ 2 ∷ []) 2).number ≡ buffer_too_short)
    × ((end_call words_of_e (run_words_of 4 2 0) 2).number ≡ unsound)
    × ((end_call words_of_e (run_words_of 4 0 0) 2).number ≡ no_such_job)
    × ((end_call words_of_e (run_words_of 0 0 0) 1).number ≡ cannot_end)
    × ((end_call words_of_e (run_words_of 4 0 0) 0).number ≡ done_number)
unfolding Below.every Below.least Below.greatest grades_hold bounds_hold slot_sound outcome end_fault told_ended jobs_to plan_in plan_of are_marks marks_hold run_in run_of end_call
host_end_order = (refl, refl, refl, refl, refl, refl)

-- Judge and start: 22 for a location of one word although the plan is unsound, which is 21 with a
-- location of two.
pub host_judge_order : ((judge_call (replicate plan_words 0) table_e (7 ∷ [])).number ≡ buffer_too_short)
    × ((judge_call (replicate plan_words 0) table_e (7 ∷ 7 ∷ [])).number ≡ unsound)
    × ((start_call (replicate plan_words 0) table_e (replicate run_words 7) (7 ∷ [])).number ≡ buffer_too_short)
    × ((start_call (replicate plan_words 0) table_e (replicate run_words 7) (7 ∷ 7 ∷ [])).number ≡ unsound)
unfolding table_of rules_hold sound judged jobs_to plan_in plan_of judge_call start_call
host_judge_order = (refl, refl, refl, refl)

-- Read and write: 22 for too few words of the plan, although the file is empty, which is 1, or the
-- plan of zeros that they stand for is unsound.
pub host_file_order : ((read_call [] [] (replicate places 7) 0).number ≡ buffer_too_short)
    × ((read_call [] (replicate plan_words 7) (replicate places 7) 0).number ≡ wrong_version)
    × ((write_call [] table_e [] 0).number ≡ buffer_too_short)
    × ((write_call (replicate plan_words 0) table_e [] 0).number ≡ unsound)
unfolding table_of rules_hold sound field version opening head preamble plan_file reader writer jobs_to plan_in plan_of read_call write_call
host_file_order = (refl, refl, refl, refl)

-- `slack_of` with a time before the interval's start is 0: neither capacity nor demand. Boundary 3 is
-- the last one of plan E; from it on there is no demand, and past it a boundary reads as 0.
pub slack_of_corners : (slack_of plan_e table_e 2 4 ≡ pos 0)
    × (slack_of plan_e table_e 2 10 ≡ pos 1)
    × (slack_of plan_e table_e 3 10 ≡ pos 0)
    × (slack_of plan_e table_e 4 10 ≡ pos 10)
unfolding table_of sum insert boundaries_to
slack_of_corners = (refl, refl, refl, refl)

-- A plan whose first release is 3, refused by 16.
abbrev late_plan : Plan
late_plan = plan_with (job capital_mirror lo 3 6 8 ∷ [])

-- Beside a refused start the clock is 0, not the first release; in a lent record, and in a host's
-- words, it is what it was.
pub refused_start_clock : (judged late_plan (table_of []) ≡ wrong_total ∷ 0 ∷ [])
    × ((started late_plan).clock.0 ≡ 3)
    × ((start_from (judged late_plan (table_of [])) (started late_plan) no_run).clock.0 ≡ 0)
    × ((start_in late_plan (table_of []) (run_e 7 true 5 4)).clock.0 ≡ 7)
    × ((run_of (start_call (plan_out late_plan) (table_of []) (run_words_of 7 1 0) (9 ∷ 9 ∷ [])).run).clock.0 ≡ 7)
unfolding table_of sum Below.every Below.least name_allowed names_hold names_differ grades_hold bounds_hold rules_hold insert boundaries_to no_stray sound first outside_fault total_fault judged started start_in jobs_to plan_in plan_of jobs_out plan_out run_in run_of start_call
refused_start_clock = (refl, refl, refl, refl, refl)
