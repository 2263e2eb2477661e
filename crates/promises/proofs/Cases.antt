-- The cases P1 to P13 of docs/RULES: one list, and one theorem that every case gives what it must.
use mathlib.Core.Path.{◌≡◌, refl}
use mathlib.Core.List.{List, [], ◌∷◌, ◌++◌, map}
use Prim.Native.Nat.{ℕ, zero, suc, ◌-◌}
use lib.IntN.{pos, negsuc}
use lib.ListN.{length, take, replicate}
use Rattle.base.specs.Sum.{sum, on}
use Rattle.plan.specs.Edition.{most_jobs, most_intervals, places}
use Rattle.plan.specs.Refusal.{outside_window, wrong_total, over_capacity, below_floor_rule, speed_above_normal}
use Rattle.base.specs.Below
use Rattle.plan.specs.Rules.{hi, lo, no_job, name_allowed, names_hold, names_differ, grades_hold, bounds_hold, rules_hold}
use Rattle.plan.specs.Boundaries.{insert, boundaries_to, come}
use Rattle.plan.specs.Table.{no_stray, sound}
use Rattle.plan.specs.declared.kinds.Job.{Job}
use Rattle.plan.specs.declared.kinds.Plan.{Plan}
use Rattle.judge.specs.Verdict.{outside_fault, total_fault, capacity_fault, is_hi_deadline, floor_fault, judged}
use Rattle.plan.specs.Report.{Report, first}
use Rattle.judge.specs.Slack.{Figure, none_essential, least, refused, through, least_slack, slack_figure}
use Rattle.dispatch.specs.declared.Run.{Run}
use Rattle.dispatch.specs.Order.{enqueue, order, serve}
use Rattle.dispatch.specs.Order
use Rattle.dispatch.specs.Step.{SlotEffect, Ending, met, discarded, still_open, outcome, started, slot_sound, slot_fault, granted, added, advanced, stepped}

-- A list filled up to length n with one value.
abbrev pub padded : {A : Type 0} → ℕ → A → List A → List A
padded n fill l = l ++ replicate (n - length l) fill

-- A job from its name as a number of eight bytes, its grade, release, size and deadline.
abbrev pub job : ℕ → ℕ → ℕ → ℕ → ℕ → Job
job name grade release size deadline =
    record { name = record { 0 = name }; grade = grade; release = record { 0 = release }; size = record { 0 = size }; deadline = record { 0 = deadline } }

-- A plan of the given jobs at normal rate 2 and floor 1, as in all cases.
abbrev pub plan_with : List Job → Plan
plan_with jobs =
    record { n = record { 0 = 2 }; d = record { 0 = 1 }; count = length jobs; jobs = padded most_jobs no_job jobs }

-- The table of the given rows, in the edition's layout.
unfoldable pub table_of : List (List ℕ) → List ℕ
table_of rows = padded places 0 (laid rows)
  where
    laid : List (List ℕ) → List ℕ
    laid [] = []
    laid (row ∷ rest) = padded most_intervals 0 row ++ laid rest

-- What is observed of a slot: the refusal number if there is one, whether the slow
-- mark is set after it, and the jobs' grants.
abbrev pub line : Plan → SlotEffect → List ℕ
line p slot = slot.answer ++ on slot.run.slow 1 ∷ take p.count slot.grants

-- What is observed of a run, slot by slot.
unfoldable pub slots_seen : Plan → List ℕ → Run → List ℕ → List (List ℕ)
slots_seen p table run [] = []
slots_seen p table run (v ∷ rest) =
    let slot = stepped p table run v (replicate p.count 0) in
    line p slot ∷ slots_seen p table slot.run rest

-- The run after the slots.
unfoldable pub run_seen : Plan → List ℕ → Run → List ℕ → Run
run_seen p table run [] = run
run_seen p table run (v ∷ rest) = run_seen p table (stepped p table run v (replicate p.count 0)).run rest

-- The outcomes of the first jobs of a run.
unfoldable pub ends_seen : Plan → Run → ℕ → List Ending
ends_seen p run zero = []
ends_seen p run (suc n) = ends_seen p run n ++ (outcome p run n ∷ [])

-- What is observed of a case: the verdict, the slack figure, the
-- slots at the given speeds from the start, and the jobs' outcomes after them.
pub record Seen : Type 0 where
  pub verdict : Report
  pub slack : Figure
  pub slots : List (List ℕ)
  pub ends : List Ending

-- A case: jobs, rows and speeds, and what must be observed.
pub record Case : Type 0 where
  pub jobs : List Job
  pub rows : List (List ℕ)
  pub speeds : List ℕ
  pub must : Seen

-- What is observed of a case, by the definitions of judge, slack, start, step and outcome. Of a refused plan the outcomes are
-- those of the run as after a start.
unfoldable pub seen : Case → Seen
seen c =
    let p = plan_with c.jobs in
    let table = table_of c.rows in
    record {
      verdict = judged p table;
      slack = slack_figure p table;
      slots = slots_seen p table (started p) c.speeds;
      ends = ends_seen p (run_seen p table (started p) c.speeds) p.count;
    }

-- `Mirror-A`, the first name of plan E.
abbrev pub capital_mirror : ℕ
capital_mirror = 0x4D69_7272_6F72_2D41

-- `mirror-A`, the second name, which differs in the case of one letter.
abbrev pub small_mirror : ℕ
small_mirror = 0x6D69_7272_6F72_2D41

-- `job----A`, for the cases that give no names.
abbrev job_a : ℕ
job_a = 0x6A6F_622D_2D2D_2D41

-- `job----B`.
abbrev job_b : ℕ
job_b = 0x6A6F_622D_2D2D_2D42

-- `job----C`.
abbrev job_c : ℕ
job_c = 0x6A6F_622D_2D2D_2D43

-- `job----D`.
abbrev job_d : ℕ
job_d = 0x6A6F_622D_2D2D_2D44

-- The jobs of plan E: example 1 of Baruah and Guo.
abbrev pub jobs_of_e : List Job
jobs_of_e = job capital_mirror lo 0 6 5 ∷ job small_mirror hi 1 8 10 ∷ []

-- The allotments of plan E, by job and interval.
abbrev pub rows_of_e : List (List ℕ)
rows_of_e = (2 ∷ 4 ∷ 0 ∷ []) ∷ (0 ∷ 4 ∷ 4 ∷ []) ∷ []

-- Plan E in hand, with all its records.
abbrev pub plan_e : Plan
plan_e = plan_with jobs_of_e

-- The table of plan E, with all its places.
abbrev pub table_e : List ℕ
table_e = table_of rows_of_e

-- The file of plan E: the head, two jobs, the row count and four rows.
abbrev pub file_e : List ℕ
file_e =
    1 ∷ 0 ∷ 0 ∷ 0 ∷ 111 ∷ 0 ∷ 2 ∷ 0 ∷ 1 ∷ 2
    ∷ 21 ∷ 77 ∷ 105 ∷ 114 ∷ 114 ∷ 111 ∷ 114 ∷ 45 ∷ 65 ∷ 0 ∷ 0 ∷ 0 ∷ 0 ∷ 0 ∷ 0 ∷ 0 ∷ 0 ∷ 6 ∷ 0 ∷ 0 ∷ 0 ∷ 5
    ∷ 21 ∷ 109 ∷ 105 ∷ 114 ∷ 114 ∷ 111 ∷ 114 ∷ 45 ∷ 65 ∷ 1 ∷ 0 ∷ 0 ∷ 0 ∷ 1 ∷ 0 ∷ 0 ∷ 0 ∷ 8 ∷ 0 ∷ 0 ∷ 0 ∷ 10
    ∷ 0 ∷ 4
    ∷ 14 ∷ 77 ∷ 105 ∷ 114 ∷ 114 ∷ 111 ∷ 114 ∷ 45 ∷ 65 ∷ 0 ∷ 0 ∷ 0 ∷ 0 ∷ 0 ∷ 2
    ∷ 14 ∷ 77 ∷ 105 ∷ 114 ∷ 114 ∷ 111 ∷ 114 ∷ 45 ∷ 65 ∷ 0 ∷ 1 ∷ 0 ∷ 0 ∷ 0 ∷ 4
    ∷ 14 ∷ 109 ∷ 105 ∷ 114 ∷ 114 ∷ 111 ∷ 114 ∷ 45 ∷ 65 ∷ 0 ∷ 1 ∷ 0 ∷ 0 ∷ 0 ∷ 4
    ∷ 14 ∷ 109 ∷ 105 ∷ 114 ∷ 114 ∷ 111 ∷ 114 ∷ 45 ∷ 65 ∷ 0 ∷ 2 ∷ 0 ∷ 0 ∷ 0 ∷ 4 ∷ []

-- The rows of plan E with another second row.
abbrev with_second_row : List ℕ → List (List ℕ)
with_second_row row = (2 ∷ 4 ∷ 0 ∷ []) ∷ row ∷ []

-- The jobs of Baruah and Guo's example 4, doubled.
abbrev jobs_of_p6 : List Job
jobs_of_p6 = job job_a lo 0 4 2 ∷ job job_b hi 0 2 4 ∷ job job_c hi 2 2 4 ∷ []

-- A case of judging: jobs and rows, and the verdict and the slack figure that they must give. No slot has come, so that
-- every job is open.
abbrev judging : List Job → List (List ℕ) → Report → Figure → Case
judging jobs rows verdict slack =
    record {
      jobs = jobs;
      rows = rows;
      speeds = [];
      must = record { verdict = verdict; slack = slack; slots = []; ends = replicate (length jobs) still_open };
    }

-- A case of slots of plan E: the speeds, and the slots and outcomes that they must give.
abbrev slots_of_e : List ℕ → List (List ℕ) → List Ending → Case
slots_of_e speeds slots ends =
    record {
      jobs = jobs_of_e;
      rows = rows_of_e;
      speeds = speeds;
      must = record { verdict = []; slack = least (pos 1) 1 10; slots = slots; ends = ends };
    }

-- Plan E is accepted, with slack 1.
abbrev pub P1 : Case
P1 = judging jobs_of_e rows_of_e [] (least (pos 1) 1 10)

-- One unit moved from interval 1 to interval 2 leaves slack 0.
abbrev pub P2 : Case
P2 = judging jobs_of_e (with_second_row (0 ∷ 3 ∷ 5 ∷ [])) [] (least (pos 0) 2 10)

-- A second unit moved violates the floor rule by one unit.
abbrev pub P3 : Case
P3 = judging jobs_of_e (with_second_row (0 ∷ 2 ∷ 6 ∷ [])) (below_floor_rule ∷ 2 ∷ 10 ∷ []) (least (negsuc 0) 2 10)

-- Job 1 has one unit too few.
abbrev pub P4 : Case
P4 = judging jobs_of_e (with_second_row (0 ∷ 4 ∷ 3 ∷ [])) (wrong_total ∷ 1 ∷ []) (refused (wrong_total ∷ 1 ∷ []))

-- Baruah and Guo's example 2, doubled: accepted with slack 0.
abbrev pub P5 : Case
P5 =
    judging (job job_a hi 0 8 10 ∷ job job_b hi 0 4 16 ∷ job job_c lo 0 6 4 ∷ job job_d lo 0 10 12 ∷ [])
    ((2 ∷ 6 ∷ 0 ∷ 0 ∷ []) ∷ (0 ∷ 0 ∷ 0 ∷ 4 ∷ []) ∷ (6 ∷ 0 ∷ 0 ∷ 0 ∷ []) ∷ (0 ∷ 6 ∷ 4 ∷ 0 ∷ []) ∷ [])
    []
    (least (pos 0) 1 10)

-- Their example 4, doubled: the demand in the second interval exceeds the floor's capacity.
abbrev pub P6 : Case
P6 =
    judging jobs_of_p6 ((4 ∷ 0 ∷ []) ∷ (0 ∷ 2 ∷ []) ∷ (0 ∷ 2 ∷ []) ∷ []) (below_floor_rule ∷ 1 ∷ 4 ∷ []) (least (negsuc 1) 1 4)

-- The same with one HI job moved to the first interval, whose load
-- then exceeds the normal rate's capacity.
abbrev pub P7 : Case
P7 = judging jobs_of_p6 ((4 ∷ 0 ∷ []) ∷ (2 ∷ 0 ∷ []) ∷ (0 ∷ 2 ∷ []) ∷ []) (over_capacity ∷ 0 ∷ []) (refused (over_capacity ∷ 0 ∷ []))

-- One unit of plan E's first job lies after its deadline.
abbrev pub P8 : Case
P8 =
    judging jobs_of_e ((2 ∷ 3 ∷ 1 ∷ []) ∷ (0 ∷ 4 ∷ 4 ∷ []) ∷ []) (outside_window ∷ 0 ∷ 2 ∷ []) (refused (outside_window ∷ 0 ∷ 2 ∷ []))

-- Position 0 is B, position 1 is A: at speeds 2 and 1, A gets 2, and then B gets 1.
abbrev pub P9 : Case
P9 =
    record {
      jobs = job job_b hi 0 2 4 ∷ job job_a hi 0 2 2 ∷ [];
      rows = (2 ∷ 0 ∷ []) ∷ (2 ∷ 0 ∷ []) ∷ [];
      speeds = 2 ∷ 1 ∷ [];
      must =
          record {
            verdict = [];
            slack = least (pos 0) 0 2;
            slots = (0 ∷ 0 ∷ 2 ∷ []) ∷ (1 ∷ 1 ∷ 0 ∷ []) ∷ [];
            ends = still_open ∷ met ∷ [];
          };
    }

-- Plan E at the normal rate: the second slot goes to `mirror-A`.
abbrev pub P10 : Case
P10 = slots_of_e (2 ∷ 2 ∷ []) ((0 ∷ 2 ∷ 0 ∷ []) ∷ (0 ∷ 0 ∷ 2 ∷ []) ∷ []) (still_open ∷ still_open ∷ [])

-- Plan E at the floor in its first slot: the slow mark is set, and no HI job is live yet.
abbrev pub P11 : Case
P11 = slots_of_e (1 ∷ []) ((1 ∷ 0 ∷ 0 ∷ []) ∷ []) (discarded ∷ still_open ∷ [])

-- A speed above the normal rate is refused.
abbrev pub P12 : Case
P12 = slots_of_e (3 ∷ []) ((speed_above_normal ∷ 0 ∷ 0 ∷ 0 ∷ []) ∷ []) (still_open ∷ still_open ∷ [])

-- Two LO jobs with nothing due between them, where the link is at its floor: no slot is slow, and both are met.
abbrev pub P13 : Case
P13 =
    record {
      jobs = job job_a lo 0 2 2 ∷ job job_b lo 4 2 6 ∷ [];
      rows = (2 ∷ 0 ∷ 0 ∷ []) ∷ (0 ∷ 0 ∷ 2 ∷ []) ∷ [];
      speeds = 2 ∷ 1 ∷ 1 ∷ 1 ∷ 2 ∷ [];
      must =
          record {
            verdict = [];
            slack = none_essential;
            slots = (0 ∷ 2 ∷ 0 ∷ []) ∷ (0 ∷ 0 ∷ 0 ∷ []) ∷ (0 ∷ 0 ∷ 0 ∷ []) ∷ (0 ∷ 0 ∷ 0 ∷ []) ∷ (0 ∷ 0 ∷ 2 ∷ []) ∷ [];
            ends = met ∷ met ∷ [];
          };
    }

-- All cases.
abbrev pub cases : List Case
cases = P1 ∷ P2 ∷ P3 ∷ P4 ∷ P5 ∷ P6 ∷ P7 ∷ P8 ∷ P9 ∷ P10 ∷ P11 ∷ P12 ∷ P13 ∷ []

-- Every case gives what it must.
pub every_case_comes_out : map seen cases ≡ map (λ (c : Case). c.must) cases
unfolding seen slots_seen run_seen ends_seen table_of sum Below.every Below.least Below.greatest name_allowed names_hold names_differ grades_hold bounds_hold rules_hold insert boundaries_to come no_stray sound first outside_fault total_fault capacity_fault is_hi_deadline floor_fault judged through least_slack slack_figure enqueue Order.queue order serve started slot_sound slot_fault granted added advanced stepped outcome
every_case_comes_out = refl
