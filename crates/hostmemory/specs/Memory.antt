-- The memory that a host lends: the plan, the job list and the run that its words encode, and the words of each.
use Rattle.std.specs.Prelude.{Bool, true, false, cond, ◌&&◌, List, [], ◌∷◌, ◌++◌, map, ℕ, zero, suc, ◌+◌, ◌*◌, ◌^◌, min, leb, ltb, eqb, length, get_or, take, drop, ◌≡◌, ◌≤◌}
use Rattle.std.proofs.lemmas.List.Edits.{sets}
use Rattle.plan.specs.Kinds.{Position, Words}
use Rattle.plan.specs.Edition.{most_jobs}
use Rattle.base.specs.Below.{every}
use Rattle.plan.specs.JobLists.{list_of}
use Rattle.plan.specs.Rules.{no_job, no_plan, jobs_of, counted}
use Rattle.plan.specs.Columns.{column_values}
use Rattle.plan.specs.declared.kinds.Job.{Job}
use Rattle.plan.specs.declared.kinds.JobList.{JobList}
use Rattle.plan.specs.declared.kinds.Plan.{Plan}
use Rattle.dispatch.specs.declared.Moment.{Moment}
use Rattle.dispatch.specs.declared.Run.{Run}
use Rattle.dispatch.specs.Step.{no_run}

-- The number of words of the rates, and of a job count.
abbrev pub rate_words : ℕ
rate_words = 2

abbrev pub count_words : ℕ
count_words = 1

-- The number of words before a plan's jobs: both rates and the job count.
abbrev pub head_words : ℕ
head_words = rate_words + count_words

-- The number of words of a job: name, grade, release, size and deadline.
abbrev pub job_words : ℕ
job_words = 5

-- The number of words of a job list: the job count and `most_jobs` jobs.
abbrev pub list_words : ℕ
list_words = count_words + most_jobs * job_words

-- The number of words of a plan: both rates, and the list of its jobs.
abbrev pub plan_words : ℕ
plan_words = rate_words + list_words

-- The number of words before a run's carried units: the clock and both marks.
abbrev pub mark_words : ℕ
mark_words = 3

-- The index at which a run's ended marks begin, after the carried units.
abbrev pub ended_start : ℕ
ended_start = mark_words + most_jobs

-- The number of words of a run.
abbrev pub run_words : ℕ
run_words = ended_start + most_jobs

-- Whether there are too few words for a plan.
abbrev pub short_plan : Words → Bool
short_plan w = ltb (length w) plan_words

-- Whether there are too few words for a job list.
abbrev pub short_list : Words → Bool
short_list w = ltb (length w) list_words

-- Whether there are too few words for a run.
abbrev pub short_run : Words → Bool
short_run w = ltb (length w) run_words

-- The number of words of a location, which a refusal of the judge names.
abbrev pub location_words : ℕ
location_words = 2

-- The number of words of a pair by which no timetable exists: two times, what is asked by them and what the link carries.
abbrev pub pair_words : ℕ
pair_words = 4

-- The greatest 8-bit number: a greater word of a grade is read as this number, which no rule allows.
abbrev pub most8 : ℕ
most8 = 255

-- The greatest 16-bit number: the same for a rate.
abbrev pub most16 : ℕ
most16 = 65_535

-- The greatest 32-bit number: the same for a release or a deadline.
abbrev pub most32 : ℕ
most32 = 4_294_967_295

-- The index at which the words of job i begin, if those of the jobs begin at `from`; and in a plan.
abbrev pub job_index : (from : ℕ) (i : Position) → ℕ
job_index from i = from + job_words * i

abbrev pub job_start : Position → ℕ
job_start = job_index head_words

-- The job that the words from index `at` on encode; a word that is not there counts as 0.
abbrev pub job_at : (w : Words) (at : ℕ) → Job
job_at w at =
    record {
      name = record { 0 = get_or w at 0 };
      grade = min (get_or w (at + 1) 0) most8;
      release = record { 0 = min (get_or w (at + 2) 0) most32 };
      size = record { 0 = get_or w (at + 3) 0 };
      deadline = record { 0 = min (get_or w (at + 4) 0) most32 };
    }

-- The first n jobs that the words from index `from` on encode.
unfoldable pub jobs_to : (w : Words) (from n : ℕ) → List Job
jobs_to w from zero = []
jobs_to w from (suc n) = jobs_to w from n ++ (job_at w (job_index from n) ∷ [])

-- The job list that words encode, if there are enough of them.
unfoldable pub list_in : Words → JobList
list_in w = record { count = get_or w 0 0; jobs = jobs_to w count_words most_jobs }

-- The job list that words encode; too few words encode a list of no jobs.
unfoldable pub list_held : Words → JobList
list_held w = cond (short_list w) (list_of []) (list_in w)

-- The plan that words encode, if there are enough of them.
unfoldable pub plan_in : Words → Plan
plan_in w =
    record {
      n = record { 0 = min (get_or w 0 0) most16 };
      d = record { 0 = min (get_or w 1 0) most16 };
      count = get_or w 2 0;
      jobs = jobs_to w head_words most_jobs;
    }

-- The plan that words encode; too few words encode a plan of zeros.
unfoldable pub plan_of : Words → Plan
plan_of w = cond (short_plan w) no_plan (plan_in w)

-- Word k of job i; a word that is not there counts as 0.
abbrev pub job_word : (w : Words) (k : ℕ) (i : Position) → ℕ
job_word w k i = get_or w (job_start i + k) 0

-- The grade, release, size and deadline of job i as words.
abbrev pub grade_word : (w : Words) (i : Position) → ℕ
grade_word w = job_word w 1

abbrev pub release_word : (w : Words) (i : Position) → ℕ
release_word w = job_word w 2

abbrev pub size_word : (w : Words) (i : Position) → ℕ
size_word w = job_word w 3

abbrev pub deadline_word : (w : Words) (i : Position) → ℕ
deadline_word w = job_word w 4

-- The number of values of 8 bits.
abbrev pub grade_values : ℕ
grade_values = 2 ^ 8

-- Whether the words of job i have room in its columns: the grade in 8 bits, as in a plan, and the other
-- three in the 32 bits of a column.
abbrev pub job_fits : (w : Words) (i : Position) → Bool
job_fits w i =
    ltb (grade_word w i) grade_values && ltb (release_word w i) column_values && ltb (size_word w i) column_values && ltb (deadline_word w i) column_values

-- Whether the words of every counted job have room in its columns. No rule allows a job whose words have
-- none.
abbrev pub words_fit : Words → Bool
words_fit w = every (job_fits w) (counted (plan_of w))

-- The words of a job.
abbrev pub job_out : Job → List ℕ
job_out j = j.name.0 ∷ j.grade ∷ j.release.0 ∷ j.size.0 ∷ j.deadline.0 ∷ []

-- The words of the first n of some jobs.
unfoldable pub jobs_out : (jobs : List Job) (n : ℕ) → List ℕ
jobs_out jobs zero = []
jobs_out jobs (suc n) = jobs_out jobs n ++ job_out (get_or jobs n no_job)

-- The words of a job list: the count and `most_jobs` jobs.
abbrev pub list_out : JobList → Words
list_out l = l.count ∷ jobs_out l.jobs most_jobs

-- The words after a job list is written to them; too few words are unchanged.
unfoldable pub list_put : (w : Words) (l : JobList) → Words
list_put w l = cond (short_list w) w (sets w 0 (list_out l))

-- The words of a plan: both rates, and the list of its jobs.
unfoldable pub plan_out : Plan → Words
plan_out p = p.n.0 ∷ p.d.0 ∷ list_out (jobs_of p)

-- The words after a plan is written to them; too few words are unchanged.
unfoldable pub plan_put : (w : Words) (p : Plan) → Words
plan_put w p = cond (short_plan w) w (sets w 0 (plan_out p))

-- Whether all words are 0 or 1.
unfoldable pub are_marks : Words → Bool
are_marks [] = true
are_marks (x ∷ l) = leb x 1 && are_marks l

-- The words of a run's ended marks.
abbrev pub ended_part : Words → Words
ended_part w = take most_jobs (drop ended_start w)

-- Whether the words of all marks are 0 or 1; a word that is not there counts as 0.
abbrev pub marks_in : Words → Bool
marks_in w = leb (get_or w 1 0) 1 && leb (get_or w 2 0) 1 && are_marks (ended_part w)

-- Whether there are enough words for a run, and all marks are 0 or 1.
unfoldable pub marks_hold : Words → Bool
marks_hold w = cond (short_run w) false (marks_in w)

-- A mark is set if its word is 1.
abbrev pub is_set : ℕ → Bool
is_set x = eqb x 1

-- The run that words encode, if there are enough of them.
unfoldable pub run_in : Words → Run
run_in w =
    record {
      clock = record { 0 = get_or w 0 0 };
      slow = is_set (get_or w 1 0);
      below = is_set (get_or w 2 0);
      carried = take most_jobs (drop mark_words w);
      ended = map is_set (ended_part w);
    }

-- The run that words encode; too few words encode a run of zeros.
unfoldable pub run_of : Words → Run
run_of w = cond (short_run w) no_run (run_in w)

-- A run without what it holds for each job.
abbrev pub moment_of : Run → Moment
moment_of r = record { clock = r.clock; slow = r.slow; below = r.below }

-- The word of a mark.
abbrev pub mark_out : Bool → ℕ
mark_out mark = cond mark 1 0

-- The words of what a slot changes of a run: the clock, both marks and the carried units.
abbrev pub slot_out : (at : Moment) (carried : List ℕ) → Words
slot_out at carried = at.clock.0 ∷ mark_out at.slow ∷ mark_out at.below ∷ carried

-- The words of a run: those, and its ended marks.
unfoldable pub run_out : Run → Words
run_out r = slot_out (moment_of r) r.carried ++ map mark_out r.ended

-- The words after what a slot changes of a run is written to them; too few words are unchanged.
unfoldable pub slot_put : (w : Words) (at : Moment) (carried : List ℕ) → Words
slot_put w at carried = cond (short_run w) w (sets w 0 (slot_out at carried))

-- The words after a run is written to them, what a slot changes and then the ended marks; too few words are
-- unchanged.
unfoldable pub run_put : (w : Words) (r : Run) → Words
run_put w r = cond (short_run w) w (sets (sets w 0 (slot_out (moment_of r) r.carried)) ended_start (map mark_out r.ended))

-- The grades, releases and deadlines of some jobs have the widths of their types, and there are `most_jobs`
-- records. All jobs of the code fit.
pub record JobsFit (jobs : List Job) : Type 0 where
  pub all : length jobs ≡ most_jobs
  pub grade : (i : ℕ) → (get_or jobs i no_job).grade ≤ most8
  pub release : (i : ℕ) → (get_or jobs i no_job).release.0 ≤ most32
  pub deadline : (i : ℕ) → (get_or jobs i no_job).deadline.0 ≤ most32

-- The rates of a plan have the widths of their types, and its jobs fit. Every plan of the code fits.
pub record Fits (p : Plan) : Type 0 where
  pub n : p.n.0 ≤ most16
  pub d : p.d.0 ≤ most16
  pub jobs : JobsFit p.jobs
