-- Rules 4 to 9: which rates, job counts, names, grades, windows and sizes are allowed,
-- by themselves, over a list of jobs, and over a plan in hand.
use Rattle.std.specs.Prelude.{Bool, not, ◌&&◌, ◌||◌, List, map, ◌++◌, ℕ, ◌-◌, ◌/◌, ◌%◌, ◌^◌, min, leb, ltb, eqb, length, get_or, take, replicate}
use Rattle.plan.specs.Kinds.{Amount, Position, Time}
use Rattle.plan.specs.Edition.{name_bytes, most_jobs, most_rate, most_deadline, most_size}
use Rattle.base.specs.Below.{every}
use Rattle.plan.specs.declared.kinds.Job.{Job}
use Rattle.plan.specs.declared.kinds.JobList.{JobList}
use Rattle.plan.specs.declared.kinds.Plan.{Plan}

-- The grade LO, of a transfer that is not essential.
abbrev pub lo : ℕ
lo = 0

-- The grade HI, of an essential transfer.
abbrev pub hi : ℕ
hi = 1

-- Rule 4: 1 ≤ d < n, and n is at most `most_rate`.
abbrev pub rates_allowed : (n d : ℕ) → Bool
rates_allowed n d = leb 1 d && ltb d n && leb n most_rate

-- Rule 5: there are 1 to `most_jobs` jobs.
abbrev pub count_allowed : ℕ → Bool
count_allowed count = leb 1 count && leb count most_jobs

-- Byte k of a number; byte 0 is the lowest. A name's eight bytes are one number, the first highest.
abbrev pub byte_of : (x k : ℕ) → ℕ
byte_of x k = x / 256 ^ k % 256

-- Rule 6: each of the lowest eight bytes of x is from 0x21 to 0x7E.
unfoldable pub name_allowed : ℕ → Bool
name_allowed x = every (λ k. leb 0x21 (byte_of x k) && leb (byte_of x k) 0x7E) name_bytes

-- Two names are the same when their numbers are equal.
-- (proofs/Names: exactly when all eight bytes are, if both are below 256^8.)
abbrev pub same_name : (a b : ℕ) → Bool
same_name a b = eqb a b

-- No element of the list is x.
unfoldable pub is_absent : (l : List ℕ) (x : ℕ) → Bool
is_absent l x = every (λ k. not (eqb (get_or l k 0) x)) (length l)

-- Rule 8: the grade is LO or HI.
abbrev pub grade_allowed : ℕ → Bool
grade_allowed g = eqb g lo || eqb g hi

-- Rule 9 for a window: the release is before the deadline, which is at most `most_deadline`.
abbrev pub window_allowed : (from to : Time) → Bool
window_allowed from to = ltb from to && leb to most_deadline

-- Rule 9 for a size: from 1 to `most_size`.
abbrev pub size_allowed : ℕ → Bool
size_allowed u = leb 1 u && leb u most_size

-- The zero record, which `job_in` gives for an index without a record.
abbrev pub no_job : Job
no_job = record { name = record { 0 = 0 }; grade = 0; release = record { 0 = 0 }; size = record { 0 = 0 }; deadline = record { 0 = 0 } }

-- The plan of zeros, with `most_jobs` zero records, which comes with a refusal.
abbrev pub no_plan : Plan
no_plan = record { n = record { 0 = 0 }; d = record { 0 = 0 }; count = 0; jobs = replicate most_jobs no_job }

-- The record of job i of a list, or `no_job` if there is none.
abbrev pub job_in : (l : JobList) (i : Position) → Job
job_in l i = get_or l.jobs i no_job

-- The number of counted jobs of a list: its count, but at most `most_jobs`.
abbrev pub counted_in : JobList → ℕ
counted_in l = min l.count most_jobs

-- The jobs of a plan: all of it but its rates.
abbrev pub jobs_of : Plan → JobList
jobs_of p = record { count = p.count; jobs = p.jobs }

-- The record of job i of a plan.
abbrev pub job_of : (p : Plan) (i : Position) → Job
job_of p i = job_in (jobs_of p) i

-- The name of job i.
abbrev pub name : (p : Plan) (i : Position) → ℕ
name p i = (job_of p i).name.0

-- The release of job i.
abbrev pub release : (p : Plan) (i : Position) → Time
release p i = (job_of p i).release.0

-- The size of job i.
abbrev pub size : (p : Plan) (i : Position) → Amount
size p i = (job_of p i).size.0

-- The deadline of job i.
abbrev pub deadline : (p : Plan) (i : Position) → Time
deadline p i = (job_of p i).deadline.0

-- Whether job i is essential: its grade is HI.
abbrev pub is_hi : (p : Plan) (i : Position) → Bool
is_hi p i = eqb (job_of p i).grade hi

-- The number of counted jobs of a plan.
abbrev pub counted : Plan → ℕ
counted p = counted_in (jobs_of p)

-- The names of the counted jobs, in order, then zeros to `most_jobs` entries.
unfoldable pub names : Plan → List ℕ
names p = map (λ (j : Job). j.name.0) (take (counted p) p.jobs) ++ replicate (most_jobs - counted p) 0

-- Rule 4 over a plan in hand.
abbrev pub rates_hold : Plan → Bool
rates_hold p = rates_allowed p.n.0 p.d.0

-- Rule 5 over a list of jobs.
abbrev pub count_holds : JobList → Bool
count_holds l = count_allowed l.count

-- Rule 6 over a list of jobs: every counted job's name is allowed.
unfoldable pub names_hold : JobList → Bool
names_hold l = every (λ i. name_allowed (job_in l i).name.0) (counted_in l)

-- Rule 7 over a list of jobs: no counted job has the name of an earlier one.
unfoldable pub names_differ : JobList → Bool
names_differ l = every (λ i. every (λ k. not (same_name (job_in l k).name.0 (job_in l i).name.0)) i) (counted_in l)

-- Rule 8 over a list of jobs: every counted job's grade is allowed.
unfoldable pub grades_hold : JobList → Bool
grades_hold l = every (λ i. grade_allowed (job_in l i).grade) (counted_in l)

-- Rule 9 over a list of jobs: every counted job's window and size are allowed.
unfoldable pub bounds_hold : JobList → Bool
bounds_hold l =
    every (λ i. window_allowed (job_in l i).release.0 (job_in l i).deadline.0 && size_allowed (job_in l i).size.0) (counted_in l)

-- Rules 5 to 9 together, over a list of jobs.
abbrev pub jobs_hold : JobList → Bool
jobs_hold l = count_holds l && names_hold l && names_differ l && grades_hold l && bounds_hold l

-- Rules 4 to 9 together, over a plan in hand: its rates, and its jobs.
unfoldable pub rules_hold : Plan → Bool
rules_hold p = rates_hold p && jobs_hold (jobs_of p)
