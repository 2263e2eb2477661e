-- For the contracts of internal functions; no promise rests on this file. The state of the two
-- passes over the boundaries: the lowest interval that violates the floor rule, and the least slack.
use Rattle.std.specs.Prelude.{◌≡◌, Bool, false, cond, ◌&&◌, ◌||◌, List, ℕ, zero, suc, ◌+◌, ◌*◌, ◌-◌, ◌<◌, leb, ltb, length, get_or, ℤ}
use Rattle.std.proofs.Math.IntN.{sub_ℕ}
use Rattle.std.specs.Int.Signed.{lt_z, le_z}
use Rattle.base.specs.Sum.{sum, on}
use Rattle.plan.specs.Edition.{most_jobs, most_intervals}
use Rattle.plan.specs.Rules.{counted, deadline, is_hi}
use Rattle.plan.specs.Boundaries.{boundary, intervals, last_slot}
use Rattle.plan.specs.declared.kinds.Plan.{Plan}
use Rattle.judge.specs.Constraints.{units}
use Rattle.judge.specs.Slack.{Figure, none_essential, least, refused}

-- A time after every deadline that rule 9 allows; it fills a deadline row at records of no HI job.
abbrev pub never : ℕ
never = last_slot

-- The deadline of record k if it is a counted HI job's, otherwise `never`.
abbrev pub hi_deadline : Plan → ℕ → ℕ
hi_deadline p k = cond (ltb k (counted p) && is_hi p k) (deadline p k) never

-- The row holds the HI deadlines, each at its job's index.
pub record HiDeadlines (p : Plan) (row : List ℕ) : Type 0 where
  pub room : length row ≡ most_jobs
  pub each : (i : ℕ) → i < most_jobs → get_or row i 0 ≡ hi_deadline p i

-- Job i is HI, with a deadline at or before boundary m − 1; false for m = 0.
unfoldable pub due_before : Plan → ℕ → ℕ → Bool
due_before p zero i = false
due_before p (suc m) i = is_hi p i && leb (deadline p i) (boundary p m)

-- The units of these jobs in interval j.
abbrev pub column_sum : Plan → List ℕ → ℕ → ℕ → ℕ
column_sum p table m j = sum (λ i. on (due_before p m i) (units table i j)) (counted p)

-- `sums` holds the column sums after the first m boundaries.
pub record Summed (p : Plan) (table : List ℕ) (m : ℕ) (sums : List ℕ) : Type 0 where
  pub room : length sums ≡ most_intervals
  pub columns : (j : ℕ) → j < intervals p → get_or sums j 0 ≡ column_sum p table m j

-- Rule 18 is violated on column sums: from interval l to boundary m they exceed the rate's capacity.
abbrev pub asks_more : ℕ → List ℕ → List ℕ → ℕ → ℕ → Bool
asks_more rate sums times m l = ltb (rate * (get_or times m 0 - get_or times l 0)) (sum (λ k. get_or sums (l + k) 0) (m - l))

-- The lowest of the n numbers from l on at which the test holds, otherwise `other`.
unfoldable pub lowest : (ℕ → Bool) → ℕ → ℕ → ℕ → ℕ
lowest test other l zero = other
lowest test other l (suc n) = cond (test l) l (lowest test other (suc l) n)

-- The slack on column sums: the rate's capacity from interval l
-- to boundary m, less the sums between them.
abbrev pub spare : ℕ → List ℕ → List ℕ → ℕ → ℕ → ℤ
spare rate sums times m l = sub_ℕ (rate * (get_or times m 0 - get_or times l 0)) (sum (λ k. get_or sums (l + k) 0) (m - l))

-- The lesser of the figure so far and a pair at a deadline no earlier; if the slacks are equal, the
-- lower interval; if the intervals are equal too, the figure so far.
abbrev pub sooner : Figure → ℤ → ℕ → ℕ → Figure
sooner none_essential s l D = least s l D
sooner (least best l₀ D₀) s l D = cond (lt_z s best || le_z s best && ltb l l₀) (least s l D) (least best l₀ D₀)
sooner (refused report) s l D = refused report

-- The figure so far, updated with intervals n − 1 down to 0, each paired with boundary m.
unfoldable pub column_taken : ℕ → List ℕ → List ℕ → ℕ → ℕ → Figure → Figure
column_taken rate sums times m zero so_far = so_far
column_taken rate sums times m (suc n) so_far =
    column_taken rate sums times m n (sooner so_far (spare rate sums times m n) n (get_or times m 0))
