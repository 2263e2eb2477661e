-- The jobs of a plan as columns, each a list of one kind of number: grades, releases, sizes, deadlines.
-- A call that is lent the columns promises the same as a call with the plan, for every plan whose
-- columns they are.
use Rattle.std.specs.Prelude.{◌≡◌, Bool, List, ℕ, suc, ◌≤◌, ◌<◌, ◌^◌, ◌%◌, ltb, get_or, cond, Result, Ok, Err}
use Rattle.base.specs.Fill.{filled}
use Rattle.base.specs.Below.{every}
use Rattle.plan.specs.Kinds.{Time}
use Rattle.plan.specs.Edition.{most_boundaries}
use Rattle.plan.specs.Boundaries.{intervals, present, last_slot}
use Rattle.plan.specs.Rules.{counted, job_of, release, size, deadline}
use Rattle.plan.specs.declared.columns.Columns.{Columns}
use Rattle.plan.specs.declared.kinds.Plan.{Plan}
use Rattle.plan.specs.declared.refusal.Reason.{Reason}
use Rattle.plan.specs.declared.refusal.Reason.TheVariants as reason

-- The rates and the count are those of a plan, and the columns hold the numbers of its counted jobs, each
-- at the job's position. What else the columns hold is not said.
pub record HasColumns (p : Plan) (c : Columns) : Type 0 where
  pub n : p.n ≡ c.n
  pub d : p.d ≡ c.d
  pub count : p.count ≡ c.count
  pub grade : (i : ℕ) → i < counted p → get_or c.grades i 0 ≡ (job_of p i).grade
  pub release : (i : ℕ) → i < counted p → get_or c.releases i 0 ≡ release p i
  pub size : (i : ℕ) → i < counted p → get_or c.sizes i 0 ≡ size p i
  pub deadline : (i : ℕ) → i < counted p → get_or c.deadlines i 0 ≡ deadline p i

-- A column has 32 bits for each number: the number of values that they hold.
abbrev pub column_values : ℕ
column_values = 2 ^ 32

-- A number as a column holds it: itself if it is below `column_values`, otherwise its lowest 32 bits.
abbrev pub in_column : ℕ → ℕ
in_column x = x % column_values

-- Every counted job's size has room in a column. No rule allows a size that has none.
abbrev pub sizes_fit : Plan → Bool
sizes_fit p = every (λ i. ltb (size p i) column_values) (counted p)

-- Columns after a plan was put into them: its rates, its count and the numbers of its counted jobs. What
-- stands behind these is unchanged.
abbrev pub columns_over : (p : Plan) (c : Columns) → Columns
columns_over p c =
    record {
      n = p.n;
      d = p.d;
      count = p.count;
      grades = filled (λ i. (job_of p i).grade) (counted p) c.grades;
      releases = filled (release p) (counted p) c.releases;
      sizes = filled (λ i. in_column (size p i)) (counted p) c.sizes;
      deadlines = filled (deadline p) (counted p) c.deadlines;
    }

-- The contract of a call that puts a plan into columns: whether the sizes of its counted jobs have room,
-- and the columns at exit.
abbrev pub PutsColumns : (p : Plan) (c : Columns) (r : Result Unit Reason) (left : Columns) → Type 0
PutsColumns p c r left = (r ≡ cond (sizes_fit p) (Ok tt) (Err reason.Unsound)) × (left ≡ columns_over p c)

-- The contract of `begun_by`: for every plan with this count whose releases and deadlines the columns hold,
-- the number of intervals begun at time t, which is one more than the index of the present one; at the
-- greatest time of the code, one more than the number of intervals.
abbrev pub TellsBegun : (count : ℕ) (releases deadlines : List ℕ) (t : Time) (r : ℕ) → Type 0
TellsBegun count releases deadlines t r =
    (r ≤ most_boundaries)
    × ((p : Plan) → p.count ≡ count → ((i : ℕ) → i < counted p → get_or releases i 0 ≡ release p i)
    → ((i : ℕ) → i < counted p → get_or deadlines i 0 ≡ deadline p i) → (r ≡ suc (present p t)) × (t ≡ last_slot → r ≡ suc (intervals p)))
