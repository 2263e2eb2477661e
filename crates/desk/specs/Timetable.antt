-- The timetable of section III-A of source 001, for jobs with one common release: LO jobs as late as room
-- allows, then HI jobs as early as room allows.
use Rattle.std.specs.Prelude.{Bool, true, false, not, cond, ◌&&◌, List, ◌++◌, ℕ, suc, ◌*◌, ◌-◌, min, eqb, get_or, drop, replicate, set}
use Rattle.base.specs.Fill.{filled}
use Rattle.plan.specs.Kinds.{Interval, Position, Table}
use Rattle.plan.specs.Edition.{most_intervals, places}
use Rattle.plan.specs.Rules.{hi, counted, job_of, size, deadline}
use Rattle.plan.specs.Boundaries.{boundary, intervals}
use Rattle.plan.specs.Table.{place}
use Rattle.plan.specs.declared.kinds.Plan.{Plan}
use Rattle.judge.specs.Constraints.{interval_length}
use Rattle.judge.specs.Slack.{through}

-- The two classes of jobs, by the end from which they are taken: a grade is of the class from the back unless it is
-- HI, and of the one from the front if it is.
abbrev pub is_of : (back : Bool) (grade : ℕ) → Bool
is_of back grade = cond back (not (eqb grade hi)) (eqb grade hi)

-- Job i is of a class.
abbrev pub in_class : (p : Plan) (back : Bool) (i : Position) → Bool
in_class p back i = is_of back (job_of p i).grade

-- Number k of n numbers in their order, or from the back.
abbrev pub turn : (back : Bool) (n k : ℕ) → ℕ
turn back n k = cond back (n - suc k) k

-- A timetable that is being drawn up: the room that each interval has left, and the table.
pub record Draft : Type 0 where
  pub rooms : List ℕ
  pub table : List ℕ

-- A draft into which a job's units are being placed, and how many of them are left.
pub record Placing : Type 0 where
  pub draft : Draft
  pub rest : ℕ

-- What of the units left has room in interval j.
abbrev pub fitting : (s : Placing) (j : Interval) → ℕ
fitting s j = min (get_or s.draft.rooms j 0) s.rest

-- As many units of job i as have room in interval j are placed there.
abbrev pub placed_at : (i : Position) (j : Interval) (s : Placing) → Placing
placed_at i j s =
    record {
      draft = record {
        rooms = set s.draft.rooms j (get_or s.draft.rooms j 0 - fitting s j);
        table = set s.draft.table (place most_intervals i j) (fitting s j);
      };
      rest = s.rest - fitting s j;
    }

-- Units of job i are placed into the intervals before boundary m: from the latest of them back, or from the earliest on.
unfoldable pub placing : (back : Bool) (m : ℕ) (i : Position) (units : ℕ) (draft : Draft) → Placing
placing back m i units draft = through (λ k. placed_at i (turn back m k)) m (record { draft = draft; rest = units })

-- The turn of job i at boundary m: if it is of the class and due there, all its units are placed.
abbrev pub job_turn : (p : Plan) (back : Bool) (m : ℕ) (i : Position) (draft : Draft) → Draft
job_turn p back m i draft =
    cond (in_class p back i && eqb (deadline p i) (boundary p m)) (placing back m i (size p i) draft).draft draft

-- The turns at boundary m: of the jobs by position, or from the last position back.
unfoldable pub turns_at : (p : Plan) (back : Bool) (m : ℕ) (draft : Draft) → Draft
turns_at p back m draft = through (λ q. job_turn p back m (turn back (counted p) q)) (counted p) draft

-- The turns of a class: by deadline, or from the latest deadline back. No job is due at boundary 0.
unfoldable pub class_placed : (p : Plan) (back : Bool) (draft : Draft) → Draft
class_placed p back draft = through (λ k. turns_at p back (suc (turn back (intervals p) k))) (intervals p) draft

-- The room of each interval before anything is placed, n times its length; then zeros to `most_intervals` entries.
unfoldable pub all_room : Plan → List ℕ
all_room p = filled (λ j. p.n.0 * interval_length p j) (intervals p) (replicate most_intervals 0)

-- A lent table with zeros in its own places.
abbrev pub cleared : Table → Table
cleared table = replicate places 0 ++ drop places table

-- The timetable in a lent table: the LO jobs from the back, then the HI jobs from the front.
unfoldable pub timetable : (p : Plan) (table : Table) → Table
timetable p table = (class_placed p false (class_placed p true (record { rooms = all_room p; table = cleared table }))).table
