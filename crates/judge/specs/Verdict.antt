-- The judge's verdict: a refusal number with its first location, or acceptance.
use Rattle.std.specs.Prelude.{Bool, not, ◌&&◌, ◌||◌, [], ◌∷◌, ℕ, suc, ◌*◌, ltb, eqb, length}
use Rattle.plan.specs.Kinds.{Interval, Position, Table, Time}
use Rattle.plan.specs.Edition.{places}
use Rattle.plan.specs.Refusal.{outside_window, wrong_total, over_capacity, below_floor_rule, unsound, buffer_too_short}
use Rattle.base.specs.Below.{every}
use Rattle.plan.specs.Rules.{counted, size, deadline, is_hi}
use Rattle.plan.specs.Boundaries.{boundary, intervals}
use Rattle.plan.specs.Table.{sound}
use Rattle.plan.specs.declared.kinds.Plan.{Plan}
use Rattle.plan.specs.Report.{Report, or_else, fault, first}
use Rattle.judge.specs.Constraints.{units, in_window, interval_length, total, load, demand, floor_capacity}

-- Rule 15 is violated: job i has units in interval j, which is not inside its window.
abbrev pub is_outside : (p : Plan) (table : Table) (i : Position) (j : Interval) → Bool
is_outside p table i j = not (in_window p i j || eqb (units table i j) 0)

-- 15: the first counted job, and its first interval, with units outside the job's window. This report
-- and the three below are empty if there is none.
unfoldable pub outside_fault : (p : Plan) (table : Table) → Report
outside_fault p table =
    first (λ i. first (λ j. fault (is_outside p table i j) (outside_window ∷ i ∷ j ∷ [])) (intervals p)) (counted p)

-- 16: the first counted job whose total is not its size.
unfoldable pub total_fault : (p : Plan) (table : Table) → Report
total_fault p table = first (λ i. fault (not (eqb (total p table i) (size p i))) (wrong_total ∷ i ∷ [])) (counted p)

-- 17: the first interval whose load exceeds n times its length.
unfoldable pub capacity_fault : (p : Plan) (table : Table) → Report
capacity_fault p table = first (λ j. fault (ltb (p.n.0 * interval_length p j) (load p table j)) (over_capacity ∷ j ∷ [])) (intervals p)

-- Time D is the deadline of a counted HI job.
unfoldable pub is_hi_deadline : (p : Plan) (D : Time) → Bool
is_hi_deadline p D = not (every (λ i. not (is_hi p i && eqb (deadline p i) D)) (counted p))

-- Interval l and boundary m are a pair of the floor rule: m is above l, and boundary m is a HI
-- deadline. For m up to `intervals p`, the last boundary's index, it is then later than the
-- interval's start.
abbrev pub is_pair : (p : Plan) (l : Interval) (m : ℕ) → Bool
is_pair p l m = ltb l m && is_hi_deadline p (boundary p m)

-- Rule 18 is violated: the demand from interval l to boundary m exceeds the floor's capacity.
abbrev pub falls_short : (p : Plan) (table : Table) (l : Interval) (m : ℕ) → Bool
falls_short p table l m = ltb (floor_capacity p l (boundary p m)) (demand p table l (boundary p m))

-- 18: the first interval, and its first later HI deadline, between which
-- the demand exceeds the floor's capacity.
unfoldable pub floor_fault : (p : Plan) (table : Table) → Report
floor_fault p table =
    first
    (λ l. first (λ m. fault (is_pair p l m && falls_short p table l m) (below_floor_rule ∷ l ∷ boundary p m ∷ [])) (suc (intervals p)))
    (intervals p)

-- The refusals before 15 to 18 in `judge` and `slack`: 22 for a short table, then 21.
abbrev pub hand_fault : (p : Plan) (table : Table) → Report
hand_fault p table = or_else (fault (ltb (length table) places) (buffer_too_short ∷ [])) (fault (not (sound p table)) (unsound ∷ []))

-- The refusals that `judge` and `slack` then share: 15, 16 and 17, each over the whole plan.
abbrev pub constraint_fault : (p : Plan) (table : Table) → Report
constraint_fault p table = or_else (outside_fault p table) (or_else (total_fault p table) (capacity_fault p table))

-- The verdict: 22, 21, then 15, 16, 17 and 18, each over the whole plan; empty for acceptance.
unfoldable pub judged : (p : Plan) (table : Table) → Report
judged p table = or_else (hand_fault p table) (or_else (constraint_fault p table) (floor_fault p table))
