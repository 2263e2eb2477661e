-- The constraints of Baruah and Guo's linear program (figure 2), in
-- whole slots and units, with exact totals.
use Rattle.std.specs.Prelude.{◌≡◌, Bool, false, ◌&&◌, List, ℕ, suc, ◌*◌, ◌-◌, ◌≤◌, ◌<◌, leb, get_or}
use Rattle.plan.specs.Kinds.{Amount, Interval, Position, Table, Time, Times}
use Rattle.base.specs.Sum.{sum, on}
use Rattle.plan.specs.Edition.{most_intervals}
use Rattle.plan.specs.Rules.{counted, release, size, deadline, is_hi}
use Rattle.plan.specs.Boundaries.{boundaries, boundary, intervals}
use Rattle.plan.specs.Table.{allotment}
use Rattle.plan.specs.declared.kinds.Plan.{Plan}

-- The allotment of job i in interval j, in the edition's table; rules 15 to 18 constrain it.
abbrev pub units : (table : Table) (i : Position) (j : Interval) → Amount
units table i j = allotment most_intervals table i j

-- Interval j, from element j of `times` to the next, lies inside the window from `from` to `to`; an
-- element past the end counts as 0.
abbrev pub within : (times : Times) (from to : Time) (j : Interval) → Bool
within times from to j = leb from (get_or times j 0) && leb (get_or times (suc j) 0) to

-- Rule 15: interval j lies inside the window of job i.
abbrev pub in_window : (p : Plan) (i : Position) (j : Interval) → Bool
in_window p i j = within (boundaries p) (release p i) (deadline p i) j

-- The length of interval j in slots, for rule 17; 0 if the plan has no interval j.
abbrev pub interval_length : (p : Plan) (j : Interval) → Time
interval_length p j = boundary p (suc j) - boundary p j

-- The units of job i in all the plan's intervals, which rule 16 compares with its size.
abbrev pub total : (p : Plan) (table : Table) (i : Position) → Amount
total p table i = sum (units table i) (intervals p)

-- The units of all counted jobs in interval j, which rule 17 bounds.
abbrev pub load : (p : Plan) (table : Table) (j : Interval) → Amount
load p table j = sum (λ i. units table i j) (counted p)

-- The units of job i in the plan's intervals from l on that end at or before time D, for rule 18.
abbrev pub units_between : (p : Plan) (table : Table) (l : Interval) (D : Time) (i : Position) → Amount
units_between p table l D i = sum (λ j. on (leb l j && leb (boundary p (suc j)) D) (units table i j)) (intervals p)

-- The demand in rule 18, from interval l to time D: the units between
-- them of the counted HI jobs with deadline at most D.
abbrev pub demand : (p : Plan) (table : Table) (l : Interval) (D : Time) → Amount
demand p table l D = sum (λ i. on (is_hi p i && leb (deadline p i) D) (units_between p table l D i)) (counted p)

-- The capacity of the floor in rule 18, from the start of interval l to time D: 0 if D is not later.
-- Past the last boundary, the start counts as 0.
abbrev pub floor_capacity : (p : Plan) (l : Interval) (D : Time) → Amount
floor_capacity p l D = p.d.0 * (D - boundary p l)

-- Rules 15 to 17 hold: no counted job has units in an interval that is not inside its window, each
-- counted job's total is exactly its size, and the load of each interval is at most n times its length.
pub record Allotted (p : Plan) (table : List ℕ) : Type 0 where
  pub inside : (i j : ℕ) → i < counted p → j < intervals p → in_window p i j ≡ false → units table i j ≡ 0
  pub exact : (i : ℕ) → i < counted p → total p table i ≡ size p i
  pub within : (j : ℕ) → j < intervals p → load p table j ≤ p.n.0 * interval_length p j

-- Rule 18 holds, over all boundaries: from each interval to each
-- later boundary, the demand is at most the floor's capacity.
abbrev pub FloorRule : (p : Plan) (table : Table) → Type 0
FloorRule p table = (l m : ℕ) → l < m → m ≤ intervals p → demand p table l (boundary p m) ≤ floor_capacity p l (boundary p m)

-- Figure 2 holds: rules 15 to 17 are its constraints (1) and (2), and rule 18 is (3).
pub record Figure2 (p : Plan) (table : List ℕ) : Type 0 where
  pub allotted : Allotted p table
  pub floor : FloorRule p table
