-- What each verdict means: its fault is present, no earlier location
-- has it, and every test before it passed.
use Rattle.std.specs.Prelude.{◌≡◌, true, false, List, [], ◌∷◌, ◌≢◌, ℕ, ◌*◌, ◌≤◌, ◌<◌, length}
use Rattle.plan.specs.Kinds.{Interval, Table}
use Rattle.plan.specs.Edition.{places}
use Rattle.plan.specs.Refusal.{outside_window, wrong_total, over_capacity, below_floor_rule, unsound, buffer_too_short}
use Rattle.plan.specs.Rules.{counted, size}
use Rattle.plan.specs.Boundaries.{boundary, intervals}
use Rattle.plan.specs.Table.{sound}
use Rattle.plan.specs.declared.kinds.Plan.{Plan}
use Rattle.judge.specs.Constraints.{interval_length, total, load, demand, floor_capacity}
use Rattle.judge.specs.Verdict.{is_outside, is_pair}
use Rattle.plan.specs.Report.{Report}

-- Neither 22 nor 21 applies: the table has all its places, and the plan is sound.
abbrev pub InHand : (p : Plan) (table : Table) → Type 0
InHand p table = (places ≤ length table) × (sound p table ≡ true)

-- Rule 15 holds for the first n jobs: they have no units in intervals that are not inside their
-- windows.
abbrev pub InsideTo : (p : Plan) (table : Table) (n : ℕ) → Type 0
InsideTo p table n = (i j : ℕ) → i < n → j < intervals p → is_outside p table i j ≡ false

-- Rule 16 holds for the first n jobs: their totals are their sizes.
abbrev pub TotalTo : (p : Plan) (table : Table) (n : ℕ) → Type 0
TotalTo p table n = (i : ℕ) → i < n → total p table i ≡ size p i

-- Rule 17 holds in the first n intervals: their loads are at most the normal rate's capacity.
abbrev pub WithinTo : (p : Plan) (table : Table) (n : ℕ) → Type 0
WithinTo p table n = (j : ℕ) → j < n → load p table j ≤ p.n.0 * interval_length p j

-- Rule 18 holds from interval l to each HI deadline among the first m boundaries that comes after
-- boundary l: the demand is at most the floor's capacity.
abbrev pub FloorAt : (p : Plan) (table : Table) (l : Interval) (m : ℕ) → Type 0
FloorAt p table l m = (k : ℕ) → k < m → is_pair p l k ≡ true → demand p table l (boundary p k) ≤ floor_capacity p l (boundary p k)

-- Rule 18 holds from each of the first n intervals to every later boundary that is a HI deadline.
abbrev pub FloorTo : (p : Plan) (table : Table) (n : ℕ) → Type 0
FloorTo p table n = (l : ℕ) → l < n → (k : ℕ) → k ≤ intervals p → is_pair p l k ≡ true
    → demand p table l (boundary p k) ≤ floor_capacity p l (boundary p k)

-- What a report says of a plan and its table, by case in the judge's order.
pub data Decided (p : Plan) (table : List ℕ) : Report → Type 0 where
  short : length table < places → Decided p table (buffer_too_short ∷ [])
  bad : places ≤ length table → sound p table ≡ false → Decided p table (unsound ∷ [])
  outside : InHand p table → (i j : ℕ) → i < counted p → j < intervals p → is_outside p table i j ≡ true → InsideTo p table i
      → ((k : ℕ) → k < j → is_outside p table i k ≡ false) → Decided p table (outside_window ∷ i ∷ j ∷ [])
  wrong : InHand p table → InsideTo p table (counted p) → (i : ℕ) → i < counted p → total p table i ≢ size p i → TotalTo p table i
      → Decided p table (wrong_total ∷ i ∷ [])
  over : InHand p table → InsideTo p table (counted p) → TotalTo p table (counted p) → (j : ℕ) → j < intervals p
      → p.n.0 * interval_length p j < load p table j → WithinTo p table j → Decided p table (over_capacity ∷ j ∷ [])
  below : InHand p table → InsideTo p table (counted p) → TotalTo p table (counted p) → WithinTo p table (intervals p) → (l m : ℕ)
      → l < intervals p → m ≤ intervals p → is_pair p l m ≡ true → floor_capacity p l (boundary p m) < demand p table l (boundary p m)
      → FloorTo p table l → FloorAt p table l m → Decided p table (below_floor_rule ∷ l ∷ boundary p m ∷ [])
  accepted : InHand p table → InsideTo p table (counted p) → TotalTo p table (counted p) → WithinTo p table (intervals p)
      → FloorTo p table (intervals p) → Decided p table []
