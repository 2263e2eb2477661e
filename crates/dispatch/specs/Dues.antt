-- What is due to each job in a slot, when a slot is slow, and the marks after it.
use Rattle.std.specs.Prelude.{Bool, false, not, cond, ◌&&◌, ◌||◌, suc, ◌-◌, min, leb, ltb, get_or}
use Rattle.plan.specs.Kinds.{Amount, Position, Speed, Table, Time}
use Rattle.base.specs.Sum.{sum, on}
use Rattle.plan.specs.Edition.{most_intervals}
use Rattle.plan.specs.Rules.{counted, release, size, deadline}
use Rattle.plan.specs.Boundaries.{present}
use Rattle.plan.specs.Table.{allotment}
use Rattle.plan.specs.declared.kinds.Plan.{Plan}
use Rattle.dispatch.specs.declared.Run.{Run}

-- The units carried for job i so far; 0 past the end of the run's list.
abbrev pub carried_of : (run : Run) (i : Position) → Amount
carried_of run i = get_or run.carried i 0

-- Whether the host has told that job i ended; false past the end of the run's list.
abbrev pub ended_of : (run : Run) (i : Position) → Bool
ended_of run i = get_or run.ended i false

-- Job i is in its window at time t: its release is at or before t, and its deadline is after t.
abbrev pub in_its_window : (p : Plan) (t : Time) (i : Position) → Bool
in_its_window p t i = leb (release p i) t && ltb t (deadline p i)

-- Job i is live in a run: it has not ended, and it is in its window at the clock.
abbrev pub live : (p : Plan) (run : Run) (i : Position) → Bool
live p run i = not (ended_of run i) && in_its_window p run.clock.0 i

-- The sum of job i's allotments at intervals 0 to `present p t`, both included.
abbrev pub allotted_by : (p : Plan) (table : Table) (t : Time) (i : Position) → Amount
allotted_by p table t i = sum (allotment most_intervals table i) (suc (present p t))

-- The below-floor mark after a slot at speed v: set by a speed below d, and never cleared.
abbrev pub below_after : (p : Plan) (run : Run) (v : Speed) → Bool
below_after p run v = run.below || ltb v p.d.0

-- The goal of job i for the units carried after this slot: its size under the slow mark, otherwise
-- its allotments so far but at most its size.
abbrev pub goal : (p : Plan) (table : Table) (t : Time) (slow : Bool) (i : Position) → Amount
goal p table t slow i = cond slow (size p i) (min (size p i) (allotted_by p table t i))

-- What is due to job i: 0 if it has ended, otherwise its goal less what is carried, or 0 if more is carried.
abbrev pub due : (p : Plan) (table : Table) (run : Run) (slow : Bool) (i : Position) → Amount
due p table run slow i = cond (ended_of run i) 0 (goal p table run.clock.0 slow i - carried_of run i)

-- The sum of the live jobs' dues, HI and LO, by the goals of the clear mark.
abbrev pub all_dues : (p : Plan) (table : Table) (run : Run) → Amount
all_dues p table run = sum (λ i. on (live p run i) (due p table run false i)) (counted p)

-- A slot at speed v is slow: v is below the lesser of n and the sum of the live jobs' dues.
abbrev pub slow_at : (p : Plan) (table : Table) (run : Run) (v : Speed) → Bool
slow_at p table run v = ltb v (min p.n.0 (all_dues p table run))

-- The slow mark after a slot at speed v: set by a slow slot, and never cleared.
abbrev pub slow_after : (p : Plan) (table : Table) (run : Run) (v : Speed) → Bool
slow_after p table run v = run.slow || slow_at p table run v
