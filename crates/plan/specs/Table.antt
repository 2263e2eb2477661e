-- The table: a row of places for each job, one place per interval;
-- and the soundness of a plan in hand.
use Rattle.std.specs.Prelude.{Bool, true, ◌&&◌, ◌||◌, List, [], ◌∷◌, ℕ, suc, ◌+◌, ◌*◌, ◌/◌, ◌%◌, ltb, eqb, get_or, take}
use Rattle.plan.specs.Kinds.{Amount, Interval, Position, Table}
use Rattle.plan.specs.Edition.{most_intervals, places}
use Rattle.plan.specs.Rules.{rules_hold, counted}
use Rattle.plan.specs.Boundaries.{intervals}
use Rattle.plan.specs.declared.kinds.Plan.{Plan}

-- The place of job i in interval j, for j below `width`, in a table with `width` places per job.
abbrev pub place : (width : ℕ) (i : Position) (j : Interval) → ℕ
place width i j = width * i + j

-- The number at the place of job i in interval j, or 0 past the end of the table.
abbrev pub allotment : (width : ℕ) (table : Table) (i : Position) (j : Interval) → Amount
allotment width table i j = get_or table (place width i j) 0

-- Each number of the list, whose first is at place q, is 0 unless its job (its place / width) is below
-- `jobs` and its interval (its place % width) below `spans`.
unfoldable pub no_stray : (width jobs spans q : ℕ) (cells : List ℕ) → Bool
no_stray width jobs spans q [] = true
no_stray width jobs spans q (u ∷ l) =
    (eqb u 0 || ltb (q / width) jobs && ltb (q % width) spans) && no_stray width jobs spans (suc q) l

-- Rules 4 to 9 hold, and each of the first `places` numbers of the table is 0 unless its job is counted
-- and its interval below `spans`.
abbrev pub sound_within : (spans : ℕ) (p : Plan) (table : Table) → Bool
sound_within spans p table = rules_hold p && no_stray most_intervals (counted p) spans 0 (take places table)

-- Soundness for judge and writer: `sound_within` the plan's own intervals.
unfoldable pub sound : (p : Plan) (table : Table) → Bool
sound p table = sound_within (intervals p) p table
