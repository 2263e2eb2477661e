-- The desk: its refusals, and the table that it leaves.
use Rattle.std.specs.Prelude.{Bool, not, [], ◌∷◌, ltb, eqb, length}
use Rattle.base.specs.Below.{every}
use Rattle.plan.specs.Kinds.{Table}
use Rattle.plan.specs.Edition.{places}
use Rattle.plan.specs.Refusal.{unsound, buffer_too_short, releases_differ}
use Rattle.plan.specs.Report.{Report, or_else, fault}
use Rattle.plan.specs.Rules.{counted, release, rules_hold}
use Rattle.plan.specs.Boundaries.{first_release}
use Rattle.plan.specs.declared.kinds.Plan.{Plan}
use Rattle.desk.specs.Timetable.{cleared, timetable}
use Rattle.desk.specs.Pairs.{pair_fault}

-- All counted jobs have the first release.
unfoldable pub one_release : Plan → Bool
one_release p = every (λ i. eqb (release p i) (first_release p)) (counted p)

-- The refusals of the jobs: 28, then 29 with the first pair.
abbrev pub jobs_fault : Plan → Report
jobs_fault p = or_else (fault (not (one_release p)) (releases_differ ∷ [])) (pair_fault p)

-- Why no timetable can be drawn up: 21 if rules 4 to 9 do not hold, then the refusals of the jobs; empty if one can.
unfoldable pub shortage_of : Plan → Report
shortage_of p = or_else (fault (not (rules_hold p)) (unsound ∷ [])) (jobs_fault p)

-- The desk's refusals: 22 for a table that is too short, then those above.
unfoldable pub draw_fault : (p : Plan) (table : Table) → Report
draw_fault p table = or_else (fault (ltb (length table) places) (buffer_too_short ∷ [])) (shortage_of p)

-- The table that the desk leaves: the timetable; after 28 and 29 zeros in the table's own places; after 22 and 21
-- the table as it was. Places beyond the table's own stay.
abbrev pub table_after : (p : Plan) (table : Table) (hand jobs : Report) → Table
table_after p table [] [] = timetable p table
table_after p table [] (number ∷ rest) = cleared table
table_after p table (number ∷ rest) jobs = table

-- The table after the desk's call.
unfoldable pub table_left : (p : Plan) (table : Table) → Table
table_left p table =
    table_after p table
    (or_else (fault (ltb (length table) places) (buffer_too_short ∷ [])) (fault (not (rules_hold p)) (unsound ∷ [])))
    (jobs_fault p)
