-- The desk's definitions over the columns of the jobs, as its internal functions have them.
use Rattle.std.specs.Prelude.{◌≡◌, Bool, not, cond, ◌&&◌, ◌||◌, List, [], ◌∷◌, ℕ, ◌+◌, ◌*◌, ◌-◌, ◌^◌, ◌<◌, min, leb, ltb, eqb, length, get_or, Option, Some, None}
use Rattle.base.specs.Sum.{sum, on}
use Rattle.base.specs.Below.{every}
use Rattle.plan.specs.Kinds.{Time, Times}
use Rattle.plan.specs.Edition.{most_jobs}
use Rattle.plan.specs.Refusal.{no_timetable}
use Rattle.plan.specs.Report.{Report, fault}
use Rattle.plan.specs.Columns.{column_values}
use Rattle.plan.specs.declared.columns.Columns.{Columns}
use Rattle.plan.specs.declared.kinds.Units.{Units}
use Rattle.desk.specs.Timetable.{is_of}

-- The number of jobs that count.
abbrev pub jobs_in : Columns → ℕ
jobs_in c = min c.count most_jobs

-- The size of job i if it is of a class and due at or before a time, otherwise 0.
abbrev pub due_size : (back : Bool) (c : Columns) (t : Time) (i : ℕ) → ℕ
due_size back c t i = on (is_of back (get_or c.grades i 0) && leb (get_or c.deadlines i 0) t) (get_or c.sizes i 0)

-- Job i is of a class and due at a time.
abbrev pub is_due_at : (back : Bool) (c : Columns) (t : Time) (i : ℕ) → Bool
is_due_at back c t i = is_of back (get_or c.grades i 0) && eqb (get_or c.deadlines i 0) t

-- The sizes of a class that are due at or before entry m of `times`, if m is 0 or a job of the class is due then.
abbrev pub end_at : (back : Bool) (c : Columns) (times : Times) (m : ℕ) → Option Units
end_at back c times m =
    cond (eqb m 0 || not (every (λ i. not (is_due_at back c (get_or times m 0) i)) (jobs_in c)))
    (Some (record { 0 = sum (due_size back c (get_or times m 0)) (jobs_in c) }))
    None

-- The ends of a class, one for each time.
abbrev pub Ends : (back : Bool) (c : Columns) (times : Times) (ends : List (Option Units)) → Type 0
Ends back c times ends = (m : ℕ) → m < length times → get_or ends m None ≡ end_at back c times m

-- The greatest number that a column holds, of 32 bits.
abbrev pub most_in_column : ℕ
most_in_column = column_values - 1

-- More than any sum of sizes.
abbrev pub most_sum : ℕ
most_sum = 2 ^ 40

-- An end is below it, and the ends are.
abbrev pub IsWithin : Option Units → Type 0
IsWithin end = (sum : Units) → end ≡ Some sum → sum.0 < most_sum

abbrev pub AreWithin : List (Option Units) → Type 0
AreWithin ends = (k : ℕ) → IsWithin (get_or ends k None)

-- 29 with two times, if the ends that stand at them ask more than the rates carry.
abbrev pub pair_in : (n d : ℕ) (start D E : Time) (high low : Option Units) → Report
pair_in n d start D E (Some high) (Some low) =
    fault (ltb (n * (E - start) + d * (D - E)) (high.0 + low.0))
    (no_timetable ∷ D ∷ E ∷ (high.0 + low.0) ∷ (n * (E - start) + d * (D - E)) ∷ [])
pair_in n d start D E (Some high) None = []
pair_in n d start D E None low = []

-- The report of time D with entry k of `times`.
abbrev pub pairs_from : (c : Columns) (times : Times) (D : Time) (high : Option Units) (lows : List (Option Units)) (k : ℕ) → Report
pairs_from c times D high lows k = pair_in c.n.0 c.d.0 (get_or times 0 0) D (get_or times k 0) high (get_or lows k None)
