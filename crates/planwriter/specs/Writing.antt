-- The bytes of a plan file, and what the writer leaves. A number too large for its field stands there as
-- `bytes` says: the field's first element is then no byte.
use Rattle.std.specs.Prelude.{not, cond, List, [], ◌∷◌, ◌++◌, ℕ, zero, suc, ◌/◌, ◌%◌, ltb, eqb, length, get_or, take, drop}
use Rattle.plan.specs.Kinds.{Amount, Bytes, Interval, Number, Table}
use Rattle.plan.specs.Edition.{name_bytes, most_intervals, places}
use Rattle.plan.specs.Versions.{version_for}
use Rattle.planfields.specs.Layout.{job_length, row_length}
use Rattle.plan.specs.Refusal.{unsound, buffer_too_short}
use Rattle.plan.specs.Rules.{counted, names, job_of}
use Rattle.plan.specs.Table.{sound}
use Rattle.plan.specs.declared.kinds.Job.{Job}
use Rattle.plan.specs.declared.kinds.Plan.{Plan}
use Rattle.fields.specs.Bytes.{bytes}

-- The bytes of a job: its length byte and its fields.
abbrev pub job_bytes : Job → Bytes
job_bytes j =
    bytes 1 job_length ++ bytes name_bytes j.name.0 ++ bytes 1 j.grade ++ bytes 4 j.release.0 ++ bytes 4 j.size.0
    ++ bytes 4 j.deadline.0

-- The bytes of the jobs at positions below n.
unfoldable pub jobs_bytes : (p : Plan) (n : ℕ) → Bytes
jobs_bytes p zero = []
jobs_bytes p (suc n) = jobs_bytes p n ++ job_bytes (job_of p n)

-- The bytes of a row: its length byte, the job's name, the interval and the units.
abbrev pub row_bytes : (name : ℕ) (interval : Interval) (units : Amount) → Bytes
row_bytes name interval units = bytes 1 row_length ++ bytes name_bytes name ++ bytes 2 interval ++ bytes 4 units

-- The bytes for place q with the given units: none for 0 units, otherwise the row of its job, which is
-- q / width, with name 0 if `names` has no such job, and of its interval, which is q % width.
abbrev pub row_at : (width : ℕ) (names : List ℕ) (q : ℕ) (units : Amount) → Bytes
row_at width names q units = cond (eqb units 0) [] (row_bytes (get_or names (q / width) 0) (q % width) units)

-- The bytes of the rows of a list of units whose first is at place q.
unfoldable pub rows_bytes : ℕ → List ℕ → ℕ → List ℕ → Bytes
rows_bytes width names q [] = []
rows_bytes width names q (u ∷ l) = row_at width names q u ++ rows_bytes width names (suc q) l

-- The number of rows: one for each number that is not 0.
unfoldable pub row_count : List ℕ → ℕ
row_count [] = 0
row_count (u ∷ l) = cond (eqb u 0) (row_count l) (suc (row_count l))

-- All bytes after the length field.
unfoldable pub body : (p : Plan) (table : Table) → Bytes
body p table =
    bytes 2 p.n.0 ++ bytes 2 p.d.0 ++ bytes 1 p.count ++ jobs_bytes p (counted p) ++ bytes 2 (row_count table)
    ++ rows_bytes most_intervals (names p) 0 table

-- The file of a plan, given its table's own places: the version for its number of jobs, the length of
-- what follows, and the body.
unfoldable pub written : (p : Plan) (table : Table) → Bytes
written p table = bytes 1 (version_for p.count) ++ bytes 4 (length (body p table)) ++ body p table

-- The writer's answer: the file's length, or a refusal number.
pub data Answer : Type 0 where
  wrote : ℕ → Answer
  refused : ℕ → Answer

-- What a call of the writer leaves: its answer and the lent output.
pub record WriteEffect : Type 0 where
  pub answer : Answer
  pub out : List ℕ

-- The effect of a refusal: the output is unchanged.
abbrev pub withheld : (number : Number) (out : Bytes) → WriteEffect
withheld number out = record { answer = refused number; out = out }

-- The writer: 22 for a short table, then 21 for an unsound plan, then 22 for an output shorter than the
-- file; otherwise it writes the file, and the bytes after it are unchanged.
unfoldable pub writer : (p : Plan) (table : Table) (out : Bytes) → WriteEffect
writer p table out =
    let file = written p (take places table) in
    cond (ltb (length table) places) (withheld buffer_too_short out)
    (cond (not (sound p table)) (withheld unsound out)
    (cond (ltb (length out) (length file)) (withheld buffer_too_short out)
    (record { answer = wrote (length file); out = file ++ drop (length file) out })))
