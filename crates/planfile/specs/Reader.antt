-- Reading a plan file (the head, the jobs, the rows, the end),
-- and what the reader and the name lookup leave.
use Rattle.std.specs.Prelude.{true, not, cond, List, [], ◌∷◌, ◌++◌, ℕ, zero, suc, leb, ltb, eqb, length, take, drop, set, replicate}
use Rattle.plan.specs.Kinds.{Bytes, Offset, Position, Table}
use Rattle.plan.specs.Edition.{most_intervals, places, name_bytes}
use Rattle.plan.specs.Versions.{rows_allowed_in}
use Rattle.planfields.specs.Layout.{row_length, name_at}
use Rattle.plan.specs.Refusal.{too_many_rows, row_without_job, row_without_interval, row_without_units, row_out_of_order, buffer_too_short}
use Rattle.plan.specs.Report.{Report}
use Rattle.plan.specs.JobLists.{names_of, records_of}
use Rattle.plan.specs.Rules.{same_name, no_plan}
use Rattle.plan.specs.Boundaries.{intervals}
use Rattle.plan.specs.Table.{place}
use Rattle.plan.specs.declared.kinds.Job.{Job}
use Rattle.plan.specs.declared.kinds.Plan.{Plan}
use Rattle.fields.specs.Parsers.{Parsed, got, no, Parser, ◌>>=◌, ◌>>◌, done, here, test, field, checked, record_length, ended}
use Rattle.planfields.specs.Records.{Head, head, one_job}

-- n jobs in sequence, appended to those already read; none of the n may have the name of one before
-- it.
unfoldable pub all_jobs : (n : ℕ) (jobs : List Job) → Parser (List Job)
all_jobs zero jobs = done jobs
all_jobs (suc n) jobs = do
  job ← one_job (names_of jobs)
  all_jobs n (jobs ++ (job ∷ []))

-- The index of the first name that is x, or the length of the list if there is none.
unfoldable pub position : List ℕ → ℕ → ℕ
position [] x = 0
position (y ∷ l) x = cond (same_name y x) 0 (suc (position l x))

-- A row: its place in the table and its units.
pub record Row : Type 0 where
  pub at : ℕ
  pub units : ℕ

-- The length byte of a row and its name, which must be one of the names: the position of the job.
unfoldable pub row_job : (names : List ℕ) → Parser ℕ
row_job names = do
  record_length row_length
  from ← here
  name ← field name_bytes
  test (ltb (position names name) (length names)) row_without_job from
  done (position names name)

-- One row: its length byte and its job, an interval below `spans`, units other than 0, and a place that is
-- at least `low`; otherwise it is refused at its length byte.
unfoldable pub one_row : (width : ℕ) (names : List ℕ) (spans low : ℕ) → Parser Row
one_row width names spans low = do
  from ← here
  job ← row_job names
  interval ← checked 2 (λ j. ltb j spans) row_without_interval
  units ← checked 4 (λ u. not (eqb u 0)) row_without_units
  test (leb low (place width job interval)) row_out_of_order from
  done (record { at = place width job interval; units = units })

-- n rows in sequence, with strictly increasing places from `low` on, each stored in the table if the
-- table has its place.
unfoldable pub all_rows : (n width : ℕ) (names : List ℕ) (spans low : ℕ) (table : Table) → Parser (List ℕ)
all_rows zero width names spans low table = done table
all_rows (suc n) width names spans low table = do
  row ← one_row width names spans low
  all_rows n width names spans (suc row.at) (set table row.at row.units)

-- What a file holds: the plan, and the table's own places.
pub record Contents : Type 0 where
  pub plan : Plan
  pub table : List ℕ

-- The plan with the rates and the count of a head and with these jobs, then zero records up to
-- `most_jobs`.
abbrev pub plan_from : Head → List Job → Plan
plan_from h jobs =
    record {
      n = record { 0 = h.n };
      d = record { 0 = h.d };
      count = h.count;
      jobs = records_of jobs;
    }

-- What the preamble holds: the plan, the names of its jobs, and the row count.
pub record Preamble : Type 0 where
  pub plan : Plan
  pub names : List ℕ
  pub rows : ℕ

-- The preamble: the head, the jobs and the row count.
unfoldable pub preamble : Parser Preamble
preamble = do
  h ← head true
  jobs ← all_jobs h.count []
  rows ← checked 2 (rows_allowed_in h.version) too_many_rows
  done (record { plan = plan_from h jobs; names = names_of jobs; rows = rows })

-- A plan file: the preamble, the rows and the end.
unfoldable pub plan_file : Parser Contents
plan_file = do
  f ← preamble
  table ← all_rows f.rows most_intervals f.names (intervals f.plan) 0 (replicate places 0)
  ended
  done (record { plan = f.plan; table = table })

-- What a file holds, read from offset 0 on, or its refusal.
abbrev pub read_file : Bytes → Parsed Contents
read_file file = plan_file file 0

-- What a call of the reader leaves: its report (empty for a plan that was read, otherwise the refusal number
-- and, except with 22, the offset of the field in hand), the plan, and the lent table.
pub record ReadEffect : Type 0 where
  pub answer : Report
  pub plan : Plan
  pub table : List ℕ

-- What the reader leaves with a table that is long enough: the contents' table, or `places` zeros after
-- a refusal, and behind them what the lent table has from place `places` on.
abbrev pub leaves : Parsed Contents → Table → ReadEffect
leaves (got contents at) table = record { answer = []; plan = contents.plan; table = contents.table ++ drop places table }
leaves (no refusal) table = record { answer = refusal.number ∷ refusal.offset ∷ []; plan = no_plan; table = replicate places 0 ++ drop places table }

-- The reader: 22 for a table that is too short, which stays unchanged;
-- otherwise what reading the file leaves.
unfoldable pub reader : (file : Bytes) (table : Table) → ReadEffect
reader file table =
    cond (ltb (length table) places) (record { answer = buffer_too_short ∷ []; plan = no_plan; table = table }) (leaves (read_file file) table)

-- The offset at which the name of job k begins; 0, where no name begins, if the file is refused or has
-- no job k.
abbrev pub found_by : Parsed Contents → Position → Offset
found_by (got contents at) k = cond (ltb k contents.plan.count) (name_at k) 0
found_by (no refusal) k = 0

-- The offset that the name lookup finds for job k of a file.
unfoldable pub name_found : (file : Bytes) (k : Position) → Offset
name_found file k = found_by (read_file file) k

-- The part of a file where the name of job k is: the eight bytes from `name_at` k on, fewer if the file
-- ends before, or nothing if the file is refused or has no job k.
abbrev pub shown_by : Parsed Contents → Bytes → ℕ → List ℕ
shown_by (got contents at) file k = cond (ltb k contents.plan.count) (take name_bytes (drop (name_at k) file)) []
shown_by (no refusal) file k = []

-- The name lookup: what it shows for job k of a file.
unfoldable pub name_shown : (file : Bytes) (k : ℕ) → Bytes
name_shown file k = shown_by (read_file file) file k
