-- The faults of a plan file, told from its bytes and the layout alone: at which offset each field begins,
-- and what is wrong with it, in the order in which the reader looks. (proofs/ReaderExactly: the reader
-- answers the first of them, with its number and offset.)
use Rattle.std.specs.Prelude.{◌≡◌, ◌⊎◌, Bool, not, cond, ◌&&◌, ◌||◌, List, [], ◌∷◌, ◌++◌, ℕ, zero, suc, ◌+◌, ◌≤◌, ◌<◌, leb, ltb, eqb, length, take, drop, set, replicate}
use Rattle.base.specs.Sum.{on}
use Rattle.plan.specs.Kinds.{Bytes, Number, Offset, Position, Table}
use Rattle.plan.specs.Edition.{most_intervals, name_bytes, places}
use Rattle.plan.specs.Versions.{newest_version, count_allowed_in, rows_allowed_in}
use Rattle.plan.specs.Refusal.{wrong_version, wrong_extent, wrong_record_length, wrong_rates, wrong_job_count, wrong_name_byte, name_taken, wrong_grade, wrong_job_bounds, too_many_rows, row_without_job, row_without_interval, row_without_units, row_out_of_order, not_finite, wrong_lowest}
use Rattle.plan.specs.Report.{Report, or_else, fault, first}
use Rattle.plan.specs.Rules.{rates_allowed, name_allowed, is_absent, grade_allowed, window_allowed, size_allowed}
use Rattle.plan.specs.Boundaries.{intervals}
use Rattle.plan.specs.Table.{place}
use Rattle.plan.specs.declared.kinds.Job.{Job}
use Rattle.plan.specs.declared.kinds.Plan.{Plan}
use Rattle.fields.specs.Bytes.{value}
use Rattle.fields.specs.Parsers.{is_version}
use Rattle.planfields.specs.Layout.{opening_bytes, header_bytes, job_length, row_length, row_count_bytes}
use Rattle.planfields.specs.Records.{Head}
use Rattle.meter.specs.Log.{reading_length}
use Rattle.plan.specs.JobLists.{names_of}
use Rattle.planfile.specs.Reader.{position, plan_from, Row}

-- The number in the w bytes at an offset, highest first; of fewer bytes if the file ends before.
abbrev pub value_at : (file : Bytes) (w : ℕ) (at : Offset) → ℕ
value_at file w at = value 0 (take w (drop at file))

-- 2 at the offset if the file ends before the w bytes there do; otherwise empty.
abbrev pub cut_at : (file : Bytes) (w : ℕ) (at : Offset) → Report
cut_at file w at = fault (not (leb (at + w) (length file))) (wrong_extent ∷ at ∷ [])

-- Empty if the test passes; otherwise the number, at the offset.
abbrev pub unless_at : (ok : Bool) (number : Number) (at : Offset) → Report
unless_at ok number at = fault (not ok) (number ∷ at ∷ [])

-- The faults of a field that is tested by itself.
abbrev pub field_faults : (file : Bytes) (w : ℕ) (ok : ℕ → Bool) (number : Number) (at : Offset) → Report
field_faults file w ok number at = or_else (cut_at file w at) (unless_at (ok (value_at file w at)) number at)

-- The faults of a record's length byte.
abbrev pub length_faults : (file : Bytes) (long : ℕ) (at : Offset) → Report
length_faults file long at = field_faults file 1 (λ x. eqb x long) wrong_record_length at

-- Where the length field, both rates and the job count begin.
abbrev pub length_from : Offset
length_from = 1

abbrev pub normal_from : Offset
normal_from = opening_bytes

abbrev pub floor_from : Offset
floor_from = normal_from + 2

abbrev pub count_from : Offset
count_from = floor_from + 2

-- The faults of the opening. There is no first byte, or it is no version up to the newest; the length field is cut or is not
-- the number of bytes after it.
abbrev pub opening_faults : (newest : ℕ) (file : Bytes) → Report
opening_faults newest file =
    or_else (unless_at (leb 1 (length file) && is_version newest (value_at file 1 0)) wrong_version 0)
    (or_else (cut_at file 4 length_from) (unless_at (eqb (opening_bytes + value_at file 4 length_from) (length file)) wrong_extent length_from))

-- The faults of the fields before the jobs: those of the opening; a rate is cut, or the rates are not allowed; the job
-- count is cut or not allowed.
unfoldable pub head_faults : (file : Bytes) → Report
head_faults file =
    or_else (opening_faults newest_version file)
    (or_else (cut_at file 2 normal_from) (or_else (cut_at file 2 floor_from) (or_else (unless_at (rates_allowed (value_at file 2 normal_from) (value_at file 2 floor_from)) wrong_rates normal_from)
    (field_faults file 1 (count_allowed_in (value_at file 1 0)) wrong_job_count count_from))))

-- The fields before the jobs, where the layout has them.
abbrev pub head_in : (file : Bytes) → Head
head_in file = record { version = value_at file 1 0; n = value_at file 2 normal_from; d = value_at file 2 floor_from; count = value_at file 1 count_from }

-- Where a job's name, grade, release, size and deadline begin, and what follows the job, if the job begins
-- at `at`: each field begins where the one before it ends.
abbrev pub name_from : Offset → Offset
name_from at = at + 1

abbrev pub grade_from : Offset → Offset
grade_from at = name_from at + name_bytes

abbrev pub release_from : Offset → Offset
release_from at = grade_from at + 1

abbrev pub size_from : Offset → Offset
size_from at = release_from at + 4

abbrev pub deadline_from : Offset → Offset
deadline_from at = size_from at + 4

abbrev pub after_job : Offset → Offset
after_job at = deadline_from at + 4

-- Where job i begins.
unfoldable pub job_from : Position → Offset
job_from zero = header_bytes
job_from (suc i) = after_job (job_from i)

-- The job that begins at an offset, whatever its fields hold.
abbrev pub job_at : (file : Bytes) (at : Offset) → Job
job_at file at =
    record {
      name = record { 0 = value_at file name_bytes (name_from at) };
      grade = value_at file 1 (grade_from at);
      release = record { 0 = value_at file 4 (release_from at) };
      size = record { 0 = value_at file 4 (size_from at) };
      deadline = record { 0 = value_at file 4 (deadline_from at) };
    }

-- The first n jobs.
unfoldable pub jobs_in : (file : Bytes) (n : ℕ) → List Job
jobs_in file zero = []
jobs_in file (suc n) = jobs_in file n ++ (job_at file (job_from n) ∷ [])

-- The faults of a job that begins at an offset, after jobs with these names: its length byte; its name, cut,
-- not allowed, or taken; its grade; its release, size or deadline, cut, or not allowed together.
abbrev pub job_faults_at : (file : Bytes) (earlier : List ℕ) (at : Offset) → Report
job_faults_at file earlier at =
    let j = job_at file at in
    or_else
    (or_else (length_faults file job_length at) (or_else (cut_at file name_bytes (name_from at))
    (or_else (unless_at (name_allowed j.name.0) wrong_name_byte (name_from at)) (unless_at (is_absent earlier j.name.0) name_taken (name_from at)))))
    (or_else (field_faults file 1 grade_allowed wrong_grade (grade_from at))
    (or_else (cut_at file 4 (release_from at)) (or_else (cut_at file 4 (size_from at)) (or_else (cut_at file 4 (deadline_from at))
    (unless_at (window_allowed j.release.0 j.deadline.0 && size_allowed j.size.0) wrong_job_bounds (release_from at))))))

-- The faults of job i.
abbrev pub job_faults : (file : Bytes) (i : Position) → Report
job_faults file i = job_faults_at file (names_of (jobs_in file i)) (job_from i)

-- Where a row's name, interval and units begin, and what follows the row, if the row begins at `at`.
abbrev pub interval_from : Offset → Offset
interval_from at = name_from at + name_bytes

abbrev pub units_from : Offset → Offset
units_from at = interval_from at + 2

abbrev pub after_row : Offset → Offset
after_row at = units_from at + 4

-- Where row k begins, if the rows begin at `start`.
unfoldable pub row_from : (start : Offset) (k : ℕ) → Offset
row_from start zero = start
row_from start (suc k) = after_row (row_from start k)

-- The row that begins at an offset, whatever its fields hold: the place of its job, among these names, and
-- its interval; and its units.
abbrev pub row_in : (file : Bytes) (names : List ℕ) (at : Offset) → Row
row_in file names at =
    record { at = place most_intervals (position names (value_at file name_bytes (name_from at))) (value_at file 2 (interval_from at)); units = value_at file 4 (units_from at) }

-- The faults of a row that begins at an offset, in a plan with these names and this many intervals, after
-- rows at places below `low`: its length byte; its name, cut, or that of no job; its interval; its units;
-- its place.
abbrev pub row_faults_at : (file : Bytes) (names : List ℕ) (spans low : ℕ) (at : Offset) → Report
row_faults_at file names spans low at =
    or_else
    (or_else (length_faults file row_length at) (or_else (cut_at file name_bytes (name_from at))
    (unless_at (ltb (position names (value_at file name_bytes (name_from at))) (length names)) row_without_job (name_from at))))
    (or_else (field_faults file 2 (λ j. ltb j spans) row_without_interval (interval_from at))
    (or_else (field_faults file 4 (λ u. not (eqb u 0)) row_without_units (units_from at))
    (unless_at (leb low (row_in file names at).at) row_out_of_order at)))

-- The least place that row k may have: any, or one past that of the row before.
abbrev pub lowest_at : (file : Bytes) (names : List ℕ) (start : Offset) (k : ℕ) → ℕ
lowest_at file names start zero = 0
lowest_at file names start (suc k) = suc (row_in file names (row_from start k)).at

-- The faults of row k.
abbrev pub row_faults : (file : Bytes) (names : List ℕ) (spans : ℕ) (start : Offset) (k : ℕ) → Report
row_faults file names spans start k = row_faults_at file names spans (lowest_at file names start k) (row_from start k)

-- The first k rows, stored in a table of zeros.
unfoldable pub table_in : (file : Bytes) (names : List ℕ) (start : Offset) (k : ℕ) → Table
table_in file names start zero = replicate places 0
table_in file names start (suc k) =
    let row = row_in file names (row_from start k) in
    set (table_in file names start k) row.at row.units

-- The jobs of a file, as many as its job count says, and the plan of them.
abbrev pub file_jobs : (file : Bytes) → List Job
file_jobs file = jobs_in file (head_in file).count

abbrev pub file_plan : (file : Bytes) → Plan
file_plan file = plan_from (head_in file) (file_jobs file)

-- Where the row count and the rows begin, and how many rows the row count says.
abbrev pub row_count_from : (file : Bytes) → Offset
row_count_from file = job_from (head_in file).count

abbrev pub rows_from : (file : Bytes) → Offset
rows_from file = row_count_from file + row_count_bytes

abbrev pub rows_said : (file : Bytes) → ℕ
rows_said file = value_at file row_count_bytes (row_count_from file)

-- Where the file must end.
abbrev pub end_of : (file : Bytes) → Offset
end_of file = row_from (rows_from file) (rows_said file)

-- The faults of the row count.
abbrev pub row_count_faults : (file : Bytes) → Report
row_count_faults file = field_faults file row_count_bytes (rows_allowed_in (head_in file).version) too_many_rows (row_count_from file)

-- The first fault before the rows: of the fields before the jobs, of the first job that has one, or of the
-- row count.
abbrev pub preamble_fault : (file : Bytes) → Report
preamble_fault file = or_else (head_faults file) (or_else (first (job_faults file) (head_in file).count) (row_count_faults file))

-- The faults of row k, by the names of the file's jobs and the intervals of its plan.
abbrev pub file_row_faults : (file : Bytes) (k : ℕ) → Report
file_row_faults file k = row_faults file (names_of (file_jobs file)) (intervals (file_plan file)) (rows_from file) k

-- The first fault of a file, front to back: before the rows, of the first row that has one, or that bytes are
-- left. Empty if there is none.
unfoldable pub file_fault : (file : Bytes) → Report
file_fault file =
    or_else (preamble_fault file) (or_else (first (file_row_faults file) (rows_said file)) (unless_at (eqb (end_of file) (length file)) wrong_extent (end_of file)))

-- A report names an offset that is at most the file's length. It is the length, where there is no byte, only
-- with 2, for a field that would begin there, and with 1, in an empty file.
abbrev pub InsideFile : (file : Bytes) (report : Report) → Type 0
InsideFile file [] = Unit {0}
InsideFile file (number ∷ []) = ⊥
InsideFile file (number ∷ offset ∷ []) = (offset ≤ length file) × (offset ≡ length file → (number ≡ wrong_extent) ⊎ ((number ≡ wrong_version) × (offset ≡ 0)))
InsideFile file (number ∷ offset ∷ more ∷ rest) = ⊥

-- Where the last field ends that is read before a refusal: for 2 the field in hand is not read, except a
-- length field that is there whole; for the others it is read, and for 4, 9, 14, 30 and 31 the fields after it that
-- are tested with it; for 27 nothing is.
abbrev pub last_read : (file : Bytes) (number : Number) (offset : Offset) → Offset
last_read file number offset =
    cond (eqb number wrong_extent) (cond (eqb offset length_from && leb opening_bytes (length file)) opening_bytes offset)
    (offset
    + (on (eqb number wrong_version) 1 + on (eqb number wrong_record_length) 1 + on (eqb number wrong_rates) (2 + 2) + on (eqb number wrong_job_count) 1
    + on (eqb number wrong_name_byte || eqb number name_taken) name_bytes + on (eqb number wrong_grade) 1 + on (eqb number wrong_job_bounds) (4 + 4 + 4)
    + on (eqb number too_many_rows) row_count_bytes + on (eqb number row_without_job) name_bytes + on (eqb number row_without_interval) 2
    + on (eqb number row_without_units) 4 + on (eqb number row_out_of_order) (1 + row_length) + on (eqb number not_finite || eqb number wrong_lowest) reading_length))

-- The numbers and offsets that faults of the fields before the jobs have. Here and below every number but 2
-- and 3 tells the field; 3 is a record's length byte; 2 is a field that is cut, or the length field.
pub data WrongInHead : Number → Offset → Type 0 where
  head_version : WrongInHead wrong_version 0
  head_length_field : WrongInHead wrong_extent length_from
  head_normal_cut : WrongInHead wrong_extent normal_from
  head_floor_cut : WrongInHead wrong_extent floor_from
  head_rates : WrongInHead wrong_rates normal_from
  head_count_cut : WrongInHead wrong_extent count_from
  head_count_other : WrongInHead wrong_job_count count_from

-- Those of a job that begins at an offset.
pub data WrongInJob (at : Offset) : Number → Offset → Type 0 where
  job_length_cut : WrongInJob at wrong_extent at
  job_length_other : WrongInJob at wrong_record_length at
  job_name_cut : WrongInJob at wrong_extent (name_from at)
  job_name_byte : WrongInJob at wrong_name_byte (name_from at)
  job_name_taken : WrongInJob at name_taken (name_from at)
  job_grade_cut : WrongInJob at wrong_extent (grade_from at)
  job_grade_other : WrongInJob at wrong_grade (grade_from at)
  job_release_cut : WrongInJob at wrong_extent (release_from at)
  job_size_cut : WrongInJob at wrong_extent (size_from at)
  job_deadline_cut : WrongInJob at wrong_extent (deadline_from at)
  job_bounds : WrongInJob at wrong_job_bounds (release_from at)

-- Those of the row count.
pub data WrongRowCount (at : Offset) : Number → Offset → Type 0 where
  rows_count_cut : WrongRowCount at wrong_extent at
  rows_too_many : WrongRowCount at too_many_rows at

-- Those of a row that begins at an offset.
pub data WrongInRow (at : Offset) : Number → Offset → Type 0 where
  row_length_cut : WrongInRow at wrong_extent at
  row_length_other : WrongInRow at wrong_record_length at
  row_name_cut : WrongInRow at wrong_extent (name_from at)
  row_name_of_no_job : WrongInRow at row_without_job (name_from at)
  row_interval_cut : WrongInRow at wrong_extent (interval_from at)
  row_interval_other : WrongInRow at row_without_interval (interval_from at)
  row_units_cut : WrongInRow at wrong_extent (units_from at)
  row_units_none : WrongInRow at row_without_units (units_from at)
  row_out_of_order_lem : WrongInRow at row_out_of_order at

-- Where a file is wrong: in which record, at which of its fields, that this is the record's first fault, and
-- that no record before it has one.
pub data WrongAt (file : Bytes) : Number → Offset → Type 0 where
  in_head : {number : Number} {offset : Offset} → head_faults file ≡ number ∷ offset ∷ [] → WrongInHead number offset → WrongAt file number offset
  in_job : {number : Number} {offset : Offset} (i : ℕ) → i < (head_in file).count → head_faults file ≡ [] → ((k : ℕ) → k < i → job_faults file k ≡ [])
      → job_faults file i ≡ number ∷ offset ∷ [] → WrongInJob (job_from i) number offset → WrongAt file number offset
  in_row_count : {number : Number} {offset : Offset} → head_faults file ≡ [] → ((k : ℕ) → k < (head_in file).count → job_faults file k ≡ [])
      → row_count_faults file ≡ number ∷ offset ∷ [] → WrongRowCount (row_count_from file) number offset → WrongAt file number offset
  in_row : {number : Number} {offset : Offset} (i : ℕ) → i < rows_said file → preamble_fault file ≡ [] → ((k : ℕ) → k < i → file_row_faults file k ≡ [])
      → file_row_faults file i ≡ number ∷ offset ∷ [] → WrongInRow (row_from (rows_from file) i) number offset → WrongAt file number offset
  left_over : preamble_fault file ≡ [] → ((k : ℕ) → k < rows_said file → file_row_faults file k ≡ []) → end_of file < length file
      → WrongAt file wrong_extent (end_of file)
