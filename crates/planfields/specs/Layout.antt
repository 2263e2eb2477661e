-- The layout of a plan file: the lengths of its parts, and how far it reaches.
use Rattle.std.specs.Prelude.{cond, ℕ, ◌+◌, ◌*◌, min, ltb, length, get_or}
use Rattle.plan.specs.Kinds.{Bytes, Offset, Position}
use Rattle.plan.specs.Versions.{newest_version, most_jobs_in, most_rows_in}

-- The number of bytes of the opening: version and length field, which counts the bytes after it.
abbrev pub opening_bytes : ℕ
opening_bytes = 1 + 4

-- The number of bytes before the jobs: the opening, both rates and the job count.
abbrev pub header_bytes : ℕ
header_bytes = opening_bytes + 2 + 2 + 1

-- The value of a job's length byte.
abbrev pub job_length : ℕ
job_length = 21

-- The number of bytes of the row count.
abbrev pub row_count_bytes : ℕ
row_count_bytes = 2

-- The value of a row's length byte.
abbrev pub row_length : ℕ
row_length = 14

-- The size of the largest plan file, which is of the newest version.
abbrev pub largest_file : ℕ
largest_file = header_bytes + most_jobs_in newest_version * (1 + job_length) + row_count_bytes + most_rows_in newest_version * (1 + row_length)

-- The offset at which the name of job i begins: after the header, the jobs before it, and its
-- length byte.
abbrev pub name_at : Position → Offset
name_at i = header_bytes + i * (1 + job_length) + 1

-- The bytes at offsets 1 to 4, where the length field is, as a number, highest first; a byte that is
-- not there counts as 0.
abbrev pub length_said : Bytes → ℕ
length_said l = ((get_or l 1 0 * 256 + get_or l 2 0) * 256 + get_or l 3 0) * 256 + get_or l 4 0

-- How many bytes the plan file at the front of an input is to have: the opening, and as many more as
-- the length field says, but at most the largest file, also if the input is shorter; as many as there
-- are if they are too few for the opening.
unfoldable pub file_bytes : Bytes → ℕ
file_bytes l = cond (ltb (length l) opening_bytes) (length l) (min (opening_bytes + length_said l) largest_file)
