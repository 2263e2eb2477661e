-- What a plan file of a version may hold. The room of a plan in hand (`most_jobs`, `most_intervals`, `places`)
-- is apart from it; it has a record for every job of a file (`count_fits`, proofs/VersionLimits).
use Rattle.std.specs.Prelude.{Bool, ◌&&◌, ℕ, leb}
use Rattle.plan.specs.Edition.{most_jobs, most_rows}

-- The newest version of plan files. The versions are numbered from 1.
abbrev pub newest_version : ℕ
newest_version = 1

-- The least number of jobs in a file of a version.
abbrev pub least_jobs_in : (version : ℕ) → ℕ
least_jobs_in version = 1

-- The greatest number of jobs in a file of a version.
abbrev pub most_jobs_in : (version : ℕ) → ℕ
most_jobs_in version = most_jobs

-- The greatest number of rows in a file of a version.
abbrev pub most_rows_in : (version : ℕ) → ℕ
most_rows_in version = most_rows

-- Rule 5 for a file of a version: how many jobs it may have.
abbrev pub count_allowed_in : (version count : ℕ) → Bool
count_allowed_in version count = leb (least_jobs_in version) count && leb count (most_jobs_in version)

-- Rule 10 for a file of a version: how many rows it may have.
abbrev pub rows_allowed_in : (version rows : ℕ) → Bool
rows_allowed_in version rows = leb rows (most_rows_in version)

-- The version of the file in which a plan with this many jobs is written.
abbrev pub version_for : (count : ℕ) → ℕ
version_for count = newest_version
