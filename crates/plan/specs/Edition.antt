-- The bounds of the edition, by name.
use Rattle.std.specs.Prelude.{ℕ, ◌*◌, ◌-◌}

-- The greatest number of jobs.
abbrev pub most_jobs : ℕ
most_jobs = 32

-- The greatest number of boundaries: two for each job.
abbrev pub most_boundaries : ℕ
most_boundaries = 2 * most_jobs

-- The greatest number of intervals: one fewer than boundaries.
abbrev pub most_intervals : ℕ
most_intervals = most_boundaries - 1

-- The greatest number of rows in a plan file.
abbrev pub most_rows : ℕ
most_rows = 2016

-- The greatest normal rate n.
abbrev pub most_rate : ℕ
most_rate = 1000

-- The greatest deadline.
abbrev pub most_deadline : ℕ
most_deadline = 100_000

-- The greatest size.
abbrev pub most_size : ℕ
most_size = 100_000_000

-- The number of the table's own places: `most_intervals` for each of `most_jobs` jobs.
abbrev pub places : ℕ
places = most_jobs * most_intervals

-- The number of bytes in a name.
abbrev pub name_bytes : ℕ
name_bytes = 8

-- The greatest number of speeds of a shift, and of readings of a meter log.
abbrev pub most_speeds : ℕ
most_speeds = 256
