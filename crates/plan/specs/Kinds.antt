-- What the numbers and lists of the definitions stand for. The names are transparent: each is ℕ or a
-- list of ℕ, and nothing bounds a number or a list's length.
use Rattle.std.specs.Prelude.{List, ℕ}

-- A count of slots: a clock, a release, a deadline, a boundary.
abbrev pub Time : Type 0
Time = ℕ

-- A count of units: a size, an allotment, a due, a grant.
abbrev pub Amount : Type 0
Amount = ℕ

-- Units in one slot: a speed or a rate.
abbrev pub Speed : Type 0
Speed = ℕ

-- The index of a job among a plan's jobs.
abbrev pub Position : Type 0
Position = ℕ

-- The index of an interval among a plan's intervals.
abbrev pub Interval : Type 0
Interval = ℕ

-- An index into a file's bytes, or the file's length.
abbrev pub Offset : Type 0
Offset = ℕ

-- A refusal number, or the number of no refusal.
abbrev pub Number : Type 0
Number = ℕ

-- The allotment table: amounts by place.
abbrev pub Table : Type 0
Table = List ℕ

-- Amounts by position: a grant row, or what a run carries.
abbrev pub Row : Type 0
Row = List ℕ

-- Times in a list, such as the boundaries.
abbrev pub Times : Type 0
Times = List ℕ

-- Positions in a list, such as the order of service.
abbrev pub Positions : Type 0
Positions = List ℕ

-- The bytes of a file or of a line.
abbrev pub Bytes : Type 0
Bytes = List ℕ

-- The words that a host lends.
abbrev pub Words : Type 0
Words = List ℕ
