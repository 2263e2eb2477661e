-- A refusal, and the refusal numbers, by name.
use Rattle.std.specs.Prelude.{◌≡◌, ℕ}
use Rattle.plan.specs.Kinds.{Number, Offset}
use Rattle.plan.specs.Report.{done_number}
use Rattle.plan.specs.declared.refusal.Reason.{Reason}
use Rattle.plan.specs.declared.refusal.Reason.TheVariants as reason
use Rattle.plan.specs.declared.refusal.Refusal as code

-- A refusal as every reading step hands it on: its `number`, and the `offset` of the first byte of the
-- field in hand.
pub record Refusal : Type 0 where
  pub number : Number
  pub offset : Offset

-- The refusal with a number, at an offset.
abbrev pub refusal_at : (number : Number) (offset : Offset) → Refusal
refusal_at number offset = record { number = number; offset = offset }

-- What stands where nothing is refused: no refusal has this number.
abbrev pub no_refusal : Refusal
no_refusal = refusal_at done_number 0

-- There is no first byte, or it is no version of such files.
abbrev pub wrong_version : ℕ
wrong_version = 1

-- The bytes end inside a field, the length field is wrong, or bytes follow the last row of a plan file.
abbrev pub wrong_extent : ℕ
wrong_extent = 2

-- The length byte of a record is wrong.
abbrev pub wrong_record_length : ℕ
wrong_record_length = 3

-- The rates are outside their bounds.
abbrev pub wrong_rates : ℕ
wrong_rates = 4

-- The job count is 0 or above its bound.
abbrev pub wrong_job_count : ℕ
wrong_job_count = 5

-- A byte of a job's name is outside 0x21 to 0x7E.
abbrev pub wrong_name_byte : ℕ
wrong_name_byte = 6

-- A job has the name of an earlier job.
abbrev pub name_taken : ℕ
name_taken = 7

-- A grade byte is neither LO nor HI.
abbrev pub wrong_grade : ℕ
wrong_grade = 8

-- A release, size or deadline is outside its bounds.
abbrev pub wrong_job_bounds : ℕ
wrong_job_bounds = 9

-- The row count is above its bound.
abbrev pub too_many_rows : ℕ
too_many_rows = 10

-- A row has a name that no job has.
abbrev pub row_without_job : ℕ
row_without_job = 11

-- A row's interval is not below the number of intervals.
abbrev pub row_without_interval : ℕ
row_without_interval = 12

-- A row has 0 units.
abbrev pub row_without_units : ℕ
row_without_units = 13

-- A row is not strictly after the row before it.
abbrev pub row_out_of_order : ℕ
row_out_of_order = 14

-- A job has units in an interval outside its window.
abbrev pub outside_window : ℕ
outside_window = 15

-- A job's allotments do not sum to its size.
abbrev pub wrong_total : ℕ
wrong_total = 16

-- An interval's allotments exceed n times its length.
abbrev pub over_capacity : ℕ
over_capacity = 17

-- The floor rule is broken.
abbrev pub below_floor_rule : ℕ
below_floor_rule = 18

-- The clock is at the last deadline.
abbrev pub clock_at_end : ℕ
clock_at_end = 19

-- The speed is above n.
abbrev pub speed_above_normal : ℕ
speed_above_normal = 20

-- The plan or the run is unsound; for an outcome also: no counted job has the position.
abbrev pub unsound : ℕ
unsound = 21

-- A lent buffer is too short.
abbrev pub buffer_too_short : ℕ
buffer_too_short = 22

-- A line of a job list is no record of RFC 4180 with five fields, its name is not eight bytes, or a
-- number of it is no decimal.
abbrev pub wrong_line : ℕ
wrong_line = 23

-- A job list does not begin with its header.
abbrev pub wrong_header : ℕ
wrong_header = 24

-- No counted job has the position.
abbrev pub no_such_job : ℕ
no_such_job = 25

-- A job cannot end now: it is not yet released, or its outcome is no longer open.
abbrev pub cannot_end : ℕ
cannot_end = 26

-- There are more speeds than a shift may have, or more readings than a log may have.
abbrev pub too_many_speeds : ℕ
too_many_speeds = 27

-- The jobs have not all the same release.
abbrev pub releases_differ : ℕ
releases_differ = 28

-- No table is accepted for the rates and the jobs.
abbrev pub no_timetable : ℕ
no_timetable = 29

-- The mean or the lowest rate of a reading is no finite number.
abbrev pub not_finite : ℕ
not_finite = 30

-- The lowest rate of a reading is below zero or above the mean.
abbrev pub wrong_lowest : ℕ
wrong_lowest = 31

-- The number of each reason.
abbrev pub number_of : Reason → Number
number_of reason.WrongVersion = wrong_version
number_of reason.WrongExtent = wrong_extent
number_of reason.WrongRecordLength = wrong_record_length
number_of reason.WrongRates = wrong_rates
number_of reason.WrongJobCount = wrong_job_count
number_of reason.WrongNameByte = wrong_name_byte
number_of reason.NameTaken = name_taken
number_of reason.WrongGrade = wrong_grade
number_of reason.WrongJobBounds = wrong_job_bounds
number_of reason.TooManyRows = too_many_rows
number_of reason.RowWithoutJob = row_without_job
number_of reason.RowWithoutInterval = row_without_interval
number_of reason.RowWithoutUnits = row_without_units
number_of reason.RowOutOfOrder = row_out_of_order
number_of reason.OutsideWindow = outside_window
number_of reason.WrongTotal = wrong_total
number_of reason.OverCapacity = over_capacity
number_of reason.BelowFloorRule = below_floor_rule
number_of reason.ClockAtEnd = clock_at_end
number_of reason.SpeedAboveNormal = speed_above_normal
number_of reason.Unsound = unsound
number_of reason.BufferTooShort = buffer_too_short
number_of reason.WrongLine = wrong_line
number_of reason.WrongHeader = wrong_header
number_of reason.NoSuchJob = no_such_job
number_of reason.CannotEnd = cannot_end
number_of reason.TooManySpeeds = too_many_speeds
number_of reason.ReleasesDiffer = releases_differ
number_of reason.NoTimetable = no_timetable
number_of reason.NotFinite = not_finite
number_of reason.WrongLowest = wrong_lowest

-- The contract of a call that answers a reason: it has the number.
abbrev pub HasNumber : (number : Number) (reason : Reason) → Type 0
HasNumber number reason = number_of reason ≡ number

-- The view of a refusal of the code: its reason's number, and its offset.
abbrev pub refusal_view : code.Refusal → Refusal
refusal_view refusal = refusal_at (number_of refusal.reason) refusal.offset
