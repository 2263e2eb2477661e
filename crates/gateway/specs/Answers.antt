-- The contract of each call for hosts: its number, and every lent
-- buffer at exit, are those of its definition.
use Rattle.std.specs.Prelude.{◌≡◌, List, ℕ, Float, ℤ}
use Rattle.plan.specs.Kinds.{Bytes, Number, Offset, Position, Row, Speed, Table, Words}
use Rattle.planfile.specs.Reader.{name_found}
use Rattle.gateway.specs.declared.answers.Finding.{Finding}
use Rattle.gateway.specs.declared.answers.Finding.TheVariants as finding
use Rattle.gateway.specs.Calls.{none_number, met_number, discarded_number, missed_number, open_number, ended_number, judge_call, draw_call, shortage_call, start_call, step_call, shift_call, outcome_call, slack_call, read_call, write_call, import_call, export_call, end_call, speed_call, log_call}

-- The number of what an answer tells besides that a call is done or refused.
abbrev pub finding_number : Finding → Number
finding_number finding.NoneEssential = none_number
finding_number finding.Met = met_number
finding_number finding.Discarded = discarded_number
finding_number finding.Missed = missed_number
finding_number finding.Open = open_number
finding_number finding.Ended = ended_number

-- The contract of `gateway_read`: the number, the lent plan, the table and the offset.
abbrev pub HostReads : (file : Bytes) (plan : Words) (table : Table) (offset : Offset) (r : ℕ) (plan_left : Words) (table_left_lem : Table) (offset_left : Offset) → Type 0
HostReads file plan table offset r plan_left table_left_lem offset_left =
    record { number = r; plan = plan_left; table = table_left_lem; offset = offset_left } ≡ read_call file plan table offset

-- The contract of `gateway_write`: the number, the length and
-- the output, whatever the length was before.
abbrev pub HostWrites : (plan : Words) (table : Table) (out : Bytes) (length : ℕ) (r : ℕ) (out_left : Bytes) (length_left : ℕ) → Type 0
HostWrites plan table out length r out_left length_left =
    record { number = r; length = length_left; out = out_left } ≡ write_call plan table out length

-- The contract of `gateway_name`: the offset of the name in the file, or 0.
abbrev pub HostShows : (file : Bytes) (position : Position) (r : ℕ) → Type 0
HostShows file position r = r ≡ name_found file position

-- The contract of `gateway_judge`: the number and the lent location.
abbrev pub HostJudges : (plan : Words) (table : Table) (location : Words) (r : ℕ) (location_left : Words) → Type 0
HostJudges plan table location r location_left = record { number = r; location = location_left } ≡ judge_call plan table location

-- The contract of `gateway_slack`: the number, the slack and the lent location.
abbrev pub HostMeasures : (plan : Words) (table : Table) (least : ℤ) (location : Words) (r : ℕ) (least_left : ℤ) (location_left : Words) → Type 0
HostMeasures plan table least location r least_left location_left =
    record { number = r; slack = least_left; location = location_left } ≡ slack_call plan table least location

-- The contract of `gateway_draw`: the number and the table.
abbrev pub HostDraws : (plan : Words) (table : Table) (r : ℕ) (table_left_lem : Table) → Type 0
HostDraws plan table r table_left_lem = record { number = r; table = table_left_lem } ≡ draw_call plan table

-- The contract of `gateway_shortage`: the number and the lent pair.
abbrev pub HostExplains : (plan pair : Words) (r : ℕ) (pair_left : Words) → Type 0
HostExplains plan pair r pair_left = record { number = r; pair = pair_left } ≡ shortage_call plan pair

-- The contract of `gateway_start`: the number, the lent run and the lent location.
abbrev pub HostStarts : (plan : Words) (table : Table) (run location : Words) (r : ℕ) (run_left_lem location_left : Words) → Type 0
HostStarts plan table run location r run_left_lem location_left =
    record { number = r; run = run_left_lem; location = location_left } ≡ start_call plan table run location

-- The contract of `gateway_step`: the number, the lent run and the grant row.
abbrev pub HostSteps : (plan : Words) (table : Table) (run : Words) (v : Speed) (grants : Row) (r : ℕ) (run_left_lem : Words) (grants_left : Row) → Type 0
HostSteps plan table run v grants r run_left_lem grants_left =
    record { number = r; run = run_left_lem; grants = grants_left } ≡ step_call plan table run v grants

-- The contract of `gateway_shift`: the number, the lent run, the rows of grants and the number of each speed.
abbrev pub HostShifts : (plan : Words) (table : Table) (run : Words) (speeds : List ℕ) (rows : Row) (numbers : List ℕ) (r : ℕ) (run_left_lem : Words) (rows_left : Row) (numbers_left : List ℕ) → Type 0
HostShifts plan table run speeds rows numbers r run_left_lem rows_left numbers_left =
    record { number = r; run = run_left_lem; rows = rows_left; numbers = numbers_left } ≡ shift_call plan table run speeds rows numbers

-- The contract of `gateway_outcome`: the number.
abbrev pub HostEnds : (plan run : Words) (position : Position) (r : ℕ) → Type 0
HostEnds plan run position r = r ≡ outcome_call plan run position

-- The contract of `gateway_import`: the number, the lent list and the offset.
abbrev pub HostImports : (text : Bytes) (list : Words) (offset : Offset) (r : ℕ) (list_left : Words) (offset_left : Offset) → Type 0
HostImports text list offset r list_left offset_left =
    record { number = r; list = list_left; offset = offset_left } ≡ import_call text list offset

-- The contract of `gateway_export`: the number, the length and the output, whatever the length was before.
abbrev pub HostExports : (list : Words) (out : Bytes) (length : ℕ) (r : ℕ) (out_left : Bytes) (length_left : ℕ) → Type 0
HostExports list out length r out_left length_left =
    record { number = r; length = length_left; out = out_left } ≡ export_call list out length

-- The contract of `gateway_end`: the number and the lent run.
abbrev pub HostTells : (plan run : Words) (position : Position) (r : ℕ) (run_left_lem : Words) → Type 0
HostTells plan run position r run_left_lem = record { number = r; run = run_left_lem } ≡ end_call plan run position

-- The contract of `gateway_meter`: the number and the speed, whatever it was before.
abbrev pub HostMeters : (mean lowest : Float) (n : ℕ) (r : ℕ) (speed_left : Speed) → Type 0
HostMeters mean lowest n r speed_left = record { number = r; speed = speed_left } ≡ speed_call mean lowest n

-- The contract of `gateway_speeds`: the number, the list, the count and the offset, whatever the last two were before.
abbrev pub HostReadsLog : (file : Bytes) (n : ℕ) (speeds : List ℕ) (r : ℕ) (speeds_left : List ℕ) (count_left : ℕ) (offset_left : Offset) → Type 0
HostReadsLog file n speeds r speeds_left count_left offset_left =
    record { number = r; speeds = speeds_left; count = count_left; offset = offset_left } ≡ log_call file n speeds
