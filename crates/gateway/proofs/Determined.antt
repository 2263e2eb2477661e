-- The contract of each call for hosts, the predicate in its `ensures`, determines the number and
-- the content of each lent buffer, and can be met for every input.
use mathlib.Core.Path.{◌≡◌, refl, sym, ◌∙◌, ap}
use mathlib.Core.List.{List}
use Prim.Native.Nat.{ℕ}
use lib.Ieee.{Float}
use lib.IntN.{ℤ}
use Rattle.planfile.specs.Reader.{name_found}
use Rattle.gateway.specs.Calls.{HostJudgeEffect, HostSlackEffect, HostStartEffect, HostStepEffect, HostShiftEffect, HostDrawEffect, HostShortageEffect, HostReadEffect, HostWriteEffect, HostImportEffect, HostExportEffect, HostEndEffect, HostSpeedEffect, HostLogEffect, judge_call, draw_call, shortage_call, start_call, step_call, shift_call, outcome_call, slack_call, read_call, write_call, import_call, export_call, end_call, speed_call, log_call}
use Rattle.gateway.specs.Answers.{HostReads, HostWrites, HostShows, HostJudges, HostMeasures, HostStarts, HostSteps, HostShifts, HostDraws, HostExplains, HostEnds, HostImports, HostExports, HostTells, HostMeters, HostReadsLog}

-- `gateway_read`.
pub one_read : (file plan table : List ℕ) (was r s : ℕ) (words others cells other_cells : List ℕ) (offset other : ℕ) → HostReads file plan table was r words cells offset
    → HostReads file plan table was s others other_cells other → (r ≡ s) × (words ≡ others) × (cells ≡ other_cells) × (offset ≡ other)
one_read file plan table was r s words others cells other_cells offset other d e =
    let same = d ∙ sym e in (
      ap (λ (x : HostReadEffect). x.number) same,
      ap (λ (x : HostReadEffect). x.plan) same,
      ap (λ (x : HostReadEffect). x.table) same,
      ap (λ (x : HostReadEffect). x.offset) same,
    )

pub some_read : (file plan table : List ℕ) (was : ℕ) → (r : ℕ) × (words : List ℕ) × (cells : List ℕ) × (offset : ℕ) × HostReads file plan table was r words cells offset
some_read file plan table was = let c = read_call file plan table was in (c.number, c.plan, c.table, c.offset, refl)

-- `gateway_write`.
pub one_write : (plan table out : List ℕ) (was r s : ℕ) (left other : List ℕ) (length long : ℕ) → HostWrites plan table out was r left length
    → HostWrites plan table out was s other long → (r ≡ s) × (left ≡ other) × (length ≡ long)
one_write plan table out was r s left other length long d e =
    let same = d ∙ sym e in
    (ap (λ (x : HostWriteEffect). x.number) same, ap (λ (x : HostWriteEffect). x.out) same, ap (λ (x : HostWriteEffect). x.length) same)

pub some_write : (plan table out : List ℕ) (was : ℕ) → (r : ℕ) × (left : List ℕ) × (length : ℕ) × HostWrites plan table out was r left length
some_write plan table out was = let c = write_call plan table out was in (c.number, c.out, c.length, refl)

-- `gateway_name`.
pub one_name : (file : List ℕ) (position r s : ℕ) → HostShows file position r → HostShows file position s → r ≡ s
one_name file position r s d e = d ∙ sym e

pub some_name : (file : List ℕ) (position : ℕ) → (r : ℕ) × HostShows file position r
some_name file position = (name_found file position, refl)

-- `gateway_judge`.
pub one_judge : (plan table location : List ℕ) (r s : ℕ) (left other : List ℕ) → HostJudges plan table location r left
    → HostJudges plan table location s other → (r ≡ s) × (left ≡ other)
one_judge plan table location r s left other d e =
    let same = d ∙ sym e in
    (ap (λ (x : HostJudgeEffect). x.number) same, ap (λ (x : HostJudgeEffect). x.location) same)

pub some_judge : (plan table location : List ℕ) → (r : ℕ) × (left : List ℕ) × HostJudges plan table location r left
some_judge plan table location = let c = judge_call plan table location in (c.number, c.location, refl)

-- `gateway_slack`.
pub one_slack : (plan table : List ℕ) (was : ℤ) (location : List ℕ) (r s : ℕ) (least slack : ℤ) (left other : List ℕ)
    → HostMeasures plan table was location r least left → HostMeasures plan table was location s slack other → (r ≡ s) × (least ≡ slack) × (left ≡ other)
one_slack plan table was location r s least slack left other d e =
    let same = d ∙ sym e in
    (ap (λ (x : HostSlackEffect). x.number) same, ap (λ (x : HostSlackEffect). x.slack) same, ap (λ (x : HostSlackEffect). x.location) same)

pub some_slack : (plan table : List ℕ) (was : ℤ) (location : List ℕ)
    → (r : ℕ) × (least : ℤ) × (left : List ℕ) × HostMeasures plan table was location r least left
some_slack plan table was location = let c = slack_call plan table was location in (c.number, c.slack, c.location, refl)

-- `gateway_start`.
pub one_start : (plan table run location : List ℕ) (r s : ℕ) (words others left other : List ℕ) → HostStarts plan table run location r words left
    → HostStarts plan table run location s others other → (r ≡ s) × (words ≡ others) × (left ≡ other)
one_start plan table run location r s words others left other d e =
    let same = d ∙ sym e in
    (ap (λ (x : HostStartEffect). x.number) same, ap (λ (x : HostStartEffect). x.run) same, ap (λ (x : HostStartEffect). x.location) same)

pub some_start : (plan table run location : List ℕ)
    → (r : ℕ) × (words : List ℕ) × (left : List ℕ) × HostStarts plan table run location r words left
some_start plan table run location = let c = start_call plan table run location in (c.number, c.run, c.location, refl)

-- `gateway_step`.
pub one_step : (plan table run : List ℕ) (v : ℕ) (grants : List ℕ) (r s : ℕ) (words others left other : List ℕ)
    → HostSteps plan table run v grants r words left → HostSteps plan table run v grants s others other
    → (r ≡ s) × (words ≡ others) × (left ≡ other)
one_step plan table run v grants r s words others left other d e =
    let same = d ∙ sym e in
    (ap (λ (x : HostStepEffect). x.number) same, ap (λ (x : HostStepEffect). x.run) same, ap (λ (x : HostStepEffect). x.grants) same)

pub some_step : (plan table run : List ℕ) (v : ℕ) (grants : List ℕ)
    → (r : ℕ) × (words : List ℕ) × (left : List ℕ) × HostSteps plan table run v grants r words left
some_step plan table run v grants = let c = step_call plan table run v grants in (c.number, c.run, c.grants, refl)

-- `gateway_draw`.
pub one_draw : (plan table : List ℕ) (r s : ℕ) (left other : List ℕ) → HostDraws plan table r left → HostDraws plan table s other → (r ≡ s) × (left ≡ other)
one_draw plan table r s left other d e =
    let same = d ∙ sym e in (ap (λ (x : HostDrawEffect). x.number) same, ap (λ (x : HostDrawEffect). x.table) same)

pub some_draw : (plan table : List ℕ) → (r : ℕ) × (left : List ℕ) × HostDraws plan table r left
some_draw plan table = let c = draw_call plan table in (c.number, c.table, refl)

-- `gateway_shortage`.
pub one_shortage : (plan pair : List ℕ) (r s : ℕ) (left other : List ℕ) → HostExplains plan pair r left → HostExplains plan pair s other → (r ≡ s) × (left ≡ other)
one_shortage plan pair r s left other d e =
    let same = d ∙ sym e in (ap (λ (x : HostShortageEffect). x.number) same, ap (λ (x : HostShortageEffect). x.pair) same)

pub some_shortage : (plan pair : List ℕ) → (r : ℕ) × (left : List ℕ) × HostExplains plan pair r left
some_shortage plan pair = let c = shortage_call plan pair in (c.number, c.pair, refl)

-- `gateway_shift`.
pub one_shift : (plan table run speeds rows numbers : List ℕ) (r s : ℕ) (words others filled other told untold : List ℕ)
    → HostShifts plan table run speeds rows numbers r words filled told → HostShifts plan table run speeds rows numbers s others other untold
    → (r ≡ s) × (words ≡ others) × (filled ≡ other) × (told ≡ untold)
one_shift plan table run speeds rows numbers r s words others filled other told untold d e =
    let same = d ∙ sym e in (
      ap (λ (x : HostShiftEffect). x.number) same,
      ap (λ (x : HostShiftEffect). x.run) same,
      ap (λ (x : HostShiftEffect). x.rows) same,
      ap (λ (x : HostShiftEffect). x.numbers) same,
    )

pub some_shift : (plan table run speeds rows numbers : List ℕ)
    → (r : ℕ) × (words filled told : List ℕ) × HostShifts plan table run speeds rows numbers r words filled told
some_shift plan table run speeds rows numbers =
    let c = shift_call plan table run speeds rows numbers in (c.number, c.run, c.rows, c.numbers, refl)

-- `gateway_outcome`.
pub one_outcome : (plan run : List ℕ) (position r s : ℕ) → HostEnds plan run position r → HostEnds plan run position s → r ≡ s
one_outcome plan run position r s d e = d ∙ sym e

pub some_outcome : (plan run : List ℕ) (position : ℕ) → (r : ℕ) × HostEnds plan run position r
some_outcome plan run position = (outcome_call plan run position, refl)

-- `gateway_import`.
pub one_import : (text list : List ℕ) (was r s : ℕ) (words others : List ℕ) (offset other : ℕ) → HostImports text list was r words offset
    → HostImports text list was s others other → (r ≡ s) × (words ≡ others) × (offset ≡ other)
one_import text list was r s words others offset other d e =
    let same = d ∙ sym e in
    (ap (λ (x : HostImportEffect). x.number) same, ap (λ (x : HostImportEffect). x.list) same, ap (λ (x : HostImportEffect). x.offset) same)

pub some_import : (text list : List ℕ) (was : ℕ) → (r : ℕ) × (words : List ℕ) × (offset : ℕ) × HostImports text list was r words offset
some_import text list was = let c = import_call text list was in (c.number, c.list, c.offset, refl)

-- `gateway_export`.
pub one_export : (list out : List ℕ) (was r s : ℕ) (left other : List ℕ) (length long : ℕ) → HostExports list out was r left length
    → HostExports list out was s other long → (r ≡ s) × (left ≡ other) × (length ≡ long)
one_export list out was r s left other length long d e =
    let same = d ∙ sym e in
    (ap (λ (x : HostExportEffect). x.number) same, ap (λ (x : HostExportEffect). x.out) same, ap (λ (x : HostExportEffect). x.length) same)

pub some_export : (list out : List ℕ) (was : ℕ) → (r : ℕ) × (left : List ℕ) × (length : ℕ) × HostExports list out was r left length
some_export list out was = let c = export_call list out was in (c.number, c.out, c.length, refl)

-- `gateway_end`.
pub one_end : (plan run : List ℕ) (position r s : ℕ) (words others : List ℕ) → HostTells plan run position r words
    → HostTells plan run position s others → (r ≡ s) × (words ≡ others)
one_end plan run position r s words others d e =
    let same = d ∙ sym e in
    (ap (λ (x : HostEndEffect). x.number) same, ap (λ (x : HostEndEffect). x.run) same)

pub some_end : (plan run : List ℕ) (position : ℕ) → (r : ℕ) × (words : List ℕ) × HostTells plan run position r words
some_end plan run position = let c = end_call plan run position in (c.number, c.run, refl)

-- `gateway_meter`.
pub one_speed : (mean lowest : Float) (n r s left other : ℕ) → HostMeters mean lowest n r left → HostMeters mean lowest n s other → (r ≡ s) × (left ≡ other)
one_speed mean lowest n r s left other d e =
    let same = d ∙ sym e in
    (ap (λ (x : HostSpeedEffect). x.number) same, ap (λ (x : HostSpeedEffect). x.speed) same)

pub some_speed : (mean lowest : Float) (n : ℕ) → (r : ℕ) × (left : ℕ) × HostMeters mean lowest n r left
some_speed mean lowest n = let c = speed_call mean lowest n in (c.number, c.speed, refl)

-- `gateway_speeds`.
pub one_log : (file : List ℕ) (n : ℕ) (speeds : List ℕ) (r s : ℕ) (left other : List ℕ) (count many offset from : ℕ) → HostReadsLog file n speeds r left count offset
    → HostReadsLog file n speeds s other many from → (r ≡ s) × (left ≡ other) × (count ≡ many) × (offset ≡ from)
one_log file n speeds r s left other count many offset from d e =
    let same = d ∙ sym e in (
      ap (λ (x : HostLogEffect). x.number) same,
      ap (λ (x : HostLogEffect). x.speeds) same,
      ap (λ (x : HostLogEffect). x.count) same,
      ap (λ (x : HostLogEffect). x.offset) same,
    )

pub some_log : (file : List ℕ) (n : ℕ) (speeds : List ℕ) → (r : ℕ) × (left : List ℕ) × (count : ℕ) × (offset : ℕ) × HostReadsLog file n speeds r left count offset
some_log file n speeds = let c = log_call file n speeds in (c.number, c.speeds, c.count, c.offset, refl)
