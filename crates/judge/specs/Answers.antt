-- The answers of `judge` and `slack` in the rules' terms: refusal numbers, locations and figures.
use Rattle.std.specs.Prelude.{◌≡◌, [], ◌∷◌, ℤ, Option, None, Some, Result, Ok, Err}
use Rattle.plan.specs.Kinds.{Interval, Table}
use Rattle.plan.specs.Refusal.{outside_window, wrong_total, over_capacity, below_floor_rule, unsound, buffer_too_short}
use Rattle.plan.specs.declared.kinds.Plan.{Plan}
use Rattle.plan.specs.declared.kinds.Slots.{Slots}
use Rattle.judge.specs.Verdict.{judged}
use Rattle.plan.specs.Report.{Report}
use Rattle.judge.specs.Slack.{Figure, none_essential, least, refused, slack_of, slack_figure}
use Rattle.judge.specs.declared.answers.Least.{Least}
use Rattle.judge.specs.declared.answers.Fault.{Fault}
use Rattle.judge.specs.declared.answers.Fault.TheVariants.{BufferTooShort, Unsound, OutsideWindow, WrongTotal, OverCapacity, BelowFloor}

-- The report of a fault: its refusal number and location.
abbrev pub report_of : Fault → Report
report_of BufferTooShort = buffer_too_short ∷ []
report_of Unsound = unsound ∷ []
report_of (OutsideWindow i j) = outside_window ∷ i ∷ j ∷ []
report_of (WrongTotal i) = wrong_total ∷ i ∷ []
report_of (OverCapacity j) = over_capacity ∷ j ∷ []
report_of (BelowFloor l D) = below_floor_rule ∷ l ∷ D.0 ∷ []

-- The view of a verdict: the fault's report, empty for acceptance.
abbrev pub verdict_view : {T : Type 0} → Result T Fault → Report
verdict_view (Ok accepted) = []
verdict_view (Err fault) = report_of fault

-- The view of a slack that was looked for: none if no job is HI.
abbrev pub found_view : Option Least → Figure
found_view None = none_essential
found_view (Some found) = least found.slack found.interval found.deadline.0

-- The view of a slack answer: a figure.
abbrev pub slack_view : Result (Option Least) Fault → Figure
slack_view (Ok found) = found_view found
slack_view (Err fault) = refused (report_of fault)

-- The contract of `judge`: the view of its verdict is the judge's report.
abbrev pub Judges : (p : Plan) (table : Table) (r : Result (Unit {0}) Fault) → Type 0
Judges p table r = verdict_view r ≡ judged p table

-- The contract of `slack`: the view of its answer is the slack figure.
abbrev pub Measures : (p : Plan) (table : Table) (r : Result (Option Least) Fault) → Type 0
Measures p table r = slack_view r ≡ slack_figure p table

-- The contract of `slack_of`: its result is the slack of the interval and the deadline.
abbrev pub MeasuresPair : (p : Plan) (table : Table) (interval : Interval) (deadline : Slots) (r : ℤ) → Type 0
MeasuresPair p table interval deadline r = r ≡ slack_of p table interval deadline.0
