-- The contracts of the desk's functions over columns and tasks: they hold for every plan whose columns or task are lent.
use Rattle.std.specs.Prelude.{◌≡◌, Bool, [], ℕ, Result}
use Rattle.plan.specs.Kinds.{Table}
use Rattle.plan.specs.Boundaries.{boundary}
use Rattle.plan.specs.Columns.{HasColumns}
use Rattle.plan.specs.Report.{number_of}
use Rattle.plan.specs.declared.columns.Columns.{Columns}
use Rattle.plan.specs.declared.kinds.Plan.{Plan}
use Rattle.plan.specs.declared.refusal.Reason.{Reason}
use Rattle.desk.specs.Timetable.{Draft, turns_at, class_placed}
use Rattle.desk.specs.Desk.{jobs_fault, table_after}
use Rattle.desk.specs.Answers.{answer_view, drawn_number}
use Rattle.desk.specs.Inner.Tasks.{IsTaskOf}
use Rattle.desk.specs.declared.answers.Shortage.{Shortage}
use Rattle.desk.specs.declared.task.Task.{Task}

-- The contract of `place_due`: the draft after the turns at a boundary.
abbrev pub PlacesDue : (back : Bool) (m time : ℕ) (c : Columns) (before after : Draft) → Type 0
PlacesDue back m time c before after = (p : Plan) → HasColumns p c → boundary p m ≡ time → after ≡ turns_at p back m before

-- The contract of `place_class`: the draft after the turns of a class.
abbrev pub PlacesClass : (back : Bool) (t : Task) (before after : Draft) → Type 0
PlacesClass back t before after = (p : Plan) → IsTaskOf p t → after ≡ class_placed p back before

-- The contract of `shortage_over`: the refusals of the jobs.
abbrev pub ShortageOver : (t : Task) (r : Result Unit Shortage) → Type 0
ShortageOver t r = (p : Plan) → IsTaskOf p t → answer_view r ≡ jobs_fault p

-- The contract of `draw_over`: the number of the jobs' refusal or of none, and the lent table at exit.
abbrev pub DrawsOver : (t : Task) (table : Table) (r : Result Unit Reason) (left : Table) → Type 0
DrawsOver t table r left =
    (p : Plan) → IsTaskOf p t → (drawn_number r ≡ number_of (jobs_fault p)) × (left ≡ table_after p table [] (jobs_fault p))
