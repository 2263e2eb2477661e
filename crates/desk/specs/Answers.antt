-- The answers of the desk in the rules' terms, and the contracts of its calls.
use Rattle.std.specs.Prelude.{◌≡◌, [], ◌∷◌, Result, Ok, Err}
use Rattle.plan.specs.Kinds.{Number, Table}
use Rattle.plan.specs.Refusal.{unsound, releases_differ, no_timetable, number_of as reason_number}
use Rattle.plan.specs.Report.{Report, done_number, number_of}
use Rattle.plan.specs.declared.kinds.Plan.{Plan}
use Rattle.plan.specs.declared.refusal.Reason.{Reason}
use Rattle.desk.specs.Desk.{shortage_of, draw_fault, table_left}
use Rattle.desk.specs.declared.answers.Shortage.{Shortage}
use Rattle.desk.specs.declared.answers.Shortage.TheVariants.{Unsound, ReleasesDiffer, Pair}

-- The view of a shortage: its number, and of a pair both times and both sides.
abbrev pub shortage_view : Shortage → Report
shortage_view Unsound = unsound ∷ []
shortage_view ReleasesDiffer = releases_differ ∷ []
shortage_view (Pair D E asked carries) = no_timetable ∷ D.0 ∷ E.0 ∷ asked.0 ∷ carries.0 ∷ []

-- The view of an answer: that of its shortage, and empty if nothing is short.
abbrev pub answer_view : Result Unit Shortage → Report
answer_view (Ok done) = []
answer_view (Err s) = shortage_view s

-- The number of a drawing: that of the refusal, or that of none.
abbrev pub drawn_number : Result Unit Reason → Number
drawn_number (Ok done) = done_number
drawn_number (Err r) = reason_number r

-- The contract of `shortage`: the view of its answer is the first ground against a timetable.
abbrev pub TellsShortage : (p : Plan) (r : Result Unit Shortage) → Type 0
TellsShortage p r = answer_view r ≡ shortage_of p

-- The contract of `draw_up`: its number is that of the desk's refusal or of none, and the lent table at exit.
abbrev pub DrawsUp : (p : Plan) (table : Table) (r : Result Unit Reason) (left : Table) → Type 0
DrawsUp p table r left = (drawn_number r ≡ number_of (draw_fault p table)) × (left ≡ table_left p table)
