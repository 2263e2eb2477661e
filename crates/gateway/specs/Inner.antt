-- The contract of the part that the calls on a run share.
use Rattle.std.specs.Prelude.{◌≡◌, not, ◌||◌, ◌&&◌, [], ◌∷◌, Result}
use Rattle.std.specs.Result.{OnOk}
use Rattle.plan.specs.Kinds.{Words}
use Rattle.plan.specs.Refusal.{unsound, buffer_too_short}
use Rattle.plan.specs.Report.{Report, fault, or_else}
use Rattle.plan.specs.declared.columns.Columns.{Columns}
use Rattle.plan.specs.declared.refusal.Reason.{Reason}
use Rattle.dispatch.specs.Answers.{answer_view}
use Rattle.hostmemory.specs.Memory.{short_plan, short_run, marks_hold, words_fit}
use Rattle.hostmemory.specs.Answers.{columns_over}

-- What stands against a call on a run before anything else is looked at: 22 if plan or run is too short, 21 for a mark that
-- is neither 0 nor 1 and for a word that has no room in a column.
abbrev pub unready : (plan run : Words) → Report
unready plan run =
    or_else (fault (short_plan plan || short_run run) (buffer_too_short ∷ []))
    (fault (not (marks_hold run && words_fit plan)) (unsound ∷ []))

-- The contract of `ready`: what stands against the call; if nothing, the lent plan is put into the columns.
abbrev pub Readies : (plan run : Words) (c : Columns) (r : Result Unit Reason) (left : Columns) → Type 0
Readies plan run c r left = (answer_view r ≡ unready plan run) × OnOk r (left ≡ columns_over plan c)
