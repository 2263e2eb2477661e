-- The answers of the calls in the rules' terms. Their views are injective
-- (`answer_by_injective`, `outcome_by_injective`).
use Rattle.std.specs.Prelude.{◌≡◌, Bool, List, [], ◌∷◌, ℕ, Result, Ok, Err}
use Rattle.std.specs.Result.{result_unwrap_or}
use Rattle.plan.specs.Kinds.{Position, Row, Speed, Table}
use Rattle.plan.specs.Columns.{HasColumns}
use Rattle.plan.specs.Refusal.{number_of}
use Rattle.plan.specs.declared.columns.Columns.{Columns}
use Rattle.plan.specs.declared.kinds.Plan.{Plan}
use Rattle.plan.specs.declared.refusal.Reason.{Reason}
use Rattle.judge.specs.Verdict.{judged}
use Rattle.plan.specs.Report.{Report}
use Rattle.judge.specs.Answers.{verdict_view}
use Rattle.judge.specs.declared.answers.Fault.{Fault}
use Rattle.dispatch.specs.Step.{Ending, met, ended_early, discarded, missed, still_open, refused, started, no_run, start_from, stepped, outcome, told_ended}
use Rattle.dispatch.specs.Shift.{shifted}
use Rattle.dispatch.specs.declared.Run.{Run}
use Rattle.dispatch.specs.declared.answers.Outcome.{Outcome}
use Rattle.dispatch.specs.declared.answers.Outcome.TheVariants.{Met, Ended, Discarded, Missed, Open}
use Rattle.dispatch.specs.declared.Moment.{Moment}

-- The view of an answer, by the numbers of what tells a refusal: empty if the call is done, otherwise the refusal number.
abbrev pub answer_by : {A E : Type 0} (number : E → ℕ) → Result A E → Report
answer_by number (Ok left) = []
answer_by number (Err refusal) = number refusal ∷ []

-- The view of an answer that tells the reason of a refusal.
abbrev pub answer_view : {A : Type 0} → Result A Reason → Report
answer_view r = answer_by number_of r

-- The view of an outcome, by the numbers of what tells a refusal.
abbrev pub outcome_by : {E : Type 0} (number : E → ℕ) → Result Outcome E → Ending
outcome_by number (Ok Met) = met
outcome_by number (Ok Ended) = ended_early
outcome_by number (Ok Discarded) = discarded
outcome_by number (Ok Missed) = missed
outcome_by number (Ok Open) = still_open
outcome_by number (Err refusal) = refused (number refusal)

-- The view of an outcome that tells the reason of a refusal.
abbrev pub outcome_view : Result Outcome Reason → Ending
outcome_view r = outcome_by number_of r

-- The contract of `start`: the judge's verdict, with the started run or, after a refusal, which tells none, `no_run`.
abbrev pub Starts : (p : Plan) (table : Table) (r : Result Run Fault) → Type 0
Starts p table r = (verdict_view r ≡ judged p table) × (result_unwrap_or r no_run ≡ start_from (judged p table) (started p) no_run)

-- A run, from its parts.
abbrev pub run_at : (at : Moment) (carried : Row) (ended : List Bool) → Run
run_at at carried ended = record { clock = at.clock; slow = at.slow; below = at.below; carried = carried; ended = ended }

-- The contract of `slot_over`: for every plan whose columns it is lent, its answer, the run and the grant row at exit
-- are the effect of the slot's call. After a refusal the run is the one that went in, here and below.
abbrev pub StepsOver : (cols : Columns) (table : Table) (at : Moment) (v : Speed) (ended : List Bool) (carried grants : Row) (r : Result Moment Reason) (carried_left left : List ℕ) → Type 0
StepsOver cols table at v ended carried grants r carried_left left =
    (p : Plan) → HasColumns p cols
    → record { answer = answer_view r; run = run_at (result_unwrap_or r at) carried_left ended; grants = left } ≡ stepped p table (run_at at carried ended) v grants

-- The contract of `step`: its answer, the run and the grant row
-- at exit are the effect of the slot's call.
abbrev pub Steps : (p : Plan) (table : Table) (run : Run) (v : Speed) (grants : Row) (r : Result Run Reason) (left : List ℕ) → Type 0
Steps p table run v grants r left = record { answer = answer_view r; run = result_unwrap_or r run; grants = left } ≡ stepped p table run v grants

-- The contract of `shift_over`: for every plan whose columns it is lent, its answer, the run, the rows of
-- grants and the numbers at exit are the effect of the shift.
abbrev pub ShiftsOver : (cols : Columns) (table : Table) (at : Moment) (speeds : List ℕ) (ended : List Bool) (carried rows : Row) (numbers : List ℕ) (r : Result Moment Reason) (carried_left rows_left numbers_left : List ℕ) → Type 0
ShiftsOver cols table at speeds ended carried rows numbers r carried_left rows_left numbers_left =
    (p : Plan) → HasColumns p cols
    → record { answer = answer_view r; run = run_at (result_unwrap_or r at) carried_left ended; rows = rows_left; numbers = numbers_left }
    ≡ shifted p table (run_at at carried ended) speeds rows numbers

-- The contract of `shift`: its answer, the run, the rows of grants and the numbers at exit are the effect of the shift.
abbrev pub Shifts : (p : Plan) (table : Table) (run : Run) (speeds : List ℕ) (rows : Row) (numbers : List ℕ) (r : Result Run Reason) (rows_left numbers_left : List ℕ) → Type 0
Shifts p table run speeds rows numbers r rows_left numbers_left =
    record { answer = answer_view r; run = result_unwrap_or r run; rows = rows_left; numbers = numbers_left } ≡ shifted p table run speeds rows numbers

-- The contract of `outcome`: the view of its answer is the outcome of the job at the position.
abbrev pub Ends : (p : Plan) (run : Run) (position : Position) (r : Result Outcome Reason) → Type 0
Ends p run position r = outcome_view r ≡ outcome p run position

-- The contract of `outcome_over`: the same for every plan whose columns it is lent.
abbrev pub EndsOver : (cols : Columns) (run : Run) (position : Position) (r : Result Outcome Reason) → Type 0
EndsOver cols run position r =
    (p : Plan) → HasColumns p cols → Ends p run position r

-- The contract of `end_early`: its answer and the run are the effect of the word that the job at the position has ended.
abbrev pub Tells : (p : Plan) (run : Run) (position : Position) (r : Result Run Reason) → Type 0
Tells p run position r = record { answer = answer_view r; run = result_unwrap_or r run } ≡ told_ended p run position

-- The contract of `end_over`: for every plan whose columns it is lent, its answer and the run are the effect
-- of the word that the job at the position has ended.
abbrev pub TellsOver : (cols : Columns) (run : Run) (position : Position) (r : Result Run Reason) → Type 0
TellsOver cols run position r = (p : Plan) → HasColumns p cols → Tells p run position r
