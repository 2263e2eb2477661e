-- The contracts of the calls on a lent run record.
use Rattle.std.specs.Prelude.{◌≡◌, List, ℕ, Result}
use Rattle.plan.specs.Kinds.{Position, Row, Speed, Table}
use Rattle.plan.specs.declared.kinds.Plan.{Plan}
use Rattle.plan.specs.declared.refusal.Reason.{Reason}
use Rattle.judge.specs.declared.answers.Fault.{Fault}
use Rattle.judge.specs.Verdict.{judged}
use Rattle.judge.specs.Answers.{verdict_view}
use Rattle.dispatch.specs.declared.Run.{Run}
use Rattle.dispatch.specs.Step.{start_in, stepped, told_ended}
use Rattle.dispatch.specs.Shift.{shifted}
use Rattle.dispatch.specs.Answers.{answer_view}

-- The contract of `step_in`: its answer, the run record and the grant row
-- at exit are the effect of the slot's call.
abbrev pub StepsIn : (run : Run) (p : Plan) (table : Table) (v : Speed) (grants : Row) (r : Result (Unit {0}) Reason) (after : Run) (left : List ℕ) → Type 0
StepsIn run p table v grants r after left = record { answer = answer_view r; run = after; grants = left } ≡ stepped p table run v grants

-- The contract of `shift_in`: its answer, the run record, the rows of grants and the numbers
-- at exit are the effect of the shift.
abbrev pub ShiftsIn : (run : Run) (p : Plan) (table : Table) (speeds : List ℕ) (rows : Row) (numbers : List ℕ) (r : Result (Unit {0}) Reason) (after : Run) (rows_left numbers_left : List ℕ) → Type 0
ShiftsIn run p table speeds rows numbers r after rows_left numbers_left =
    record { answer = answer_view r; run = after; rows = rows_left; numbers = numbers_left } ≡ shifted p table run speeds rows numbers

-- The contract of `start_in`: the judge's verdict, and the run record
-- at exit, which a refusal leaves as it was.
abbrev pub StartsIn : (was : Run) (p : Plan) (table : Table) (r : Result (Unit {0}) Fault) (after : Run) → Type 0
StartsIn was p table r after = (verdict_view r ≡ judged p table) × (after ≡ start_in p table was)

-- The contract of `end_early_in`: its answer and the run record at exit are the effect of the
-- word that the job at the position has ended.
abbrev pub TellsIn : (run : Run) (p : Plan) (position : Position) (r : Result (Unit {0}) Reason) (after : Run) → Type 0
TellsIn run p position r after = record { answer = answer_view r; run = after } ≡ told_ended p run position
