-- A night in parts: single calls, and shifts, which make several slots' calls each. A night's promises speak of its calls
-- (Night); the parts say which they are.
use Rattle.std.specs.Prelude.{◌≡◌, ◌⊎◌, false, List, [], ◌∷◌, ◌++◌, ℕ, suc, ◌+◌, ◌≤◌, ◌<◌, eqb, length, get_or, take, drop}
use Rattle.plan.specs.Kinds.{Amount, Position, Row, Table}
use Rattle.base.specs.Sum.{sum, on}
use Rattle.plan.specs.Report.{Report, done_number}
use Rattle.plan.specs.Same.{Same}
use Rattle.plan.specs.declared.kinds.Plan.{Plan}
use Rattle.dispatch.specs.declared.Run.{Run}
use Rattle.dispatch.specs.Step.{started}
use Rattle.dispatch.specs.Shift.{ShiftEffect, row_start, slot_at, shifted}
use Rattle.promises.specs.Night.{Call, slot, is_done, answer_of, run_left, given, AllowedCall}

-- One shift, with any plan, table, speeds, rows of grants and numbers.
pub record ShiftCall : Type 0 where
  pub plan : Plan
  pub table : List ℕ
  pub speeds : List ℕ
  pub rows : List ℕ
  pub numbers : List ℕ

-- A part of a night: a single call, or the series of calls that a shift makes.
pub data Part : Type 0 where
  single : Call → Part
  series : ShiftCall → Part

-- The effect of a shift on a run.
abbrev pub shift_effect : ShiftCall → Run → ShiftEffect
shift_effect s run = shifted s.plan s.table run s.speeds s.rows s.numbers

-- The answer of a part on a run, and the run that it leaves.
abbrev pub part_answer : Part → Run → Report
part_answer (single c) run = answer_of c run
part_answer (series s) run = (shift_effect s run).answer

abbrev pub part_run : Part → Run → Run
part_run (single c) run = run_left c run
part_run (series s) run = (shift_effect s run).run

-- The slots' calls at some speeds, the first of which is the one numbered k, added to earlier calls: each with the part of
-- the rows that begins at its own.
unfoldable pub calls_from : (p : Plan) (table : Table) (k : ℕ) (speeds : List ℕ) (run : Run) (rows : Row) (earlier : List Call) → List Call
calls_from p table k [] run rows earlier = earlier
calls_from p table k (v ∷ speeds) run rows earlier =
    calls_from p table (suc k) speeds (slot_at p table k v run rows).run (take (row_start p k) rows ++ (slot_at p table k v run rows).grants)
    (slot (record { plan = p; table = table; speed = v; row = drop (row_start p k) rows }) ∷ earlier)

-- The calls that a shift with some answer adds: none if it is refused.
abbrev pub added_by : Report → ShiftCall → Run → List Call → List Call
added_by [] s run earlier = calls_from s.plan s.table 0 s.speeds run s.rows earlier
added_by (number ∷ rest) s run earlier = earlier

-- The calls that a part on a run adds to earlier ones.
abbrev pub part_calls : Part → Run → List Call → List Call
part_calls (single c) run earlier = c ∷ earlier
part_calls (series s) run earlier = added_by (shift_effect s run).answer s run earlier

-- What a shift on a run gives to job i: if it is done, the sum of what stands for the job in the rows whose number is 0.
abbrev pub shift_given : ShiftCall → Run → Position → Amount
shift_given s run i =
    on (is_done (shift_effect s run).answer)
    (sum (λ k. on (eqb (get_or (shift_effect s run).numbers k 0) done_number) (get_or (shift_effect s run).rows (row_start s.plan k + i) 0)) (length s.speeds))

-- What a part on a run gives to job i.
abbrev pub part_given : Part → Run → Position → Amount
part_given (single c) run i = given c run i
part_given (series s) run i = shift_given s run i

-- The run after plan p's start and a night's parts, each on the run that the part before it left. The latest part is the
-- first of the list.
unfoldable pub run_after_parts : Plan → List Part → Run
run_after_parts p [] = started p
run_after_parts p (x ∷ earlier) = part_run x (run_after_parts p earlier)

-- The calls of a night in parts, the latest first.
unfoldable pub calls_of : Plan → List Part → List Call
calls_of p [] = []
calls_of p (x ∷ earlier) = part_calls x (run_after_parts p earlier) (calls_of p earlier)

-- What is asked of a part that is not refused: of a single call what is asked of it in any night; of a shift the accepted
-- plan and table, or the same ones, and speeds of at least d. Speeds above n are refused one by one.
abbrev pub AllowedPart : Plan → Table → Part → Type 0
AllowedPart p table (single c) = AllowedCall p table c
AllowedPart p table (series s) =
    Same p table s.plan s.table × ((k : ℕ) → k < length s.speeds → p.d.0 ≤ get_or s.speeds k 0)

-- The condition on a night in parts: each part is refused, or what is asked of it holds.
unfoldable pub AllowedParts : Plan → Table → List Part → Type 0
AllowedParts p table [] = Unit {0}
AllowedParts p table (x ∷ earlier) =
    AllowedParts p table earlier
    × ((is_done (part_answer x (run_after_parts p earlier)) ≡ false) ⊎ AllowedPart p table x)
