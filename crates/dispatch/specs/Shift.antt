-- A shift: the slots' calls at several speeds, in one call.
use Rattle.std.specs.Prelude.{not, ◌||◌, List, [], ◌∷◌, ◌++◌, ℕ, suc, ◌*◌, ltb, length, set, take, drop}
use Rattle.plan.specs.Kinds.{Row, Speed, Table}
use Rattle.plan.specs.Edition.{most_speeds, places}
use Rattle.plan.specs.Refusal.{unsound, buffer_too_short, too_many_speeds}
use Rattle.plan.specs.Report.{Report, or_else, fault, number_of}
use Rattle.plan.specs.Rules.{counted}
use Rattle.plan.specs.declared.kinds.Plan.{Plan}
use Rattle.dispatch.specs.declared.Run.{Run}
use Rattle.dispatch.specs.Step.{SlotEffect, slot_sound, stepped}

-- The index at which row k of the grants begins: k times the job count.
abbrev pub row_start : (p : Plan) (k : ℕ) → ℕ
row_start p k = k * counted p

-- The effect of a shift: its answer (empty if done), the run, the rows of grants, and the number of each speed.
pub record ShiftEffect : Type 0 where
  pub answer : Report
  pub run : Run
  pub rows : List ℕ
  pub numbers : List ℕ

-- The slot's call at speed v on the part of the rows that begins at row k.
abbrev pub slot_at : (p : Plan) (table : Table) (k : ℕ) (v : Speed) (run : Run) (rows : Row) → SlotEffect
slot_at p table k v run rows = stepped p table run v (drop (row_start p k) rows)

-- The slots' calls at some speeds, the first of which is the one numbered k, each on the run that the call before it
-- left: row k and the run are those that its call leaves, and number k is that of its answer. A refused call leaves run
-- and row as they were, and the next one is made.
unfoldable pub slots_from : (p : Plan) (table : Table) (k : ℕ) (speeds : List ℕ) (run : Run) (rows : Row) (numbers : List ℕ) → ShiftEffect
slots_from p table k [] run rows numbers = record { answer = []; run = run; rows = rows; numbers = numbers }
slots_from p table k (v ∷ speeds) run rows numbers =
    slots_from p table (suc k) speeds (slot_at p table k v run rows).run (take (row_start p k) rows ++ (slot_at p table k v run rows).grants)
    (set numbers k (number_of (slot_at p table k v run rows).answer))

-- The refusal of a shift, in the order 21, 27, 22; empty if there is none.
unfoldable pub shift_fault : (p : Plan) (table : Table) (run : Run) (speeds : List ℕ) (rows : Row) (numbers : List ℕ) → Report
shift_fault p table run speeds rows numbers =
    or_else (fault (not (slot_sound p run)) (unsound ∷ []))
    (or_else (fault (ltb most_speeds (length speeds)) (too_many_speeds ∷ []))
    (fault (ltb (length table) places || ltb (length rows) (row_start p (length speeds)) || ltb (length numbers) (length speeds)) (buffer_too_short ∷ [])))

-- The effect by the refusal found: a refused shift makes no call and leaves all as it was.
abbrev pub shift_by : Report → Plan → Table → Run → (speeds : List ℕ) → Row → (numbers : List ℕ) → ShiftEffect
shift_by [] p table run speeds rows numbers = slots_from p table 0 speeds run rows numbers
shift_by (number ∷ rest) p table run speeds rows numbers = record { answer = number ∷ rest; run = run; rows = rows; numbers = numbers }

-- The effect of a shift.
unfoldable pub shifted : (p : Plan) (table : Table) (run : Run) (speeds : List ℕ) (rows : Row) (numbers : List ℕ) → ShiftEffect
shifted p table run speeds rows numbers = shift_by (shift_fault p table run speeds rows numbers) p table run speeds rows numbers
