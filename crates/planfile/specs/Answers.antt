-- The views of the answers of reader and lookup, and the contracts of both.
use Rattle.std.specs.Prelude.{◌≡◌, List, [], ◌∷◌, ℕ, ◌+◌, Result, Ok, Err}
use Rattle.plan.specs.Kinds.{Bytes, Position, Table}
use Rattle.plan.specs.Refusal.{buffer_too_short, number_of}
use Rattle.plan.specs.Report.{Report}
use Rattle.plan.specs.Rules.{no_plan}
use Rattle.plan.specs.declared.kinds.Plan.{Plan}
use Rattle.planfile.specs.declared.reader.ReadFault.{ReadFault}
use Rattle.planfile.specs.declared.reader.ReadFault.TheVariants as fault
use Rattle.planfile.specs.Reader as rule

-- The view of the reader's answer: empty for a plan that was read, otherwise the refusal number and, except
-- with 22, the offset of the field in hand.
abbrev pub answer_view : Result Plan ReadFault → Report
answer_view (Ok plan) = []
answer_view (Err fault.TooShort) = buffer_too_short ∷ []
answer_view (Err (fault.Refused refusal)) = number_of refusal.reason ∷ refusal.offset ∷ []

-- The plan that the reader gives: none is the plan of zeros.
abbrev pub plan_given : Result Plan ReadFault → Plan
plan_given (Ok plan) = plan
plan_given (Err f) = no_plan

-- The view of the reader's effect: its answer, the plan, and the table at exit.
abbrev pub read_view : (r : Result Plan ReadFault) (left : List ℕ) → rule.ReadEffect
read_view r left = record { answer = answer_view r; plan = plan_given r; table = left }

-- The contract of `read`: the answer, the plan and the table at exit are those of `reader`.
abbrev pub Reads : (file : Bytes) (table : Table) (r : Result Plan ReadFault) (left : List ℕ) → Type 0
Reads file table r left = read_view r left ≡ rule.reader file table

-- The contract of `name_at`: the offset that it returns is the one of `name_found`.
abbrev pub Finds : (file : Bytes) (position : Position) (r : ℕ) → Type 0
Finds file position r = r ≡ rule.name_found file position

-- The contract of `name_of`: the part that it returns is the one of `name_shown`.
abbrev pub Shows : (file : Bytes) (position : Position) (part : List ℕ) → Type 0
Shows file position part = part ≡ rule.name_shown file position

-- And where that part begins: in the caller's own file, at the offset of `name_found`. A pointer is a
-- block of memory and an offset into it.
abbrev pub ShownAt : (start : ℕ × ℕ) (file : Bytes) (position : Position) (r : ℕ × ℕ) → Type 0
ShownAt start file position r = r ≡ (start.0, rule.name_found file position + start.1)
