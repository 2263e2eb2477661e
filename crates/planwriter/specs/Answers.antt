-- The views of the writer's answer and effect, and the contract of the writer.
use Rattle.std.specs.Prelude.{◌≡◌, List, ℕ, Result, Ok, Err}
use Rattle.plan.specs.Kinds.{Bytes, Table}
use Rattle.plan.specs.Refusal.{number_of}
use Rattle.plan.specs.declared.kinds.Plan.{Plan}
use Rattle.plan.specs.declared.refusal.Reason.{Reason}
use Rattle.planwriter.specs.Writing as writing

-- The view of the writer's answer.
abbrev pub written_view : Result ℕ Reason → writing.Answer
written_view (Ok n) = writing.wrote n
written_view (Err reason) = writing.refused (number_of reason)

-- The view of the writer's effect: its answer and the output at exit.
abbrev pub write_view : (r : Result ℕ Reason) (out : Bytes) → writing.WriteEffect
write_view r out = record { answer = written_view r; out = out }

-- The contract of `write`: the answer and the output at exit are those of `writer`.
abbrev pub Writes : (p : Plan) (table : Table) (out : Bytes) (r : Result ℕ Reason) (left : List ℕ) → Type 0
Writes p table out r left = write_view r left ≡ writing.writer p table out
