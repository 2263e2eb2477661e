-- The contracts of the calls that write lent words or columns determine the result and what the words or
-- columns hold at exit, and can be met for every input.
use mathlib.Core.Path.{◌≡◌, refl, sym, ◌∙◌}
use mathlib.Core.List.{List}
use Prim.Native.Nat.{ℕ}
use Rattle.plan.specs.declared.kinds.JobList.{JobList}
use Rattle.plan.specs.declared.kinds.Plan.{Plan}
use Rattle.std.specs.Prelude.{Result}
use Rattle.plan.specs.declared.columns.Columns.{Columns}
use Rattle.plan.specs.declared.refusal.Reason.{Reason}
use Rattle.dispatch.specs.declared.Moment.{Moment}
use Rattle.dispatch.specs.declared.Run.{Run}
use Rattle.hostmemory.specs.Memory.{list_put, plan_put, slot_put, run_put}
use Rattle.hostmemory.specs.Answers.{PutsList, PutsPlan, PutsRun, PutsSlot, ReadsColumns, columns_over}

-- `hostmemory::plans::put_plan`.
pub one_plan_put : (words : List ℕ) (p : Plan) (left other : List ℕ) → PutsPlan words p left → PutsPlan words p other → left ≡ other
one_plan_put words p left other d e = d ∙ sym e

pub some_plan_put : (words : List ℕ) (p : Plan) → (left : List ℕ) × PutsPlan words p left
some_plan_put words p = (plan_put words p, refl)

-- `hostmemory::lists::put_list`.
pub one_list_put : (words : List ℕ) (list : JobList) (left other : List ℕ) → PutsList words list left → PutsList words list other → left ≡ other
one_list_put words list left other d e = d ∙ sym e

pub some_list_put : (words : List ℕ) (list : JobList) → (left : List ℕ) × PutsList words list left
some_list_put words list = (list_put words list, refl)

-- `hostmemory::runs::put_run`.
pub one_run_put : (words : List ℕ) (run : Run) (left other : List ℕ) → PutsRun words run left → PutsRun words run other → left ≡ other
one_run_put words run left other d e = d ∙ sym e

pub some_run_put : (words : List ℕ) (run : Run) → (left : List ℕ) × PutsRun words run left
some_run_put words run = (run_put words run, refl)

-- `hostmemory::runs::put_slot`.
pub one_slot_put : (words : List ℕ) (at : Moment) (carried left other : List ℕ) → PutsSlot words at carried left
    → PutsSlot words at carried other → left ≡ other
one_slot_put words at carried left other d e = d ∙ sym e

pub some_slot_put : (words : List ℕ) (at : Moment) (carried : List ℕ) → (left : List ℕ) × PutsSlot words at carried left
some_slot_put words at carried = (slot_put words at carried, refl)

-- `hostmemory::plans::columns_in`.
pub one_columns_read : (words : List ℕ) (c : Columns) (r s : Result Unit Reason) (left other : Columns)
    → ReadsColumns words c r left → ReadsColumns words c s other → (r ≡ s) × (left ≡ other)
one_columns_read words c r s left other d e = (d.0 ∙ sym e.0, d.1 ∙ sym e.1)

pub some_columns_read : (words : List ℕ) (c : Columns) → (r : Result Unit Reason) × (left : Columns) × ReadsColumns words c r left
some_columns_read words c = (_, columns_over words c, (refl, refl))
