-- The contracts of the calls that write lent words.
use Rattle.std.specs.Prelude.{◌≡◌, List, ℕ, cond, Result, Ok, Err}
use Rattle.base.specs.Fill.{filled}
use Rattle.plan.specs.Kinds.{Row, Words}
use Rattle.plan.specs.Rules.{counted}
use Rattle.plan.specs.Columns.{in_column}
use Rattle.plan.specs.declared.columns.Columns.{Columns}
use Rattle.plan.specs.declared.refusal.Reason.{Reason}
use Rattle.plan.specs.declared.refusal.Reason.TheVariants as reason
use Rattle.plan.specs.declared.kinds.JobList.{JobList}
use Rattle.plan.specs.declared.kinds.Plan.{Plan}
use Rattle.dispatch.specs.declared.Moment.{Moment}
use Rattle.dispatch.specs.declared.Run.{Run}
use Rattle.hostmemory.specs.Memory.{plan_of, list_put, plan_put, grade_word, release_word, size_word, deadline_word, words_fit, slot_put, run_put}

-- The contract of `put_plan`: the words at exit are `plan_put` of those at entry.
abbrev pub PutsPlan : (words : Words) (p : Plan) (left : List ℕ) → Type 0
PutsPlan words p left = left ≡ plan_put words p

-- The contract of `put_list`: the words at exit are `list_put` of those at entry.
abbrev pub PutsList : (words : Words) (list : JobList) (left : List ℕ) → Type 0
PutsList words list left = left ≡ list_put words list

-- The contract of `put_run`: the words at exit are `run_put` of those at entry.
abbrev pub PutsRun : (words : Words) (run : Run) (left : List ℕ) → Type 0
PutsRun words run left = left ≡ run_put words run

-- The contract of `put_slot`: the words at exit are `slot_put` of those at entry.
abbrev pub PutsSlot : (words : Words) (at : Moment) (carried : Row) (left : List ℕ) → Type 0
PutsSlot words at carried left = left ≡ slot_put words at carried

-- A column at exit: the words of the counted jobs as a column holds them; the rest is unchanged.
abbrev pub column_in : (words : Words) (word : ℕ → ℕ) (column : List ℕ) → List ℕ
column_in words word column = filled (λ i. in_column (word i)) (counted (plan_of words)) column

-- Columns after the plan that words encode was put into them.
abbrev pub columns_over : (words : Words) (c : Columns) → Columns
columns_over words c =
    record {
      n = (plan_of words).n;
      d = (plan_of words).d;
      count = (plan_of words).count;
      grades = column_in words (grade_word words) c.grades;
      releases = column_in words (release_word words) c.releases;
      sizes = column_in words (size_word words) c.sizes;
      deadlines = column_in words (deadline_word words) c.deadlines;
    }

-- The contract of `columns_in`: whether the words have room in the columns, and the columns at exit.
abbrev pub ReadsColumns : (words : Words) (c : Columns) (r : Result Unit Reason) (left : Columns) → Type 0
ReadsColumns words c r left = (r ≡ cond (words_fit words) (Ok tt) (Err reason.Unsound)) × (left ≡ columns_over words c)
