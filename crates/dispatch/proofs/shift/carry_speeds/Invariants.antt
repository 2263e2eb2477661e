-- `dispatch::shift::carry_speeds` meets its contract: after k calls those that are left give the whole answer.
use mathlib.Core.Path.{◌≡◌}
use mathlib.Core.Bool.{true}
use mathlib.Core.List.{List}
use Prim.Native.Nat.{ℕ}
use lib.ListN.{length, drop}
use Rattle.plan.specs.Rules.{counted}
use Rattle.plan.specs.declared.kinds.Plan.{Plan}
use Rattle.dispatch.specs.declared.Run.{Run}
use Rattle.dispatch.specs.Answers.{run_at}
use Rattle.dispatch.specs.Step.{slot_sound}
use Rattle.dispatch.specs.Shift.{slots_from}
use Rattle.dispatch.specs.Inner.Columns.{plan_on}
use Rattle.dispatch.specs.Inner.Turns.{KeepsGoals}
use Rattle.dispatch.proofs.shift.carry_speeds.Given as goal

-- After k calls: those at the speeds that are left give the whole answer, the run is sound, the buffers are as long as
-- they were, and the goals are kept.
pub record Calls (q : Plan) (table speeds sizes : List ℕ) (was : Run) (rows₀ numbers₀ : List ℕ) (run : Run) (rows numbers goals : List ℕ) (spans k : ℕ) : Type 0 where
  pub rest : slots_from q table k (drop k speeds) run rows numbers ≡ slots_from q table 0 speeds was rows₀ numbers₀
  pub sound : slot_sound q run ≡ true
  pub rows_long : length rows ≡ length rows₀
  pub numbers_long : length numbers ≡ length numbers₀
  pub goals-kept : KeepsGoals (counted q) spans sizes table goals

abbrev pub invariant-loop-k : goal.invariant-loop-k
invariant-loop-k l =
    Calls (plan_on l.cols) l.table l.speeds l.cols.sizes (run_at l.initial.next l.initial.carried l.ended) l.initial.rows l.initial.numbers (run_at l.next l.carried l.ended) l.rows l.numbers l.kept.goals l.kept.spans l.k
