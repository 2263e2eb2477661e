-- What the desk works on.
use Rattle.std.specs.Prelude.{◌≡◌, true, false, ℕ, suc, ◌*◌, ◌-◌, List, get_or, take, length, replicate, Result, Ok, Err}
use Rattle.base.specs.Fill.{filled}
use Rattle.plan.specs.Kinds.{Times}
use Rattle.plan.specs.Edition.{most_intervals}
use Rattle.plan.specs.Rules.{rules_hold}
use Rattle.plan.specs.Boundaries.{boundaries}
use Rattle.plan.specs.Columns.{HasColumns}
use Rattle.plan.specs.declared.kinds.Plan.{Plan}
use Rattle.plan.specs.declared.refusal.Reason.{Reason}
use Rattle.plan.specs.declared.refusal.Reason.TheVariants as reason
use Rattle.desk.specs.declared.task.Task.{Task}

-- The times of a task.
abbrev pub times_of : Task → Times
times_of t = take t.boundaries.count t.boundaries.times

-- A task is that of a plan under rules 4 to 9: the plan's columns, and its boundaries.
pub record IsTaskOf (p : Plan) (t : Task) : Type 0 where
  pub rules : rules_hold p ≡ true
  pub columns : HasColumns p t.columns
  pub times : times_of t ≡ boundaries p

-- The contract of `Task::of`: the task of a plan, or that rules 4 to 9 do not hold.
abbrev pub Sets : (p : Plan) (r : Result Task Reason) → Type 0
Sets p (Ok t) = IsTaskOf p t
Sets p (Err r) = (r ≡ reason.Unsound) × (rules_hold p ≡ false)

-- The room of each interval of a task, then zeros to `most_intervals` entries.
abbrev pub rooms_in : Task → List ℕ
rooms_in t =
    filled (λ j. t.columns.n.0 * (get_or (times_of t) (suc j) 0 - get_or (times_of t) j 0)) (length (times_of t) - 1) (replicate most_intervals 0)
