-- `desk::placing::place_class` meets its contract: after k boundaries the draft is that of the turns at them, for the plan of the task.
use Rattle.std.proofs.Common.{◌≡◌, suc}
use Rattle.plan.specs.Boundaries.{intervals}
use Rattle.plan.specs.declared.kinds.Plan.{Plan}
use Rattle.judge.specs.Slack.{through}
use Rattle.desk.specs.Timetable.{turn, turns_at}
use Rattle.desk.specs.Inner.Classes.{from_back}
use Rattle.desk.specs.Inner.Tasks.{IsTaskOf}
use Rattle.desk.proofs.placing.place_class.Given as goal

abbrev pub invariant-loop-k : goal.invariant-loop-k
invariant-loop-k l =
    (p : Plan) → IsTaskOf p l.task → record { rooms = l.rooms; table = l.table }
    ≡ through (λ k'. turns_at p (from_back l.class) (suc (turn (from_back l.class) (intervals p) k'))) l.k (record { rooms = l.initial.rooms; table = l.initial.table })
