-- `desk::placing::place_due` meets its contract: after q turns the draft is that of the turns, for every plan whose columns are lent.
use Rattle.std.proofs.Common.{◌≡◌}
use Rattle.plan.specs.Rules.{counted}
use Rattle.plan.specs.Boundaries.{boundary}
use Rattle.plan.specs.Columns.{HasColumns}
use Rattle.plan.specs.declared.kinds.Plan.{Plan}
use Rattle.judge.specs.Slack.{through}
use Rattle.desk.specs.Timetable.{turn, job_turn}
use Rattle.desk.specs.Inner.Classes.{from_back}
use Rattle.desk.proofs.placing.place_due.Given as goal

abbrev pub invariant-loop-q : goal.invariant-loop-q
invariant-loop-q l =
    (p : Plan) → HasColumns p l.columns → boundary p l.m ≡ l.time
    → record { rooms = l.rooms; table = l.table }
    ≡ through (λ q'. job_turn p (from_back l.class) l.m (turn (from_back l.class) (counted p) q')) l.q (record { rooms = l.initial.rooms; table = l.initial.table })
