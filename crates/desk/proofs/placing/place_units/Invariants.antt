-- `desk::placing::place_units` meets its contract: after k turns the draft and the units left are those of the turns.
use Rattle.std.proofs.Common.{◌≡◌}
use Rattle.judge.specs.Slack.{through}
use Rattle.desk.specs.Timetable.{turn, placed_at}
use Rattle.desk.specs.Inner.Classes.{from_back}
use Rattle.desk.proofs.placing.place_units.Given as goal

abbrev pub invariant-loop-k : goal.invariant-loop-k
invariant-loop-k l =
    record { draft = record { rooms = l.rooms; table = l.table }; rest = l.rest }
    ≡ through (λ k'. placed_at l.fn.i (turn (from_back l.fn.class) l.fn.m k')) l.k (record { draft = record { rooms = l.initial.rooms; table = l.initial.table }; rest = l.fn.units })
