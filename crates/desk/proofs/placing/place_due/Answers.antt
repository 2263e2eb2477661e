-- `desk::placing::place_due` meets its contract: a turn places the units of a job that is due, and leaves the draft otherwise.
use Rattle.std.proofs.Common.{arith, ◌∙◌, ap, ap₂, ℕ, List}
use Rattle.plan.specs.Rules.{counted}
use Rattle.desk.specs.Timetable.{Draft, turn, job_turn}
use Rattle.desk.specs.Inner.Classes.{from_back}
use Rattle.desk.proofs.CodeLaws.{through_next, turn_told}
use Rattle.desk.proofs.placing.place_due.Goals as goal
use Rattle.desk.proofs.placing.place_due.Goals.{else-due, then-due}

pub loop-q-preserved : goal.loop-q-preserved
loop-q-preserved c =
    let a = c.args in
    let l = c.loop-q in
    let back = from_back a.class in
    let draft : List ℕ → List ℕ → Draft = λ rooms table. record { rooms = rooms; table = table } in
    let turned = c.turn-i.ensures.0 ∙ ap (λ n. turn back n l.q) c.counted_within-jobs.ensures in
    elim c.if-due.branch [
      | then-due w ↦
          λ p cols at.
          through_next (λ q. job_turn p back a.m (turn back (counted p) q)) l.q _ (l.invariant p cols at)
          (turn_told p cols back a.m l.q (draft l.rooms l.table) turned (omega arith) at c.has.ensures w.if-due.true (ap₂ draft w.rooms-is w.table-is ∙ w.place_units.ensures))
      | else-due w ↦
          λ p cols at.
          through_next (λ q. job_turn p back a.m (turn back (counted p) q)) l.q _ (l.invariant p cols at)
          (turn_told p cols back a.m l.q (draft l.rooms l.table) turned (omega arith) at c.has.ensures w.if-due.false (ap₂ draft w.rooms-is w.table-is))
    ]
