-- `judge::floor::below_floor` meets its contract. Loop invariant: after m boundaries, the column sums
-- of the jobs due so far, and the lowest interval that violates rule 18 at one of these boundaries.
use Rattle.judge.specs.Inner.Columns.{Summed}
use Rattle.judge.proofs.FloorPass.{Found}
use Rattle.judge.proofs.floor.below_floor.Given as goal

abbrev pub invariant-loop-m : goal.invariant-loop-m
invariant-loop-m l =
    let p = l.hand.plan.now in
    let table = l.hand.table.now in
    Summed p table l.m l.sums × Found p table l.m l.low l.verdict
