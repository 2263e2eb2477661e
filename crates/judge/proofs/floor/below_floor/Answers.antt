-- `judge::floor::below_floor` meets its contract. Loop invariant: after m boundaries, the column sums
-- of the jobs due so far, and the lowest interval that violates rule 18 at one of these boundaries.
use Rattle.std.proofs.Common.{◌≤◌, [], ◌∷◌, get_or, true, false, sym, ap, ◌∙◌, length, arith}
use native.Mathlib.Numerals.{add-one}
use borrow.Author.Tests.{lt-ltb, le-ltb}
use Rattle.judge.specs.Answers.{verdict_view}
use Rattle.plan.specs.Refusal.{below_floor_rule}
use Rattle.plan.specs.Boundaries.{intervals}
use Rattle.judge.proofs.FloorPass.{summed_start, found_start, found_next, found_end}
use Rattle.judge.proofs.floor.below_floor.Goals as goal
use Rattle.judge.proofs.floor.below_floor.Goals.{then-add_due+then-here-low, then-add_due+else-here-low, else-add_due}

pub loop-m-init : goal.loop-m-init
loop-m-init c =
    let hand = c.args.hand in
    (summed_start hand.plan.now hand.table.now, found_start hand.plan.now hand.table.now c.spans-low.ensures.is)

pub loop-m-preserved : goal.loop-m-preserved
loop-m-preserved c =
    let hand = c.args.hand in
    let p = hand.plan.now in
    let m = c.loop-m.m in
    let last : m ≤ intervals p = omega (arith, ap length hand.are_boundaries) in
    let summed = c.add_due.ensures.1 in
    let found = c.loop-m.invariant.1 in
    let next = found_next p hand.table.now c.add_due.new.sums hand.times.now m c.loop-m.low c.if-add_due.low c.loop-m.verdict c.if-add_due.verdict in (
      rw (add-one m) summed,
      elim c.if-add_due.branch [
        | then-add_due+then-here-low w ↦
            next true true hand.are_boundaries last summed (sym w.if-add_due.true ∙ c.add_due.ensures.0) (w.low-is ∙ w.lowered-here.ensures)
            (lt-ltb _ _ (omega (arith, w.low-is, w.if-here-low.true)))
            (ap verdict_view w.verdict-is ∙ ap (λ l. below_floor_rule ∷ l ∷ get_or hand.times.now m 0 ∷ []) (sym w.low-is)) found
        | then-add_due+else-here-low w ↦
            next true false hand.are_boundaries last summed (sym w.if-add_due.true ∙ c.add_due.ensures.0) (w.low-is ∙ w.lowered-here.ensures)
            (le-ltb _ _ (omega (arith, w.low-is, w.if-here-low.false))) (ap verdict_view w.verdict-is) found
        | else-add_due w ↦
            next false false hand.are_boundaries last summed (sym w.if-add_due.false ∙ c.add_due.ensures.0) w.low-is
            (le-ltb _ _ (omega (arith, w.low-is))) (ap verdict_view w.verdict-is) found
      ],
    )

pub returns : goal.returns
returns c =
    let hand = c.args.hand in
    found_end hand.plan.now hand.table.now c.loop-m.m c.loop-m.low c.loop-m.verdict (omega (arith, ap length hand.are_boundaries, hand.some)) c.loop-m.invariant.1
