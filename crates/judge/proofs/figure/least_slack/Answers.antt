-- `judge::figure::least_slack` meets its contract. Loop invariant: after m boundaries, the column
-- sums of the jobs due so far, and the least slack of the pairs with these boundaries.
use Rattle.std.proofs.Common.{◌≤◌, true, false, sym, ap, ◌∙◌, length, arith}
use native.Mathlib.Numerals.{add-one}
use Rattle.plan.specs.Boundaries.{intervals}
use Rattle.judge.specs.Answers.{found_view}
use Rattle.judge.proofs.FloorPass.{summed_start}
use Rattle.judge.proofs.SlackPass.{tightest_start, tightest_next, tightest_end}
use Rattle.judge.proofs.figure.least_slack.Goals as goal
use Rattle.judge.proofs.figure.least_slack.Goals.{then-add_due, else-add_due}

pub loop-m-init : goal.loop-m-init
loop-m-init c =
    let hand = c.args.hand in
    (summed_start hand.plan.now hand.table.now, tightest_start hand.plan.now hand.table.now)

pub loop-m-preserved : goal.loop-m-preserved
loop-m-preserved c =
    let hand = c.args.hand in
    let p = hand.plan.now in
    let m = c.loop-m.m in
    let last : m ≤ intervals p = omega (arith, ap length hand.are_boundaries) in
    let summed = c.add_due.ensures.1 in
    let next = tightest_next p hand.table.now c.add_due.new.sums hand.times.now m hand.are_boundaries last summed in (
      rw (add-one m) summed,
      elim c.if-add_due.branch [
        | then-add_due w ↦
            next true (found_view c.loop-m.best) (found_view c.if-add_due.best) (sym w.if-add_due.true ∙ c.add_due.ensures.0)
            (ap found_view w.best-is ∙ w.column_taken_in-best.ensures) c.loop-m.invariant.1
        | else-add_due w ↦
            next false (found_view c.loop-m.best) (found_view c.if-add_due.best) (sym w.if-add_due.false ∙ c.add_due.ensures.0)
            (ap found_view w.best-is) c.loop-m.invariant.1
      ],
    )

pub returns : goal.returns
returns c =
    let hand = c.args.hand in
    tightest_end hand.plan.now hand.table.now c.loop-m.m (found_view c.loop-m.best) (omega (arith, ap length hand.are_boundaries, hand.some)) c.loop-m.invariant.1
