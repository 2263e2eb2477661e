-- `judge::floor::lowered` meets its contract. Loop invariant: the sum and the
-- lowest violating interval, from interval l on.
use Rattle.std.proofs.Common.{◌≡◌, ◌-◌, sym, ap, ◌∙◌, arith, true, false}
use borrow.Author.Tests.{lt-ltb, le-ltb}
use Rattle.base.specs.Sum.{sum}
use Rattle.base.proofs.SumLaws.{sum_start}
use Rattle.judge.proofs.Columns.{lowest_end, asked_next, lowest_step}
use Rattle.judge.proofs.FloorPass.{column_fits}
use Rattle.judge.proofs.floor.lowered.Goals as goal

pub loop-l-init : goal.loop-l-init
loop-l-init c = (sym (let e : c.args.m - c.args.m ≡ 0 = omega arith in ap (sum _) e ∙ sum_start _), lowest_end _ _ _)

pub bounds-sums-l : goal.bounds-sums-l
bounds-sums-l c =
    let fits = column_fits c.args.hand.are_boundaries c.requires.0 c.requires.1 c.args.hand.in_width in
    omega (arith, fits.0)

pub overflow_add-asked : goal.overflow_add-asked
overflow_add-asked c =
    let fits = column_fits c.args.hand.are_boundaries c.requires.0 c.requires.1 c.args.hand.in_width in
    let asked = asked_next c.args.sums.now c.args.m c.loop-l.l c.loop-l.asked.0 fits c.loop-l-test.true (omega arith) c.loop-l.invariant.0 in
    omega (arith, asked.1)

pub loop-l-preserved-then-carries-asked : goal.loop-l-preserved-then-carries-asked
loop-l-preserved-then-carries-asked c =
    let fits = column_fits c.args.hand.are_boundaries c.requires.0 c.requires.1 c.args.hand.in_width in
    let asked = asked_next c.args.sums.now c.args.m c.loop-l.l c.loop-l.asked.0 fits c.loop-l-test.true (omega arith) c.loop-l.invariant.0 in
    (asked.0, lowest_step _ _ _ _ _ c.loop-l.l c.loop-l.low _ c.capacity-carries.result.0 true c.loop-l-test.true (omega arith) c.loop-l.invariant.1 asked.0 c.capacity-carries.ensures.0 (lt-ltb _ _ c.if-carries-asked.true))

pub loop-l-preserved : goal.loop-l-preserved
loop-l-preserved c =
    let fits = column_fits c.args.hand.are_boundaries c.requires.0 c.requires.1 c.args.hand.in_width in
    let asked = asked_next c.args.sums.now c.args.m c.loop-l.l c.loop-l.asked.0 fits c.loop-l-test.true (omega arith) c.loop-l.invariant.0 in
    (asked.0, lowest_step _ _ _ _ _ c.loop-l.l c.loop-l.low _ c.capacity-carries.result.0 false c.loop-l-test.true (omega arith) c.loop-l.invariant.1 asked.0 c.capacity-carries.ensures.0 (le-ltb _ _ c.if-carries-asked.false))
