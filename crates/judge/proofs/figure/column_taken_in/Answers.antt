-- `judge::figure::column_taken_in` meets its contract. Loop invariant: the sum from interval l on,
-- and a least slack that leads, with the intervals before l, to the figure of the whole column.
use Rattle.std.proofs.Common.{◌≡◌, ◌+◌, ◌-◌, ◌^◌, sym, ap, ◌∙◌, refl, get_or, arith, true, false}
use native.Mathlib.Nat.{mul-le-mul}
use lib.IntN.{sub_ℕ}
use Rattle.base.specs.Sum.{sum}
use Rattle.base.proofs.SumLaws.{sum_start}
use Rattle.plan.proofs.Soundness.{rules_bounded}
use Rattle.judge.specs.Inner.Columns.{column_taken}
use Rattle.judge.specs.Answers.{found_view}
use Rattle.judge.proofs.Columns.{asked_next}
use Rattle.judge.proofs.ColumnUpdate.{taken_start, taken_best}
use Rattle.judge.proofs.FloorPass.{early_time, column_fits}
use Rattle.judge.proofs.Signed.{kept_difference}
use Rattle.judge.proofs.figure.column_taken_in.Goals as goal

pub returns-then-m-eq0 : goal.returns-then-m-eq0
unfolding column_taken
returns-then-m-eq0 c = rw c.if-m-eq0.true refl

pub loop-l-init : goal.loop-l-init
loop-l-init c =
    let a = c.args in
    let hand = a.hand in
    let none : a.m - a.m ≡ 0 = omega arith in
    let rates = rules_bounded hand.plan.now hand.rules in
    let product = mul-le-mul {n₁ = hand.plan.now.d.0} {m₁ = get_or hand.times.now a.m 0} {n₂ = 1000} {m₂ = 4294967295} (omega (arith, rates.rates, rates.rate))
    (omega (arith, early_time hand.plan.now hand.are_boundaries hand.rules a.m c.requires.0)) in (
      sym (ap (sum _) none ∙ sum_start _),
      taken_start hand.plan.now.d.0 a.sums.now hand.times.now a.m (2 ^ 63 - 1) (found_view a.known) (omega arith) (omega (arith, product)),
      omega arith,
    )

pub bounds-sums-l : goal.bounds-sums-l
bounds-sums-l c =
    let fits = column_fits c.args.hand.are_boundaries c.requires.0 c.requires.1 c.args.hand.in_width in
    omega (arith, fits.0)

pub overflow_add-asked : goal.overflow_add-asked
overflow_add-asked c =
    let fits = column_fits c.args.hand.are_boundaries c.requires.0 c.requires.1 c.args.hand.in_width in
    let asked = asked_next c.args.sums.now c.args.m c.loop-l.l c.loop-l.asked.0 fits c.loop-l-test.true (omega arith) c.loop-l.invariant.0 in
    omega (arith, asked.1)

pub slack_from-here-requires : goal.slack_from-here-requires
slack_from-here-requires c =
    let fits = column_fits c.args.hand.are_boundaries c.requires.0 c.requires.1 c.args.hand.in_width in
    let asked = asked_next c.args.sums.now c.args.m c.loop-l.l c.loop-l.asked.0 fits c.loop-l-test.true (omega arith) c.loop-l.invariant.0 in
    (c.capacity-carries.ensures.1, asked.1)

pub loop-l-preserved-then-here-slack : goal.loop-l-preserved-then-here-slack
loop-l-preserved-then-here-slack c =
    let fits = column_fits c.args.hand.are_boundaries c.requires.0 c.requires.1 c.args.hand.in_width in
    let asked = asked_next c.args.sums.now c.args.m c.loop-l.l c.loop-l.asked.0 fits c.loop-l-test.true (omega arith) c.loop-l.invariant.0 in
    let slack = kept_difference _ _ _ c.capacity-carries.ensures.1 asked.1 c.slack_from-here.ensures ∙ ap (λ n. sub_ℕ n (c.loop-l.asked.0 + get_or c.args.sums.now (c.loop-l.l - 1) 0)) c.capacity-carries.ensures.0 in (
      asked.0,
      taken_best _ _ _ _ c.loop-l.l _ c.loop-l.interval _ _ (found_view c.args.known) _ true c.loop-l-test.true c.loop-l.invariant.2 asked.0 slack c.if-here-slack.true c.loop-l.invariant.1,
      omega arith,
    )

pub loop-l-preserved : goal.loop-l-preserved
loop-l-preserved c =
    let fits = column_fits c.args.hand.are_boundaries c.requires.0 c.requires.1 c.args.hand.in_width in
    let asked = asked_next c.args.sums.now c.args.m c.loop-l.l c.loop-l.asked.0 fits c.loop-l-test.true (omega arith) c.loop-l.invariant.0 in
    let slack = kept_difference _ _ _ c.capacity-carries.ensures.1 asked.1 c.slack_from-here.ensures ∙ ap (λ n. sub_ℕ n (c.loop-l.asked.0 + get_or c.args.sums.now (c.loop-l.l - 1) 0)) c.capacity-carries.ensures.0 in (
      asked.0,
      taken_best _ _ _ _ c.loop-l.l _ c.loop-l.interval _ _ (found_view c.args.known) _ false c.loop-l-test.true c.loop-l.invariant.2 asked.0 slack c.if-here-slack.false c.loop-l.invariant.1,
      omega arith,
    )

pub returns : goal.returns
unfolding column_taken
returns c =
    let end : c.loop-l.l ≡ 0 = omega (arith, c.loop-l-test.false) in
    c.sooner_of.ensures ∙ (rw end at c.loop-l.invariant.1)
