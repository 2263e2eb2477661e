-- `judge::rows::add_due` meets its contract. Loop invariant: the rows of the jobs among the
-- first i that are due at boundary m are added.
use Rattle.std.proofs.Common.{◌≡◌, ◌+◌, ◌*◌, not, sym, ap, refl, ◌∙◌, eqb, length, get_or, arith}
use native.Mathlib.Nat.{add-zero}
use borrow.Author.Tests.{eq-eqb, ne_eqb}
use Rattle.base.specs.Sum.{sum, on}
use Rattle.base.proofs.Choice.{on_at_most}
use Rattle.base.proofs.SumLaws.{sum_start, sum_step, sum_bound}
use Rattle.plan.specs.Edition.{most_intervals}
use Rattle.judge.specs.Constraints.{units}
use Rattle.judge.specs.Inner.Widths.{most_at_place}
use Rattle.judge.proofs.Columns.{none_due}
use Rattle.judge.proofs.FloorPass.{due_of, due_is, summed_next, sums_fit}
use Rattle.judge.proofs.HandFault.{few_intervals}
use Rattle.judge.proofs.rows.add_due.Goals as goal
use Rattle.judge.proofs.rows.add_due.Goals.{then-deadline-time, else-deadline-time}

pub returns-then-is_absent_time : goal.returns-then-is_absent_time
returns-then-is_absent_time c =
    let a = c.args in
    let hand = a.hand in
    let none = sym c.is_absent_time.ensures ∙ c.if-is_absent_time.true in (
      sym (ap not none) ∙ due_is hand.are_boundaries hand.rules c.requires.1 c.requires.0,
      summed_next hand.are_boundaries hand.rules c.requires.1 c.requires.0 a.sums.now c.requires.2 refl
          (λ j l. sym (ap (λ s. get_or a.sums.now j 0 + s) (none_due a.deadlines.now (get_or hand.times.now a.m 0) (λ k. units hand.table.now k j) none) ∙ add-zero _)),
    )

pub loop-i-init : goal.loop-i-init
loop-i-init c = (refl, λ j l. sym (ap (λ s. get_or c.args.sums.now j 0 + s) (sum_start _) ∙ add-zero _))

pub add_row-requires : goal.add_row-requires
add_row-requires c =
    let a = c.args in
    let hand = a.hand in (
      omega (arith, c.row.ensures.count, c.requires.2.room, few_intervals hand.plan.now),
      λ j l. omega (
        arith,
        c.loop-i.invariant.1 j (omega (arith, c.row.ensures.count)),
        sums_fit c.requires.2 hand.in_width j (omega (arith, c.row.ensures.count)),
        c.requires.1.room,
        sum_bound (due_of hand.table.now a.deadlines.now (get_or hand.times.now a.m 0) j) most_at_place c.loop-i.i
            (λ k b. on_at_most (eqb (get_or a.deadlines.now k 0) (get_or hand.times.now a.m 0)) (units hand.table.now k j) most_at_place (hand.in_width (most_intervals * k + j))),
      ),
    )

pub loop-i-preserved : goal.loop-i-preserved
loop-i-preserved c =
    let a = c.args in
    let hand = a.hand in
    let time = get_or hand.times.now a.m 0 in
    let i = c.loop-i.i in
    elim c.if-deadline-time.branch [
      | then-deadline-time w ↦ (
        omega (arith, c.requires.2.room),
        λ j l. omega (
          arith,
          ap (λ s. get_or s j 0) w.sums-is,
          w.add_row.ensures j (omega (arith, w.row.ensures.count)),
          w.row.ensures.each j l,
          ap (λ b. on b (units hand.table.now i j)) (eq-eqb _ _ w.if-deadline-time.true),
          c.loop-i.invariant.1 j l,
          sum_step (due_of hand.table.now a.deadlines.now time j) i,
        ),
      )
      | else-deadline-time w ↦ (
        omega (arith, c.requires.2.room),
        λ j l. omega (
          arith,
          ap (λ s. get_or s j 0) w.sums-is,
          ap (λ b. on b (units hand.table.now i j)) (ne_eqb _ _ w.if-deadline-time.false),
          c.loop-i.invariant.1 j l,
          sum_step (due_of hand.table.now a.deadlines.now time j) i,
        ),
      )
    ]

pub returns : goal.returns
returns c =
    let a = c.args in
    let hand = a.hand in
    let end : c.loop-i.i ≡ length a.deadlines.now = omega (arith, c.requires.1.room) in (
      sym (ap not (sym c.is_absent_time.ensures ∙ c.if-is_absent_time.false)) ∙ due_is hand.are_boundaries hand.rules c.requires.1 c.requires.0,
      summed_next hand.are_boundaries hand.rules c.requires.1 c.requires.0 c.loop-i.sums c.requires.2 c.loop-i.invariant.0
          (λ j l. c.loop-i.invariant.1 j l ∙ ap (λ n. get_or a.sums.now j 0 + sum (due_of hand.table.now a.deadlines.now (get_or hand.times.now a.m 0) j) n) end),
    )
