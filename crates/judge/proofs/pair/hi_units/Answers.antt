-- `judge::pair::hi_units` meets its contract. Loop invariant: the sum over the first i jobs.
use Rattle.std.proofs.Common.{◌≡◌, ◌+◌, ◌*◌, true, false, eqb, leb, ◌&&◌, sym, ap, ◌∙◌, arith}
use native.Mathlib.Nat.{add-zero, mul-le-mul_right}
use Rattle.std.proofs.lemmas.List.{get_or-take}
use Rattle.base.specs.Sum.{sum, on, strided}
use Rattle.base.proofs.SumLaws.{sum_start, sum_bound}
use Rattle.plan.specs.Edition.{most_intervals}
use Rattle.plan.specs.Rules.{hi, no_job, deadline, is_hi}
use Rattle.plan.specs.declared.kinds.Job.{Job}
use Rattle.plan.specs.declared.kinds.Units.{Units}
use Rattle.judge.specs.Inner.Widths.{most_at_place}
use Rattle.judge.proofs.RunningSums.{sum_next}
use Rattle.judge.proofs.pair.hi_units.Goals as goal
use Rattle.judge.proofs.pair.hi_units.Goals.{then-job-time, else-job-time}

pub loop-i-init : goal.loop-i-init
loop-i-init c = (sym (sum_start _), omega arith)

pub overflow_add-total : goal.overflow_add-total
overflow_add-total c =
    let a = c.args in
    let most = sum_bound (strided a.table.now (most_intervals * c.loop-i.i + a.l) 1) most_at_place a.count (λ k b. omega (arith, c.type_inv.table (most_intervals * c.loop-i.i + a.l + 1 * k))) in
    omega (arith, c.sum_of-units.ensures, most, mul-le-mul_right most_at_place c.requires.1)

pub loop-i-preserved : goal.loop-i-preserved
loop-i-preserved c =
    let a = c.args in
    let p = a.p.now in
    let i = c.loop-i.i in
    let most = sum_bound (strided a.table.now (most_intervals * i + a.l) 1) most_at_place a.count (λ k b. omega (arith, c.type_inv.table (most_intervals * i + a.l + 1 * k))) in
    let bound = mul-le-mul_right most_at_place c.requires.1 in
    let job = get_or-take c.counted_within.result p.jobs i no_job (omega arith) in
    let wanted = ap (λ (j : Job). eqb j.grade hi && leb j.deadline.0 a.time) job in
    let units = sum (strided a.table.now (most_intervals * i + a.l) 1) a.count in
    elim c.if-job-time.branch [
      | then-job-time w ↦
          let test : (is_hi p i && leb (deadline p i) a.time) ≡ true = sym wanted ∙ w.if-job-time.true in
          let total = ap (λ (u : Units). u.0) w.total-is in (
            total ∙ sum_next _ i c.loop-i.invariant.0 (w.sum_of-units.ensures ∙ ap (λ b. on b units) (sym test)),
            omega (arith, total, most, bound, w.sum_of-units.ensures),
          )
      | else-job-time w ↦
          let test : (is_hi p i && leb (deadline p i) a.time) ≡ false = sym wanted ∙ w.if-job-time.false in
          let total = ap (λ (u : Units). u.0) w.total-is in (
            total ∙ sym (add-zero _) ∙ sum_next _ i c.loop-i.invariant.0 (ap (λ b. on b units) (sym test)),
            omega (arith, total),
          )
    ]
