-- `dispatch::claims::all_fit` meets its contract: after i iterations the first i claims are written and added up.
use mathlib.Core.Path.{◌≡◌, sym, ◌∙◌, ap}
use mathlib.Core.Bool.{false≢true}
use Prim.Native.Nat.{◌+◌, ◌-◌}
use native.Mathlib.Omega.{arith}
use borrow.Author.Tests.{leb-true, leb-false}
use Rattle.base.specs.Sum.{sum, on}
use Rattle.base.proofs.FillLaws.{filled_start, filled_next}
use Rattle.base.proofs.SumLaws.{sum_start, sum_step, sum_split}
use Rattle.dispatch.specs.Inner.Turns.{due_by, claim_by}
use Rattle.dispatch.proofs.claims.all_fit.Goals as goal
use Rattle.dispatch.proofs.claims.all_fit.Goals.{else-is_served, then-is_served}

pub loop-i-init : goal.loop-i-init
loop-i-init c =
    (c.requires.2 ∙ sym (filled_start _ _), sym (sum_start _))

pub returns-then-v-total : goal.returns-then-v-total
returns-then-v-total c =
    let a = c.args in
    let i = c.loop-i.i in
    let claims = claim_by a.clock.0 a.slow a.cols.now a.dues.now in
    record {
      reached = i;
      within = omega arith;
      filled_to = c.loop-i.invariant.0;
      sums = λ fit. absurd (false≢true fit);
      over = λ more.
          let parts : i + (a.jobs - i) ≡ a.jobs = omega arith in
          omega (arith, c.loop-i.invariant.1, sum_split claims i (a.jobs - i), ap (sum claims) parts);
    }

pub loop-i-preserved : goal.loop-i-preserved
loop-i-preserved c =
    let a = c.args in
    let i = c.loop-i.i in
    let claims = claim_by a.clock.0 a.slow a.cols.now a.dues.now in
    let claimed : c.if-is_served.claim ≡ claims i
    = elim c.if-is_served.branch [
      | then-is_served w ↦ w.claim-is ∙ w.of-claim.ensures ∙ ap (λ b. on b (due_by a.dues.now i)) (sym w.if-is_served.true ∙ c.is_served.ensures)
      | else-is_served w ↦ w.claim-is ∙ ap (λ b. on b (due_by a.dues.now i)) (sym w.if-is_served.false ∙ c.is_served.ensures)
    ] in
    (filled_next _ i _ c.loop-i.invariant.0 claimed, omega (arith, c.from-total.ensures, c.loop-i.invariant.1, claimed, sum_step claims i))

pub returns : goal.returns
returns c =
    let a = c.args in
    let i = c.loop-i.i in
    let claims = claim_by a.clock.0 a.slow a.cols.now a.dues.now in
    let whole : i ≡ a.jobs = omega arith in
    record {
      reached = i;
      within = omega arith;
      filled_to = c.loop-i.invariant.0;
      sums = λ fit. (whole, rw (← whole) (omega (arith, c.loop-i.invariant.1, leb-true c.loop-i.total a.v.0 fit)));
      over = λ more. omega (arith, c.loop-i.invariant.1, leb-false c.loop-i.total a.v.0 more, ap (sum claims) whole);
    }
