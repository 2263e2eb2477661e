-- `dispatch::claims::claim_all` meets its contract: after i turns the first i claims are written and added up.
use mathlib.Core.Path.{◌≡◌, sym, ◌∙◌, ap}
use Prim.Native.Nat.{◌≤◌}
use native.Mathlib.Omega.{arith}
use borrow.Author.Tests.{leb-true, leb-false}
use Rattle.base.specs.Sum.{sum, on}
use Rattle.base.proofs.FillLaws.{filled_start, filled_next}
use Rattle.base.proofs.SumLaws.{sum_start, sum_step}
use Rattle.dispatch.specs.Inner.Turns.{due_by, claim_by, unknown}
use Rattle.dispatch.proofs.claims.claim_all.Goals as goal
use Rattle.dispatch.proofs.claims.claim_all.Goals.{else-served, then-served}

pub loop-i-init : goal.loop-i-init
loop-i-init c =
    (c.requires.2 ∙ sym (filled_start _ _), sym (sum_start _), omega arith)

pub loop-i-preserved : goal.loop-i-preserved
loop-i-preserved c =
    let a = c.args in
    let i = c.loop-i.i in
    let claims = claim_by a.clock.0 a.slow a.cols.now a.dues.now in
    let due : c.saturating_sub-due.result ≡ due_by a.dues.now i = rw c.requires.1 c.saturating_sub-due.ensures in
    let claimed : c.if-served.claim ≡ claims i
    = elim c.if-served.branch [
      | then-served w ↦ w.claim-is ∙ due ∙ ap (λ b. on b (due_by a.dues.now i)) (sym w.if-served.true ∙ c.is_served-served.ensures)
      | else-served w ↦ w.claim-is ∙ ap (λ b. on b (due_by a.dues.now i)) (sym w.if-served.false ∙ c.is_served-served.ensures)
    ] in
    let small : c.if-served.claim ≤ unknown
    = elim c.if-served.branch [
      | then-served w ↦ omega (arith, w.claim-is, c.saturating_sub-due.type_inv)
      | else-served w ↦ omega (arith, w.claim-is)
    ] in (
      filled_next _ i _ c.loop-i.invariant.0 claimed,
      omega (arith, c.from-sum.ensures, c.loop-i.invariant.1, claimed, sum_step claims i),
      omega (arith, c.from-sum.ensures, c.loop-i.invariant.2, small),
    )

pub returns : goal.returns
returns c =
    let a = c.args in
    let i = c.loop-i.i in
    let claims = claim_by a.clock.0 a.slow a.cols.now a.dues.now in
    let whole : i ≡ a.jobs = omega arith in
    record {
      reached = i;
      within = omega arith;
      filled_to = c.loop-i.invariant.0;
      sums = λ fit. (whole, rw (← whole) (omega (arith, c.loop-i.invariant.1, leb-true c.loop-i.sum a.v.0 fit)));
      over = λ more. omega (arith, c.loop-i.invariant.1, leb-false c.loop-i.sum a.v.0 more, ap (sum claims) whole);
    }
