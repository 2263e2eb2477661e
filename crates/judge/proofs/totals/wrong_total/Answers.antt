-- `judge::totals::wrong_total` meets its contract. Loop invariant: rule 16 holds for the first i jobs.
use Rattle.std.proofs.Common.{◌≡◌, ℕ, [], ◌∷◌, ◌+◌, ◌*◌, not, get_or, sym, ap, ◌∙◌, arith}
use borrow.Author.Tests.{eq-eqb, ne_eqb}
use Rattle.base.specs.Sum.{sum}
use Rattle.base.proofs.SumLaws.{sum_ext}
use Rattle.plan.specs.Edition.{most_intervals}
use Rattle.plan.specs.Refusal.{wrong_total}
use Rattle.plan.specs.Boundaries.{intervals}
use Rattle.plan.specs.Report.{fault}
use Rattle.plan.specs.declared.kinds.Job.{Job}
use Rattle.plan.proofs.Reports.{found_here, first_next}
use Rattle.judge.specs.Constraints.{total}
use Rattle.judge.specs.Verdict.{total_fault}
use Rattle.judge.proofs.totals.wrong_total.Goals as goal

summed_place_of : (i k : ℕ) → most_intervals * i + 1 * k ≡ most_intervals * i + k
summed_place_of i k = omega arith

pub returns-then-total-job : goal.returns-then-total-job
unfolding total_fault
returns-then-total-job c =
    let hand = c.args.hand in
    let i = c.loop-i.i in
    let summed : c.sum_of.result ≡ total hand.plan.now hand.table.now i
    = c.sum_of.ensures ∙ ap (sum _) c.spans-spans.ensures.is
    ∙ sum_ext _ _ (intervals hand.plan.now) (λ k l. ap (λ q. get_or hand.table.now q 0) (summed_place_of i k)) in
    let sized = ap (λ (j : Job). j.size.0) (c.jobs-job-items.ensures.each i (omega (arith, c.jobs-job-items.ensures.count))) in
    found_here _ _ _ _ _ c.loop-i.invariant (omega (arith, c.jobs-job-items.ensures.count))
    (ap (λ b. fault (not b) (wrong_total ∷ i ∷ [])) (ne_eqb _ _ (λ e. c.if-total-job.true (summed ∙ e ∙ sym sized))))

pub loop-i-preserved : goal.loop-i-preserved
loop-i-preserved c =
    let hand = c.args.hand in
    let i = c.loop-i.i in
    let summed : c.sum_of.result ≡ total hand.plan.now hand.table.now i
    = c.sum_of.ensures ∙ ap (sum _) c.spans-spans.ensures.is
    ∙ sum_ext _ _ (intervals hand.plan.now) (λ k l. ap (λ q. get_or hand.table.now q 0) (summed_place_of i k)) in
    let sized = ap (λ (j : Job). j.size.0) (c.jobs-job-items.ensures.each i (omega (arith, c.jobs-job-items.ensures.count))) in
    first_next _ i c.loop-i.invariant
    (ap (λ b. fault (not b) (wrong_total ∷ i ∷ [])) (eq-eqb _ _ (sym summed ∙ c.if-total-job.false ∙ sized)))
