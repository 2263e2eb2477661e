-- `judge::totals::over_capacity` meets its contract. Loop
-- invariant: rule 17 holds in the first j intervals.
use Rattle.std.proofs.Common.{[], ◌∷◌, ap, sym, ◌∙◌, arith}
use Rattle.plan.specs.Refusal.{over_capacity}
use Rattle.plan.specs.Report.{fault}
use Rattle.plan.proofs.Reports.{found_here}
use Rattle.judge.specs.Verdict.{capacity_fault}
use Rattle.judge.proofs.totals.over_capacity.Goals as goal

pub returns-then-is_over : goal.returns-then-is_over
unfolding capacity_fault
returns-then-is_over c =
    found_here _ _ _ _ _ c.loop-j.invariant (omega arith)
    (ap (λ b. fault b (over_capacity ∷ c.loop-j.j ∷ [])) (sym c.is_over.ensures ∙ c.if-is_over.true))
