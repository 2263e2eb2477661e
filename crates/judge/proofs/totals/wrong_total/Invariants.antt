-- `judge::totals::wrong_total` meets its contract. Loop invariant: rule 16 holds for the first i jobs.
use Rattle.std.proofs.Common.{◌≡◌, [], ◌∷◌, not, eqb}
use Rattle.plan.specs.Refusal.{wrong_total}
use Rattle.plan.specs.Rules.{size}
use Rattle.plan.specs.Report.{first, fault}
use Rattle.judge.specs.Constraints.{total}
use Rattle.judge.proofs.totals.wrong_total.Given as goal

abbrev pub invariant-loop-i : goal.invariant-loop-i
invariant-loop-i l =
    let p = l.hand.plan.now in
    first (λ k. fault (not (eqb (total p l.hand.table.now k) (size p k))) (wrong_total ∷ k ∷ [])) l.i ≡ []
