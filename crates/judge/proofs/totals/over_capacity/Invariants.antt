-- `judge::totals::over_capacity` meets its contract. Loop
-- invariant: rule 17 holds in the first j intervals.
use Rattle.std.proofs.Common.{◌≡◌, [], ◌∷◌, ◌*◌, ltb}
use Rattle.plan.specs.Refusal.{over_capacity}
use Rattle.plan.specs.Report.{first, fault}
use Rattle.judge.specs.Constraints.{interval_length, load}
use Rattle.judge.proofs.totals.over_capacity.Given as goal

abbrev pub invariant-loop-j : goal.invariant-loop-j
invariant-loop-j l =
    let p = l.hand.plan.now in
    first (λ k. fault (ltb (p.n.0 * interval_length p k) (load p l.hand.table.now k)) (over_capacity ∷ k ∷ [])) l.j ≡ []
