-- `judge::windows::outside_window` meets its contract. Loop
-- invariant: rule 15 holds for the first i jobs.
use Rattle.std.proofs.Common.{◌≡◌, [], ◌∷◌}
use Rattle.plan.specs.Refusal.{outside_window}
use Rattle.plan.specs.Boundaries.{intervals}
use Rattle.plan.specs.Report.{first, fault}
use Rattle.judge.specs.Verdict.{is_outside}
use Rattle.judge.proofs.windows.outside_window.Given as goal

abbrev pub invariant-loop-i : goal.invariant-loop-i
invariant-loop-i l =
    let p = l.hand.plan.now in
    first (λ k. first (λ j. fault (is_outside p l.hand.table.now k j) (outside_window ∷ k ∷ j ∷ [])) (intervals p)) l.i ≡ []
