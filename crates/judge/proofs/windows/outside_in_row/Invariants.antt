-- `judge::windows::outside_in_row` meets its contract. Loop invariant: rule
-- 15 holds in the row's first j intervals.
use Rattle.std.proofs.Common.{◌≡◌, not, ◌||◌, [], ◌∷◌, eqb, get_or}
use Rattle.plan.specs.Refusal.{outside_window}
use Rattle.plan.specs.Report.{first, fault}
use Rattle.judge.specs.Constraints.{within}
use Rattle.judge.proofs.windows.outside_in_row.Given as goal

abbrev pub invariant-loop-j : goal.invariant-loop-j
invariant-loop-j l =
    first (λ k. fault (not (within l.times l.job.release.0 l.job.deadline.0 k || eqb (get_or l.row k 0) 0)) (outside_window ∷ l.i ∷ k ∷ [])) l.j ≡ []
