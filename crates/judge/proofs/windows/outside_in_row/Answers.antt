-- `judge::windows::outside_in_row` meets its contract. Loop invariant: rule
-- 15 holds in the row's first j intervals.
use Rattle.std.proofs.Common.{arith}
use Rattle.std.proofs.lemmas.Grind.{common_steps}
use Rattle.plan.proofs.Reports.{found_here}
use Rattle.judge.proofs.windows.outside_in_row.Goals as goal

pub returns-then-not-place_inside : goal.returns-then-not-place_inside
returns-then-not-place_inside c =
    found_here _ _ _ _ _ c.loop-j.invariant c.loop-j-test.true (grind (arith, common_steps))
