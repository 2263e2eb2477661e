-- `judge::windows::row_inside` meets its contract. Loop invariant: `inside` says
-- whether rule 15 holds in the first j intervals.
use Rattle.std.proofs.Common.{◌≡◌, ◌||◌, eqb, get_or}
use Rattle.base.specs.Below.{every}
use Rattle.judge.specs.Constraints.{within}
use Rattle.judge.proofs.windows.row_inside.Given as goal

abbrev pub invariant-loop-j : goal.invariant-loop-j
invariant-loop-j l =
    l.inside ≡ every (λ k. within l.times l.job.release.0 l.job.deadline.0 k || eqb (get_or l.row k 0) 0) l.j
