-- `dispatch::essential::grant_hi` meets its contract: after i iterations what is due to the HI jobs among the first i is
-- written and added up, and every claim that was right still is.
use mathlib.Core.Path.{◌≡◌}
use mathlib.Core.Bool.{true}
use Prim.Native.Nat.{ℕ, ◌*◌, ◌≤◌}
use Rattle.base.specs.Fill.{filled}
use Rattle.base.specs.Sum.{sum, on}
use Rattle.dispatch.specs.Inner.Turns.{class_in, due_by, unknown, KnownDue}
use Rattle.dispatch.proofs.essential.grant_hi.Given as goal

abbrev pub invariant-loop-i : goal.invariant-loop-i
invariant-loop-i l =
    (l.grants ≡ filled (λ k. on (class_in true l.clock.0 l.cols k) (due_by l.dues k)) l.i l.initial.grants)
    × (l.total.0 ≡ sum (λ k. on (class_in true l.clock.0 l.cols k) (due_by l.dues k)) l.i)
    × (l.total.0 ≤ l.i * unknown)
    × ((k : ℕ) → KnownDue l.initial.claims (due_by l.dues) k → KnownDue l.claims (due_by l.dues) k)
