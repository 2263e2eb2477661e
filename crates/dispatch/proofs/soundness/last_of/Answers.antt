-- `dispatch::soundness::last_of` meets its contract:
-- `so_far` is the greatest of the first i deadlines.
use mathlib.Core.Path.{◌≡◌, sym, ◌∙◌, ap}
use Prim.Native.Nat.{ℕ, max}
use Rattle.std.specs.Ordering.{ord_max, nat_cmp}
use Rattle.std.proofs.lemmas.Bool.Decides.{nat_tests}
use native.Mathlib.Omega.{arith}
use Rattle.base.specs.Below.{greatest}
use Rattle.base.proofs.Below.{greatest_start, greatest_next}
use Rattle.dispatch.proofs.soundness.last_of.Goals as goal

-- The greater of two numbers, as `max` tells it.
greater : (a b : ℕ) → ord_max nat_cmp a b ≡ max a b
greater a b = grind (arith, nat_tests)

pub loop-i-init : goal.loop-i-init
loop-i-init c = sym (greatest_start _)

pub loop-i-preserved : goal.loop-i-preserved
loop-i-preserved c = c.max-so_far.ensures ∙ greater _ _ ∙ greatest_next _ c.loop-i.i c.loop-i.invariant

pub returns : goal.returns
returns c =
    let whole : c.loop-i.i ≡ c.args.jobs = omega arith in
    c.loop-i.invariant ∙ ap (greatest _) whole
