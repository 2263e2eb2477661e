-- Nights of one plan at given speeds, for the corollaries of demand 3.
use mathlib.Core.Path.{◌≡◌, refl}
use mathlib.Core.Logic.{inr}
use mathlib.Core.Bool.{false, and-false}
use mathlib.Core.List.{List, [], ◌∷◌}
use Prim.Native.Nat.{ℕ, ◌≤◌, min}
use native.Mathlib.Omega.{arith}
use borrow.Author.Tests.{le-ltb}
use lib.ListN.{replicate}
use Rattle.plan.specs.Same.{Same}
use Rattle.plan.specs.declared.kinds.Plan.{Plan}
use Rattle.dispatch.specs.Dues.{all_dues}
use Rattle.promises.specs.Night.{slot, is_slot, run_after, slowed_before, Allowed, night_at, Between}

-- `Same` is reflexive.
pub same_self : (p : Plan) (table : List ℕ) → Same p table p table
same_self p table = record { n = refl; d = refl; count = refl; jobs = λ i h. refl; cells = refl }

-- A night of one plan at speeds from floor to normal is allowed.
pub night_allowed : (p : Plan) (table : List ℕ) (speeds : List ℕ) → Between p.d.0 p.n.0 speeds → Allowed p table (night_at p table speeds)
unfolding Allowed
night_allowed p table [] b = tt
night_allowed p table (v ∷ speeds) b = (night_allowed p table speeds b.2, inr (same_self p table, b.0, b.1))

-- At the normal rate no slot is slow.
pub never_slow : (p : Plan) (table : List ℕ) (D : ℕ) (speeds : List ℕ) → Between p.n.0 p.n.0 speeds → slowed_before p D (night_at p table speeds) ≡ false
unfolding slowed_before
never_slow p table D [] b = refl
never_slow p table D (v ∷ speeds) b =
    rw (
      never_slow p table D speeds b.2,
      le-ltb v (min p.n.0 (all_dues p table (run_after p (night_at p table speeds)))) (omega (arith, b.0)),
      and-false (is_slot (slot (record { plan = p; table = table; speed = v; row = replicate p.count 0 })) (run_after p (night_at p table speeds))),
    )
    refl

-- A list of speeds lies between wider bounds too.
pub lower_bound : (low lower high : ℕ) (speeds : List ℕ) → lower ≤ low → Between low high speeds → Between lower high speeds
lower_bound low lower high [] h b = tt
lower_bound low lower high (v ∷ speeds) h b = (omega (arith, b.0), b.1, lower_bound low lower high speeds h b.2)
