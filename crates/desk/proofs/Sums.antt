-- Laws of turns, and of a sum in their order.
use mathlib.Core.Path.{◌≡◌, refl, ◌∙◌, ap}
use mathlib.Core.Bool.{Bool, true, false}
use Prim.Native.Nat.{ℕ, zero, suc, ◌-◌, ◌<◌}
use native.Mathlib.Omega.{arith}
use Rattle.base.specs.Sum.{sum}
use Rattle.base.proofs.SumLaws.{sum_ext, sum_front}
use Rattle.desk.specs.Timetable.{turn}

-- A turn is below the number of turns, and a turn's turn is where it began.
pub turn_below : (back : Bool) (n k : ℕ) → k < n → turn back n k < n
turn_below true n k h = omega arith
turn_below false n k h = h

pub turn_twice : (back : Bool) (n k : ℕ) → k < n → turn back n (turn back n k) ≡ k
turn_twice true n k h = omega arith
turn_twice false n k h = refl

-- A sum does not depend on the end from which it is taken.
sum_reversed : (f : ℕ → ℕ) (n : ℕ) → sum (λ k. f (n - suc k)) n ≡ sum f n
unfolding sum
sum_reversed f zero = refl
sum_reversed f (suc n) =
    let last : suc n - 1 ≡ n = omega arith in
    let rest : sum (λ k. f (suc n - suc (suc k))) n ≡ sum f n
    = sum_ext _ _ n (λ k b. ap f (omega arith)) ∙ sum_reversed f n in
    sum_front (λ k. f (suc n - suc k)) n ∙ omega (arith, ap f last, rest)

pub sum_turned : (back : Bool) (f : ℕ → ℕ) (n : ℕ) → sum (λ k. f (turn back n k)) n ≡ sum f n
sum_turned true f n = sum_reversed f n
sum_turned false f n = refl
