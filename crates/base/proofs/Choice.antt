-- Laws of `on`: a number under a condition, 0 otherwise.
use mathlib.Core.Path.{◌≡◌, refl}
use mathlib.Core.Bool.{Bool, true, false, ◌&&◌}
use Prim.Native.Nat.{ℕ, ◌+◌, ◌≤◌}
use native.Mathlib.Omega.{arith}
use Rattle.base.specs.Sum.{sum, on}
use Rattle.base.proofs.SumLaws.{sum_none}

-- `on c` depends on its number only if c holds.
pub on_ext : (c : Bool) (y z : ℕ) → (c ≡ true → y ≡ z) → on c y ≡ on c z
on_ext true y z h = h refl
on_ext false y z h = refl

-- It is 0 if its number is 0 whenever c holds.
pub on_none : (c : Bool) (y : ℕ) → (c ≡ true → y ≡ 0) → on c y ≡ 0
on_none true y h = h refl
on_none false y h = refl

-- `on` is additive in its number.
pub on_parts : (c : Bool) (whole part other : ℕ) → part + other ≡ whole → on c part + on c other ≡ on c whole
on_parts true whole part other e = e
on_parts false whole part other e = refl

-- `on` is monotone in its number.
pub on_mono : (c : Bool) (y z : ℕ) → (c ≡ true → y ≤ z) → on c y ≤ on c z
on_mono true y z h = h refl
on_mono false y z h = omega arith

-- `on b x` is at most x.
pub on_less : (b : Bool) (x : ℕ) → on b x ≤ x
on_less true x = omega arith
on_less false x = omega arith

-- A condition within a condition is their conjunction.
pub on_both : (a b : Bool) (x : ℕ) → on a (on b x) ≡ on (a && b) x
on_both true b x = refl
on_both false b x = refl

-- `on b 0` is 0.
pub on_zero : (b : Bool) → on b 0 ≡ 0
on_zero true = refl
on_zero false = refl

-- `on t x` is at most any bound of x.
pub on_at_most : (t : Bool) (x b : ℕ) → x ≤ b → on t x ≤ b
on_at_most true x b h = h
on_at_most false x b h = omega arith

-- A sum of choices stays a sum under one more condition.
pub on_and : (h a b c : Bool) (u : ℕ) → on a u ≡ on b u + on c u → on (h && a) u ≡ on (h && b) u + on (h && c) u
on_and true a b c u e = e
on_and false a b c u e = omega arith

-- `on t` commutes with sums.
pub on_sum : (t : Bool) (f : ℕ → ℕ) (n : ℕ) → sum (λ k. on t (f k)) n ≡ on t (sum f n)
on_sum true f n = refl
on_sum false f n = sum_none _ n (λ k b. refl)

-- `on a x` is at most `on b y` if x is whenever a holds.
pub on_le : (a b : Bool) (x y : ℕ) → (a ≡ true → x ≤ on b y) → on a x ≤ on b y
on_le true b x y h = h refl
on_le false b x y h = omega arith
