-- Case distinctions, and the parts of a conjunction or disjunction of tests.
use mathlib.Core.Path.{◌≡◌, refl, sym}
use mathlib.Core.Logic.{◌≢◌}
use mathlib.Core.Bool.{Bool, true, false, true≢false, ◌&&◌, ◌||◌}
use Prim.Native.Nat.{ℕ, suc, ◌≤◌, ◌<◌}
use native.Mathlib.Decide.{dec_lt}
use native.Mathlib.Omega.{arith}

-- A test is true or false.
pub if_true : {A : Type 0} (b : Bool) → (b ≡ true → A) → (b ≡ false → A) → A
if_true true holds fails = holds refl
if_true false holds fails = fails refl

-- x = y, x < y or y < x.
pub by_order : {A : Type 0} (x y : ℕ) → (x ≡ y → A) → (x < y → A) → (y < x → A) → A
by_order {A} x y same less more = go (dec_lt x y) (dec_lt y x)
  where
    go : Dec (x < y) → Dec (y < x) → A
    go (yes l) d = less l
    go (no n) (yes m) = more m
    go (no n) (no m) = same (omega arith)

-- x = y or not.
pub if_same : {A : Type 0} (x y : ℕ) → (x ≡ y → A) → (x ≢ y → A) → A
if_same x y same other = by_order x y same (λ l. other (omega arith)) (λ l. other (omega arith))

-- x < y or y ≤ x.
pub if_less : {A : Type 0} (x y : ℕ) → (x < y → A) → (y ≤ x → A) → A
if_less x y less more = by_order x y (λ e. more (omega arith)) less (λ l. more (omega arith))

-- An index below n + 1 is below n or equal to n.
pub below-or-last {ℓ} : {A : Type ℓ} (k n : ℕ) → k < suc n → (k < n → A) → (k ≡ n → A) → A
below-or-last {A = A} k n l below last = go (dec_lt k n)
  where
    go : Dec (k < n) → A
    go (yes p) = below p
    go (no p) = last (omega arith)

-- Both parts of a true conjunction are true.
pub and_left : (a b : Bool) → (a && b) ≡ true → a ≡ true
and_left true b e = refl
and_left false b e = e

pub and_right : (a b : Bool) → (a && b) ≡ true → b ≡ true
and_right true b e = e
and_right false b e = absurd (true≢false (sym e))

pub both : (a b : Bool) → (a && b) ≡ true → (a ≡ true) × (b ≡ true)
both a b e = (and_left a b e, and_right a b e)

-- Both parts of a false disjunction are false.
pub neither : (a b : Bool) → (a || b) ≡ false → (a ≡ false) × (b ≡ false)
neither true b e = absurd (true≢false e)
neither false b e = (refl, e)
