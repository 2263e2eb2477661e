-- Laws of signed numbers: their order, and that the difference of two numbers below 2^62 fits 64 bits.
use mathlib.Core.Path.{◌≡◌, refl, sym, ◌∙◌, ap}
use mathlib.Core.Bool.{Bool, true, false, cond, true≢false, false≢true}
use Prim.Native.Nat.{ℕ, suc, ◌-◌, ◌≤◌, ◌<◌}
use native.Mathlib.Omega.{arith}
use borrow.Author.Tests.{ltb-true, ltb-false, le-ltb, leb-true, le-leb}
use lib.Dec.{ltb}
use lib.IntN.{ℤ, pos, negsuc, sub_ℕ}
use lib.Signed.{lt_z, le_z}
use mir.Syntax.{w64}
use mir.Val.{SFits, to_z, of_z}
use mir.Facts.{to_z-of_z}
use Rattle.judge.specs.Inner.Widths.{most_side}

-- The difference of two numbers below 2^62 fits 64 bits.
pub difference_fits : (a b : ℕ) → a < most_side → b < most_side → SFits w64 (sub_ℕ a b)
difference_fits a b h k = go (ltb a b) refl
  where
    go : (t : Bool) → ltb a b ≡ t → SFits w64 (sub_ℕ a b)
    go true e = rw e (record { sfits = omega arith })
    go false e = rw e (record { sfits = omega arith })

-- A difference stored in 64 bits reads back unchanged.
pub kept_difference : (a b : ℕ) (s : ℤ) → a < most_side → b < most_side → s ≡ sub_ℕ a b → to_z w64 (of_z w64 s) ≡ sub_ℕ a b
kept_difference a b s h k e = ap (λ z. to_z w64 (of_z w64 z)) e ∙ to_z-of_z (difference_fits a b h k)

-- If a ≤ c, then a − b ≤ c.
pub difference_at_most : (a b c : ℕ) → a ≤ c → le_z (sub_ℕ a b) (pos c) ≡ true
difference_at_most a b c h = go (ltb a b)
  where
    go : (t : Bool) → le_z (cond t (negsuc (b - suc a)) (pos (a - b))) (pos c) ≡ true
    go true = refl
    go false = le-leb (a - b) c (omega arith)

-- `lt_z` is irreflexive and `le_z` is reflexive.
pub not_below_self : (s : ℤ) → lt_z s s ≡ false
not_below_self (pos a) = le-ltb a a (omega arith)
not_below_self (negsuc a) = le-ltb a a (omega arith)

pub at_most_self : (s : ℤ) → le_z s s ≡ true
at_most_self (pos a) = le-leb a a (omega arith)
at_most_self (negsuc a) = le-leb a a (omega arith)

-- If s < t or s ≤ t, then t is not below s.
pub below_not : (s t : ℤ) → lt_z s t ≡ true → lt_z t s ≡ false
below_not (pos a) (pos b) h = le-ltb b a (omega (arith, ltb-true a b h))
below_not (pos a) (negsuc b) h = absurd (false≢true h)
below_not (negsuc a) (pos b) h = refl
below_not (negsuc a) (negsuc b) h = le-ltb a b (omega (arith, ltb-true b a h))

pub at_most_not : (s t : ℤ) → le_z s t ≡ true → lt_z t s ≡ false
at_most_not (pos a) (pos b) h = le-ltb b a (leb-true a b h)
at_most_not (pos a) (negsuc b) h = absurd (false≢true h)
at_most_not (negsuc a) (pos b) h = refl
at_most_not (negsuc a) (negsuc b) h = le-ltb a b (leb-true b a h)

-- The order is total: s ≤ t if t is not below s, and t < s if not s ≤ t.
pub not_below_at_most : (s t : ℤ) → lt_z t s ≡ false → le_z s t ≡ true
not_below_at_most (pos a) (pos b) h = le-leb a b (ltb-false b a h)
not_below_at_most (pos a) (negsuc b) h = absurd (true≢false h)
not_below_at_most (negsuc a) (pos b) h = refl
not_below_at_most (negsuc a) (negsuc b) h = le-leb b a (ltb-false a b h)

pub not_at_most_below : (s t : ℤ) → le_z s t ≡ false → lt_z t s ≡ true
not_at_most_below s t h = go (lt_z t s) refl
  where
    go : (x : Bool) → lt_z t s ≡ x → x ≡ true
    go true e = refl
    go false e = absurd (true≢false (sym (not_below_at_most s t e) ∙ h))

-- The relation "not below" is transitive.
pub not_below_two : (a b c : ℤ) → lt_z b a ≡ false → lt_z c b ≡ false → lt_z c a ≡ false
not_below_two (pos a) (pos b) (pos c) h k = le-ltb c a (omega (arith, ltb-false b a h, ltb-false c b k))
not_below_two (pos a) (pos b) (negsuc c) h k = absurd (true≢false k)
not_below_two (pos a) (negsuc b) c h k = absurd (true≢false h)
not_below_two (negsuc a) b (pos c) h k = refl
not_below_two (negsuc a) (pos b) (negsuc c) h k = absurd (true≢false k)
not_below_two (negsuc a) (negsuc b) (negsuc c) h k = le-ltb a c (omega (arith, ltb-false a b h, ltb-false b c k))

-- Two numbers of which neither is below the other are equal.
pub same_both : (s t : ℤ) → lt_z s t ≡ false → lt_z t s ≡ false → s ≡ t
same_both (pos a) (pos b) h k = ap pos (omega (arith, ltb-false a b h, ltb-false b a k))
same_both (pos a) (negsuc b) h k = absurd (true≢false k)
same_both (negsuc a) (pos b) h k = absurd (true≢false h)
same_both (negsuc a) (negsuc b) h k = ap negsuc (omega (arith, ltb-false b a h, ltb-false a b k))
