-- Laws of the bitwise or: it tells of several numbers at once whether all have room in some bits.
use mathlib.Core.Path.{◌≡◌}
use mathlib.Core.Bool.{◌&&◌, and-false}
use Prim.Native.Nat.{ℕ, ◌≤◌, ◌^◌}
use native.Mathlib.Omega.{arith}
use borrow.Author.Tests.{lt-ltb, le-ltb}
use lib.Bits.{bit_or, and_le_l, and_le_r, or_lt, or_add_and}
use lib.Dec.{ltb}
use Rattle.base.proofs.Logic.{if_less}

-- Neither number is above the or of both.
pub or_left : (a b : ℕ) → a ≤ bit_or a b
or_left a b = omega (arith, or_add_and a b, and_le_r a b)

pub or_right : (a b : ℕ) → b ≤ bit_or a b
or_right a b = omega (arith, or_add_and a b, and_le_l a b)

-- The or of two numbers has room in k bits exactly when both numbers have.
pub or_below : (k a b : ℕ) → ltb (bit_or a b) (2 ^ k) ≡ (ltb a (2 ^ k) && ltb b (2 ^ k))
or_below k a b =
    if_less a (2 ^ k)
    (λ l.
    if_less b (2 ^ k)
    (λ m. rw (lt-ltb a (2 ^ k) l, lt-ltb b (2 ^ k) m) (lt-ltb (bit_or a b) (2 ^ k) (or_lt k a b l m)))
    (λ m. rw (le-ltb b (2 ^ k) m, and-false (ltb a (2 ^ k))) (le-ltb (bit_or a b) (2 ^ k) (omega (arith, or_right a b)))))
    (λ l. rw (le-ltb a (2 ^ k) l) (le-ltb (bit_or a b) (2 ^ k) (omega (arith, or_left a b))))
