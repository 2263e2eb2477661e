-- Laws of decimal numbers: how the digits are computed from the
-- last to the first, how many there are, and where they stand.
use mathlib.Core.Path.{◌≡◌, refl, sym, ◌∙◌, ap}
use mathlib.Core.Bool.{Bool, true, false, cond}
use mathlib.Core.List.{List, [], ◌∷◌, ◌++◌}
use Prim.Native.Nat.{ℕ, zero, suc, ◌+◌, ◌-◌, ◌/◌, ◌%◌, ◌^◌, ◌≤◌, ◌<◌}
use native.Mathlib.Nat.{div-lt_iff_lt-mul, pow-suc}
use native.Mathlib.Decide.{dec_lt}
use native.Mathlib.Omega.{arith}
use borrow.Author.Tests.{lt-ltb, le-ltb}
use lib.Dec.{ltb}
use lib.ListN.{length, drop, set, replicate, length-append, length-replicate}
use lib.Seq.{drop_at}
use Rattle.text.specs.Text.{digits, digit, decimal, most_digits, digits_of}
use Rattle.text.specs.declared.Digits.{Digits}

-- The digits of a number with one digit, and of a number with more.
pub digits_one : (most n : ℕ) (tail : List ℕ) → n < 10 → digits (suc most) n tail ≡ digit n ∷ tail
unfolding digits
digits_one most n tail h = rw (lt-ltb n 10 h)

pub digits_more : (most n : ℕ) (tail : List ℕ) → 10 ≤ n → digits (suc most) n tail ≡ digits most (n / 10) (digit (n % 10) ∷ tail)
unfolding digits
digits_more most n tail h = rw (le-ltb n 10 h)

-- Dropping the last digit leaves one digit less.
pub shorter : (most n : ℕ) → n < 10 ^ suc most → n / 10 < 10 ^ most
shorter most n h = (div-lt_iff_lt-mul {k = 10} {x = n} {y = 10 ^ most} (omega arith)).1 (rw (pow-suc 10 most) at h)

-- If there is room for all digits, more room changes nothing.
digits_room : (most more n : ℕ) (tail : List ℕ) → n < 10 ^ suc most → most ≤ more → digits (suc most) n tail ≡ digits (suc more) n tail
digits_room zero more n tail h l = digits_one 0 n tail h ∙ sym (digits_one more n tail h)
digits_room (suc most) zero n tail h l = absurd (omega arith)
digits_room (suc most) (suc more) n tail h l =
    go (dec_lt n 10) (digits_room most more (n / 10) (digit (n % 10) ∷ tail) (shorter (suc most) n h) (omega arith))
  where
    go : Dec (n < 10)
        → digits (suc most) (n / 10) (digit (n % 10) ∷ tail) ≡ digits (suc more) (n / 10) (digit (n % 10) ∷ tail)
        → digits (suc (suc most)) n tail ≡ digits (suc (suc more)) n tail
    go (yes p) e = digits_one (suc most) n tail p ∙ sym (digits_one (suc more) n tail p)
    go (no p) e = digits_more (suc most) n tail (omega arith) ∙ e ∙ sym (digits_more (suc more) n tail (omega arith))

-- A number n has at most n + 1 digits.
pub few_digits : (n : ℕ) → n < 10 ^ suc n
few_digits zero = omega arith
few_digits (suc n) = omega (arith, few_digits n, pow-suc 10 (suc n))

-- Room for ten digits is enough for every number below 10^10.
pub digits_ten : (n : ℕ) → n < 10 ^ most_digits → digits most_digits n [] ≡ decimal n
digits_ten n h = go (dec_lt n 9)
  where
    go : Dec (n < 9) → digits most_digits n [] ≡ decimal n
    go (yes p) = sym (digits_room n 9 n [] (few_digits n) (omega arith))
    go (no p) = digits_room 9 n n [] h (omega arith)

digits_length : (most n : ℕ) (tail : List ℕ) → length (digits most n tail) ≤ most + length tail
unfolding digits
digits_length zero n tail = omega arith
digits_length (suc most) n tail = go (ltb n 10) (digits_length most (n / 10) (digit (n % 10) ∷ tail))
  where
    go : (b : Bool) → length (digits most (n / 10) (digit (n % 10) ∷ tail)) ≤ most + suc (length tail)
        → length (cond b (digit n ∷ tail) (digits most (n / 10) (digit (n % 10) ∷ tail))) ≤ suc most + length tail
    go true h = omega arith
    go false h = omega arith

-- A number below 10^10 has at most ten digits.
pub decimal_length : (n : ℕ) → n < 10 ^ most_digits → length (decimal n) ≤ most_digits
decimal_length n h = omega (arith, digits_length most_digits n [], ap length (digits_ten n h))

-- A digit stored at the last of the zeros before some bytes stands before those bytes.
pub digit_before : (from d : ℕ) (tail : List ℕ) → set (replicate (suc from) 0 ++ tail) from d ≡ replicate from 0 ++ (d ∷ tail)
digit_before zero d tail = refl
digit_before (suc from) d tail = ap (λ l. 0 ∷ l) (digit_before from d tail)

-- Once the bytes are zeros and then all digits, they are those of `digits_of`.
pub digits_found : (n from : ℕ) (l : List ℕ) → l ≡ replicate from 0 ++ decimal n → length l ≡ most_digits
    → ◌≡◌ {A = Digits} (record { bytes = l; from = from }) (digits_of n)
digits_found n from l e h =
    let start : most_digits - length (decimal n) ≡ from
    = omega (arith, ap length e, length-append (replicate from 0) (decimal n), length-replicate {A = ℕ} from 0) in
    rw (start, e) refl

-- The bytes of `digits_of` from its index on are the number in decimal, for every number below 10^10.
pub record Shown (n : ℕ) (d : Digits) : Type 0 where
  pub digits : drop d.from d.bytes ≡ decimal n
  pub start : d.from ≤ most_digits
  pub bytes : length d.bytes ≡ most_digits

pub shown : (n : ℕ) → n < 10 ^ most_digits → Shown n (digits_of n)
shown n h =
    let from = most_digits - length (decimal n) in
    record {
      digits = drop_at (replicate from 0) (decimal n) from (length-replicate from 0);
      start = omega arith;
      bytes = length-append (replicate from 0) (decimal n) ∙ omega (arith, length-replicate {A = ℕ} from 0, decimal_length n h);
    }
