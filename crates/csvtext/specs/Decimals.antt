-- Numbers in comma-separated text: decimals of any number of digits, without a sign and without a leading zero.
use Rattle.std.specs.Prelude.{Bool, true, false, not, ◌&&◌, [], ◌∷◌, ℕ, ◌+◌, ◌*◌, ◌-◌, min, leb, eqb}
use Rattle.plan.specs.Kinds.{Bytes}
use Rattle.text.specs.Text.{digit}

-- The byte of a digit.
abbrev pub is_digit : ℕ → Bool
is_digit b = leb (digit 0) b && leb b (digit 9)

-- Digits alone.
unfoldable pub are_digits : Bytes → Bool
are_digits [] = true
are_digits (b ∷ l) = is_digit b && are_digits l

-- A decimal: one digit, or more of which the first is not 0.
unfoldable pub is_decimal : Bytes → Bool
is_decimal [] = false
is_decimal (b ∷ []) = is_digit b
is_decimal (b ∷ c ∷ l) = not (eqb b (digit 0)) && are_digits (b ∷ c ∷ l)

-- The number that digits stand for, after those that stand for `so_far`.
unfoldable pub decimal_from : (so_far : ℕ) → Bytes → ℕ
decimal_from so_far [] = so_far
decimal_from so_far (b ∷ l) = decimal_from (so_far * 10 + (b - digit 0)) l

-- A number above every bound of the rules. Any greater one is taken for this one, however many digits it
-- has: rule 9 refuses both.
abbrev pub most_number : ℕ
most_number = 1_000_000_000

-- The number that a decimal stands for, at most `most_number`.
abbrev pub number_in : Bytes → ℕ
number_in l = min (decimal_from 0 l) most_number
