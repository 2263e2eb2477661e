-- Texts as bytes: words, numbers in decimal, and names.
use Rattle.std.specs.Prelude.{cond, List, [], ◌∷◌, ◌++◌, ℕ, zero, suc, ◌+◌, ◌-◌, ◌/◌, ◌%◌, ltb, length, replicate}
use Prim.Native.Char.{code}
use Prim.Native.String.{String, [] as none, ◌∷◌ as ◌then◌}
use Rattle.plan.specs.Rules.{byte_of}
use Rattle.text.specs.declared.Digits.{Digits}

-- The codes of a text, which are its bytes if all of it is ASCII.
abbrev pub text : String → List ℕ
text none = []
text (c then s) = code c ∷ text s

-- The byte of the decimal digit d, for d below 10.
abbrev pub digit : ℕ → ℕ
digit d = 48 + d

-- The decimal digits of n followed by `tail`; if they are more than `count`, the lowest `count` of them.
unfoldable pub digits : (count n : ℕ) (tail : List ℕ) → List ℕ
digits zero n tail = tail
digits (suc most) n tail = cond (ltb n 10) (digit n ∷ tail) (digits most (n / 10) (digit (n % 10) ∷ tail))

-- A number in decimal; n has at most n + 1 digits.
abbrev pub decimal : ℕ → List ℕ
decimal n = digits (suc n) n []

-- The greatest number of digits of a 32-bit number.
abbrev pub most_digits : ℕ
most_digits = 10

-- A number in decimal at the end of `most_digits` bytes, with zeros before it, and the index of its
-- first digit. More than `most_digits` digits have index 0 and no zeros.
abbrev pub digits_of : ℕ → Digits
digits_of n =
    let from = most_digits - length (decimal n) in
    record { bytes = replicate from 0 ++ decimal n; from = from }

-- The lowest eight bytes of a number, highest first: all bytes of a name.
abbrev pub name_text : ℕ → List ℕ
name_text x =
    byte_of x 7 ∷ byte_of x 6 ∷ byte_of x 5 ∷ byte_of x 4 ∷ byte_of x 3 ∷ byte_of x 2 ∷ byte_of x 1 ∷ byte_of x 0 ∷ []
