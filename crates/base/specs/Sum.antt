-- Finite sums: one definition for rows, columns, classes of jobs, suffixes and double sums.
use Rattle.std.specs.Prelude.{Bool, true, false, List, ℕ, zero, suc, ◌+◌, ◌*◌, get_or}

-- The sum f 0 + … + f (n − 1), which is 0 if n is 0.
unfoldable pub sum : (ℕ → ℕ) → ℕ → ℕ
sum f zero = 0
sum f (suc n) = sum f n + f n

-- x if the test is true, otherwise 0: under a sum it keeps the terms that pass a test.
abbrev pub on : Bool → ℕ → ℕ
on true x = x
on false x = 0

-- The element at index start + stride × k, or 0 past the end of the list.
abbrev pub strided : List ℕ → ℕ → ℕ → ℕ → ℕ
strided l start stride k = get_or l (start + stride * k) 0
