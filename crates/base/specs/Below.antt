-- A test of all numbers below n, and the least and greatest value over them.
use Rattle.std.specs.Prelude.{Bool, true, ◌&&◌, ℕ, zero, suc, min, max}

-- Whether a test is true at every k below n.
unfoldable pub every : (test : ℕ → Bool) (n : ℕ) → Bool
every test zero = true
every test (suc n) = every test n && test n

-- The least of f 0, …, f (n − 1), or 0 if n is 0.
unfoldable pub least : (f : ℕ → ℕ) (n : ℕ) → ℕ
least f zero = 0
least f (suc zero) = f 0
least f (suc (suc n)) = min (least f (suc n)) (f (suc n))

-- The greatest of f 0, …, f (n − 1), or 0 if n is 0.
unfoldable pub greatest : (f : ℕ → ℕ) (n : ℕ) → ℕ
greatest f zero = 0
greatest f (suc n) = max (greatest f n) (f n)
