-- A row filled from a function.
use Rattle.std.specs.Prelude.{List, ℕ, zero, suc, set}

-- The list l with f at the indices below n, as far as it has them; the rest is unchanged.
unfoldable pub filled : (f : ℕ → ℕ) (n : ℕ) (l : List ℕ) → List ℕ
filled f zero l = l
filled f (suc n) l = set (filled f n l) n (f n)
