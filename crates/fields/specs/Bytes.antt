-- Numbers as bytes, highest byte first.
use Rattle.std.specs.Prelude.{cond, List, [], ◌∷◌, ℕ, zero, suc, ◌+◌, ◌*◌, ◌/◌, ◌%◌, ◌^◌, eqb, length}

-- `bytes w x`: the w bytes of x, highest first, if x < 256^w. Otherwise, for w > 0, the first element
-- is x / 256^(w − 1), which is not a byte, and the rest are the lowest w − 1 bytes of x; for w = 0
-- the list is empty.
unfoldable pub bytes : (w x : ℕ) → List ℕ
bytes zero x = []
bytes (suc w) x = x / 256 ^ w ∷ bytes w (x % 256 ^ w)

-- For the list b₁, …, bₙ: so_far × 256^n + b₁ × 256^(n − 1) + … + bₙ, whether or not each is a byte.
unfoldable pub value : ℕ → List ℕ → ℕ
value so_far [] = so_far
value so_far (b ∷ l) = value (so_far * 256 + b) l

-- The number of w bytes, highest first; 0 for more or fewer bytes.
abbrev pub value_of : (w : ℕ) → List ℕ → ℕ
value_of w l = cond (eqb (length l) w) (value 0 l) 0
