-- Padding a list with its default value does not change what is read from it.
use mathlib.Core.Path.{◌≡◌, refl}
use mathlib.Core.List.{List, [], ◌∷◌, ◌++◌}
use Prim.Native.Nat.{ℕ, zero, suc}
use lib.ListN.{get_or, replicate}

-- A list of copies of the default reads as the default everywhere.
pub get_or_replicate : {A : Type 0} (n k : ℕ) (d : A) → get_or (replicate n d) k d ≡ d
get_or_replicate zero k d = refl
get_or_replicate (suc n) zero d = refl
get_or_replicate (suc n) (suc k) d = get_or_replicate n k d

pub get_or_pad : {A : Type 0} (l : List A) (n k : ℕ) (d : A) → get_or (l ++ replicate n d) k d ≡ get_or l k d
get_or_pad [] n k d = get_or_replicate n k d
get_or_pad (x ∷ l) n zero d = refl
get_or_pad (x ∷ l) n (suc k) d = get_or_pad l n k d
