-- Laws of the position of a name in a list of names.
use mathlib.Core.Path.{◌≡◌, refl, sym, ◌∙◌, ap}
use mathlib.Core.Bool.{Bool, true, false, cond}
use mathlib.Core.List.{List, [], ◌∷◌}
use Prim.Native.Nat.{ℕ, zero, suc, ◌≤◌, ◌<◌}
use native.Mathlib.Omega.{arith}
use borrow.Author.Tests.{eq-eqb, eqb-true, lt-ltb}
use lib.Dec.{eqb, ltb}
use lib.ListN.{length, get_or}
use Rattle.std.specs.Prelude.{◌==◌, Some, None}
use Rattle.std.specs.List as list
use Rattle.std.proofs.lemmas.List.Recursion.{is_position_or_len}
use Rattle.planfile.specs.Reader.{position}
use Rattle.planfile.specs.Inner.Parts.{Distinct, found_at}

-- If the position is in bounds, the name is there; no index of the name is below its position.
pub position_found : (l : List ℕ) (x : ℕ) → position l x < length l → get_or l (position l x) 0 ≡ x
unfolding position
position_found [] x h = absurd (omega arith)
position_found (y ∷ l) x h = by (eqb y x) refl (position_found l x) h
  where
    by : (t : Bool) → eqb y x ≡ t → (position l x < length l → get_or l (position l x) 0 ≡ x)
        → cond t 0 (suc (position l x)) < suc (length l) → get_or (y ∷ l) (cond t 0 (suc (position l x))) 0 ≡ x
    by true e rest h = eqb-true y x e
    by false e rest h = rest (omega arith)

pub position_least : (l : List ℕ) (x r : ℕ) → r < length l → get_or l r 0 ≡ x → position l x ≤ r
unfolding position
position_least [] x r h e = absurd (omega arith)
position_least (y ∷ l) x zero h e = rw (eq-eqb y x e) (omega arith)
position_least (y ∷ l) x (suc r) h e = by (eqb y x) (position_least l x r (omega arith) e)
  where
    by : (t : Bool) → position l x ≤ r → cond t 0 (suc (position l x)) ≤ suc r
    by true rest = omega arith
    by false rest = omega arith

-- In a list of distinct names, an index of a name is its position.
pub position_only : (l : List ℕ) (x r : ℕ) → Distinct l → r < length l → get_or l r 0 ≡ x → r ≡ position l x
position_only l x r differ h e =
    let low = position_least l x r h e in
    differ r (position l x) h (omega arith) (e ∙ sym (position_found l x (omega arith)))

-- So that is what a search from any index on finds.
pub found_there : (l : List ℕ) (x r : ℕ) → Distinct l → r < length l → get_or l r 0 ≡ x → Some r ≡ found_at l x
found_there l x r differ h e = let p = position_only l x r differ h e in rw (← p, lt-ltb r (length l) h) refl

-- A search from 0 on finds the first index of a name, whether or not they are distinct.
pub found_first : (l : List ℕ) (x : ℕ) → list.position (λ y. y == x) l ≡ found_at l x
unfolding position
found_first l x = ap (λ n. cond (ltb n (length l)) (Some n) None) (sym (is_position_or_len (λ m. position m x) (λ y. y == x) refl (λ y m. ap (λ n. cond (y == x) 0 n) (omega arith)) l))
