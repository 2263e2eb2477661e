-- Laws of stores: of one value at an index (`set`), and of a list at successive indices (`sets`).
use mathlib.Core.Path.{◌≡◌, refl, sym, ◌∙◌, ap}
use mathlib.Core.List.{List, [], ◌∷◌, ◌++◌}
use Prim.Native.Nat.{ℕ, suc, ◌+◌, ◌≤◌, ◌<◌}
use native.Mathlib.Nat.{add-zero, add-suc, suc-add, zero-add}
use native.Mathlib.Omega.{arith}
use lib.ListN.{length, take, drop, set}
use lib.Seq.{sets, sets-eq, set_comm, set_split, drop_at, length-take-le}

-- A store before the indices of `sets` commutes with it.
pub set_sets : (vs l : List ℕ) (j i a : ℕ) → i < j → set (sets l j vs) i a ≡ sets (set l i a) j vs
set_sets [] l j i a h = refl
set_sets (v ∷ vs) l j i a h =
    set_sets vs (set l j v) (suc j) i a (omega arith) ∙ ap (λ k. sets k (suc j) vs) (set_comm l j i v a (λ e. absurd (omega (arith, e))))

-- `sets` of two lists at adjacent indices is `sets` of their concatenation.
pub sets_append : (a b l : List ℕ) (i : ℕ) → sets (sets l i a) (i + length a) b ≡ sets l i (a ++ b)
sets_append [] b l i = ap (λ k. sets l k b) (add-zero i)
sets_append (x ∷ a) b l i =
    ap (λ k. sets (sets (set l i x) (suc i) a) k b) (add-suc i (length a) ∙ sym (suc-add i (length a))) ∙ sets_append a b (set l i x) (suc i)

-- `sets` from index 0 on replaces a prefix and keeps the rest.
pub sets_whole : (vs l : List ℕ) → length vs ≤ length l → sets l 0 vs ≡ vs ++ drop (length vs) l
sets_whole vs l h = sets-eq vs l 0 (omega arith) ∙ ap (λ k. vs ++ drop k l) (zero-add (length vs))

-- A write just after consecutive writes extends them by one.
pub sets_snoc : (a l : List ℕ) (i x : ℕ) → set (sets l i a) (i + length a) x ≡ sets l i (a ++ (x ∷ []))
sets_snoc a l i x = sets_append a (x ∷ []) l i

-- The suffix from index i on, after a write at i.
pub drop_set : (l : List ℕ) (i a : ℕ) → i < length l → drop i (set l i a) ≡ a ∷ drop (suc i) l
drop_set l i a h =
    ap (drop i) (set_split l i a h) ∙ drop_at (take i l) (a ∷ drop (suc i) l) i (length-take-le i l (omega arith))
