-- The library's numbers of 2, 4 and 8 bytes, highest first, are the values of the bytes.
use Rattle.std.proofs.Common.{◌≡◌, ℕ, zero, suc, ◌+◌, ◌≤◌, ◌<◌, List, [], ◌∷◌, length, get_or, take, drop, refl, ◌∙◌, ap, arith}
use Rattle.std.specs.Int.{w16, w32, w64, from_be_bytes}
use Rattle.std.proofs.Math.Seq.{drop-cons, take_all}
use Rattle.fields.specs.Bytes.{value}

-- The n elements of a list from index k on, one by one.
each : (l : List ℕ) (k n : ℕ) → List ℕ
each l k zero = []
each l k (suc n) = get_or l k 0 ∷ each l (suc k) n

each_is : (l : List ℕ) (k n : ℕ) → k + n ≤ length l → each l k n ≡ take n (drop k l)
unfolding each
each_is l k zero h = refl
each_is l k (suc n) h =
    let inside : k < length l = omega arith in
    rw (drop-cons l k 0, each_is l (suc k) n (omega arith))

-- So a list of a known length is its elements.
whole : (l : List ℕ) (n : ℕ) → length l ≡ n → value 0 (each l 0 n) ≡ value 0 l
whole l n h = ap (value 0) (each_is l 0 n (omega arith) ∙ take_all n l (omega arith))

pub value_one : (l : List ℕ) → length l ≡ 1 → get_or l 0 0 ≡ value 0 l
unfolding each value
value_one l h = omega (arith, whole l 1 h)

pub value_two : (l : List ℕ) → length l ≡ 2 → from_be_bytes w16 (get_or l 0 0 ∷ get_or l 1 0 ∷ []) ≡ value 0 l
unfolding each value
value_two l h = omega (arith, whole l 2 h)

pub value_four : (l : List ℕ) → length l ≡ 4
    → from_be_bytes w32 (get_or l 0 0 ∷ get_or l 1 0 ∷ get_or l 2 0 ∷ get_or l 3 0 ∷ []) ≡ value 0 l
unfolding each value
value_four l h = omega (arith, whole l 4 h)

pub value_eight : (l : List ℕ) → length l ≡ 8
    → from_be_bytes w64
    (get_or l 0 0 ∷ get_or l 1 0 ∷ get_or l 2 0 ∷ get_or l 3 0 ∷ get_or l 4 0 ∷ get_or l 5 0 ∷ get_or l 6 0 ∷ get_or l 7 0 ∷ [])
    ≡ value 0 l
unfolding each value
value_eight l h = omega (arith, whole l 8 h)
