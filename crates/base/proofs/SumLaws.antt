-- Laws of finite sums, for any length.
use mathlib.Core.Path.{◌≡◌, refl, sym, ◌∙◌, ap, ap₂}
use mathlib.Core.List.{List}
use mathlib.Core.Logic.{◌≢◌}
use Prim.Native.Nat.{ℕ, zero, suc, ◌+◌, ◌-◌, ◌*◌, ◌≤◌, ◌<◌}
use native.Mathlib.Nat.{suc-mul, add-zero, add-suc}
use native.Mathlib.Numerals.{add-one}
use native.Mathlib.Omega.{arith}
use lib.ListN.{length, get_or-eq_default}
use Rattle.base.specs.Sum.{sum, strided}
use Rattle.base.proofs.Logic.{below-or-last}

-- The empty sum is 0, and a sum of n + 1 terms is the sum of the first n plus term n.
pub sum_start : (f : ℕ → ℕ) → sum f 0 ≡ 0
unfolding sum
sum_start f = refl

pub sum_step : (f : ℕ → ℕ) (n : ℕ) → sum f (n + 1) ≡ sum f n + f n
unfolding sum
sum_step f n = rw add-one refl

-- Sums of pointwise equal terms are equal.
pub sum_ext : (f g : ℕ → ℕ) (n : ℕ) → ((k : ℕ) → k < n → f k ≡ g k) → sum f n ≡ sum g n
unfolding sum
sum_ext f g zero h = refl
sum_ext f g (suc n) h = ap₂ ◌+◌ (sum_ext f g n (λ k l. h k (omega arith))) (h n (omega arith))

-- Sums are monotone in their terms.
pub sum_mono : (f g : ℕ → ℕ) (n : ℕ) → ((k : ℕ) → k < n → f k ≤ g k) → sum f n ≤ sum g n
unfolding sum
sum_mono f g zero h = omega arith
sum_mono f g (suc n) h = omega (arith, sum_mono f g n (λ k l. h k (omega arith)), h n (omega arith))

-- A sum of zeros is 0.
pub sum_none : (f : ℕ → ℕ) (n : ℕ) → ((k : ℕ) → k < n → f k ≡ 0) → sum f n ≡ 0
unfolding sum
sum_none f zero h = refl
sum_none f (suc n) h = omega (arith, sum_none f n (λ k l. h k (omega arith)), h n (omega arith))

-- If every term is at most b, the sum of n terms is at most n × b.
pub sum_bound : (f : ℕ → ℕ) (b n : ℕ) → ((k : ℕ) → k < n → f k ≤ b) → sum f n ≤ n * b
unfolding sum
sum_bound f b zero h = omega arith
sum_bound f b (suc n) h = omega (arith, sum_bound f b n (λ k l. h k (omega arith)), h n (omega arith), suc-mul n b)

-- The sum of f + g is the sum of f plus the sum of g.
pub sum_add : (f g : ℕ → ℕ) (n : ℕ) → sum (λ k. f k + g k) n ≡ sum f n + sum g n
unfolding sum
sum_add f g zero = refl
sum_add f g (suc n) = omega (arith, sum_add f g n)

-- A sum of m + n terms splits at index m.
pub sum_split : (f : ℕ → ℕ) (m n : ℕ) → sum f (m + n) ≡ sum f m + sum (λ k. f (m + k)) n
unfolding sum
sum_split f m zero = rw (add-zero m) (omega arith)
sum_split f m (suc n) = rw add-suc (omega (arith, sum_split f m n))

-- The order of two summations can be exchanged.
pub sum_swap : (f : ℕ → ℕ → ℕ) (m n : ℕ) → sum (λ i. sum (f i) m) n ≡ sum (λ j. sum (λ i. f i j) n) m
unfolding sum
sum_swap f m zero = sym (sum_none (λ j. 0) m (λ k l. refl))
sum_swap f m (suc n) = ap (λ s. s + sum (f n) m) (sum_swap f m n) ∙ sym (sum_add (λ j. sum (λ i. f i j) n) (f n) m)

-- No term exceeds the sum.
pub term_le : (f : ℕ → ℕ) (n k : ℕ) → k < n → f k ≤ sum f n
unfolding sum
term_le f (suc n) k l = below-or-last k n l (λ p. omega (arith, term_le f n k p)) (λ e. rw e (omega arith))
term_le f zero k l = elim l [ ]

-- Terms that are at most those of an equal sum are equal to them.
pub same_terms : (f g : ℕ → ℕ) (n : ℕ) → ((k : ℕ) → k < n → f k ≤ g k) → sum g n ≤ sum f n → (k : ℕ) → k < n → f k ≡ g k
unfolding sum
same_terms f g zero h e k l = absurd (omega arith)
same_terms f g (suc n) h e k l =
    let less = sum_mono f g n (λ j m. h j (omega arith)) in
    below-or-last k n l
    (λ m. same_terms f g n (λ j b. h j (omega arith)) (omega (arith, less, h n (omega arith))) k m)
    (λ q. rw q (omega (arith, less, h n (omega arith))))

-- A sum, its first term apart.
pub sum_front : (f : ℕ → ℕ) (n : ℕ) → sum f (suc n) ≡ f 0 + sum (λ k. f (suc k)) n
unfolding sum
sum_front f zero = omega arith
sum_front f (suc n) = omega (arith, sum_front f n)

-- A sum in which one term is larger by r is larger by r.
pub sum_raised : (f g : ℕ → ℕ) (n i r : ℕ) → i < n → ((k : ℕ) → k < n → k ≢ i → g k ≡ f k) → g i ≡ f i + r → sum g n ≡ sum f n + r
unfolding sum
sum_raised f g (suc n) i r h same more =
    below-or-last i n h
    (λ l. omega (arith, sum_raised f g n i r l (λ k b. same k (omega arith)) more, same n (omega arith) (λ e. absurd (omega (arith, e)))))
    (λ e. omega (arith, sum_ext g f n (λ k b. same k (omega arith) (λ q. absurd (omega (arith, q, e)))), rw e at more))
sum_raised f g zero i r h same more = elim h [ ]

-- Terms that are at most others, one of them by r less, sum to r less at least.
pub sum_room : (f g : ℕ → ℕ) (n i r : ℕ) → i < n → ((k : ℕ) → k < n → f k ≤ g k) → f i + r ≤ g i → sum f n + r ≤ sum g n
unfolding sum
sum_room f g (suc n) i r h less more =
    below-or-last i n h
    (λ l. omega (arith, sum_room f g n i r l (λ k b. less k (omega arith)) more, less n (omega arith)))
    (λ e. omega (arith, sum_mono f g n (λ k b. less k (omega arith)), rw e at more))
sum_room f g zero i r h less more = elim h [ ]

-- Where all indices from r on lie past the end of the list, the first r terms of a strided sum give the whole.
pub sum_inside : (l : List ℕ) (start stride r count : ℕ) → r ≤ count
    → ((k : ℕ) → r ≤ k → k < count → length l ≤ start + stride * k)
    → sum (strided l start stride) r ≡ sum (strided l start stride) count
sum_inside l start stride r count few outside =
    let f : ℕ → ℕ = strided l start stride in
    let rest : sum (λ k. f (r + k)) (count - r) ≡ 0
    = sum_none (λ k. f (r + k)) (count - r)
    (λ k h. get_or-eq_default l 0 (outside (r + k) (omega arith) (omega arith))) in
    let whole : r + (count - r) ≡ count = omega arith in
    omega (arith, sum_split f r (count - r), ap (sum f) whole)
