-- Laws of `every`, `least` and `greatest`.
use mathlib.Core.Path.{◌≡◌, refl, sym, ◌∙◌, ap, ap₂}
use mathlib.Core.Bool.{Bool, true, false, not, ◌&&◌, ◌||◌, and-true, and_assoc}
use mathlib.Core.List.{List, [], ◌∷◌}
use Prim.Native.Nat.{ℕ, zero, suc, ◌+◌, ◌-◌, ◌≤◌, ◌<◌, min, max}
use native.Mathlib.Nat.{add-zero, add-suc}
use native.Mathlib.Numerals.{add-one}
use native.Mathlib.Decide.{dec_lt}
use native.Mathlib.Omega.{arith}
use lib.ListN.{length, get_or}
use Rattle.std.specs.List.{list_all, list_any, fold, reduce}
use Rattle.std.specs.Option.{unwrap_or}
use Rattle.base.proofs.Logic.{below-or-last, and_left, and_right}
use Rattle.base.specs.Below.{every, least, greatest}

-- `every` as a loop computes it: true over 0 numbers,
-- and over n + 1 numbers the conjunction with test n.
pub every_start : (test : ℕ → Bool) → every test 0 ≡ true
unfolding every
every_start test = refl

pub every_next : (test : ℕ → Bool) {so_far last : Bool} (n : ℕ) → so_far ≡ every test n → last ≡ test n
    → (so_far && last) ≡ every test (n + 1)
unfolding every
every_next test n p q = rw (add-one, p, q) refl

-- Tests that agree below n have the same `every` over n.
pub every_ext : (test other : ℕ → Bool) (n : ℕ) → ((k : ℕ) → k < n → test k ≡ other k) → every test n ≡ every other n
unfolding every
every_ext test other zero h = refl
every_ext test other (suc n) h = ap₂ ◌&&◌ (every_ext test other n (λ k l. h k (omega arith))) (h n (omega arith))

-- `every` over n + 1 numbers is test 0 and the shifted test over n.
pub every_shift : (test : ℕ → Bool) (n : ℕ) → every test (suc n) ≡ (test 0 && every (λ k. test (suc k)) n)
unfolding every
every_shift test zero = sym (and-true (test 0))
every_shift test (suc n) =
    ap (λ b. b && test (suc n)) (every_shift test n) ∙ and_assoc (test 0) (every (λ k. test (suc k)) n) (test (suc n))

-- `every` over m + n numbers splits at m.
pub every_split : (test : ℕ → Bool) (m n : ℕ) → every test (m + n) ≡ (every test m && every (λ k. test (m + k)) n)
unfolding every
every_split test m zero = rw add-zero (sym (and-true (every test m)))
every_split test m (suc n) =
    rw add-suc
    (ap (λ b. b && test (m + n)) (every_split test m n) ∙ and_assoc (every test m) (every (λ k. test (m + k)) n) (test (m + n)))

-- `greatest` and `least` as a loop computes them.
pub greatest_start : (f : ℕ → ℕ) → greatest f 0 ≡ 0
unfolding greatest
greatest_start f = refl

pub greatest_next : (f : ℕ → ℕ) {so_far : ℕ} (n : ℕ) → so_far ≡ greatest f n → max so_far (f n) ≡ greatest f (n + 1)
unfolding greatest
greatest_next f n e = rw (add-one, e) refl

pub least_start : (f : ℕ → ℕ) → least f 0 ≡ 0
unfolding least
least_start f = refl

pub least_one : (f : ℕ → ℕ) → least f 1 ≡ f 0
unfolding least
least_one f = refl

pub least_next : (f : ℕ → ℕ) {so_far : ℕ} (n : ℕ) → 1 ≤ n → so_far ≡ least f n → min so_far (f n) ≡ least f (n + 1)
unfolding least
least_next f zero h e = absurd (omega arith)
least_next f (suc n) h e = rw (add-one, e) refl

-- The least element of a list, as `reduce` computes it, over the indices of the list.
least_front : (f g : ℕ → ℕ) (n : ℕ) → g 0 ≡ min (f 0) (f 1) → ((k : ℕ) → g (suc k) ≡ f (suc (suc k))) → least g (suc n) ≡ least f (suc (suc n))
unfolding least
least_front f g zero e h = e
least_front f g (suc n) e h = ap₂ min (least_front f g n e h) (h n)

pub least_folded : (a : ℕ) (l : List ℕ) → fold min a l ≡ least (λ k. get_or (a ∷ l) k 0) (suc (length l))
unfolding least
least_folded a [] = refl
least_folded a (x ∷ l) =
    least_folded (min a x) l ∙ least_front (λ k. get_or (a ∷ x ∷ l) k 0) (λ k. get_or (min a x ∷ l) k 0) (length l) refl (λ k. refl)

pub least_element : (l : List ℕ) → unwrap_or (reduce min l) 0 ≡ least (λ k. get_or l k 0) (length l)
unfolding least
least_element [] = refl
least_element (x ∷ l) = least_folded x l

-- `least f n` is a lower bound of f below n, and `greatest f n` an upper bound;
-- both are attained if n > 0.
pub least_lower : (f : ℕ → ℕ) (n i : ℕ) → i < n → least f n ≤ f i
unfolding least
least_lower f (suc zero) i h = let e : i ≡ 0 = omega arith in rw e (omega arith)
least_lower f (suc (suc n)) i h =
    below-or-last i (suc n) h (λ l. omega (arith, least_lower f (suc n) i l)) (λ e. rw e (omega arith))
least_lower f zero i h = elim h [ ]

pub least_attained : (f : ℕ → ℕ) (n : ℕ) → 0 < n → (i : ℕ) × (i < n) × (f i ≡ least f n)
unfolding least
least_attained f zero h = absurd (omega arith)
least_attained f (suc zero) h = (0, omega arith, refl)
least_attained f (suc (suc n)) h = go (dec_lt (f (suc n)) (least f (suc n))) (least_attained f (suc n) (omega arith))
  where
    go : Dec (f (suc n) < least f (suc n)) → (i : ℕ) × (i < suc n) × (f i ≡ least f (suc n))
        → (i : ℕ) × (i < suc (suc n)) × (f i ≡ min (least f (suc n)) (f (suc n)))
    go (yes l) w = (suc n, omega arith, omega arith)
    go (no l) w = (w.0, omega (arith, w.1), omega (arith, w.2))

pub greatest_upper : (f : ℕ → ℕ) (n i : ℕ) → i < n → f i ≤ greatest f n
unfolding greatest
greatest_upper f (suc n) i h = below-or-last i n h (λ l. omega (arith, greatest_upper f n i l)) (λ e. rw e (omega arith))
greatest_upper f zero i h = elim h [ ]

pub greatest_attained : (f : ℕ → ℕ) (n : ℕ) → 0 < n → (i : ℕ) × (i < n) × (f i ≡ greatest f n)
unfolding greatest
greatest_attained f zero h = absurd (omega arith)
greatest_attained f (suc zero) h = (0, omega arith, omega arith)
greatest_attained f (suc (suc n)) h = go (dec_lt (greatest f (suc n)) (f (suc n))) (greatest_attained f (suc n) (omega arith))
  where
    go : Dec (greatest f (suc n) < f (suc n)) → (i : ℕ) × (i < suc n) × (f i ≡ greatest f (suc n))
        → (i : ℕ) × (i < suc (suc n)) × (f i ≡ max (greatest f (suc n)) (f (suc n)))
    go (yes l) w = (suc n, omega arith, omega arith)
    go (no l) w = (w.0, omega (arith, w.1), omega (arith, w.2))

-- `every test n` is true exactly when the test is true at each k below n.
pub every_at : (test : ℕ → Bool) (n k : ℕ) → every test n ≡ true → k < n → test k ≡ true
unfolding every
every_at test (suc n) k e h =
    below-or-last k n h (λ l. every_at test n k (and_left (every test n) (test n) e) l) (λ q. rw q (and_right (every test n) (test n) e))
every_at test zero k e h = elim h [ ]

pub every_all : (test : ℕ → Bool) (n : ℕ) → ((k : ℕ) → k < n → test k ≡ true) → every test n ≡ true
unfolding every
every_all test zero h = refl
every_all test (suc n) h = rw (every_all test n (λ k l. h k (omega arith)), h n (omega arith)) refl

-- Functions that agree below n have the same `least` and `greatest`.
pub least_ext : (f g : ℕ → ℕ) (n : ℕ) → ((k : ℕ) → k < n → f k ≡ g k) → least f n ≡ least g n
unfolding least
least_ext f g zero h = refl
least_ext f g (suc zero) h = h 0 (omega arith)
least_ext f g (suc (suc n)) h = ap₂ min (least_ext f g (suc n) (λ k l. h k (omega arith))) (h (suc n) (omega arith))

pub greatest_ext : (f g : ℕ → ℕ) (n : ℕ) → ((k : ℕ) → k < n → f k ≡ g k) → greatest f n ≡ greatest g n
unfolding greatest
greatest_ext f g zero h = refl
greatest_ext f g (suc n) h = ap₂ max (greatest_ext f g n (λ k l. h k (omega arith))) (h n (omega arith))

-- If a test is true from m up to n, `every test n` equals `every test m`.
pub every_cut : (test : ℕ → Bool) (m n : ℕ) → m ≤ n → ((k : ℕ) → m ≤ k → k < n → test k ≡ true) → every test n ≡ every test m
every_cut test m n h more =
    let e : n ≡ m + (n - m) = omega arith in
    ap (every test) e ∙ every_split test m (n - m)
    ∙ ap (λ b. every test m && b) (every_all _ (n - m) (λ k b. more (m + k) (omega arith) (omega arith))) ∙ and-true (every test m)

-- A test of two parts at every number is both tests at every number.
interchange : (a b c d : Bool) → (a && b && (c && d)) ≡ (a && c && (b && d))
interchange true true c d = refl
interchange true false true d = refl
interchange true false false d = refl
interchange false b c d = refl

pub every_both : (test other : ℕ → Bool) (n : ℕ) → every (λ k. test k && other k) n ≡ (every test n && every other n)
unfolding every
every_both test other zero = refl
every_both test other (suc n) = ap (λ b. b && (test n && other n)) (every_both test other n) ∙ interchange (every test n) (every other n) (test n) (other n)

-- A test of every element of a list, and of no element, over the indices of the list.
pub every_element : {A : Type 0} (test : A → Bool) (d : A) (l : List A) → list_all test l ≡ every (λ k. test (get_or l k d)) (length l)
unfolding every
every_element test d [] = refl
every_element test d (x ∷ l) =
    ap (λ b. test x && b) (every_element test d l) ∙ sym (every_shift (λ k. test (get_or (x ∷ l) k d)) (length l))

not_or : (a b : Bool) → not (a || b) ≡ (not a && not b)
not_or true b = refl
not_or false b = refl

pub every_but : {A : Type 0} (test : A → Bool) (d : A) (l : List A) → not (list_any test l) ≡ every (λ k. not (test (get_or l k d))) (length l)
unfolding every
every_but test d [] = refl
every_but test d (x ∷ l) =
    not_or (test x) (list_any test l) ∙ ap (λ b. not (test x) && b) (every_but test d l)
    ∙ sym (every_shift (λ k. not (test (get_or (x ∷ l) k d))) (length l))
