-- Laws of running sums: one loop iteration, and a sum restricted to a range of indices.
use mathlib.Core.Path.{◌≡◌, sym, ◌∙◌, ap}
use mathlib.Core.Bool.{Bool, false, ◌&&◌}
use Prim.Native.Nat.{ℕ, ◌+◌, ◌-◌, ◌≤◌, ◌<◌}
use native.Mathlib.Decide.{dec_lt}
use native.Mathlib.Omega.{arith}
use borrow.Author.Tests.{lt-ltb, le-ltb, le-leb, lt-leb}
use lib.Dec.{leb, ltb}
use Rattle.base.proofs.Choice.{on_zero}
use Rattle.base.specs.Sum.{sum, on}
use Rattle.base.proofs.SumLaws.{sum_start, sum_step, sum_ext, sum_none, sum_split}

-- Adding the next term, as a loop does.
pub sum_next : (f : ℕ → ℕ) {so_far last : ℕ} (n : ℕ) → so_far ≡ sum f n → last ≡ f n → so_far + last ≡ sum f (n + 1)
sum_next f n p q = omega (arith, sum_step f n)

-- A sum restricted to the indices from l on and below m is the sum of m − l terms from l on.
pub sum_window : (f : ℕ → ℕ) (test : ℕ → Bool) (l m n : ℕ) → m ≤ n → ((j : ℕ) → j < n → test j ≡ (leb l j && ltb j m))
    → sum (λ j. on (test j) (f j)) n ≡ sum (λ k. f (l + k)) (m - l)
sum_window f test l m n h t = go (dec_lt l m)
  where
    shut : (j : ℕ) → j < n → leb l j ≡ false → on (test j) (f j) ≡ 0
    shut j b e = ap (λ x. on x (f j)) (t j b ∙ ap (λ x. x && ltb j m) e)

    late : (j : ℕ) → j < n → l ≤ j → m ≤ j → on (test j) (f j) ≡ 0
    late j b a e =
        ap (λ x. on x (f j)) (t j b ∙ ap (λ x. x && ltb j m) (le-leb l j a) ∙ le-ltb j m e)

    inside : (j : ℕ) → j < n → l ≤ j → j < m → on (test j) (f j) ≡ f j
    inside j b a e = ap (λ x. on x (f j)) (t j b ∙ ap (λ x. x && ltb j m) (le-leb l j a) ∙ lt-ltb j m e)

    none : (j : ℕ) → j < n → m ≤ l → Dec (j < l) → on (test j) (f j) ≡ 0
    none j b a (yes p) = shut j b (lt-leb l j p)
    none j b a (no p) = late j b (omega arith) (omega arith)

    go : Dec (l < m) → sum (λ j. on (test j) (f j)) n ≡ sum (λ k. f (l + k)) (m - l)
    go (no p) =
        let empty : m - l ≡ 0 = omega arith in
        let nothing = sum_none (λ k. f (l + k)) (m - l) (λ k b. absurd (omega arith)) in
        sum_none (λ j. on (test j) (f j)) n (λ j b. none j b (omega arith) (dec_lt j l)) ∙ sym nothing
    go (yes p) =
        let g : ℕ → ℕ = λ j. on (test j) (f j) in
        let whole : l + (m - l + (n - m)) ≡ n = omega arith in
        let front : sum g l ≡ 0 = sum_none g l (λ k b. shut k (omega arith) (lt-leb l k b)) in
        let middle : sum (λ k. g (l + k)) (m - l) ≡ sum (λ k. f (l + k)) (m - l)
        = sum_ext _ _ (m - l) (λ k b. inside (l + k) (omega arith) (omega arith) (omega arith)) in
        let back : sum (λ k. g (l + (m - l + k))) (n - m) ≡ 0
        = sum_none (λ k. g (l + (m - l + k))) (n - m) (λ k b. late (l + (m - l + k)) (omega arith) (omega arith) (omega arith)) in
        omega (
          arith,
          ap (sum g) whole,
          sum_split g l (m - l + (n - m)),
          sum_split (λ k. g (l + k)) (m - l) (n - m),
          front,
          middle,
          back,
        )

pub sum_of_none : (test : ℕ → Bool) (f : ℕ → ℕ → ℕ) (m n : ℕ) → m ≡ 0 → sum (λ i. on (test i) (sum (f i) m)) n ≡ 0
sum_of_none test f m n e =
    sum_none _ n (λ i b. ap (λ k. on (test i) (sum (f i) k)) e ∙ ap (on (test i)) (sum_start (f i)) ∙ on_zero (test i))
