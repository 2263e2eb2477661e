-- A column of pairs as the loop visits it, last interval first: updating a figure with two pairs of
-- one deadline is updating it with the better one.
use mathlib.Core.Path.{◌≡◌, refl, sym, ◌∙◌, ap}
use mathlib.Core.Bool.{Bool, true, false, cond, ◌&&◌, ◌||◌, or-true, true≢false}
use mathlib.Core.List.{List}
use Prim.Native.Nat.{ℕ, zero, suc, ◌+◌, ◌*◌, ◌-◌, ◌≤◌, ◌<◌}
use native.Mathlib.Nat.{mul-le-mul}
use native.Mathlib.Omega.{arith}
use borrow.Author.Tests.{ltb-true, lt-ltb}
use lib.Dec.{ltb}
use lib.IntN.{ℤ, pos, sub_ℕ}
use lib.ListN.{get_or}
use lib.Signed.{lt_z, le_z}
use Rattle.base.specs.Sum.{sum}
use Rattle.judge.specs.Slack.{Figure, none_essential, least, refused}
use Rattle.judge.specs.Inner.Columns.{spare, sooner, column_taken}
use Rattle.judge.proofs.Signed.{difference_at_most, below_not, at_most_not, not_below_at_most, not_at_most_below, not_below_two}

-- The test by which `sooner` lets a pair replace the figure so far.
abbrev comes : ℤ → ℕ → ℤ → ℕ → Bool
comes s l best l₀ = lt_z s best || le_z s best && ltb l l₀

-- A pair at a lower interval replaces another exactly if its slack is no greater.
comes_lower : (a b : ℤ) (i j : ℕ) → j < i → comes b j a i ≡ le_z b a
comes_lower a b i j h = rw (lt-ltb j i h) (go (lt_z b a) refl (le_z b a) refl)
  where
    go : (x : Bool) → lt_z b a ≡ x → (y : Bool) → le_z b a ≡ y → (x || y && true) ≡ y
    go x e true k = or-true x
    go true e false k = absurd (true≢false (sym (not_at_most_below b a k) ∙ below_not b a e))
    go false e false k = refl

module _ (a b s : ℤ) (i j l : ℕ) (h : j < i) where
  -- If the pair (a, i) replaces (s, l), so does (b, j) with b ≤ a and j < i; if it
  -- does not, neither does (b, j) with b > a.
  comes_too : le_z b a ≡ true → comes a i s l ≡ true → comes b j s l ≡ true
  comes_too k = go (lt_z a s) refl (le_z a s) refl
    where
      below : (x : Bool) → lt_z b s ≡ x → lt_z a s ≡ true → x ≡ true
      below true e c = refl
      below false e c = absurd (true≢false (sym c ∙ not_below_two s b a e (at_most_not b a k)))

      go : (x : Bool) → lt_z a s ≡ x → (y : Bool) → le_z a s ≡ y → (x || y && ltb i l) ≡ true → comes b j s l ≡ true
      go true e y c t = rw (below (lt_z b s) refl e) refl
      go false e true c t =
          rw (not_below_at_most b s (not_below_two b a s (at_most_not b a k) (at_most_not a s c)), lt-ltb j l (omega (arith, ltb-true i l t))) (or-true (lt_z b s))
      go false e false c t = absurd (true≢false (sym t))

  comes_neither : le_z b a ≡ false → comes a i s l ≡ false → comes b j s l ≡ false
  comes_neither k = go (lt_z a s) refl
    where
      less : lt_z a b ≡ true
      less = not_at_most_below b a k

      above : lt_z a s ≡ false → (y : Bool) → le_z b s ≡ y → y ≡ false
      above e true c = absurd (true≢false (sym less ∙ not_below_two b s a (at_most_not b s c) e))
      above e false c = refl

      go : (x : Bool) → lt_z a s ≡ x → (x || le_z a s && ltb i l) ≡ false → comes b j s l ≡ false
      go true e t = absurd (true≢false t)
      go false e t = rw (not_below_two s a b e (below_not a b less), above e (le_z b s) refl) refl

-- Updating with two pairs, the second at a lower interval, is updating with the one
-- of lesser slack, or the second if equal.
pub sooner_two : (f : Figure) (a b : ℤ) (i j t : ℕ) → j < i → sooner (sooner f a i t) b j t ≡ sooner f (cond (le_z b a) b a) (cond (le_z b a) j i) t
sooner_two none_essential a b i j t h = rw (comes_lower a b i j h) (go (le_z b a))
  where
    go : (x : Bool) → cond x (least b j t) (least a i t) ≡ least (cond x b a) (cond x j i) t
    go true = refl
    go false = refl
sooner_two (least s l D) a b i j t h = go (comes a i s l) refl (le_z b a) refl
  where
    go : (x : Bool) → comes a i s l ≡ x → (y : Bool) → le_z b a ≡ y
        → sooner (cond x (least a i t) (least s l D)) b j t ≡ sooner (least s l D) (cond y b a) (cond y j i) t
    go true e true k = rw (comes_lower a b i j h, k, comes_too a b s i j l h k e) refl
    go true e false k = rw (comes_lower a b i j h, k, e) refl
    go false e true k = refl
    go false e false k = rw (e, comes_neither a b s i j l h k e) refl
sooner_two (refused report) a b i j t h = refl

-- A starting pair at interval m, with a slack that none of the
-- column exceeds, does not change the result.
pub taken_start : (d : ℕ) (sums times : List ℕ) (m top : ℕ) (f : Figure) → 0 < m → d * get_or times m 0 ≤ top
    → column_taken d sums times m m (sooner f (pos top) m (get_or times m 0)) ≡ column_taken d sums times m m f
unfolding column_taken
taken_start d sums times zero top f h b = absurd (omega arith)
taken_start d sums times (suc m) top f h b =
    let no_more : le_z (spare d sums times (suc m) m) (pos top) ≡ true
    = difference_at_most (d * (get_or times (suc m) 0 - get_or times m 0)) _ top (omega (arith, mul-le-mul {n₁ = d} {m₁ = get_or times (suc m) 0 - get_or times m 0} {n₂ = d} {m₂ = get_or times (suc m) 0} (omega arith) (omega arith))) in
    ap (column_taken d sums times (suc m) m)
    (sooner_two f (pos top) (spare d sums times (suc m) m) (suc m) m (get_or times (suc m) 0) (omega arith) ∙ rw no_more refl)

-- One iteration of the backward loop: the figure updated with interval l − 1, where it is that of
-- one best pair so far, which that interval replaces if its slack is no greater.
pub taken_best : (d : ℕ) (sums times : List ℕ) (m l asked i : ℕ) (a b : ℤ) (known whole : Figure) (t : Bool) → 0 < l → l ≤ i
    → asked ≡ sum (λ k. get_or sums (l - 1 + k) 0) (m - (l - 1))
    → b ≡ sub_ℕ (d * (get_or times m 0 - get_or times (l - 1) 0)) asked
    → le_z b a ≡ t
    → column_taken d sums times m l (sooner known a i (get_or times m 0)) ≡ whole
    → column_taken d sums times m (l - 1) (sooner known (cond t b a) (cond t (l - 1) i) (get_or times m 0)) ≡ whole
unfolding column_taken
taken_best d sums times m zero asked i a b known whole t some later p q e so_far = absurd (omega arith)
taken_best d sums times m (suc l) asked i a b known whole t some later p q e so_far =
    let time = get_or times m 0 in
    let back : suc l - 1 ≡ l = omega arith in
    let slack : b ≡ spare d sums times m l = rw back at q ∙ ap (sub_ℕ (d * (get_or times m 0 - get_or times l 0))) (rw back at p) in
    rw back (ap (column_taken d sums times m l)
    (ap (λ x. sooner known (cond x b a) (cond x l i) time) (sym e) ∙ sym (sooner_two known a b i l time (omega arith))
    ∙ ap (λ z. sooner (sooner known a i time) z l time) slack)
    ∙ so_far)
