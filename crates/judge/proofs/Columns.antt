-- Laws of column sums: rows added in place, sums built backwards, and the lowest violating interval.
use mathlib.Core.Path.{◌≡◌, refl, sym, ◌∙◌, ap, ap₂}
use mathlib.Core.Bool.{Bool, true, false, not, cond, ◌&&◌}
use mathlib.Core.List.{List}
use mathlib.Core.Logic.{◌⊎◌, inl, inr}
use Prim.Native.Nat.{ℕ, zero, suc, ◌+◌, ◌*◌, ◌-◌, ◌≤◌, ◌<◌}
use native.Mathlib.Nat.{zero-add, add-zero, mul-le-mul_right}
use native.Mathlib.Omega.{arith}
use borrow.Author.Tests.{le-ltb, not-true}
use lib.Dec.{ltb, eqb}
use lib.ListN.{length, get_or, replicate, get_or-replicate}
use Rattle.base.specs.Sum.{sum, on}
use Rattle.base.proofs.SumLaws.{sum_bound, sum_ext, sum_none, sum_split, sum_start, sum_step}
use Rattle.base.proofs.Below.{every_at}
use Rattle.base.proofs.Logic.{by_order}
use Rattle.plan.specs.Edition.{most_jobs, most_intervals}
use Rattle.judge.specs.Inner.Widths.{most_at_place, most_side}
use Rattle.plan.specs.Rules.{is_absent, is_hi, deadline}
use Rattle.plan.specs.declared.kinds.Plan.{Plan}
use Rattle.judge.specs.Inner.Columns.{never, lowest, asks_more}

-- `new` is `old` with `add k` added at each index k below n, and unchanged from n on.
pub record Added (old : List ℕ) (add : ℕ → ℕ) (n : ℕ) (new : List ℕ) : Type 0 where
  pub long : length new ≡ length old
  pub done : (k : ℕ) → k < n → get_or new k 0 ≡ get_or old k 0 + add k
  pub rest : (k : ℕ) → n ≤ k → get_or new k 0 ≡ get_or old k 0

-- A sum that begins one index earlier has one more term.
pub sum_back : (g : ℕ → ℕ) (l m : ℕ) → l < m → sum (λ k. g (l + k)) (m - l) ≡ sum (λ k. g (suc l + k)) (m - suc l) + g l
sum_back g l m h =
    let one : m - l ≡ 1 + (m - suc l) = omega arith in
    let first : sum (λ k. g (l + k)) 1 ≡ g l
    = sum_step (λ k. g (l + k)) 0 ∙ ap (λ s. s + g (l + 0)) (sum_start (λ k. g (l + k))) ∙ zero-add (g (l + 0)) ∙ ap g (add-zero l) in
    let rest : sum (λ k. g (l + (1 + k))) (m - suc l) ≡ sum (λ k. g (suc l + k)) (m - suc l)
    = sum_ext _ _ (m - suc l) (λ k b. let e : l + (1 + k) ≡ suc l + k = omega arith in ap g e) in
    omega (arith, ap (sum (λ k. g (l + k))) one, sum_split (λ k. g (l + k)) 1 (m - suc l), first, rest)

-- The lowest of no numbers is `other`; the lowest from l on is l if the test holds
-- there, otherwise the lowest from l + 1 on.
pub lowest_end : (test : ℕ → Bool) (other m : ℕ) → other ≡ lowest test other m (m - m)
unfolding lowest
lowest_end test other m = let e : m - m ≡ 0 = omega arith in rw e refl

pub lowest_back : (test : ℕ → Bool) (other l m : ℕ) → l < m
    → cond (test l) l (lowest test other (suc l) (m - suc l)) ≡ lowest test other l (m - l)
unfolding lowest
lowest_back test other l m h = let e : m - l ≡ suc (m - suc l) = omega arith in rw e refl

-- One iteration of a backward loop: the sum from interval l − 1 on, which is small.
pub asked_next : (sums : List ℕ) (m l asked : ℕ) → (m ≤ most_intervals) × ((j : ℕ) → j < m → get_or sums j 0 ≤ most_jobs * most_at_place) → 0 < l → l ≤ m
    → asked ≡ sum (λ k. get_or sums (l + k) 0) (m - l)
    → (asked + get_or sums (l - 1) 0 ≡ sum (λ k. get_or sums (l - 1 + k) 0) (m - (l - 1))) × (asked + get_or sums (l - 1) 0 < most_side)
asked_next sums m zero asked fits some few e = absurd (omega arith)
asked_next sums m (suc l) asked fits some few e =
    let back : suc l - 1 ≡ l = omega arith in
    let whole : asked + get_or sums l 0 ≡ sum (λ k. get_or sums (l + k) 0) (m - l)
    = ap (λ s. s + get_or sums l 0) e ∙ sym (sum_back (λ k. get_or sums k 0) l m (omega arith)) in
    let bound = sum_bound (λ k. get_or sums (l + k) 0) (most_jobs * most_at_place) (m - l) (λ k b. fits.1 (l + k) (omega arith)) in
    let width = mul-le-mul_right {m = m - l} {n = most_intervals} (most_jobs * most_at_place) (omega (arith, fits.0)) in
    rw back (whole, omega (arith, whole, bound, width))

-- The lowest violating interval from l − 1 on: l − 1 if the sum exceeds what the rate carries from there.
pub lowest_step : (d : ℕ) (sums times : List ℕ) (m other l low asked carries : ℕ) (t : Bool) → 0 < l → l ≤ m
    → low ≡ lowest (asks_more d sums times m) other l (m - l)
    → asked ≡ sum (λ k. get_or sums (l - 1 + k) 0) (m - (l - 1))
    → carries ≡ d * (get_or times m 0 - get_or times (l - 1) 0)
    → ltb carries asked ≡ t
    → cond t (l - 1) low ≡ lowest (asks_more d sums times m) other (l - 1) (m - (l - 1))
lowest_step d sums times m other zero low asked carries t h b q p e f = absurd (omega arith)
lowest_step d sums times m other (suc l) low asked carries t h b q p e f =
    let back : suc l - 1 ≡ l = omega arith in
    let test : t ≡ asks_more d sums times m l = sym f ∙ ap₂ ltb (rw back at e) (rw back at p) in
    rw back (ap₂ (λ x n. cond x l n) test q ∙ lowest_back (asks_more d sums times m) other l m (omega arith))

-- Below the lowest the test fails; and the lowest is `other`, or the test holds at it.
pub lowest_before : (test : ℕ → Bool) (other l n k : ℕ) → l ≤ k → k < l + n → k < lowest test other l n → test k ≡ false
unfolding lowest
lowest_before test other l zero k a b c = absurd (omega arith)
lowest_before test other l (suc n) k a b c = go (test l) refl c (λ d e. lowest_before test other (suc l) n k d (omega arith) e)
  where
    go : (t : Bool) → test l ≡ t → k < cond t l (lowest test other (suc l) n) → (suc l ≤ k → k < lowest test other (suc l) n → test k ≡ false) → test k ≡ false
    go true e c rest = absurd (omega arith)
    go false e c rest = by_order l k (λ q. ap test (sym q) ∙ e) (λ q. rest q c) (λ q. absurd (omega arith))

pub lowest_at_lem : (test : ℕ → Bool) (other l n : ℕ)
    → (lowest test other l n ≡ other) ⊎ ((lowest test other l n < l + n) × (test (lowest test other l n) ≡ true))
unfolding lowest
lowest_at_lem test other l zero = inl refl
lowest_at_lem test other l (suc n) = go (test l) refl (lowest_at_lem test other (suc l) n)
  where
    go : (t : Bool) → test l ≡ t
        → (lowest test other (suc l) n ≡ other) ⊎ ((lowest test other (suc l) n < suc l + n) × (test (lowest test other (suc l) n) ≡ true))
        → (cond t l (lowest test other (suc l) n) ≡ other)
        ⊎ ((cond t l (lowest test other (suc l) n) < l + suc n) × (test (cond t l (lowest test other (suc l) n)) ≡ true))
    go true e rest = inr (omega arith, e)
    go false e (inl q) = inl q
    go false e (inr q) = inr (omega (arith, q.0), q.1)

-- If a time is absent from the deadlines, the sum over the jobs due at it is 0.
pub none_due : (deadlines : List ℕ) (time : ℕ) (f : ℕ → ℕ) → is_absent deadlines time ≡ true
    → sum (λ i. on (eqb (get_or deadlines i 0) time) (f i)) (length deadlines) ≡ 0
unfolding is_absent
none_due deadlines time f h =
    sum_none (λ i. on (eqb (get_or deadlines i 0) time) (f i)) (length deadlines)
    (λ i b. ap (λ t. on t (f i)) (not-true (eqb (get_or deadlines i 0) time) (every_at (λ k. not (eqb (get_or deadlines k 0) time)) (length deadlines) i h b)))

-- The row holds the deadlines of the HI jobs among the first n counted ones, and `never` elsewhere.
pub record DeadlinesTo (p : Plan) (n : ℕ) (row : List ℕ) : Type 0 where
  pub room : length row ≡ most_jobs
  pub each : (i : ℕ) → i < most_jobs → get_or row i 0 ≡ cond (ltb i n && is_hi p i) (deadline p i) never

pub deadlines_start : (p : Plan) → DeadlinesTo p 0 (replicate most_jobs never)
deadlines_start p = record { room = refl; each = λ i b. rw (le-ltb i 0 (omega arith)) (get_or-replicate most_jobs i never 0 b) }
