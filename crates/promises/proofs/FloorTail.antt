-- The floor tail: what rule 18 implies for every interval and
-- every time, for a plan given as functions.
use mathlib.Core.Path.{◌≡◌, refl, sym, ◌∙◌, ap}
use mathlib.Core.Logic.{◌≢◌, ◌⊎◌, inl, inr, ⊎_elim}
use mathlib.Core.Bool.{Bool, true, ◌&&◌}
use Prim.Native.Nat.{ℕ, zero, suc, ◌+◌, ◌*◌, ◌-◌, ◌≤◌, ◌<◌}
use native.Mathlib.Nat.{mul-le-mul_left, le_trans}
use native.Mathlib.Omega.{arith}
use borrow.Author.Tests.{le-leb, lt-leb, leb-true}
use lib.Dec.{leb}
use Rattle.base.proofs.Choice.{on_ext, on_none}
use Rattle.base.specs.Sum.{sum, on}
use Rattle.base.proofs.SumLaws.{sum_ext, sum_none, sum_split}
use Rattle.base.proofs.Logic.{both, if_less, if_same, below-or-last}

-- A plan as functions: the numbers of N jobs, the boundaries of K
-- intervals, the allotments, and the rates.
pub record Facts : Type 0 where
  pub N : ℕ
  pub K : ℕ
  pub rel : ℕ → ℕ
  pub size : ℕ → ℕ
  pub dl : ℕ → ℕ
  pub hi : ℕ → Bool
  pub x : ℕ → ℕ → ℕ
  pub b : ℕ → ℕ
  pub n : ℕ
  pub d : ℕ

-- The units of job i in the intervals from l on that end at or before D.
abbrev pub between : Facts → ℕ → ℕ → ℕ → ℕ
between f l D i = sum (λ j. on (leb l j && leb (f.b (suc j)) D) (f.x i j)) f.K

-- The class of D: the HI jobs with deadline at most D.
abbrev pub class : Facts → ℕ → ℕ → Bool
class f D i = f.hi i && leb (f.dl i) D

-- What the laws ask of a plan's times and allotments: rules 15 to 17 give it.
pub record Good (f : Facts) : Type 0 where
  pub rise : (j : ℕ) → j < f.K → f.b j < f.b (suc j)
  pub starts : (i : ℕ) → i < f.N → (m : ℕ) × (m ≤ f.K) × (f.b m ≡ f.rel i)
  pub ends : (i : ℕ) → i < f.N → (m : ℕ) × (m ≤ f.K) × (f.b m ≡ f.dl i)
  pub early : (i j : ℕ) → i < f.N → j < f.K → f.b j < f.rel i → f.x i j ≡ 0
  pub late : (i j : ℕ) → i < f.N → j < f.K → f.dl i < f.b (suc j) → f.x i j ≡ 0
  pub exact : (i : ℕ) → i < f.N → sum (f.x i) f.K ≡ f.size i
  pub within : (j : ℕ) → j < f.K → sum (λ i. f.x i j) f.N ≤ f.n * (f.b (suc j) - f.b j)

-- What rule 18 adds.
abbrev pub GoodFloor : Facts → Type 0
GoodFloor f = (l m : ℕ) → l < m → m ≤ f.K → sum (λ i. on (class f (f.b m) i) (between f l (f.b m) i)) f.N ≤ f.d * (f.b m - f.b l)

-- The allotments of job i before interval l, and what is left of its size after them.
abbrev pub before : Facts → ℕ → ℕ → ℕ
before f i l = sum (f.x i) l

abbrev pub tail : Facts → ℕ → ℕ → ℕ
tail f l i = f.size i - before f i l

module _ (f : Facts) (good : Good f) where
  -- Boundaries are monotone in their index, and strictly so.
  pub rises : (j k : ℕ) → j ≤ k → k ≤ f.K → f.b j ≤ f.b k
  rises j zero h e = rw (zero_is j h) (omega arith)
    where
      zero_is : (j : ℕ) → j ≤ 0 → j ≡ 0
      zero_is j h = omega arith
  rises j (suc k) h e =
      if_same j (suc k)
      (λ q. rw q (omega arith))
      (λ q. omega (arith, rises j k (omega arith) (omega arith), good.rise k (omega arith)))

  pub rises_strictly : (j k : ℕ) → j < k → k ≤ f.K → f.b j < f.b k
  rises_strictly j k h e = omega (arith, good.rise j (omega arith), rises (suc j) k h e)

  -- The allotments before an interval and those from it on sum to the size.
  pub before_size : (i l : ℕ) → i < f.N → l ≤ f.K → before f i l + sum (λ j. f.x i (l + j)) (f.K - l) ≡ f.size i
  before_size i l h e =
      let whole : l + (f.K - l) ≡ f.K = omega arith in
      sym (sum_split (f.x i) l (f.K - l)) ∙ ap (sum (f.x i)) whole ∙ good.exact i h

  pub before_le : (i l : ℕ) → i < f.N → l ≤ f.K → before f i l ≤ f.size i
  before_le i l h e = omega (arith, before_size i l h e)

  -- A job whose deadline is at or before the start of an interval has nothing left from there on.
  pub tail_reached : (i l : ℕ) → i < f.N → l ≤ f.K → f.dl i ≤ f.b l → tail f l i ≡ 0
  tail_reached i l h e m =
      let none : sum (λ j. f.x i (l + j)) (f.K - l) ≡ 0
      = sum_none (λ j. f.x i (l + j)) (f.K - l)
      (λ j q. good.late i (l + j) h (omega arith) (omega (arith, rises_strictly l (suc (l + j)) (omega arith) (omega arith)))) in
      omega (arith, before_size i l h e)

  -- A job in the class of D has its deadline at or before D.
  pub in_class_lem : (D i : ℕ) → class f D i ≡ true → f.dl i ≤ D
  in_class_lem D i e = leb-true (f.dl i) D (both (f.hi i) (leb (f.dl i) D) e).1

  -- What is left of a job due at or before boundary m is its units between interval l and m.
  tail_between : (i l m : ℕ) → i < f.N → l ≤ f.K → f.dl i ≤ f.b m → between f l (f.b m) i ≡ tail f l i
  tail_between i l m h e q =
      let whole : l + (f.K - l) ≡ f.K = omega arith in
      let term : ℕ → ℕ = λ j. on (leb l j && leb (f.b (suc j)) (f.b m)) (f.x i j) in
      let low : sum term l ≡ 0 = sum_none term l (λ j o. rw (lt-leb l j o) refl) in
      let high : sum (λ j. term (l + j)) (f.K - l) ≡ sum (λ j. f.x i (l + j)) (f.K - l)
      = sum_ext _ _ (f.K - l) (λ j o. rw (le-leb l (l + j) (omega arith)) (kept (l + j) (omega arith))) in
      omega (arith, ap (sum term) whole, sum_split term l (f.K - l), low, high, before_size i l h e)
    where
      kept : (j : ℕ) → j < f.K → on (leb (f.b (suc j)) (f.b m)) (f.x i j) ≡ f.x i j
      kept j o =
          if_less (f.b m) (f.b (suc j))
          (λ g. rw (lt-leb (f.b (suc j)) (f.b m) g, good.late i j h o (omega arith)) refl)
          (λ g. rw (le-leb (f.b (suc j)) (f.b m) g) refl)

  -- Some job below c is due at time D, or none is.
  due_at : (D c : ℕ) → ((i : ℕ) × (i < c) × (f.dl i ≡ D)) ⊎ ((i : ℕ) → i < c → f.dl i ≢ D)
  due_at D zero = inr (λ i h. absurd (omega arith))
  due_at D (suc c) = if_same (f.dl c) D (λ q. inl (c, omega arith, q)) (λ q. further (due_at D c) q)
    where
      further : ((i : ℕ) × (i < c) × (f.dl i ≡ D)) ⊎ ((i : ℕ) → i < c → f.dl i ≢ D) → f.dl c ≢ D
          → ((i : ℕ) × (i < suc c) × (f.dl i ≡ D)) ⊎ ((i : ℕ) → i < suc c → f.dl i ≢ D)
      further (inl w) q = inl (w.0, omega (arith, w.1), w.2)
      further (inr none) q = inr (λ i h. below-or-last i c h (none i) (λ e. rw e q))

  -- The floor tail: from every interval on, what is left of the HI jobs due at or before D
  -- is at most the floor's capacity until D.
  pub floor_tail : GoodFloor f → (l D : ℕ) → l ≤ f.K → sum (λ i. on (class f D i) (tail f l i)) f.N ≤ f.d * (D - f.b l)
  floor_tail floor l zero e =
      omega (
        arith,
        sum_none (λ i. on (class f 0 i) (tail f l i)) f.N
            (λ i h. on_none (class f 0 i) (tail f l i) (λ c. tail_reached i l h e (omega (arith, in_class_lem 0 i c)))),
      )
  floor_tail floor l (suc D) e = ⊎_elim at_deadline (between_deadlines (floor_tail floor l D e)) (due_at (suc D) f.N)
    where
      S : ℕ → ℕ
      S t = sum (λ i. on (class f t i) (tail f l i)) f.N

      at_deadline : (i : ℕ) × (i < f.N) × (f.dl i ≡ suc D) → S (suc D) ≤ f.d * (suc D - f.b l)
      at_deadline w = at_boundary_lem (good.ends w.0 w.1)
        where
          at_boundary_lem : (m : ℕ) × (m ≤ f.K) × (f.b m ≡ f.dl w.0) → S (suc D) ≤ f.d * (suc D - f.b l)
          at_boundary_lem g =
              let is : f.b g.0 ≡ suc D = g.2 ∙ w.2 in
              if_less l g.0
              (λ o. rw (← is)
              (rw (sum_ext _ _ f.N (λ i h. on_ext (class f (f.b g.0) i) _ _ (λ c. tail_between i l g.0 h e (in_class_lem (f.b g.0) i c))))
              at (floor l g.0 o g.1)))
              (λ o. omega (
                arith,
                sum_none (λ i. on (class f (suc D) i) (tail f l i)) f.N
                    (λ i h. on_none (class f (suc D) i) (tail f l i)
                    (λ c. tail_reached i l h e (omega (arith, in_class_lem (suc D) i c, rises g.0 l o e)))),
              ))

      between_deadlines : S D ≤ f.d * (D - f.b l) → ((i : ℕ) → i < f.N → f.dl i ≢ suc D) → S (suc D) ≤ f.d * (suc D - f.b l)
      between_deadlines so_far none =
          rw (sum_ext _ _ f.N (λ i h. ap (λ t. on (f.hi i && t) (tail f l i)) (same_test i (none i h))))
          (le_trans so_far (mul-le-mul_left f.d later))
        where
          later : D - f.b l ≤ suc D - f.b l
          later = omega arith

          same_test : (i : ℕ) → f.dl i ≢ suc D → leb (f.dl i) (suc D) ≡ leb (f.dl i) D
          same_test i q =
              if_less D (f.dl i)
              (λ g. lt-leb (f.dl i) (suc D) (omega arith) ∙ sym (lt-leb (f.dl i) D g))
              (λ g. le-leb (f.dl i) (suc D) (omega arith) ∙ sym (le-leb (f.dl i) D g))
