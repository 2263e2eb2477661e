-- The slack figure's single pass over the boundaries: the least slack of the pairs
-- so far, updated by one column at a time.
use mathlib.Core.Path.{◌≡◌, refl, sym, ◌∙◌, ap, ap₂}
use mathlib.Core.Bool.{Bool, true, false, cond, true≢false}
use mathlib.Core.List.{List}
use mathlib.Core.Logic.{◌⊎◌, inl, inr}
use Prim.Native.Nat.{ℕ, zero, suc, ◌+◌, ◌*◌, ◌-◌, ◌≤◌, ◌<◌}
use native.Mathlib.Omega.{arith}
use borrow.Author.Tests.{ltb-true}
use lib.Dec.{ltb}
use lib.IntN.{sub_ℕ}
use lib.ListN.{get_or}
use Rattle.base.proofs.SumLaws.{sum_ext}
use Rattle.plan.specs.Boundaries.{boundaries, boundary, intervals}
use Rattle.plan.specs.declared.kinds.Plan.{Plan}
use Rattle.base.proofs.Logic.{both, below-or-last}
use Rattle.judge.specs.Verdict.{is_hi_deadline, is_pair}
use Rattle.judge.specs.Slack.{Figure, none_essential, slack_of, least_slack}
use Rattle.judge.specs.Inner.Columns.{Summed, spare, column_taken}
use Rattle.judge.proofs.Demand.{true_pair}
use Rattle.judge.proofs.HiDeadlinesSuffice.{boundary_less}
use Rattle.judge.proofs.FloorPass.{demand_columns}
use Rattle.judge.proofs.LeastSlack.{Pairs, among_none, among_same, among_one, sooner_among, first_of_all}
use Rattle.judge.specs.Slack.{LeastAmong}

-- The pairs with one of the first m boundaries; and these with the pairs
-- of boundary m and the intervals from l on.
abbrev pub Before : Plan → ℕ → ℕ → ℕ → Type 0
Before p m i k = (is_pair p i k ≡ true) × (k ≤ intervals p) × (k < m)

abbrev FromBack : Plan → ℕ → ℕ → ℕ → ℕ → Type 0
FromBack p m l i k = (is_pair p i k ≡ true) × (k ≤ intervals p) × ((k < m) ⊎ ((k ≡ m) × (l ≤ i)))

-- The interval of a pair has a lower index than its boundary.
in_order : (p : Plan) (i k : ℕ) → is_pair p i k ≡ true → i < k
in_order p i k e = ltb-true i k (both (ltb i k) (is_hi_deadline p (boundary p k)) e).0

-- `spare` on the column sums is the slack.
spare_is : (p : Plan) (table sums times : List ℕ) (l m : ℕ) → times ≡ boundaries p → l < m → m ≤ intervals p → Summed p table (suc m) sums
    → spare p.d.0 sums times m l ≡ slack_of p table l (boundary p m)
spare_is p table sums times l m e b h so =
    ap₂ sub_ℕ (ap (λ t. p.d.0 * (get_or t m 0 - get_or t l 0)) e)
    (sum_ext _ _ (m - l) (λ k c. so.columns (l + k) (omega arith)) ∙ demand_columns p table l m (omega arith))

module _ (p : Plan) (table sums times : List ℕ) (m : ℕ) (e : times ≡ boundaries p) (h : m ≤ intervals p) (so : Summed p table (suc m) sums) where
  -- Visiting the intervals before a HI deadline from the last to the first.
  column_whole : is_hi_deadline p (boundary p m) ≡ true → (n : ℕ) (f : Figure) → n ≤ m → LeastAmong p table (FromBack p m n) f
      → LeastAmong p table (FromBack p m 0) (column_taken p.d.0 sums times m n f)
  unfolding column_taken
  column_whole due zero f b known = known
  column_whole due (suc n) f b known =
      column_whole due n _ (omega arith)
      (rw (spare_is p table sums times n m e (omega arith) h so, ap (λ t. get_or t m 0) e)
      (sooner_among p table (FromBack p m (suc n)) (FromBack p m n) n m into (true_pair p n m (omega arith) due, h, inr (refl, omega arith)) from f before known))
    where
      into : (i k : ℕ) → FromBack p m (suc n) i k → FromBack p m n i k
      into i k (q, c, inl x) = (q, c, inl x)
      into i k (q, c, inr x) = (q, c, inr (x.0, omega (arith, x.1)))

      from : (i k : ℕ) → FromBack p m n i k → FromBack p m (suc n) i k ⊎ ((i ≡ n) × (k ≡ m))
      from i k (q, c, inl x) = inl (q, c, inl x)
      from i k (q, c, inr x) =
          below-or-last n i (omega (arith, x.1)) (λ y. inl (q, c, inr (x.0, y))) (λ y. inr (sym y, x.0))

      before : (i k : ℕ) → FromBack p m (suc n) i k → boundary p k ≤ boundary p m
      before i k (q, c, inl x) = omega (arith, boundary_less p k m x h)
      before i k (q, c, inr x) = omega (arith, ap (boundary p) x.0)

  -- One more boundary.
  pub tightest_next : (due : Bool) (f g : Figure) → due ≡ is_hi_deadline p (boundary p m)
      → g ≡ cond due (column_taken p.d.0 sums times m m f) f → LeastAmong p table (Before p m) f → LeastAmong p table (Before p (m + 1)) g
  tightest_next true f g d q known =
      rw q (among_same p table (FromBack p m 0) (Before p (m + 1)) _ into from
      (column_whole (sym d) m f (omega arith) (among_same p table (Before p m) (FromBack p m m) f begin end known)))
    where
      begin : (i k : ℕ) → Before p m i k → FromBack p m m i k
      begin i k x = (x.0, x.1, inl x.2)

      end : (i k : ℕ) → FromBack p m m i k → Before p m i k
      end i k (x, c, inl y) = (x, c, y)
      end i k (x, c, inr y) = absurd (omega (arith, y.0, y.1, in_order p i k x))

      into : (i k : ℕ) → FromBack p m 0 i k → Before p (m + 1) i k
      into i k (x, c, inl y) = (x, c, omega arith)
      into i k (x, c, inr y) = (x, c, omega (arith, y.0))

      from : (i k : ℕ) → Before p (m + 1) i k → FromBack p m 0 i k
      from i k x = below-or-last k m (omega (arith, x.2)) (λ y. (x.0, x.1, inl y)) (λ y. (x.0, x.1, inr (y, omega arith)))
  tightest_next false f g d q known = rw q (among_same p table (Before p m) (Before p (m + 1)) f (λ i k x. (x.0, x.1, omega (arith, x.2))) from known)
    where
      from : (i k : ℕ) → Before p (m + 1) i k → Before p m i k
      from i k x =
          below-or-last k m (omega (arith, x.2)) (λ y. (x.0, x.1, y))
          (λ y. absurd (true≢false (sym (both (ltb i k) (is_hi_deadline p (boundary p k)) x.0).1 ∙ ap (λ n. is_hi_deadline p (boundary p n)) y ∙ sym d)))

-- Before boundary 0 there is no pair; after the last boundary the figure is `least_slack`.
pub tightest_start : (p : Plan) (table : List ℕ) → LeastAmong p table (Before p 0) none_essential
tightest_start p table = among_none p table (Before p 0) (λ l k x. omega (arith, x.2))

pub tightest_end : (p : Plan) (table : List ℕ) (m : ℕ) (f : Figure) → m ≡ suc (intervals p) → LeastAmong p table (Before p m) f → f ≡ least_slack p table
tightest_end p table m f e known =
    among_one p table (Pairs p) f (least_slack p table)
    (among_same p table (Before p m) (Pairs p) f (λ i k x. (x.0, x.1)) (λ i k x. (x.0, x.1, omega (arith, x.1))) known)
    (first_of_all p table)
