-- Laws of the demand: it is a sum over contiguous parts of table rows.
use mathlib.Core.Path.{◌≡◌, sym, ◌∙◌, ap, ap₂}
use mathlib.Core.Bool.{true, false, ◌&&◌, and-false}
use mathlib.Core.List.{List}
use Prim.Native.Nat.{ℕ, zero, suc, ◌+◌, ◌*◌, ◌-◌, ◌≤◌, ◌<◌}
use native.Mathlib.Omega.{arith}
use borrow.Author.Tests.{lt-ltb, le-ltb}
use lib.Dec.{leb, ltb, leb-suc-suc}
use lib.ListN.{length, get_or}
use Rattle.base.specs.Sum.{sum, on, strided}
use Rattle.base.proofs.SumLaws.{sum_ext}
use Rattle.plan.specs.Edition.{most_intervals}
use Rattle.plan.specs.Rules.{counted, deadline, is_hi}
use Rattle.plan.specs.Boundaries.{boundaries, boundary, intervals, present, come}
use Rattle.plan.specs.declared.kinds.Plan.{Plan}
use Rattle.plan.proofs.BoundaryOrder.{boundaries_rise}
use Rattle.plan.proofs.BoundaryCount.{come_few}
use Rattle.judge.specs.Constraints.{units, units_between, demand}
use Rattle.judge.specs.Verdict.{is_hi_deadline, is_pair}
use Rattle.judge.proofs.RunningSums.{sum_window}
use Rattle.judge.proofs.IncreasingTimes.{ends_by, come_first}

-- The intervals that end at or before time D are the first e.
abbrev pub EndBy : Plan → ℕ → ℕ → Type 0
EndBy p D e = (e ≤ intervals p) × ((j : ℕ) → j < intervals p → leb (boundary p (suc j)) D ≡ ltb j e)

-- The intervals that end at or before boundary m are the first m.
pub end_by_boundary : (p : Plan) (m : ℕ) → m < length (boundaries p) → EndBy p (boundary p m) m
end_by_boundary p m h =
    (omega arith, λ j l. ends_by 0 j m (boundaries p) (boundaries_rise p (counted p)) (omega arith) h)

-- The intervals that end at or before time D are the first `present p D`.
pub end_by_present : (p : Plan) (D : ℕ) → EndBy p D (present p D)
end_by_present p D = (
  omega (arith, come_few D (boundaries p)),
  λ j b. come_first D 0 (suc j) (boundaries p) (boundaries_rise p (counted p)) (omega arith) ∙ one_less j (come D (boundaries p)),
)
  where
    one_less : (j n : ℕ) → ltb (suc j) n ≡ ltb j (n - 1)
    one_less j zero = le-ltb (suc j) 0 (omega arith) ∙ sym (le-ltb j 0 (omega arith))
    one_less j (suc n) = let e : n ≡ suc n - 1 = omega arith in leb-suc-suc (suc j) n ∙ ap (ltb j) e

-- The units of job i from interval l to time D are the sum of e − l
-- consecutive places of its row from l on.
between_is : (p : Plan) (table : List ℕ) (l D e i : ℕ) → EndBy p D e
    → units_between p table l D i ≡ sum (strided table (most_intervals * i + l) 1) (e - l)
between_is p table l D e i h =
    sum_window (units table i) (λ j. leb l j && leb (boundary p (suc j)) D) l e (intervals p) h.0
    (λ j b. ap (λ x. leb l j && x) (h.1 j b))
    ∙ sum_ext _ _ (e - l) (λ k b. ap (λ q. get_or table q 0) (place_of k))
  where
    place_of : (k : ℕ) → most_intervals * i + (l + k) ≡ most_intervals * i + l + 1 * k
    place_of k = omega arith

pub demand_is : (p : Plan) (table : List ℕ) (l D e : ℕ) → EndBy p D e
    → sum (λ i. on (is_hi p i && leb (deadline p i) D) (sum (strided table (most_intervals * i + l) 1) (e - l))) (counted p)
    ≡ demand p table l D
demand_is p table l D e h =
    sum_ext _ _ (counted p) (λ i b. ap (on (is_hi p i && leb (deadline p i) D)) (sym (between_is p table l D e i h)))

-- Interval l and boundary m are no pair if m ≤ l or if m is no HI deadline; otherwise they are.
pub early_pair : (p : Plan) (l m : ℕ) → m ≤ l → is_pair p l m ≡ false
early_pair p l m h = ap (λ b. b && is_hi_deadline p (boundary p m)) (le-ltb l m h)

pub other_pair : (p : Plan) (l m : ℕ) → is_hi_deadline p (boundary p m) ≡ false → is_pair p l m ≡ false
other_pair p l m h = ap (λ b. ltb l m && b) h ∙ and-false (ltb l m)

pub true_pair : (p : Plan) (l m : ℕ) → l < m → is_hi_deadline p (boundary p m) ≡ true → is_pair p l m ≡ true
true_pair p l m h e = ap₂ ◌&&◌ (lt-ltb l m h) e
