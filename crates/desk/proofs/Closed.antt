-- The closed form over the deadlines of each class gives it over all boundaries.
use mathlib.Core.Path.{◌≡◌, refl, sym, ◌∙◌, ap}
use mathlib.Core.Logic.{◌≢◌}
use mathlib.Core.Bool.{Bool, true, false, not, ◌&&◌, true≢false, or-true}
use mathlib.Core.List.{[]}
use Prim.Native.Nat.{ℕ, zero, suc, ◌+◌, ◌*◌, ◌-◌, ◌≤◌, ◌<◌}
use native.Mathlib.Nat.{mul-add, mul-zero, mul-le-mul_left, mul-le-mul_right}
use native.Mathlib.Omega.{arith}
use borrow.Author.Tests.{le-leb, lt-leb, ltb-false, not-true, not-false, eq-eqb}
use lib.Dec.{leb, eqb}
use Rattle.base.specs.Sum.{sum, on}
use Rattle.base.specs.Below.{every}
use Rattle.base.proofs.SumLaws.{sum_ext}
use Rattle.base.proofs.Below.{every_at}
use Rattle.base.proofs.Logic.{if_true, if_less, if_same}
use Rattle.plan.specs.Rules.{counted, size, deadline}
use Rattle.plan.specs.Boundaries.{boundary, intervals}
use Rattle.plan.specs.Report.{first}
use Rattle.plan.specs.declared.kinds.Plan.{Plan}
use Rattle.plan.proofs.Reports.{none_empty, empty_none, none_first, none_plain}
use Rattle.judge.specs.Constraints.{interval_length}
use Rattle.desk.specs.Timetable.{in_class}
use Rattle.desk.specs.Pairs.{sizes_due, is_deadline, asked, carries, is_end, is_short, pair_at, pair_fault}
use Rattle.desk.proofs.Kept.{Good, rises, earlier}
use Rattle.desk.proofs.Fits.{cap_to, Enough}
use Rattle.desk.proofs.Stages.{ground, Ends}

-- Ends without a report ask no more than the link carries.
pub pair_carried : (p : Plan) (m k : ℕ) → is_end p false m ≡ true → is_end p true k ≡ true → pair_at p m k ≡ []
    → asked p (boundary p m) (boundary p k) ≤ carries p (boundary p m) (boundary p k)
pair_carried p m k high low none =
    let parts : (is_end p false m && is_end p true k && is_short p m k) ≡ is_short p m k = rw (high, low) refl in
    ltb-false (carries p (boundary p m) (boundary p k)) (asked p (boundary p m) (boundary p k))
    (sym parts ∙ not-true _ (sym (none_plain (is_end p false m && is_end p true k && is_short p m k) _ _) ∙ empty_none _ none))

-- Without a fault no pair of ends asks more than the link carries.
pub pairs_carried : (p : Plan) → pair_fault p ≡ [] → (m k : ℕ) → m ≤ intervals p → k ≤ intervals p → is_end p false m ≡ true → is_end p true k ≡ true
    → asked p (boundary p m) (boundary p k) ≤ carries p (boundary p m) (boundary p k)
unfolding pair_fault
pairs_carried p none m k h g high low =
    let rows = sym (none_first (λ m. first (pair_at p m) (suc (intervals p))) (suc (intervals p))) ∙ empty_none _ none in
    let row = sym (none_first (pair_at p m) (suc (intervals p))) ∙ every_at _ (suc (intervals p)) m rows (omega arith) in
    pair_carried p m k high low (none_empty _ (every_at _ (suc (intervals p)) k row (omega arith)))

module _ (p : Plan) (ends : Ends p) (good : Good (ground p)) (rates : p.d.0 ≤ p.n.0) where
  -- The capacity up to a boundary is the normal rate's over the time since the first.
  pub cap_is : (k : ℕ) → k ≤ intervals p → cap_to (ground p) k ≡ p.n.0 * (boundary p k - boundary p 0)
  unfolding sum
  cap_is zero h =
      let none : boundary p 0 - boundary p 0 ≡ 0 = omega arith in
      sym (ap (λ t. p.n.0 * t) none ∙ mul-zero p.n.0)
  cap_is (suc k) h =
      let parts : (boundary p k - boundary p 0) + interval_length p k ≡ boundary p (suc k) - boundary p 0
      = omega (arith, good.rise k h, rises (ground p) good 0 k (omega arith) (omega arith)) in
      ap (λ c. c + p.n.0 * interval_length p k) (cap_is k (omega arith)) ∙ sym (mul-add p.n.0 _ _) ∙ ap (λ t. p.n.0 * t) parts

  -- A boundary that is no deadline of a class adds no size of it.
  same_sizes : (back : Bool) (k : ℕ) → k < intervals p → is_deadline p back (boundary p (suc k)) ≡ false
      → sizes_due p back (boundary p (suc k)) ≡ sizes_due p back (boundary p k)
  same_sizes back k h none = sum_ext _ _ (counted p) (λ i b. if_true (in_class p back i) (λ c. due i b c) (λ c. rw c refl))
    where
      apart : (i : ℕ) → i < counted p → in_class p back i ≡ true → deadline p i ≢ boundary p (suc k)
      apart i b c e =
          let all : every (λ l. not (in_class p back l && eqb (deadline p l) (boundary p (suc k)))) (counted p) ≡ true = not-false _ none in
          let met : (in_class p back i && eqb (deadline p i) (boundary p (suc k))) ≡ true = rw (c, eq-eqb (deadline p i) (boundary p (suc k)) e) refl in
          true≢false (sym (every_at _ (counted p) i all b) ∙ ap not met)

      due : (i : ℕ) → i < counted p → in_class p back i ≡ true
          → on (in_class p back i && leb (deadline p i) (boundary p (suc k))) (size p i) ≡ on (in_class p back i && leb (deadline p i) (boundary p k)) (size p i)
      due i b c =
          if_less (boundary p k) (deadline p i)
          (λ l. rw (c, lt-leb (deadline p i) (boundary p k) l, lt-leb (deadline p i) (boundary p (suc k)) (beyond l)) refl)
          (λ l. rw (c, le-leb (deadline p i) (boundary p k) l, le-leb (deadline p i) (boundary p (suc k)) (omega (arith, good.rise k h))) refl)
        where
          beyond : boundary p k < deadline p i → boundary p (suc k) < deadline p i
          beyond l =
              let later : k < ends.end i = earlier (ground p) good k (ends.end i) (omega arith) (omega (arith, ends.is i b)) in
              if_same (deadline p i) (boundary p (suc k))
              (λ e. absurd (apart i b c e))
              (λ n. omega (arith, ends.is i b, rises (ground p) good (suc k) (ends.end i) later (ends.last i b)))

  -- The closed form at one boundary gives it at the next, if that is no deadline of the class.
  module _ (none : pair_fault p ≡ []) where
    up_to : (m k : ℕ) → m ≤ intervals p → k ≤ intervals p → is_end p false m ≡ true
        → sizes_due p false (boundary p m) + sizes_due p true (boundary p k) ≤ p.n.0 * (boundary p k - boundary p 0) + p.d.0 * (boundary p m - boundary p k)
    up_to m zero h g high = pairs_carried p none m 0 h g high refl
    up_to m (suc k) h g high =
        if_true (is_deadline p true (boundary p (suc k)))
        (λ e. pairs_carried p none m (suc k) h g high (rw e (or-true (eqb (suc k) 0))))
        (λ e. further e (up_to m k h (omega arith) high))
      where
        further : is_deadline p true (boundary p (suc k)) ≡ false
            → sizes_due p false (boundary p m) + sizes_due p true (boundary p k) ≤ p.n.0 * (boundary p k - boundary p 0) + p.d.0 * (boundary p m - boundary p k)
            → sizes_due p false (boundary p m) + sizes_due p true (boundary p (suc k)) ≤ p.n.0 * (boundary p (suc k) - boundary p 0) + p.d.0 * (boundary p m - boundary p (suc k))
        further e so_far =
            let width : ℕ = boundary p (suc k) - boundary p k in
            let parts : (boundary p k - boundary p 0) + width ≡ boundary p (suc k) - boundary p 0
            = omega (arith, good.rise k g, rises (ground p) good 0 k (omega arith) (omega arith)) in
            let rest : boundary p m - boundary p k ≤ (boundary p m - boundary p (suc k)) + width = omega (arith, good.rise k g) in
            omega (
              arith,
              so_far,
              same_sizes true k g e,
              sym (ap (λ t. p.n.0 * t) parts) ∙ mul-add p.n.0 (boundary p k - boundary p 0) width,
              mul-le-mul_left p.d.0 rest,
              mul-add p.d.0 (boundary p m - boundary p (suc k)) width,
              mul-le-mul_right width rates,
            )

    all_up_to : (m k : ℕ) → m ≤ intervals p → k ≤ intervals p
        → sizes_due p false (boundary p m) + sizes_due p true (boundary p k) ≤ p.n.0 * (boundary p k - boundary p 0) + p.d.0 * (boundary p m - boundary p k)
    all_up_to zero k h g = up_to 0 k h g refl
    all_up_to (suc m) k h g =
        if_true (is_deadline p false (boundary p (suc m)))
        (λ e. up_to (suc m) k h g (rw e (or-true (eqb (suc m) 0))))
        (λ e.
        let rest : boundary p m - boundary p k ≤ boundary p (suc m) - boundary p k = omega (arith, good.rise m h) in
        omega (arith, all_up_to m k (omega arith) g, same_sizes false m h e, mul-le-mul_left p.d.0 rest))

    pub enough : Enough (ground p) p.d.0
    enough m k h g = omega (arith, all_up_to m k h g, cap_is k g)
