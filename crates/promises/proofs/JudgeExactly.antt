-- The judge gives each report exactly when `Decided` says so: its fault is present, no earlier
-- location has it, and every test before it passed.
use mathlib.Core.Path.{◌≡◌, refl, sym, ◌∙◌, ap, ap₂, subst}
use mathlib.Core.Logic.{◌↔◌}
use mathlib.Core.Bool.{Bool, true, false, not, ◌&&◌}
use mathlib.Core.List.{List, [], ◌∷◌}
use Prim.Native.Nat.{ℕ, suc, ◌*◌, ◌≤◌, ◌<◌}
use native.Mathlib.Omega.{arith}
use borrow.Author.Tests.{lt-ltb, le-ltb, eq-eqb, ne_eqb}
use lib.Dec.{ltb, eqb}
use lib.ListN.{length}
use Rattle.base.proofs.Below.{every_all}
use Rattle.base.proofs.Logic.{if_true}
use Rattle.plan.specs.Edition.{places}
use Rattle.plan.specs.Refusal.{outside_window, wrong_total, over_capacity, below_floor_rule}
use Rattle.plan.specs.Report.{Report, fault, is_none, first}
use Rattle.plan.specs.Rules.{counted, size}
use Rattle.plan.specs.Boundaries.{boundary, intervals}
use Rattle.plan.specs.declared.kinds.Plan.{Plan}
use Rattle.plan.proofs.Reports.{none_empty, none_first, found_here}
use Rattle.judge.specs.Constraints.{interval_length, total, load, demand, floor_capacity}
use Rattle.judge.specs.Verdict.{is_outside, is_pair, falls_short, outside_fault, total_fault, capacity_fault, floor_fault, judged}
use Rattle.judge.specs.Decided.{InsideTo, TotalTo, WithinTo, FloorTo, Decided, short, bad, outside, wrong, over, below, accepted}
use Rattle.judge.proofs.HandFault.{hand_sound}
use Rattle.judge.proofs.FirstLocation.{every_place_is_the_first}

-- A search is empty if every report is, and otherwise gives the first that is not.
pub first_none : (f : ℕ → Report) (n : ℕ) → ((k : ℕ) → k < n → f k ≡ []) → first f n ≡ []
first_none f n none = none_empty (first f n) (none_first f n ∙ every_all (λ k. is_none (f k)) n (λ k l. ap is_none (none k l)))

first_is : (f : ℕ → Report) (n k number : ℕ) (rest : Report) → k < n → ((j : ℕ) → j < k → f j ≡ []) → f k ≡ number ∷ rest → first f n ≡ number ∷ rest
first_is f n k number rest l before e = sym (found_here f k n number rest (first_none f k before) l e)

-- The report of a fault that is absent, and of one that is present.
pub absent : (t : Bool) (report : Report) → t ≡ false → fault t report ≡ []
absent t report e = ap (λ b. fault b report) e

present : (t : Bool) (report : Report) → t ≡ true → fault t report ≡ report
present t report e = ap (λ b. fault b report) e

module _ (p : Plan) (table : List ℕ) where
  -- The report of each rule at one location.
  abbrev outside_at : ℕ → ℕ → Report
  outside_at i j = fault (is_outside p table i j) (outside_window ∷ i ∷ j ∷ [])

  abbrev total_at : ℕ → Report
  total_at i = fault (not (eqb (total p table i) (size p i))) (wrong_total ∷ i ∷ [])

  abbrev capacity_at : ℕ → Report
  capacity_at j = fault (ltb (p.n.0 * interval_length p j) (load p table j)) (over_capacity ∷ j ∷ [])

  abbrev floor_at : ℕ → ℕ → Report
  floor_at l m = fault (is_pair p l m && falls_short p table l m) (below_floor_rule ∷ l ∷ boundary p m ∷ [])

  -- Where a rule holds there is no report.
  outside_none : (n : ℕ) → InsideTo p table n → (i : ℕ) → i < n → first (outside_at i) (intervals p) ≡ []
  outside_none n inside i a = first_none (outside_at i) (intervals p) (λ j b. absent _ _ (inside i j a b))

  total_none : (n : ℕ) → TotalTo p table n → (i : ℕ) → i < n → total_at i ≡ []
  total_none n totals i a = absent _ _ (ap not (eq-eqb (total p table i) (size p i) (totals i a)))

  capacity_none : (n : ℕ) → WithinTo p table n → (j : ℕ) → j < n → capacity_at j ≡ []
  capacity_none n within j b = absent _ _ (le-ltb (p.n.0 * interval_length p j) (load p table j) (within j b))

  pair_none : (l m : ℕ) → (is_pair p l m ≡ true → demand p table l (boundary p m) ≤ floor_capacity p l (boundary p m)) → floor_at l m ≡ []
  pair_none l m holds =
      if_true (is_pair p l m)
      (λ e. absent _ _ (ap₂ ◌&&◌ e (le-ltb (floor_capacity p l (boundary p m)) (demand p table l (boundary p m)) (holds e))))
      (λ e. absent _ _ (ap (λ t. t && falls_short p table l m) e))

  floor_none : (n : ℕ) → FloorTo p table n → (l : ℕ) → l < n → first (floor_at l) (suc (intervals p)) ≡ []
  floor_none n floor l a = first_none (floor_at l) (suc (intervals p)) (λ m b. pair_none l m (floor l a m (omega arith)))

  -- Only the judge's own report is decided.
  only_judged : (r : Report) → Decided p table r → judged p table ≡ r
  unfolding judged outside_fault total_fault capacity_fault floor_fault
  only_judged r (short l) = rw (lt-ltb (length table) places l) refl
  only_judged r (bad long e) = rw (le-ltb (length table) places long, e) refl
  only_judged r (outside hand i j a b t before left) =
      let row = first_is (outside_at i) (intervals p) j outside_window (i ∷ j ∷ []) b (λ k l. absent _ _ (left k l)) (present _ _ t) in
      rw (hand_sound p table hand.0 hand.1, first_is (λ i. first (outside_at i) (intervals p)) (counted p) i outside_window (i ∷ j ∷ []) a (outside_none i before) row) refl
  only_judged r (wrong hand inside i a t before) =
      rw (
        hand_sound p table hand.0 hand.1,
        first_none (λ i. first (outside_at i) (intervals p)) (counted p) (outside_none (counted p) inside),
        first_is total_at (counted p) i wrong_total (i ∷ []) a (total_none i before) (present _ _ (ap not (ne_eqb (total p table i) (size p i) t))),
      ) refl
  only_judged r (over hand inside totals j b t before) =
      rw (
        hand_sound p table hand.0 hand.1,
        first_none (λ i. first (outside_at i) (intervals p)) (counted p) (outside_none (counted p) inside),
        first_none total_at (counted p) (total_none (counted p) totals),
        first_is capacity_at (intervals p) j over_capacity (j ∷ []) b (capacity_none j before) (present _ _ (lt-ltb (p.n.0 * interval_length p j) (load p table j) t)),
      ) refl
  only_judged r (below hand inside totals within l m a b pair t before left) =
      let D = boundary p m in
      let here = present (is_pair p l m && falls_short p table l m) (below_floor_rule ∷ l ∷ D ∷ [])
      (ap₂ ◌&&◌ pair (lt-ltb (floor_capacity p l D) (demand p table l D) t)) in
      let row = first_is (floor_at l) (suc (intervals p)) m below_floor_rule (l ∷ D ∷ []) (omega arith) (λ k c. pair_none l k (left k c)) here in
      rw (
        hand_sound p table hand.0 hand.1,
        first_none (λ i. first (outside_at i) (intervals p)) (counted p) (outside_none (counted p) inside),
        first_none total_at (counted p) (total_none (counted p) totals),
        first_none capacity_at (intervals p) (capacity_none (intervals p) within),
        first_is (λ l. first (floor_at l) (suc (intervals p))) (intervals p) l below_floor_rule (l ∷ D ∷ []) a (floor_none l before) row,
      ) refl
  only_judged r (accepted hand inside totals within floor) =
      rw (
        hand_sound p table hand.0 hand.1,
        first_none (λ i. first (outside_at i) (intervals p)) (counted p) (outside_none (counted p) inside),
        first_none total_at (counted p) (total_none (counted p) totals),
        first_none capacity_at (intervals p) (capacity_none (intervals p) within),
        first_none (λ l. first (floor_at l) (suc (intervals p))) (intervals p) (floor_none (intervals p) floor),
      ) refl

  -- The judge gives each report exactly when `Decided` says so.
  pub judge_exactly : (r : Report) → (judged p table ≡ r) ↔ Decided p table r
  judge_exactly r = (λ e. subst (Decided p table) e (every_place_is_the_first p table), only_judged r)
