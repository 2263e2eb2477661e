-- HI deadlines suffice for the verdict and for its location: under rule 15 the first place at which
-- the floor rule fails is the same over all later boundaries as over HI deadlines.
use mathlib.Core.Path.{◌≡◌, refl, sym, ◌∙◌, ap}
use mathlib.Core.Bool.{Bool, true, false, ◌&&◌, and-true, and-false}
use mathlib.Core.List.{List, [], ◌∷◌}
use Prim.Native.Nat.{ℕ, zero, suc, ◌-◌, ◌≤◌, ◌<◌}
use native.Mathlib.Decide.{dec_lt}
use native.Mathlib.Nat.{mul-le-mul_left}
use native.Mathlib.Omega.{arith}
use borrow.Author.Tests.{ltb-false, lt-ltb, le-ltb}
use lib.Dec.{ltb}
use Rattle.base.proofs.Logic.{below-or-last}
use Rattle.plan.specs.Refusal.{below_floor_rule}
use Rattle.plan.specs.Rules.{counted}
use Rattle.plan.specs.Boundaries.{boundary, intervals}
use Rattle.plan.specs.declared.kinds.Plan.{Plan}
use Rattle.base.proofs.Below.{every_at}
use Rattle.plan.proofs.PresentInterval.{boundary_rises}
use Rattle.judge.specs.Constraints.{units, in_window, demand, floor_capacity}
use Rattle.judge.specs.Verdict.{is_hi_deadline, is_pair, falls_short, outside_fault, floor_fault, hand_fault, constraint_fault, judged}
use Rattle.plan.specs.Report.{Report, or_else, fault, is_none, first}
use Rattle.judge.specs.AllBoundaries.{boundary_fault, judged_at_boundaries}
use Rattle.plan.proofs.Reports.{none_empty, none_first, fault_none, first_ext}
use Rattle.judge.proofs.HiDeadlinesSuffice.{demand_less, demand_none}
use Rattle.judge.proofs.Exact.{outside_none}

-- If the first report is empty, so is each one before it.
each_empty : (f : ℕ → Report) (n k : ℕ) → first f n ≡ [] → k < n → f k ≡ []
each_empty f n k h l = none_empty (f k) (every_at (λ k. is_none (f k)) n k (sym (none_first f n) ∙ ap is_none h) l)

module _ (p : Plan) (table : List ℕ)
    (inside : (i j : ℕ) → i < counted p → j < intervals p → in_window p i j ≡ false → units table i j ≡ 0) where
  -- The reports of the floor rule at a HI deadline and at any later boundary.
  abbrev at_pair : ℕ → ℕ → Report
  at_pair l m = fault (is_pair p l m && falls_short p table l m) (below_floor_rule ∷ l ∷ boundary p m ∷ [])

  abbrev at_boundary : ℕ → ℕ → Report
  at_boundary l m = fault (ltb l m && falls_short p table l m) (below_floor_rule ∷ l ∷ boundary p m ∷ [])

  -- Where boundary m has no report, the demand up to it is within the floor's capacity.
  within_floor : (l m : ℕ) → l < m → at_boundary l m ≡ [] → demand p table l (boundary p m) ≤ floor_capacity p l (boundary p m)
  within_floor l m h e =
      ltb-false (floor_capacity p l (boundary p m)) (demand p table l (boundary p m))
      (fault_none (falls_short p table l m) below_floor_rule (l ∷ boundary p m ∷ []) (rw (lt-ltb l m h) at (ap is_none e)))

  -- A boundary that is no HI deadline has no report if the boundary before it has none.
  none_between : (l m : ℕ) → suc m ≤ intervals p → is_hi_deadline p (boundary p (suc m)) ≡ false → at_boundary l m ≡ [] → at_boundary l (suc m) ≡ []
  none_between l m h none e = go (dec_lt l (suc m))
    where
      enough : l < suc m → demand p table l (boundary p (suc m)) ≤ floor_capacity p l (boundary p (suc m))
      enough b =
          below-or-last l m b
          (λ q. omega (
            arith,
            demand_less p table inside l m h none,
            within_floor l m q e,
            mul-le-mul_left {m = boundary p m - boundary p l} {n = boundary p (suc m) - boundary p l} p.d.0
                (omega (arith, boundary_rises p m (omega arith))),
          ))
          (λ q. omega (
            arith,
            demand_less p table inside l m h none,
            demand_none p table inside l (omega arith),
            ap (λ k. demand p table l (boundary p k)) q,
          ))

      go : Dec (l < suc m) → at_boundary l (suc m) ≡ []
      go (yes b) =
          rw (lt-ltb l (suc m) b, le-ltb (floor_capacity p l (boundary p (suc m))) (demand p table l (boundary p (suc m))) (enough b)) refl
      go (no b) = rw (le-ltb l (suc m) (omega arith)) refl

  -- Where no boundary before n has a report, both reports at n are the same.
  same_here : (l n : ℕ) → n ≤ intervals p → ((k : ℕ) → k < n → at_boundary l k ≡ []) → at_pair l n ≡ at_boundary l n
  same_here l n h before = go n h before (is_hi_deadline p (boundary p n)) refl
    where
      go : (n : ℕ) → n ≤ intervals p → ((k : ℕ) → k < n → at_boundary l k ≡ []) → (t : Bool) → is_hi_deadline p (boundary p n) ≡ t
          → at_pair l n ≡ at_boundary l n
      go n h before true e = rw (e, and-true (ltb l n)) refl
      go zero h before false e = rw (le-ltb l 0 (omega arith)) refl
      go (suc m) h before false e = rw (e, and-false (ltb l (suc m)), none_between l m h e (before m (omega arith))) refl

  -- The first report of an interval is the same over all later boundaries as over HI deadlines.
  same_row : (l n : ℕ) → n ≤ suc (intervals p) → first (at_pair l) n ≡ first (at_boundary l) n
  unfolding first
  same_row l zero h = refl
  same_row l (suc n) h = go (first (at_boundary l) n) refl (same_row l n (omega arith))
    where
      go : (r : Report) → first (at_boundary l) n ≡ r → first (at_pair l) n ≡ first (at_boundary l) n
          → or_else (first (at_pair l) n) (at_pair l n) ≡ or_else (first (at_boundary l) n) (at_boundary l n)
      go [] e so_far = rw (so_far, e) (same_here l n (omega arith) (λ k b. each_empty (at_boundary l) n k e b))
      go (number ∷ places) e so_far = rw (so_far, e) refl

  -- So is the first report of all.
  same_floor_fault : floor_fault p table ≡ boundary_fault p table
  unfolding floor_fault boundary_fault
  same_floor_fault = first_ext _ _ (intervals p) (λ l b. same_row l (suc (intervals p)) (omega arith))

-- The verdict, with the place that it names, is the same over all later boundaries as over HI
-- deadlines, for every plan and table.
pub same_verdict_at_boundaries : (p : Plan) (table : List ℕ) → judged p table ≡ judged_at_boundaries p table
unfolding judged judged_at_boundaries
same_verdict_at_boundaries p table = go (outside_fault p table) refl
  where
    go : (r : Report) → outside_fault p table ≡ r
        → or_else (hand_fault p table) (or_else (constraint_fault p table) (floor_fault p table))
        ≡ or_else (hand_fault p table) (or_else (constraint_fault p table) (boundary_fault p table))
    go [] e = ap (λ r. or_else (hand_fault p table) (or_else (constraint_fault p table) r)) (same_floor_fault p table ((outside_none p table).0 e))
    go (number ∷ places) e = rw e refl
