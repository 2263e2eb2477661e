-- HI deadlines suffice for the floor rule: if no job has units outside its window, the demand up to
-- a boundary that is no HI deadline is at most that up to the boundary before it.
use mathlib.Core.Path.{◌≡◌, refl, sym, ◌∙◌, ap}
use mathlib.Core.Bool.{Bool, true, false, not, ◌&&◌, and-false, true≢false}
use mathlib.Core.List.{List}
use Prim.Native.Nat.{ℕ, suc, ◌+◌, ◌*◌, ◌-◌, ◌≤◌, ◌<◌}
use native.Mathlib.Nat.{mul-le-mul_left}
use native.Mathlib.Omega.{arith}
use borrow.Author.Tests.{leb-true, ltb-true, lt-ltb, le-leb, lt-leb, eq-eqb, not-true, not-false}
use lib.Dec.{leb, eqb}
use lib.ListN.{length}
use Rattle.base.proofs.Choice.{on_le}
use Rattle.base.specs.Sum.{strided}
use Rattle.base.proofs.SumLaws.{sum_mono}
use Rattle.plan.specs.Edition.{most_intervals}
use Rattle.plan.specs.Rules.{counted, deadline, release, is_hi}
use Rattle.plan.specs.Boundaries.{boundaries, boundary, intervals}
use Rattle.plan.specs.declared.kinds.Plan.{Plan}
use Rattle.plan.proofs.BoundaryOrder.{boundaries_rise}
use Rattle.plan.proofs.PresentInterval.{deadline_is_boundary, boundary_rises}
use Rattle.base.proofs.Below.{every_at}
use Rattle.base.proofs.Logic.{both, by_order, below-or-last}
use Rattle.judge.specs.Constraints.{units, in_window, units_between, demand, floor_capacity}
use Rattle.judge.specs.Verdict.{is_hi_deadline, is_pair}
use Rattle.judge.proofs.IncreasingTimes.{rising_less}
use Rattle.judge.proofs.Demand.{end_by_boundary, demand_is, true_pair}
use Rattle.judge.proofs.RunningSums.{sum_of_none}

-- Boundaries increase strictly with their index.
pub boundary_less : (p : Plan) (j k : ℕ) → j < k → k ≤ intervals p → boundary p j < boundary p k
boundary_less p j k h e = rising_less 0 j k (boundaries p) (boundaries_rise p (counted p)) h (omega arith)

-- A deadline before boundary m + 1 is at or before boundary m.
pub deadline_before : (p : Plan) (i m : ℕ) → i < counted p → suc m ≤ intervals p → deadline p i < boundary p (suc m)
    → deadline p i ≤ boundary p m
deadline_before p i m b h l =
    let w = deadline_is_boundary p i b in
    go w.0 w.1 w.2
  where
    go : (k : ℕ) → k ≤ intervals p → boundary p k ≡ deadline p i → deadline p i ≤ boundary p m
    go k c e =
        by_order k m
        (λ q. omega (arith, ap (boundary p) q))
        (λ q. omega (arith, boundary_less p k m q (omega arith)))
        (λ q. absurd (by_order (suc m) k
        (λ r. omega (arith, ap (boundary p) r))
        (λ r. omega (arith, boundary_less p (suc m) k r c))
        (λ r. omega arith)))

-- If D is no HI deadline, no counted HI job has deadline D.
pub hi_deadline_lem : (p : Plan) (D i : ℕ) → is_hi_deadline p D ≡ false → i < counted p → is_hi p i ≡ true → deadline p i ≡ D → ⊥
unfolding is_hi_deadline
hi_deadline_lem p D i h b e q =
    let none = every_at (λ k. not (is_hi p k && eqb (deadline p k) D)) (counted p) i (not-false _ h) b in
    true≢false (sym (ap (λ x. is_hi p i && x) (eq-eqb (deadline p i) D q) ∙ ap (λ x. x && true) e) ∙ not-true _ none)

module _ (p : Plan) (table : List ℕ)
    (inside : (i j : ℕ) → i < counted p → j < intervals p → in_window p i j ≡ false → units table i j ≡ 0) where
  -- A job with deadline at or before boundary m has no units in interval m.
  nothing_after : (i m : ℕ) → i < counted p → m < intervals p → deadline p i ≤ boundary p m → units table i m ≡ 0
  nothing_after i m b h d =
      inside i m b h
      (ap (λ x. leb (release p i) (boundary p m) && x)
      (lt-leb (boundary p (suc m)) (deadline p i) (omega (arith, boundary_rises p m h)))
      ∙ and-false (leb (release p i) (boundary p m)))

  -- Hence its units from interval l to boundary m + 1 are at most those from l to boundary m.
  between_less : (l m i : ℕ) → i < counted p → suc m ≤ intervals p → deadline p i ≤ boundary p m
      → units_between p table l (boundary p (suc m)) i ≤ units_between p table l (boundary p m) i
  between_less l m i b h d =
      sum_mono _ _ (intervals p)
      (λ j c. on_le (leb l j && leb (boundary p (suc j)) (boundary p (suc m))) (leb l j && leb (boundary p (suc j)) (boundary p m))
      (units table i j) (units table i j)
      (λ t.
      let parts = both (leb l j) (leb (boundary p (suc j)) (boundary p (suc m))) t in
      let before : j < suc m = ltb-true j (suc m) (sym ((end_by_boundary p (suc m) (omega arith)).1 j c) ∙ parts.1) in
      below-or-last j m before
      (λ q. rw (parts.0, (end_by_boundary p m (omega arith)).1 j c, lt-ltb j m q) (omega arith))
      (λ q. omega (arith, ap (units table i) q, nothing_after i m b h d))))

  -- The demand up to a boundary that is no HI deadline is at most that up to the boundary before it.
  pub demand_less : (l m : ℕ) → suc m ≤ intervals p → is_hi_deadline p (boundary p (suc m)) ≡ false
      → demand p table l (boundary p (suc m)) ≤ demand p table l (boundary p m)
  demand_less l m h none =
      sum_mono _ _ (counted p)
      (λ i b. on_le (is_hi p i && leb (deadline p i) (boundary p (suc m))) (is_hi p i && leb (deadline p i) (boundary p m))
      (units_between p table l (boundary p (suc m)) i) (units_between p table l (boundary p m) i)
      (λ t.
      let parts = both (is_hi p i) (leb (deadline p i) (boundary p (suc m))) t in
      let late : deadline p i ≤ boundary p (suc m) = leb-true (deadline p i) (boundary p (suc m)) parts.1 in
      let early : deadline p i ≤ boundary p m
      = deadline_before p i m b h (omega (arith, hi_deadline_lem p (boundary p (suc m)) i none b parts.0)) in
      rw (parts.0, le-leb (deadline p i) (boundary p m) early) (between_less l m i b h early)))

  -- The demand from an interval to its own start is 0.
  pub demand_none : (l : ℕ) → l < length (boundaries p) → demand p table l (boundary p l) ≡ 0
  demand_none l b =
      sym (demand_is p table l (boundary p l) l (end_by_boundary p l b))
      ∙ sum_of_none (λ i. is_hi p i && leb (deadline p i) (boundary p l)) (λ i. strided table (most_intervals * i + l) 1) (l - l) (counted p) (omega arith)

  -- If the floor rule holds for every pair, it holds from each interval to each later boundary.
  pub hi_deadlines_are_enough :
      ((l m : ℕ) → m ≤ intervals p → l < intervals p → is_pair p l m ≡ true → demand p table l (boundary p m) ≤ floor_capacity p l (boundary p m))
      → (l m : ℕ) → l < m → m ≤ intervals p → demand p table l (boundary p m) ≤ floor_capacity p l (boundary p m)
  hi_deadlines_are_enough pairs l (suc m) h e =
      go (is_hi_deadline p (boundary p (suc m))) refl (λ q. hi_deadlines_are_enough pairs l m q (omega arith))
    where
      go : (t : Bool) → is_hi_deadline p (boundary p (suc m)) ≡ t
          → (l < m → demand p table l (boundary p m) ≤ floor_capacity p l (boundary p m))
          → demand p table l (boundary p (suc m)) ≤ floor_capacity p l (boundary p (suc m))
      go true q before = pairs l (suc m) e (omega arith) (true_pair p l (suc m) h q)
      go false q before =
          below-or-last l m h
          (λ b. omega (
            arith,
            demand_less l m e q,
            before b,
            mul-le-mul_left {m = boundary p m - boundary p l} {n = boundary p (suc m) - boundary p l} p.d.0
                (omega (arith, boundary_rises p m (omega arith))),
          ))
          (λ b. omega (arith, demand_less l m e q, demand_none l (omega arith), ap (λ k. demand p table l (boundary p k)) b))
  hi_deadlines_are_enough pairs l Prim.Native.Nat.zero h e = elim h [ ]
