-- Baruah and Guo's separate test of the HI jobs alone at the floor: if
-- figure 2 holds, it passes for all times.
use mathlib.Core.Path.{◌≡◌, refl, sym, ◌∙◌, ap}
use mathlib.Core.Bool.{Bool, true, false, ◌&&◌}
use mathlib.Core.List.{List}
use Prim.Native.Nat.{ℕ, zero, suc, ◌*◌, ◌-◌, ◌≤◌, ◌<◌}
use native.Mathlib.Nat.{mul-le-mul_left}
use native.Mathlib.Decide.{dec_lt}
use native.Mathlib.Omega.{arith}
use borrow.Author.Tests.{leb-true, leb-false, ltb-true, ltb-false, lt-ltb, le-ltb, le-leb, lt-leb}
use lib.Dec.{leb}
use lib.ListN.{length}
use Rattle.base.specs.Sum.{sum, on}
use Rattle.base.proofs.SumLaws.{sum_mono, sum_none}
use Rattle.plan.specs.Rules.{counted, release, deadline, size, is_hi}
use Rattle.plan.specs.Boundaries.{boundaries, boundary, intervals, come}
use Rattle.plan.specs.declared.kinds.Plan.{Plan}
use Rattle.plan.proofs.BoundaryOrder.{boundaries_rise}
use Rattle.plan.proofs.BoundaryCount.{come_few}
use Rattle.plan.proofs.PresentInterval.{deadline_is_boundary}
use Rattle.base.proofs.Logic.{both, by_order}
use Rattle.judge.specs.Constraints.{units, in_window, units_between, Figure2}
use Rattle.judge.proofs.IncreasingTimes.{come_first}
use Rattle.judge.proofs.HiDeadlinesSuffice.{boundary_less}
use Rattle.base.proofs.Choice.{on_le}

-- The number of boundaries before time r.
before : Plan → ℕ → ℕ
before p zero = 0
before p (suc r) = come r (boundaries p)

module _ (p : Plan) where
  -- A boundary at or after r has at least index `before p r`.
  not_before : (r k : ℕ) → k ≤ intervals p → k < length (boundaries p) → r ≤ boundary p k → before p r ≤ k
  unfolding before
  not_before zero k h b l = omega arith
  not_before (suc r) k h b l =
      ltb-false k (come r (boundaries p))
      (sym (come_first r 0 k (boundaries p) (boundaries_rise p (counted p)) b) ∙ lt-leb (boundary p k) r l)

  -- The boundary with index `before p r` is at or after r.
  at_or_after : (r : ℕ) → before p r < length (boundaries p) → r ≤ boundary p (before p r)
  unfolding before
  at_or_after zero b = omega arith
  at_or_after (suc r) b =
      leb-false (boundary p (come r (boundaries p))) r
      (come_first r 0 (come r (boundaries p)) (boundaries p) (boundaries_rise p (counted p)) b ∙ le-ltb (come r (boundaries p)) (come r (boundaries p)) (omega arith))

  -- Boundary k is at or before D exactly if k is below the number of such boundaries;
  -- and boundaries are monotone in their index.
  has_come : (D k : ℕ) → k < length (boundaries p) → boundary p k ≤ D → k < come D (boundaries p)
  has_come D k b l =
      ltb-true k (come D (boundaries p))
      (sym (come_first D 0 k (boundaries p) (boundaries_rise p (counted p)) b) ∙ le-leb (boundary p k) D l)

  came_by : (D k : ℕ) → k < come D (boundaries p) → boundary p k ≤ D
  came_by D k l =
      leb-true (boundary p k) D
      (come_first D 0 k (boundaries p) (boundaries_rise p (counted p)) (omega (arith, come_few D (boundaries p))) ∙ lt-ltb k (come D (boundaries p)) l)

  up_to : (k m : ℕ) → k ≤ m → m ≤ intervals p → boundary p k ≤ boundary p m
  up_to k m h e =
      by_order k m
      (λ q. omega (arith, ap (boundary p) q))
      (λ q. omega (arith, boundary_less p k m q e))
      (λ q. absurd (omega arith))

-- If figure 2 holds, the sizes of HI jobs with release at or after r and deadline at or before D
-- sum to at most the floor's capacity from r to D.
module _ (p : Plan) (table : List ℕ) (ok : Figure2 p table) (r D : ℕ) where
  -- An interval inside the window of such a job starts at or after the first
  -- boundary from r on, and ends at or before D.
  placed : (i j : ℕ) → r ≤ release p i → deadline p i ≤ D → j < intervals p → in_window p i j ≡ true
      → (before p r ≤ j) × (suc j < come D (boundaries p))
  placed i j a b c w =
      let parts = both (leb (release p i) (boundary p j)) (leb (boundary p (suc j)) (deadline p i)) w in (
        not_before p r j (omega arith) (omega arith) (omega (arith, leb-true (release p i) (boundary p j) parts.0)),
        has_come p D (suc j) (omega arith) (omega (arith, leb-true (boundary p (suc j)) (deadline p i) parts.1)),
      )

  abbrev wanted : ℕ → Bool
  wanted i = is_hi p i && (leb r (release p i) && leb (deadline p i) D)

  abbrev first_one : ℕ
  first_one = before p r

  abbrev last_one : ℕ
  last_one = come D (boundaries p) - 1

  -- If no interval lies between r and D, there is no such job.
  none_fits : come D (boundaries p) ≤ suc first_one → (i : ℕ) → i < counted p → on (wanted i) (size p i) ≤ 0
  none_fits h i b =
      on_le (wanted i) false (size p i) 0
      (λ t.
      let times = both (leb r (release p i)) (leb (deadline p i) D) (both (is_hi p i) _ t).1 in
      omega (
        arith,
        ok.allotted.exact i b,
        sum_none (units table i) (intervals p)
            (λ j c. go i j c (leb-true r (release p i) times.0) (leb-true (deadline p i) D times.1) b (in_window p i j) refl),
      ))
    where
      go : (i j : ℕ) → j < intervals p → r ≤ release p i → deadline p i ≤ D → i < counted p → (w : Bool) → in_window p i j ≡ w → units table i j ≡ 0
      go i j c x y b true e = absurd (omega (arith, placed i j x y c e))
      go i j c x y b false e = ok.allotted.inside i j b c e

  -- Otherwise each such job's size is at most its units between the two boundaries.
  all_between : suc first_one < come D (boundaries p) → (i : ℕ) → i < counted p
      → on (wanted i) (size p i)
      ≤ on (is_hi p i && leb (deadline p i) (boundary p last_one)) (units_between p table first_one (boundary p last_one) i)
  all_between h i b =
      on_le (wanted i) (is_hi p i && leb (deadline p i) (boundary p last_one)) (size p i) (units_between p table first_one (boundary p last_one) i)
      (λ t.
      let parts = both (is_hi p i) (leb r (release p i) && leb (deadline p i) D) t in
      let times = both (leb r (release p i)) (leb (deadline p i) D) parts.1 in
      let from = leb-true r (release p i) times.0 in
      let to = leb-true (deadline p i) D times.1 in
      let w = deadline_is_boundary p i b in
      let some : 0 < length (boundaries p) = omega (arith, come_few D (boundaries p)) in
      let due : deadline p i ≤ boundary p last_one
      = omega (arith, w.2, up_to p w.0 last_one (omega (arith, has_come p D w.0 (omega (arith, w.1)) (omega (arith, w.2)))) (omega (arith, come_few D (boundaries p)))) in
      rw (parts.0, le-leb (deadline p i) (boundary p last_one) due)
      (omega (
        arith,
        ok.allotted.exact i b,
        sum_mono (units table i)
            (λ j. on (leb first_one j && leb (boundary p (suc j)) (boundary p last_one)) (units table i j)) (intervals p)
            (λ j c. go i j c from to b (in_window p i j) refl),
      )))
    where
      go : (i j : ℕ) → j < intervals p → r ≤ release p i → deadline p i ≤ D → i < counted p → (w : Bool) → in_window p i j ≡ w
          → units table i j ≤ on (leb first_one j && leb (boundary p (suc j)) (boundary p last_one)) (units table i j)
      go i j c x y b false e = rw (ok.allotted.inside i j b c e) (omega arith)
      go i j c x y b true e =
          let at = placed i j x y c e in
          let late : leb (boundary p (suc j)) (boundary p last_one) ≡ true
          = le-leb (boundary p (suc j)) (boundary p last_one) (up_to p (suc j) last_one (omega (arith, at)) (omega (arith, come_few D (boundaries p)))) in
          rw (le-leb first_one j at.0, late) (omega arith)

  pub floor_alone_is_enough : sum (λ i. on (wanted i) (size p i)) (counted p) ≤ p.d.0 * (D - r)
  floor_alone_is_enough = go (dec_lt (suc first_one) (come D (boundaries p)))
    where
      go : Dec (suc first_one < come D (boundaries p)) → sum (λ i. on (wanted i) (size p i)) (counted p) ≤ p.d.0 * (D - r)
      go (no h) =
          omega (arith, sum_none (λ i. on (wanted i) (size p i)) (counted p) (λ i b. omega (arith, none_fits (omega arith) i b)))
      go (yes h) =
          let few = come_few D (boundaries p) in
          let start : r ≤ boundary p first_one = at_or_after p r (omega arith) in
          let end : boundary p last_one ≤ D = came_by p D last_one (omega arith) in
          omega (
            arith,
            sum_mono _ _ (counted p) (all_between h),
            ok.floor first_one last_one (omega arith) (omega arith),
            mul-le-mul_left {m = boundary p last_one - boundary p first_one} {n = D - r} p.d.0 (omega arith),
          )
