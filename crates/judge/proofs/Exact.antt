-- The judge accepts a plan exactly if it is sound and the constraints of figure 2 hold.
use mathlib.Core.Path.{◌≡◌, refl, sym, ◌∙◌, ap}
use mathlib.Core.Bool.{Bool, true, false, not, ◌&&◌, ◌||◌, false≢true}
use mathlib.Core.List.{List, [], ◌∷◌}
use mathlib.Core.Logic.{◌↔◌}
use Prim.Native.Nat.{ℕ, suc, ◌*◌, ◌≤◌, ◌<◌}
use native.Mathlib.Omega.{arith}
use borrow.Author.Tests.{ltb-false, le-ltb, eqb-true, eq-eqb, not-true, ltb-true}
use lib.Dec.{ltb, eqb}
use lib.ListN.{length}
use Rattle.plan.specs.Edition.{places}
use Rattle.plan.specs.Refusal.{outside_window, wrong_total, over_capacity, below_floor_rule}
use Rattle.base.specs.Below.{every}
use Rattle.plan.specs.Rules.{counted, size}
use Rattle.plan.specs.Boundaries.{boundary, intervals}
use Rattle.plan.specs.Table.{sound}
use Rattle.plan.specs.declared.kinds.Plan.{Plan}
use Rattle.base.proofs.Below.{every_ext, every_at, every_all}
use Rattle.base.proofs.Logic.{both}
use Rattle.judge.specs.Constraints.{units, in_window, interval_length, total, load, demand, floor_capacity, Figure2}
use Rattle.judge.specs.Verdict.{is_outside, is_hi_deadline, is_pair, falls_short, outside_fault, total_fault, capacity_fault, floor_fault, hand_fault, constraint_fault, judged}
use Rattle.plan.specs.Report.{Report, or_else, fault, is_none, first}
use Rattle.plan.proofs.Reports.{none_empty, empty_none, none_plain, none_fault, none_first, none_faults}
use Rattle.judge.proofs.HandFault.{hand_none, hand_sound}
use Rattle.judge.proofs.HiDeadlinesSuffice.{hi_deadlines_are_enough}

-- A nested first report is empty exactly if all reports in it are.
two_deep : (f : ℕ → ℕ → Report) (n m : ℕ) → is_none (first (λ i. first (f i) m) n) ≡ every (λ i. every (λ j. is_none (f i j)) m) n
two_deep f n m = none_first (λ i. first (f i) m) n ∙ every_ext _ _ n (λ i l. none_first (f i) m)

-- A disjunction holds if its second part holds whenever the first fails; a conjunction fails if its
-- second part fails whenever the first holds.
or_else_lem : (a b : Bool) → (a ≡ false → b ≡ true) → (a || b) ≡ true
or_else_lem true b h = refl
or_else_lem false b h = h refl

and_no : (a b : Bool) → (a ≡ true → b ≡ false) → (a && b) ≡ false
and_no true b h = h refl
and_no false b h = refl

-- If `or_else` of two reports is empty, both reports are.
none_parts : (a b : Report) → or_else a b ≡ [] → (a ≡ []) × (b ≡ [])
none_parts [] b h = (refl, h)
none_parts (number ∷ places) b h = absurd (false≢true (ap is_none h))

module _ (p : Plan) (table : List ℕ) where
  -- There is no report 15 exactly if no job has units outside its window.
  pub outside_none : (outside_fault p table ≡ [])
      ↔ ((i j : ℕ) → i < counted p → j < intervals p → in_window p i j ≡ false → units table i j ≡ 0)
  unfolding outside_fault
  outside_none = (
    λ h i j a b o.
        let tests = sym (two_deep (λ i j. fault (is_outside p table i j) (outside_window ∷ i ∷ j ∷ [])) (counted p) (intervals p))
        ∙ empty_none (outside_fault p table) h in
        let here = every_at _ (intervals p) j (every_at _ (counted p) i tests a) b in
        eqb-true (units table i j) 0
        (sym (ap (λ w. w || eqb (units table i j) 0) o)
        ∙ sym (none_fault (in_window p i j || eqb (units table i j) 0) outside_window (i ∷ j ∷ [])) ∙ here),
    λ h. none_empty (outside_fault p table) (two_deep _ (counted p) (intervals p)
        ∙ every_all _ (counted p) (λ i a. every_all _ (intervals p) (λ j b.
        none_fault (in_window p i j || eqb (units table i j) 0) outside_window (i ∷ j ∷ [])
        ∙ or_else_lem (in_window p i j) (eqb (units table i j) 0) (λ o. eq-eqb (units table i j) 0 (h i j a b o))))),
  )

  -- There is no report 16 exactly if every job's total is its size.
  pub total_none : (total_fault p table ≡ []) ↔ ((i : ℕ) → i < counted p → total p table i ≡ size p i)
  unfolding total_fault
  total_none = (
    λ h i a. eqb-true (total p table i) (size p i)
        (every_at _ (counted p) i (sym (none_faults (λ k. eqb (total p table k) (size p k)) wrong_total (λ k. k ∷ []) (counted p)) ∙ empty_none (total_fault p table) h) a),
    λ h. none_empty (total_fault p table) (none_faults (λ k. eqb (total p table k) (size p k)) wrong_total (λ k. k ∷ []) (counted p)
        ∙ every_all _ (counted p) (λ i a. eq-eqb (total p table i) (size p i) (h i a))),
  )

  -- There is no report 17 exactly if every interval's load is within the normal rate's capacity.
  pub capacity_none : (capacity_fault p table ≡ []) ↔ ((j : ℕ) → j < intervals p → load p table j ≤ p.n.0 * interval_length p j)
  unfolding capacity_fault
  capacity_none = (
    λ h j b.
        let here = every_at _ (intervals p) j (sym (none_first (λ k. fault (ltb (p.n.0 * interval_length p k) (load p table k)) (over_capacity ∷ k ∷ [])) (intervals p)) ∙ empty_none (capacity_fault p table) h) b in
        ltb-false (p.n.0 * interval_length p j) (load p table j)
        (not-true _ (sym (none_plain (ltb (p.n.0 * interval_length p j) (load p table j)) over_capacity (j ∷ [])) ∙ here)),
    λ h. none_empty (capacity_fault p table) (none_first _ (intervals p)
        ∙ every_all _ (intervals p) (λ j b. none_plain (ltb (p.n.0 * interval_length p j) (load p table j)) over_capacity (j ∷ [])
        ∙ ap not (le-ltb (p.n.0 * interval_length p j) (load p table j) (h j b)))),
  )

  -- There is no report 18 exactly if the floor rule holds for every pair.
  pub floor_none : (floor_fault p table ≡ [])
      ↔ ((l m : ℕ) → m ≤ intervals p → l < intervals p → is_pair p l m ≡ true → demand p table l (boundary p m) ≤ floor_capacity p l (boundary p m))
  unfolding floor_fault
  floor_none = (
    λ h l m a b t.
        let tests = sym (two_deep (λ l m. fault (is_pair p l m && falls_short p table l m) (below_floor_rule ∷ l ∷ boundary p m ∷ [])) (intervals p) (suc (intervals p)))
        ∙ empty_none (floor_fault p table) h in
        let here = every_at _ (suc (intervals p)) m (every_at _ (intervals p) l tests b) (omega arith) in
        ltb-false (floor_capacity p l (boundary p m)) (demand p table l (boundary p m))
        (sym (ap (λ x. x && falls_short p table l m) t)
        ∙ not-true _ (sym (none_plain (is_pair p l m && falls_short p table l m) below_floor_rule (l ∷ boundary p m ∷ [])) ∙ here)),
    λ h. none_empty (floor_fault p table) (two_deep _ (intervals p) (suc (intervals p))
        ∙ every_all _ (intervals p) (λ l b. every_all _ (suc (intervals p)) (λ m a.
        none_plain (is_pair p l m && falls_short p table l m) below_floor_rule (l ∷ boundary p m ∷ [])
        ∙ ap not (and_no (is_pair p l m) (falls_short p table l m)
        (λ t. le-ltb (floor_capacity p l (boundary p m)) (demand p table l (boundary p m)) (h l m (omega arith) b t)))))),
  )

  -- If the judge reports nothing, none of its tests does.
  pub accepted_parts : judged p table ≡ []
      → (hand_fault p table ≡ []) × (outside_fault p table ≡ []) × (total_fault p table ≡ []) × (capacity_fault p table ≡ []) × (floor_fault p table ≡ [])
  unfolding judged
  accepted_parts h =
      let one = none_parts (hand_fault p table) (or_else (constraint_fault p table) (floor_fault p table)) h in
      let two = none_parts (constraint_fault p table) (floor_fault p table) one.1 in
      let three = none_parts (outside_fault p table) (or_else (total_fault p table) (capacity_fault p table)) two.0 in
      let four = none_parts (total_fault p table) (capacity_fault p table) three.1 in
      (one.0, three.0, four.0, four.1, two.1)

  -- The judge accepts exactly the sound plans that meet figure 2, which
  -- tests the floor rule at all later boundaries.
  pub exact : places ≤ length table → ((judged p table ≡ []) ↔ ((sound p table ≡ true) × Figure2 p table))
  unfolding judged
  exact long = (
    λ h.
        let parts = accepted_parts h in
        let inside = outside_none.0 parts.1 in (
          (hand_none p table parts.0).1,
          record {
            allotted = record { inside = inside; exact = total_none.0 parts.2; within = capacity_none.0 parts.3 };
            floor = hi_deadlines_are_enough p table inside (floor_none.0 parts.4);
          },
        ),
    λ h.
        let a = h.1.allotted in
        rw (
          hand_sound p table long h.0,
          outside_none.1 a.inside,
          total_none.1 a.exact,
          capacity_none.1 a.within,
          floor_none.1 (λ l m d b t. h.1.floor l m (ltb-true l m (both (ltb l m) (is_hi_deadline p (boundary p m)) t).0) d),
        ) refl,
  )
