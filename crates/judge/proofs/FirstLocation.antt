-- Every verdict names the first location of its fault, and everything that is tested before it passed.
use mathlib.Core.Path.{◌≡◌, refl, sym, ◌∙◌, ap, ap₂, subst}
use mathlib.Core.Bool.{Bool, true, false, not, ◌&&◌, false≢true}
use mathlib.Core.List.{List, [], ◌∷◌}
use mathlib.Core.Logic.{◌⊎◌, inl, inr, ⊎_elim}
use Prim.Native.Nat.{ℕ, zero, suc, ◌*◌, ◌≤◌, ◌<◌}
use native.Mathlib.Decide.{dec_lt}
use native.Mathlib.Omega.{arith}
use borrow.Author.Tests.{ltb-true, ltb-false, lt-ltb, le-ltb, eqb-true, eqb-false, not-true, not-false}
use lib.Dec.{ltb, eqb}
use lib.ListN.{length}
use Rattle.plan.specs.Edition.{places}
use Rattle.plan.specs.Refusal.{outside_window, wrong_total, over_capacity, below_floor_rule, unsound, buffer_too_short}
use Rattle.plan.specs.Rules.{counted, size}
use Rattle.plan.specs.Boundaries.{boundary, intervals}
use Rattle.plan.specs.Table.{sound}
use Rattle.plan.specs.declared.kinds.Plan.{Plan}
use Rattle.base.proofs.Below.{every_at}
use Rattle.base.proofs.Logic.{both, below-or-last}
use Rattle.judge.specs.Constraints.{interval_length, total, load, demand, floor_capacity}
use Rattle.judge.specs.Verdict.{is_outside, is_pair, falls_short, outside_fault, total_fault, capacity_fault, floor_fault, hand_fault, constraint_fault, judged}
use Rattle.plan.specs.Report.{Report, or_else, fault, is_none, first}
use Rattle.judge.specs.Decided.{InHand, InsideTo, TotalTo, WithinTo, Decided, short, bad, outside, wrong, over, below, accepted}
use Rattle.plan.proofs.Reports.{none_empty, empty_none, none_plain, none_first, or_some, or_none}
use Rattle.judge.proofs.HandFault.{hand_sound}

-- No number below n has a report; or k has one, no lesser number has, and it is the first report.
abbrev pub Search : (ℕ → Report) → ℕ → Type 0
Search f n = ((first f n ≡ []) × ((k : ℕ) → k < n → f k ≡ []))
    ⊎ ((k : ℕ) × (k < n) × (is_none (f k) ≡ false) × ((j : ℕ) → j < k → f j ≡ []) × (first f n ≡ f k))

pub search_first : (f : ℕ → Report) (n : ℕ) → Search f n
unfolding first
search_first f zero = inl (refl, λ k l. absurd (omega arith))
search_first f (suc n) = go (search_first f n) (is_none (f n)) refl
  where
    go : Search f n → (t : Bool) → is_none (f n) ≡ t → Search f (suc n)
    go (inr w) t e = inr (w.0, omega (arith, w.1), w.2, w.3, ap (λ r. or_else r (f n)) w.4 ∙ or_some (f w.0) (f n) w.2)
    go (inl w) true e =
        let none = none_empty (f n) e in
        inl (or_none (first f n) (f n) w.0 ∙ none, λ k l. below-or-last k n l (w.1 k) (λ q. ap f q ∙ none))
    go (inl w) false e = inr (n, omega arith, e, w.1, or_none (first f n) (f n) w.0)

-- If the first report is empty, so is every report below n.
first_all : (f : ℕ → Report) (n k : ℕ) → first f n ≡ [] → k < n → f k ≡ []
first_all f n k h l = none_empty (f k) (every_at (λ k. is_none (f k)) n k (sym (none_first f n) ∙ ap is_none h) l)

-- The report of a fault decides its test: empty if false, nonempty if true.
fault_no : (t : Bool) (number : ℕ) (l : Report) → fault t (number ∷ l) ≡ [] → t ≡ false
fault_no t number l h = not-true t (sym (none_plain t number l) ∙ ap is_none h)

fault_yes : (t : Bool) (number : ℕ) (l : Report) → is_none (fault t (number ∷ l)) ≡ false → t ≡ true
fault_yes t number l h = not-false t (sym (none_plain t number l) ∙ h)

-- If a conjunction fails and its first part holds, its second part fails.
and_fails : (a b : Bool) → (a && b) ≡ false → a ≡ true → b ≡ false
and_fails a b h e = sym (ap (λ x. x && b) e) ∙ h

module _ (p : Plan) (table : List ℕ) where
  -- The reports of rules 15 and 18 at one location.
  abbrev outside_at : ℕ → ℕ → Report
  outside_at i j = fault (is_outside p table i j) (outside_window ∷ i ∷ j ∷ [])

  abbrev short_at : ℕ → ℕ → Report
  short_at l m = fault (is_pair p l m && falls_short p table l m) (below_floor_rule ∷ l ∷ boundary p m ∷ [])

  not_short : (l m : ℕ) → short_at l m ≡ [] → is_pair p l m ≡ true → demand p table l (boundary p m) ≤ floor_capacity p l (boundary p m)
  not_short l m h t =
      ltb-false (floor_capacity p l (boundary p m)) (demand p table l (boundary p m))
      (and_fails (is_pair p l m) (falls_short p table l m) (fault_no (is_pair p l m && falls_short p table l m) below_floor_rule (l ∷ boundary p m ∷ []) h) t)

  module _ (hand : InHand p table) where
    no_hand : hand_fault p table ≡ []
    no_hand = hand_sound p table hand.0 hand.1

    -- 18 is tested last.
    by_floor : InsideTo p table (counted p) → TotalTo p table (counted p) → WithinTo p table (intervals p)
        → constraint_fault p table ≡ [] → Decided p table (judged p table)
    unfolding judged floor_fault
    by_floor inside totals within none =
        let clear : judged p table ≡ floor_fault p table = rw (no_hand, none) refl in
        ⊎_elim
        (λ w. subst (Decided p table) (sym (clear ∙ w.0))
        (accepted hand inside totals within (λ l b k d. not_short l k (first_all (short_at l) (suc (intervals p)) k (w.1 l b) (omega arith)))))
        (λ w. ⊎_elim
        (λ v. absurd (false≢true (sym w.2 ∙ empty_none (first (short_at w.0) (suc (intervals p))) v.0)))
        (λ v.
        let l = w.0 in
        let m = v.0 in
        let t = both (is_pair p l m) (falls_short p table l m) (fault_yes (is_pair p l m && falls_short p table l m) below_floor_rule (l ∷ boundary p m ∷ []) v.2) in
        subst (Decided p table)
        (sym (clear ∙ w.4 ∙ v.4 ∙ ap (λ b. fault b (below_floor_rule ∷ l ∷ boundary p m ∷ [])) (ap₂ ◌&&◌ t.0 t.1)))
        (below hand inside totals within l m w.1 (omega (arith, v.1)) t.0 (ltb-true (floor_capacity p l (boundary p m)) (demand p table l (boundary p m)) t.1)
        (λ k b n d. not_short k n (first_all (short_at k) (suc (intervals p)) n (w.3 k b) (omega arith)))
        (λ k b. not_short l k (v.3 k b))))
        (search_first (short_at w.0) (suc (intervals p))))
        (search_first (λ l. first (short_at l) (suc (intervals p))) (intervals p))

    -- 17 is tested before 18.
    by_capacity : InsideTo p table (counted p) → TotalTo p table (counted p) → outside_fault p table ≡ [] → total_fault p table ≡ []
        → Decided p table (judged p table)
    unfolding judged capacity_fault
    by_capacity inside totals one two =
        ⊎_elim
        (λ w. by_floor inside totals
        (λ j b. ltb-false (p.n.0 * interval_length p j) (load p table j) (fault_no (ltb (p.n.0 * interval_length p j) (load p table j)) over_capacity (j ∷ []) (w.1 j b)))
        (rw (one, two) w.0))
        (λ w.
        let j = w.0 in
        let t = fault_yes (ltb (p.n.0 * interval_length p j) (load p table j)) over_capacity (j ∷ []) w.2 in
        let is : capacity_fault p table ≡ over_capacity ∷ j ∷ [] = w.4 ∙ ap (λ b. fault b (over_capacity ∷ j ∷ [])) t in
        let whole : judged p table ≡ over_capacity ∷ j ∷ [] = rw (no_hand, one, two, is) refl in
        subst (Decided p table) (sym whole)
        (over hand inside totals j w.1 (ltb-true (p.n.0 * interval_length p j) (load p table j) t)
        (λ k b. ltb-false (p.n.0 * interval_length p k) (load p table k) (fault_no (ltb (p.n.0 * interval_length p k) (load p table k)) over_capacity (k ∷ []) (w.3 k b)))))
        (search_first (λ j. fault (ltb (p.n.0 * interval_length p j) (load p table j)) (over_capacity ∷ j ∷ [])) (intervals p))

    -- 16 is tested before 17.
    by_total : InsideTo p table (counted p) → outside_fault p table ≡ [] → Decided p table (judged p table)
    unfolding judged total_fault
    by_total inside one =
        ⊎_elim
        (λ w. by_capacity inside (λ i a. has_size i (w.1 i a)) one w.0)
        (λ w.
        let i = w.0 in
        let t = fault_yes (not (eqb (total p table i) (size p i))) wrong_total (i ∷ []) w.2 in
        let is : total_fault p table ≡ wrong_total ∷ i ∷ [] = w.4 ∙ ap (λ b. fault b (wrong_total ∷ i ∷ [])) t in
        let whole : judged p table ≡ wrong_total ∷ i ∷ [] = rw (no_hand, one, is) refl in
        subst (Decided p table) (sym whole)
        (wrong hand inside i w.1 (eqb-false (total p table i) (size p i) (not-true _ t)) (λ k b. has_size k (w.3 k b))))
        (search_first (λ i. fault (not (eqb (total p table i) (size p i))) (wrong_total ∷ i ∷ [])) (counted p))
      where
        has_size : (i : ℕ) → fault (not (eqb (total p table i) (size p i))) (wrong_total ∷ i ∷ []) ≡ [] → total p table i ≡ size p i
        has_size i h = eqb-true (total p table i) (size p i) (not-false _ (fault_no (not (eqb (total p table i) (size p i))) wrong_total (i ∷ []) h))

    -- 15 is tested first, over all jobs.
    by_window : Decided p table (judged p table)
    unfolding judged outside_fault
    by_window =
        ⊎_elim
        (λ w. by_total (λ i j a b. is_inside i j (first_all (outside_at i) (intervals p) j (w.1 i a) b)) w.0)
        (λ w. ⊎_elim
        (λ v. absurd (false≢true (sym w.2 ∙ empty_none (first (outside_at w.0) (intervals p)) v.0)))
        (λ v.
        let i = w.0 in
        let j = v.0 in
        let t = fault_yes (is_outside p table i j) outside_window (i ∷ j ∷ []) v.2 in
        let is : outside_fault p table ≡ outside_window ∷ i ∷ j ∷ [] = w.4 ∙ v.4 ∙ ap (λ b. fault b (outside_window ∷ i ∷ j ∷ [])) t in
        let whole : judged p table ≡ outside_window ∷ i ∷ j ∷ [] = rw (no_hand, is) refl in
        subst (Decided p table) (sym whole)
        (outside hand i j w.1 v.1 t (λ k n a b. is_inside k n (first_all (outside_at k) (intervals p) n (w.3 k a) b)) (λ k b. is_inside i k (v.3 k b))))
        (search_first (outside_at w.0) (intervals p)))
        (search_first (λ i. first (outside_at i) (intervals p)) (counted p))
      where
        is_inside : (i j : ℕ) → outside_at i j ≡ [] → is_outside p table i j ≡ false
        is_inside i j h = fault_no (is_outside p table i j) outside_window (i ∷ j ∷ []) h

  -- Every verdict means what `Decided` says, and so names the first location.
  pub every_place_is_the_first : Decided p table (judged p table)
  unfolding judged
  every_place_is_the_first = go (dec_lt (length table) places) (sound p table) refl
    where
      go : Dec (length table < places) → (t : Bool) → sound p table ≡ t → Decided p table (judged p table)
      go (yes l) t e =
          let whole : judged p table ≡ buffer_too_short ∷ [] = rw (lt-ltb (length table) places l) refl in
          subst (Decided p table) (sym whole) (short l)
      go (no n) true e = by_window (omega arith, e)
      go (no n) false e =
          let whole : judged p table ≡ unsound ∷ [] = rw (le-ltb (length table) places (omega arith), e) refl in
          subst (Decided p table) (sym whole) (bad (omega arith) e)
