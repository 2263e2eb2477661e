-- Laws of `no_stray`: the table has no stray place exactly when each job's row is 0 after
-- the intervals and all rows after the jobs are 0.
use mathlib.Core.Path.{◌≡◌, refl, sym, ◌∙◌, ap, ap₂}
use mathlib.Core.Bool.{Bool, true, ◌&&◌, ◌||◌, or-false, or-true}
use mathlib.Core.Logic.{◌⊎◌, inl, inr, ⊎_elim}
use mathlib.Core.List.{List, [], ◌∷◌}
use Prim.Native.Nat.{ℕ, zero, suc, ◌+◌, ◌*◌, ◌-◌, ◌/◌, ◌%◌, ◌≤◌, ◌<◌, min}
use native.Mathlib.Nat.{zero-add, add-zero, mul-zero, mul-suc, mul-add-div, mul-add-mod_self_left, div-eq_of_lt, mod-eq_of_lt, div-add-mod, mod-lt}
use native.Mathlib.Omega.{arith}
use borrow.Author.Tests.{lt-ltb, le-ltb, eqb-true, eq-eqb}
use lib.Dec.{ltb, eqb}
use lib.ListN.{length, get_or, take, get_or-eq_default}
use Rattle.base.specs.Below.{every}
use Rattle.plan.specs.Edition.{most_jobs, most_intervals, places}
use Rattle.plan.specs.Rules.{counted}
use Rattle.plan.specs.Boundaries.{intervals}
use Rattle.plan.specs.Table.{no_stray, sound_within, sound}
use Rattle.plan.specs.declared.kinds.Plan.{Plan}
use Rattle.base.proofs.Below.{every_ext, every_shift, every_split, every_at, every_all, every_cut}
use Rattle.base.proofs.Logic.{if_less, both}
use Rattle.plan.proofs.BoundaryOrder.{boundaries_few}

-- A test over width × n places is a test over n rows of width places.
every_rows : (test : ℕ → Bool) (width n : ℕ) → every test (width * n) ≡ every (λ i. every (λ j. test (width * i + j)) width) n
unfolding every
every_rows test width zero = rw mul-zero refl
every_rows test width (suc n) =
    rw mul-suc (every_split test (width * n) width ∙ ap (λ b. b && every (λ j. test (width * n + j)) width) (every_rows test width n))

-- `no_stray` over a prefix of length n, as a test of each place;
-- past the end of the list a place reads as 0.
stray_places : (width jobs spans q n : ℕ) (l : List ℕ)
    → no_stray width jobs spans q (take n l)
    ≡ every (λ k. eqb (get_or l k 0) 0 || ltb ((q + k) / width) jobs && ltb ((q + k) % width) spans) n
unfolding no_stray every
stray_places width jobs spans q zero l = refl
stray_places width jobs spans q (suc n) [] = sym (every_all _ (suc n) (λ k l. refl))
stray_places width jobs spans q (suc n) (u ∷ l) =
    ap₂ (λ a b. (eqb u 0 || ltb (a / width) jobs && ltb (a % width) spans) && b) (sym (add-zero q))
    (stray_places width jobs spans (suc q) n l
    ∙ every_ext _ _ n (λ k h. ap (λ a. eqb (get_or l k 0) 0 || ltb (a / width) jobs && ltb (a % width) spans) (omega arith)))
    ∙ sym (every_shift (λ k. eqb (get_or (u ∷ l) k 0) 0 || ltb ((q + k) / width) jobs && ltb ((q + k) % width) spans) n)

-- The test `f j is 0 or j < free` over free + rest indices is the test for 0 over
-- the last `rest` of them.
zero_from : (f : ℕ → ℕ) (free rest : ℕ) → every (λ j. eqb (f j) 0 || ltb j free) (free + rest) ≡ every (λ k. eqb (f (free + k)) 0) rest
zero_from f free rest =
    every_split (λ j. eqb (f j) 0 || ltb j free) free rest
    ∙ ap₂ ◌&&◌
    (every_all _ free (λ k l. ap (λ b. eqb (f k) 0 || b) (lt-ltb k free l) ∙ or-true (eqb (f k) 0)))
    (every_ext _ _ rest (λ k l. ap (λ b. eqb (f (free + k)) 0 || b) (le-ltb (free + k) free (omega arith)) ∙ or-false (eqb (f (free + k)) 0)))

-- Place q holds 0, or its job is below `jobs` and its interval below `spans`.
abbrev allowed : ℕ → ℕ → ℕ → List ℕ → ℕ → Bool
allowed width jobs spans l q = eqb (get_or l q 0) 0 || ltb (q / width) jobs && ltb (q % width) spans

-- All places of a job's row are allowed exactly when the row is 0 from interval `spans` on.
row_allowed : (width jobs spans rest i : ℕ) (l : List ℕ) → 0 < width → spans + rest ≡ width → i < jobs
    → every (λ k. eqb (get_or l (width * i + spans + k) 0) 0) rest ≡ every (λ j. allowed width jobs spans l (width * i + j)) width
row_allowed width jobs spans rest i l h whole m =
    every_ext _ _ rest (λ k b. ap (λ q. eqb (get_or l q 0) 0) (omega arith))
    ∙ sym (zero_from (λ j. get_or l (width * i + j) 0) spans rest)
    ∙ ap (every _) whole
    ∙ every_ext _ _ width
    (λ j b. ap (λ t. eqb (get_or l (width * i + j) 0) 0 || t)
    (sym (ap₂ (λ x y. ltb x jobs && ltb y spans) (mul-add-div h i j ∙ ap (λ x. i + x) (div-eq_of_lt b) ∙ add-zero i) (mul-add-mod_self_left width i j ∙ mod-eq_of_lt b)
    ∙ ap (λ t. t && ltb j spans) (lt-ltb i jobs m))))

-- A place after the rows of the jobs is allowed exactly when it holds 0.
behind_allowed : (width jobs spans k : ℕ) (l : List ℕ) → 0 < width → eqb (get_or l (width * jobs + k) 0) 0 ≡ allowed width jobs spans l (width * jobs + k)
behind_allowed width jobs spans k l h =
    sym (ap (λ x. eqb (get_or l (width * jobs + k) 0) 0 || x && ltb ((width * jobs + k) % width) spans)
    (ap (λ x. ltb x jobs) (mul-add-div h jobs k) ∙ le-ltb (jobs + k / width) jobs (omega arith))
    ∙ or-false (eqb (get_or l (width * jobs + k) 0) 0))

-- No place is stray exactly when each job's row is 0 from interval `spans` on
-- and all rows after the jobs are 0.
pub stray_parts : (width jobs more spans rest : ℕ) (l : List ℕ) → 0 < width → spans + rest ≡ width
    → (every (λ i. every (λ k. eqb (get_or l (width * i + spans + k) 0) 0) rest) jobs && every (λ k. eqb (get_or l (width * jobs + k) 0) 0) (width * more))
    ≡ no_stray width jobs spans 0 (take (width * jobs + width * more) l)
stray_parts width jobs more spans rest l h whole =
    ap₂ ◌&&◌
    (every_ext _ _ jobs (λ i m. row_allowed width jobs spans rest i l h whole m) ∙ sym (every_rows (allowed width jobs spans l) width jobs))
    (every_ext _ _ (width * more) (λ k b. behind_allowed width jobs spans k l h))
    ∙ sym (every_split (allowed width jobs spans l) (width * jobs) (width * more))
    ∙ every_ext _ _ (width * jobs + width * more) (λ k b. ap (λ q. eqb (get_or l k 0) 0 || ltb (q / width) jobs && ltb (q % width) spans) (sym (zero-add k)))
    ∙ sym (stray_places width jobs spans 0 (width * jobs + width * more) l)

-- Places past the end of the list do not change whether all places are 0.
pub zero_past : (l : List ℕ) (start m n : ℕ) → m ≤ n → ((k : ℕ) → m ≤ k → k < n → length l ≤ start + k)
    → every (λ k. eqb (get_or l (start + k) 0) 0) m ≡ every (λ k. eqb (get_or l (start + k) 0) 0) n
zero_past l start m n h past =
    sym (every_cut _ m n h (λ k a b. ap (λ x. eqb x 0) (get_or-eq_default l 0 (past k a b))))

-- With the plan's own number of intervals, `sound_within` is `sound`.
pub sound_told : (p : Plan) (table : List ℕ) (spans : ℕ) → spans ≡ intervals p → sound_within (min spans most_intervals) p table ≡ sound p table
unfolding sound
sound_told p table spans e =
    let held : min spans most_intervals ≡ intervals p = omega (arith, boundaries_few p (counted p)) in
    ap (λ n. sound_within n p table) held

-- No place of a plan's table is stray exactly when each place of a job that is not counted, or of an interval that the plan
-- does not have, is 0.
module _ (p : Plan) (table : List ℕ) where
  -- Each counted job's row is 0 from the intervals on, and every row past the jobs is 0.
  abbrev rows_end : Bool
  rows_end =
      every (λ i. every (λ k. eqb (get_or table (most_intervals * i + intervals p + k) 0) 0) (most_intervals - intervals p)) (counted p)

  abbrev rows_past : Bool
  rows_past = every (λ k. eqb (get_or table (most_intervals * counted p + k) 0) 0) (most_intervals * (most_jobs - counted p))

  stray_is : (rows_end && rows_past) ≡ no_stray most_intervals (counted p) (intervals p) 0 (take places table)
  stray_is =
      let whole : intervals p + (most_intervals - intervals p) ≡ most_intervals = omega (arith, boundaries_few p (counted p)) in
      let own : most_intervals * counted p + most_intervals * (most_jobs - counted p) ≡ places = omega arith in
      stray_parts most_intervals (counted p) (most_jobs - counted p) (intervals p) (most_intervals - intervals p) table (omega arith) whole
      ∙ ap (λ n. no_stray most_intervals (counted p) (intervals p) 0 (take n table)) own

  -- An index may be replaced by an equal one.
  moved : (a b : ℕ) → a ≡ b → get_or table a 0 ≡ 0 → get_or table b 0 ≡ 0
  moved a b e h = ap (λ k. get_or table k 0) (sym e) ∙ h

  pub no_stray_held : no_stray most_intervals (counted p) (intervals p) 0 (take places table) ≡ true
      → (i j : ℕ) → i < most_jobs → j < most_intervals → (counted p ≤ i) ⊎ (intervals p ≤ j) → get_or table (most_intervals * i + j) 0 ≡ 0
  no_stray_held e i j a b outside =
      let w = both rows_end rows_past (stray_is ∙ e) in
      if_less i (counted p)
      (λ below.
      let beyond : intervals p ≤ j = ⊎_elim (λ l. absurd (omega arith)) (λ l. l) outside in
      moved (most_intervals * i + intervals p + (j - intervals p)) (most_intervals * i + j) (omega arith)
      (eqb-true _ 0 (every_at _ (most_intervals - intervals p) (j - intervals p) (every_at _ (counted p) i w.0 below) (omega arith))))
      (λ above.
      moved (most_intervals * counted p + (most_intervals * (i - counted p) + j)) (most_intervals * i + j) (omega arith)
      (eqb-true _ 0 (every_at _ (most_intervals * (most_jobs - counted p)) (most_intervals * (i - counted p) + j) w.1 (omega arith))))

  pub no_stray_told : ((i j : ℕ) → i < most_jobs → j < most_intervals → (counted p ≤ i) ⊎ (intervals p ≤ j) → get_or table (most_intervals * i + j) 0 ≡ 0)
      → no_stray most_intervals (counted p) (intervals p) 0 (take places table) ≡ true
  no_stray_told clear =
      sym stray_is
      ∙ ap₂ ◌&&◌
      (every_all _ (counted p) (λ i a. every_all _ (most_intervals - intervals p) (λ k b.
      eq-eqb _ 0 (moved (most_intervals * i + (intervals p + k)) (most_intervals * i + intervals p + k) (omega arith)
      (clear i (intervals p + k) (omega arith) (omega arith) (inr (omega arith)))))))
      (every_all _ (most_intervals * (most_jobs - counted p)) (λ k b.
      eq-eqb _ 0 (behind k (k / most_intervals) (k % most_intervals) (div-add-mod k most_intervals) (mod-lt k (omega arith)) b)))
    where
      behind : (k q r : ℕ) → most_intervals * q + r ≡ k → r < most_intervals → k < most_intervals * (most_jobs - counted p)
          → get_or table (most_intervals * counted p + k) 0 ≡ 0
      behind k q r e l b =
          moved (most_intervals * (counted p + q) + r) (most_intervals * counted p + k) (omega arith)
          (clear (counted p + q) r (omega arith) (omega arith) (inl (omega arith)))
