-- The floor rule's single pass over the boundaries: the jobs due so far, their column
-- sums, and the lowest violating interval.
use mathlib.Core.Path.{◌≡◌, refl, sym, ◌∙◌, ap, ap₂}
use mathlib.Core.Bool.{Bool, true, false, not, cond, ◌&&◌, and-false}
use mathlib.Core.List.{List, [], ◌∷◌}
use mathlib.Core.Logic.{◌⊎◌, inl, inr}
use Prim.Native.Nat.{ℕ, zero, suc, ◌+◌, ◌*◌, ◌-◌, ◌≤◌, ◌<◌, min}
use native.Mathlib.Nat.{zero-add, mul-le-mul_right}
use native.Mathlib.Decide.{dec_lt}
use native.Mathlib.Omega.{arith}
use borrow.Author.Tests.{ltb-true, ltb-false, lt-ltb, le-ltb, le-leb, lt-leb, eq-eqb, ne_eqb, not-false}
use lib.Dec.{leb, ltb, eqb}
use lib.ListN.{length, get_or, replicate}
use Rattle.base.proofs.Choice.{on_and, on_sum}
use Rattle.base.specs.Sum.{sum, on}
use Rattle.base.proofs.SumLaws.{sum_ext, sum_add, sum_split, sum_swap, sum_none, sum_bound}
use Rattle.plan.specs.Edition.{most_jobs, most_intervals}
use Rattle.plan.specs.Refusal.{below_floor_rule}
use Rattle.base.specs.Below.{every}
use Rattle.plan.specs.Rules.{is_absent, counted, deadline, is_hi, rules_hold}
use Rattle.plan.specs.Boundaries.{boundaries, boundary, intervals}
use Rattle.plan.specs.declared.kinds.Plan.{Plan}
use Rattle.base.proofs.Below.{every_start, every_next, every_ext, every_cut, every_all, greatest_attained}
use Rattle.base.proofs.Logic.{by_order}
use Rattle.plan.proofs.PresentInterval.{deadline_is_boundary, last_boundary}
use Rattle.std.specs.Prelude.{Result, Ok}
use Rattle.judge.specs.declared.answers.Fault.{Fault}
use Rattle.judge.specs.Answers.{verdict_view}
use Rattle.judge.specs.Constraints.{units, demand}
use Rattle.judge.specs.Inner.Widths.{most_at_place}
use Rattle.judge.specs.Verdict.{is_hi_deadline, is_pair, falls_short, floor_fault}
use Rattle.plan.specs.Report.{Report, fault, is_none, first}
use Rattle.judge.specs.Inner.Columns.{never, HiDeadlines, due_before, column_sum, Summed, asks_more, lowest}
use Rattle.plan.proofs.Soundness.{rules_bounded}
use Rattle.base.proofs.Padding.{get_or_replicate}
use Rattle.plan.proofs.Reports.{none_empty, none_plain, none_first, first_found, found_here}
use Rattle.base.proofs.Choice.{on_at_most}
use Rattle.judge.proofs.Demand.{end_by_boundary, demand_is, early_pair, other_pair, true_pair}
use Rattle.judge.proofs.HandFault.{few_intervals}
use Rattle.judge.proofs.HiDeadlinesSuffice.{boundary_less, deadline_before}
use Rattle.judge.proofs.Columns.{lowest_before, lowest_at_lem}

-- Interval l and boundary m are no pair, or rule 18 holds for them.
abbrev pub holds_at : Plan → List ℕ → ℕ → ℕ → Bool
holds_at p table l m = not (is_pair p l m && falls_short p table l m)

-- `low` is the lowest interval that violates rule 18 at one of the first m boundaries, and `until`
-- the first such boundary; or `low` is the number of intervals.
pub record Lowest (p : Plan) (table : List ℕ) (m low until : ℕ) : Type 0 where
  pub few : low ≤ intervals p
  pub below : (l : ℕ) → l < low → every (holds_at p table l) m ≡ true
  pub there : low < intervals p → (until < m) × (holds_at p table low until ≡ false) × (every (holds_at p table low) until ≡ true)

-- The verdict names the lowest violating interval, and the first boundary at which it violates
-- rule 18; or it is acceptance, if there is none.
pub record Found (p : Plan) (table : List ℕ) (m low : ℕ) (verdict : Result (Unit {0}) Fault) : Type 0 where
  pub until : ℕ
  pub lowest : Lowest p table m low until
  pub named : verdict_view verdict ≡ fault (ltb low (intervals p)) (below_floor_rule ∷ low ∷ boundary p until ∷ [])

-- If x < high implies x ≤ low, then x ≤ high splits into the disjoint cases x ≤ low and x = high.
by_or_at : (x low high u : ℕ) → low < high → (x < high → x ≤ low) → on (leb x high) u ≡ on (leb x low) u + on (eqb x high) u
by_or_at x low high u h between =
    by_order x high
    (λ q. rw (le-leb x high (omega arith), lt-leb x low (omega arith), eq-eqb x high q) (omega arith))
    (λ q. rw (le-leb x high (omega arith), le-leb x low (between q), ne_eqb x high (λ e. omega arith)) (omega arith))
    (λ q. rw (lt-leb x high q, lt-leb x low (omega arith), ne_eqb x high (λ e. omega arith)) (omega arith))

-- If high ≤ x, then x ≤ high exactly if x = high.
by_is_at : (x high u : ℕ) → high ≤ x → on (leb x high) u ≡ on (eqb x high) u
by_is_at x high u h =
    by_order x high
    (λ q. rw (le-leb x high (omega arith), eq-eqb x high q) refl)
    (λ q. absurd (omega arith))
    (λ q. rw (lt-leb x high q, ne_eqb x high (λ e. omega arith)) refl)

-- The units that job i has in interval j if its deadline is `time`, otherwise 0.
abbrev pub due_of : (table deadlines : List ℕ) (time j i : ℕ) → ℕ
due_of table deadlines time j i = on (eqb (get_or deadlines i 0) time) (units table i j)

-- Boundary m adds the HI jobs whose deadline it is.
due_next : (p : Plan) (m i u : ℕ) → i < counted p → m ≤ intervals p
    → on (due_before p (suc m) i) u ≡ on (due_before p m i) u + on (is_hi p i && eqb (deadline p i) (boundary p m)) u
unfolding due_before
due_next p zero i u b h =
    let w = deadline_is_boundary p i b in
    let least : boundary p 0 ≤ deadline p i = from_first w.0 w.1 w.2 in
    only (is_hi p i) (by_is_at (deadline p i) (boundary p 0) u least)
  where
    from_first : (k : ℕ) → k ≤ intervals p → boundary p k ≡ deadline p i → boundary p 0 ≤ deadline p i
    from_first zero c e = omega (arith, e)
    from_first (suc k) c e = omega (arith, e, boundary_less p 0 (suc k) (omega arith) c)

    only : (t : Bool) → on (leb (deadline p i) (boundary p 0)) u ≡ on (eqb (deadline p i) (boundary p 0)) u
        → on (t && leb (deadline p i) (boundary p 0)) u ≡ 0 + on (t && eqb (deadline p i) (boundary p 0)) u
    only true e = e ∙ sym (zero-add _)
    only false e = refl
due_next p (suc m) i u b h =
    on_and (is_hi p i) (leb (deadline p i) (boundary p (suc m))) (leb (deadline p i) (boundary p m)) (eqb (deadline p i) (boundary p (suc m))) u
    (by_or_at (deadline p i) (boundary p m) (boundary p (suc m)) u (boundary_less p m (suc m) (omega arith) h) (deadline_before p i m b h))

pub column_more : (p : Plan) (table : List ℕ) (m j : ℕ) → m ≤ intervals p
    → column_sum p table (suc m) j
    ≡ column_sum p table m j + sum (λ i. on (is_hi p i && eqb (deadline p i) (boundary p m)) (units table i j)) (counted p)
column_more p table m j h =
    sum_ext _ _ (counted p) (λ i b. due_next p m i (units table i j) b h)
    ∙ sum_add (λ i. on (due_before p m i) (units table i j)) (λ i. on (is_hi p i && eqb (deadline p i) (boundary p m)) (units table i j)) (counted p)

-- Before boundary 0 no job is due, so the column sums are 0.
pub column_none : (p : Plan) (table : List ℕ) (j : ℕ) → column_sum p table 0 j ≡ 0
unfolding due_before
column_none p table j = sum_none _ (counted p) (λ i b. refl)

-- The column sums from interval l to boundary m add up to the demand between them.
pub demand_columns : (p : Plan) (table : List ℕ) (l m : ℕ) → m < length (boundaries p)
    → sum (λ k. column_sum p table (suc m) (l + k)) (m - l) ≡ demand p table l (boundary p m)
unfolding due_before
demand_columns p table l m h =
    sym (sum_swap (λ i k. on (is_hi p i && leb (deadline p i) (boundary p m)) (units table i (l + k))) (m - l) (counted p))
    ∙ sum_ext _ _ (counted p)
    (λ i b. on_sum (is_hi p i && leb (deadline p i) (boundary p m)) (λ k. units table i (l + k)) (m - l)
    ∙ ap (on (is_hi p i && leb (deadline p i) (boundary p m)))
    (sum_ext _ _ (m - l) (λ k c. ap (λ q. get_or table q 0) (place_of i k))))
    ∙ demand_is p table l (boundary p m) m (end_by_boundary p m h)
  where
    place_of : (i k : ℕ) → most_intervals * i + (l + k) ≡ most_intervals * i + l + 1 * k
    place_of i k = omega arith

asks_is : (p : Plan) (table sums times : List ℕ) (l m : ℕ) → times ≡ boundaries p → l < m → m ≤ intervals p
    → ((j : ℕ) → j < intervals p → get_or sums j 0 ≡ column_sum p table (suc m) j)
    → asks_more p.d.0 sums times m l ≡ falls_short p table l m
asks_is p table sums times l m e b h columns =
    ap₂ ltb (ap (λ t. p.d.0 * (get_or t m 0 - get_or t l 0)) e)
    (sum_ext _ _ (m - l) (λ k c. columns (l + k) (omega arith)) ∙ demand_columns p table l m (omega arith))

-- A test that holds below m and at m holds below m + 1.
more_true : (test : ℕ → Bool) (m : ℕ) → every test m ≡ true → test m ≡ true → every test (m + 1) ≡ true
more_true test m a b = sym (every_next test m refl refl) ∙ ap₂ ◌&&◌ a b

pub lowest_start : (p : Plan) (table : List ℕ) → Lowest p table 0 (intervals p) 0
lowest_start p table = record { few = omega arith; below = λ l b. every_start _; there = λ h. absurd (omega arith) }

pub lowest_next : (p : Plan) (table sums times : List ℕ) (m low until r place : ℕ) (due : Bool) → times ≡ boundaries p → m ≤ intervals p
    → ((j : ℕ) → j < intervals p → get_or sums j 0 ≡ column_sum p table (suc m) j)
    → due ≡ is_hi_deadline p (boundary p m)
    → r ≡ cond due (min low (lowest (asks_more p.d.0 sums times m) low 0 m)) low
    → place ≡ cond (ltb r low) m until
    → Lowest p table m low until → Lowest p table (m + 1) r place
lowest_next p table sums times m low until r place due e h columns d q here so = go due d q
  where
    -- If the lowest interval is unchanged, its boundary is still the first violated one.
    still : r ≡ low → low < intervals p
        → (place < m + 1) × (holds_at p table low place ≡ false) × (every (holds_at p table low) place ≡ true)
    still same k =
        let stays : place ≡ until = here ∙ ap (λ b. cond b m until) (le-ltb r low (omega arith)) in
        let w = so.there k in
        rw stays (omega (arith, w.0), w.1, w.2)

    go : (t : Bool) → t ≡ is_hi_deadline p (boundary p m) → r ≡ cond t (min low (lowest (asks_more p.d.0 sums times m) low 0 m)) low
        → Lowest p table (m + 1) r place
    go false d q =
        rw q (record {
          few = so.few;
          below = λ l b. more_true (holds_at p table l) m (so.below l b)
              (ap (λ x. not (x && falls_short p table l m)) (other_pair p l m (sym d)));
          there = still q;
        })
    go true d q =
        record {
          few = omega (arith, so.few);
          below = λ l b. more_true (holds_at p table l) m (so.below l (omega arith)) (kept l b (dec_lt l m));
          there = fails (lowest (asks_more p.d.0 sums times m) low 0 m) q (dec_lt _ low) (lowest_at_lem (asks_more p.d.0 sums times m) low 0 m);
        }
      where
        kept : (l : ℕ) → l < r → Dec (l < m) → holds_at p table l m ≡ true
        kept l b (yes c) =
            let calm = lowest_before (asks_more p.d.0 sums times m) low 0 m l (omega arith) (omega arith) (omega arith) in
            ap (λ x. not (is_pair p l m && x)) (sym (asks_is p table sums times l m e c h columns) ∙ calm)
            ∙ ap not (and-false (is_pair p l m))
        kept l b (no c) = ap (λ x. not (x && falls_short p table l m)) (early_pair p l m (omega arith))

        -- The lowest interval stays, or moves to one that violates rule 18 at boundary m.
        fails : (found : ℕ) → r ≡ min low found → Dec (found < low)
            → (found ≡ low) ⊎ ((found < 0 + m) × (asks_more p.d.0 sums times m found ≡ true)) → r < intervals p
            → (place < m + 1) × (holds_at p table r place ≡ false) × (every (holds_at p table r) place ≡ true)
        fails found is (no x) w k = let same : r ≡ low = omega arith in rw same (still same (omega arith))
        fails found is (yes x) (inl y) k = absurd (omega arith)
        fails found is (yes x) (inr y) k =
            let same : r ≡ found = omega arith in
            let moves : place ≡ m = here ∙ ap (λ b. cond b m until) (lt-ltb r low (omega arith)) in
            let early : found < m = omega (arith, y.0) in
            rw (moves, same) (
              omega arith,
              ap₂ (λ u v. not (u && v)) (true_pair p found m early (sym d)) (sym (asks_is p table sums times found m e early h columns) ∙ y.1),
              so.below found (omega arith),
            )

-- A column sum is at most `mostJobs * mostAtPlace`.
pub column_bound : (p : Plan) (table : List ℕ) (m j : ℕ) → ((q : ℕ) → get_or table q 0 ≤ most_at_place) → column_sum p table m j ≤ most_jobs * most_at_place
column_bound p table m j most =
    omega (
      arith,
      sum_bound (λ i. on (due_before p m i) (units table i j)) most_at_place (counted p)
          (λ i b. on_at_most (due_before p m i) (units table i j) most_at_place (most (most_intervals * i + j))),
      mul-le-mul_right {m = counted p} {n = most_jobs} most_at_place (omega arith),
    )

-- If rules 4 to 9 hold, every boundary is before `never`.
early_boundary : (p : Plan) → rules_hold p ≡ true → (m : ℕ) → m ≤ intervals p → boundary p m < never
early_boundary p rules m h =
    let b = rules_bounded p rules in
    let last = greatest_attained (deadline p) (counted p) b.some in
    let end = last_boundary p b.some b.windows in
    let rises : boundary p m ≤ boundary p (intervals p)
    = by_order m (intervals p) (λ q. omega (arith, ap (boundary p) q))
    (λ q. omega (arith, boundary_less p m (intervals p) q (omega arith)))
    (λ q. absurd (omega arith)) in
    omega (arith, b.deadlines last.0 last.1, last.2, end, rises)

pub early_time : (p : Plan) {times : List ℕ} → times ≡ boundaries p → rules_hold p ≡ true → (m : ℕ) → m < length times → get_or times m 0 < never
early_time p e rules m h =
    omega (arith, ap (λ t. get_or t m 0) e, early_boundary p rules m (omega (arith, ap length e)))

-- A sum whose terms are 0 from m on is the sum of its first m terms.
sum_cut : (f : ℕ → ℕ) (m n : ℕ) → m ≤ n → ((k : ℕ) → m ≤ k → k < n → f k ≡ 0) → sum f n ≡ sum f m
sum_cut f m n h more =
    let e : n ≡ m + (n - m) = omega arith in
    ap (sum f) e ∙ omega (arith, sum_split f m (n - m), sum_none (λ k. f (m + k)) (n - m) (λ k b. more (m + k) (omega arith) (omega arith)))

pub summed_start : (p : Plan) (table : List ℕ) → Summed p table 0 (replicate most_intervals 0)
summed_start p table = record { room = refl; columns = λ j b. get_or_replicate most_intervals j 0 ∙ sym (column_none p table j) }

-- The column sums are small.
pub sums_fit : {p : Plan} {table : List ℕ} {m : ℕ} {sums : List ℕ} → Summed p table m sums → ((q : ℕ) → get_or table q 0 ≤ most_at_place)
    → (j : ℕ) → j < intervals p → get_or sums j 0 ≤ most_jobs * most_at_place
sums_fit {p} {table} {m} so most j b = omega (arith, so.columns j b, column_bound p table m j most)

pub column_fits : {p : Plan} {table times sums : List ℕ} {m : ℕ} → times ≡ boundaries p → m < length times → Summed p table (suc m) sums
    → ((q : ℕ) → get_or table q 0 ≤ most_at_place)
    → (m ≤ most_intervals) × ((j : ℕ) → j < m → get_or sums j 0 ≤ most_jobs * most_at_place)
column_fits {p} e h so most =
    (omega (arith, ap length e, few_intervals p), λ j b. sums_fit so most j (omega (arith, ap length e)))

-- One iteration of a pass: boundary m is a HI deadline if it is in the row of deadlines, and the
-- new sums include the jobs due there.
module _ {p : Plan} {times deadlines : List ℕ} {m : ℕ} (are : times ≡ boundaries p) (rules : rules_hold p ≡ true) (ds : HiDeadlines p deadlines)
    (h : m < length times) where
  last : m ≤ intervals p
  last = omega (arith, ap length are)

  -- Entry i of the deadline row is boundary m exactly if job i is counted, HI and due at that boundary.
  at_deadline : (i : ℕ) → i < most_jobs
      → eqb (get_or deadlines i 0) (get_or times m 0) ≡ (ltb i (counted p) && is_hi p i && eqb (deadline p i) (boundary p m))
  at_deadline i b =
      ap₂ eqb (ds.each i b) (ap (λ t. get_or t m 0) are) ∙ by_test (ltb i (counted p) && is_hi p i)
    where
      by_test : (t : Bool) → eqb (cond t (deadline p i) never) (boundary p m) ≡ (t && eqb (deadline p i) (boundary p m))
      by_test true = refl
      by_test false = ne_eqb never (boundary p m) (λ e. omega (arith, early_boundary p rules m last))

  counted_deadline : (i : ℕ) → i < counted p → eqb (get_or deadlines i 0) (get_or times m 0) ≡ (is_hi p i && eqb (deadline p i) (boundary p m))
  counted_deadline i b =
      at_deadline i (omega arith) ∙ ap (λ t. t && is_hi p i && eqb (deadline p i) (boundary p m)) (lt-ltb i (counted p) b)

  no_deadline : (i : ℕ) → counted p ≤ i → i < most_jobs → eqb (get_or deadlines i 0) (get_or times m 0) ≡ false
  no_deadline i b l = at_deadline i l ∙ ap (λ t. t && is_hi p i && eqb (deadline p i) (boundary p m)) (le-ltb i (counted p) b)

  pub due_is : not (is_absent deadlines (get_or times m 0)) ≡ is_hi_deadline p (boundary p m)
  unfolding is_hi_deadline is_absent
  due_is =
      ap not (ap (every _) ds.room
      ∙ every_cut _ (counted p) most_jobs (omega arith) (λ i a b. ap not (no_deadline i a b))
      ∙ every_ext _ _ (counted p) (λ i b. ap not (counted_deadline i b)))

  pub summed_next : {table old : List ℕ} (new : List ℕ) → Summed p table m old → length new ≡ length old
      → ((j : ℕ) → j < intervals p → get_or new j 0 ≡ get_or old j 0 + sum (due_of table deadlines (get_or times m 0) j) (length deadlines))
      → Summed p table (suc m) new
  summed_next {table} new so same more =
      record {
        room = same ∙ so.room;
        columns = λ j b.
            more j b
            ∙ ap₂ ◌+◌ (so.columns j b)
            (ap (sum _) ds.room
            ∙ sum_cut _ (counted p) most_jobs (omega arith) (λ i a l. ap (λ t. on t (units table i j)) (no_deadline i a l))
            ∙ sum_ext _ _ (counted p) (λ i a. ap (λ t. on t (units table i j)) (counted_deadline i a)))
            ∙ sym (column_more p table m j last);
      }

-- The result of the whole pass is the report of rule 18: empty, or with its first location.
module _ (p : Plan) (table : List ℕ) (low until : ℕ) (found : Lowest p table (suc (intervals p)) low until) where
  abbrev cell : ℕ → ℕ → Report
  cell l m = fault (is_pair p l m && falls_short p table l m) (below_floor_rule ∷ l ∷ boundary p m ∷ [])

  abbrev row : ℕ → Report
  row l = first (cell l) (suc (intervals p))

  cells_none : (l n : ℕ) → is_none (first (cell l) n) ≡ every (holds_at p table l) n
  cells_none l n =
      none_first (cell l) n
      ∙ every_ext _ _ n (λ m b. none_plain (is_pair p l m && falls_short p table l m) below_floor_rule (l ∷ boundary p m ∷ []))

  before_low : first row low ≡ []
  before_low = none_empty (first row low) (none_first row low ∙ every_all _ low (λ l b. cells_none l (suc (intervals p)) ∙ found.below l b))

  nothing_short : intervals p ≤ low → [] ≡ floor_fault p table
  unfolding floor_fault
  nothing_short h = let all : low ≡ intervals p = omega (arith, found.few) in sym (rw all at before_low)

  in_row : low < intervals p → below_floor_rule ∷ low ∷ boundary p until ∷ [] ≡ row low
  in_row h =
      let w = found.there h in
      found_here (cell low) until (suc (intervals p)) below_floor_rule (low ∷ boundary p until ∷ [])
      (none_empty (first (cell low) until) (cells_none low until ∙ w.2)) w.0
      (ap (λ b. fault b (below_floor_rule ∷ low ∷ boundary p until ∷ [])) (not-false (is_pair p low until && falls_short p table low until) w.1))

  short_at_lowest : low < intervals p → below_floor_rule ∷ low ∷ boundary p until ∷ [] ≡ floor_fault p table
  unfolding floor_fault
  short_at_lowest h = in_row h ∙ sym (first_found row low (intervals p) before_low h (ap is_none (sym (in_row h))))

  pub place_is : fault (ltb low (intervals p)) (below_floor_rule ∷ low ∷ boundary p until ∷ []) ≡ floor_fault p table
  place_is = go (dec_lt low (intervals p))
    where
      go : Dec (low < intervals p) → fault (ltb low (intervals p)) (below_floor_rule ∷ low ∷ boundary p until ∷ []) ≡ floor_fault p table
      go (yes h) = ap (λ b. fault b (below_floor_rule ∷ low ∷ boundary p until ∷ [])) (lt-ltb low (intervals p) h) ∙ short_at_lowest h
      go (no h) =
          ap (λ b. fault b (below_floor_rule ∷ low ∷ boundary p until ∷ [])) (le-ltb low (intervals p) (omega arith)) ∙ nothing_short (omega arith)

-- The loop's start, step and end. `t` says that the lowest violating interval is below the earlier one.
pub found_start : (p : Plan) (table : List ℕ) {low : ℕ} → low ≡ intervals p → Found p table 0 low (Ok tt)
found_start p table e =
    rw e (record {
      until = 0;
      lowest = lowest_start p table;
      named = sym (ap (λ b. fault b (below_floor_rule ∷ intervals p ∷ boundary p 0 ∷ [])) (le-ltb (intervals p) (intervals p) (omega arith)));
    })

pub found_next : (p : Plan) (table sums times : List ℕ) (m low r : ℕ) (verdict next : Result (Unit {0}) Fault) (due t : Bool) → times ≡ boundaries p
    → m ≤ intervals p → Summed p table (suc m) sums
    → due ≡ is_hi_deadline p (boundary p m)
    → r ≡ cond due (min low (lowest (asks_more p.d.0 sums times m) low 0 m)) low
    → ltb r low ≡ t
    → verdict_view next ≡ cond t (below_floor_rule ∷ r ∷ get_or times m 0 ∷ []) (verdict_view verdict)
    → Found p table m low verdict → Found p table (m + 1) r next
found_next p table sums times m low r verdict next due t e h so d q f g found =
    record {
      until = cond t m found.until;
      lowest = lowest_next p table sums times m low found.until r (cond t m found.until) due e h so.columns d q (ap (λ x. cond x m found.until) (sym f)) found.lowest;
      named = go t f g;
    }
  where
    at_most : (x : Bool) → r ≡ cond x (min low (lowest (asks_more p.d.0 sums times m) low 0 m)) low → r ≤ low
    at_most true k = omega (arith, k)
    at_most false k = omega (arith, k)

    go : (t : Bool) → ltb r low ≡ t → verdict_view next ≡ cond t (below_floor_rule ∷ r ∷ get_or times m 0 ∷ []) (verdict_view verdict)
        → verdict_view next ≡ fault (ltb r (intervals p)) (below_floor_rule ∷ r ∷ boundary p (cond t m found.until) ∷ [])
    go true f g =
        g ∙ ap (λ s. below_floor_rule ∷ r ∷ get_or s m 0 ∷ []) e
        ∙ sym (ap (λ b. fault b (below_floor_rule ∷ r ∷ boundary p m ∷ [])) (lt-ltb r (intervals p) (omega (arith, ltb-true r low f, found.lowest.few))))
    go false f g =
        let same : r ≡ low = omega (arith, ltb-false r low f, at_most due q) in
        rw same (g ∙ found.named)

pub found_end : (p : Plan) (table : List ℕ) (m low : ℕ) (verdict : Result (Unit {0}) Fault) → m ≡ suc (intervals p) → Found p table m low verdict
    → verdict_view verdict ≡ floor_fault p table
found_end p table m low verdict e found = found.named ∙ place_is p table low found.until (rw e at found.lowest)
