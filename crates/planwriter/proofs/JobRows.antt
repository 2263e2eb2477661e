-- The rows of a table, job by job:
-- if no place is stray, they are the concatenation of the rows of each job's intervals.
use mathlib.Core.Path.{◌≡◌, refl, sym, ◌∙◌, ap, ap₂}
use mathlib.Core.Bool.{true, false, ◌&&◌, ◌||◌, and-false, or-false}
use mathlib.Core.List.{List, [], ◌∷◌, ◌++◌, append-nil}
use Prim.Native.Nat.{ℕ, zero, suc, ◌+◌, ◌*◌, ◌-◌, ◌/◌, ◌%◌, ◌≤◌, ◌<◌}
use native.Mathlib.Nat.{add-zero, add-suc, suc-add, suc-mul, zero-add}
use native.Mathlib.Numerals.{add-one}
use native.Mathlib.Omega.{arith}
use borrow.Author.Tests.{le-ltb}
use lib.Dec.{ltb, eqb}
use lib.ListN.{length, get_or, take, drop, length-take, length-append, take-append-drop}
use lib.Seq.{take-add, take_all, length-take-le}
use Rattle.plan.specs.Edition.{most_intervals}
use Rattle.plan.specs.Table.{no_stray}
use Rattle.base.proofs.Logic.{both}
use Rattle.planwriter.specs.Writing.{row_at, rows_bytes, row_count}
use Rattle.planwriter.proofs.JobAndRowBytes.{rows_split, rows_within, rows_long, count_few}

-- The rows of some places of job i are those of a table with this job only.
one_job_lem : (names : List ℕ) (i j : ℕ) (l : List ℕ) → j + length l ≤ most_intervals
    → rows_bytes most_intervals names (most_intervals * i + j) l ≡ rows_bytes most_intervals (get_or names i 0 ∷ []) j l
unfolding rows_bytes
one_job_lem names i j [] h = refl
one_job_lem names i j (u ∷ l) h =
    ap₂ ◌++◌ here
    (ap (λ k. rows_bytes most_intervals names k l) (sym (add-suc (most_intervals * i) j)) ∙ one_job_lem names i (suc j) l (omega arith))
  where
    here : row_at most_intervals names (most_intervals * i + j) u ≡ row_at most_intervals (get_or names i 0 ∷ []) j u
    here =
        let d : (most_intervals * i + j) / most_intervals ≡ i = omega arith in
        let m : (most_intervals * i + j) % most_intervals ≡ j = omega arith in
        let e : j / most_intervals ≡ 0 = omega arith in
        let n : j % most_intervals ≡ j = omega arith in
        rw (d, m, e, n) refl

-- A suffix of a list without stray places has none.
clear_rest : (jobs spans q : ℕ) (a b : List ℕ) → no_stray most_intervals jobs spans q (a ++ b) ≡ true → no_stray most_intervals jobs spans (q + length a) b ≡ true
unfolding no_stray
clear_rest jobs spans q [] b h = rw (add-zero q) h
clear_rest jobs spans q (u ∷ a) b h =
    rw (add-suc q (length a) ∙ sym (suc-add q (length a)))
    (clear_rest jobs spans (suc q) a b
    (both (eqb u 0 || ltb (q / most_intervals) jobs && ltb (q % most_intervals) spans) (no_stray most_intervals jobs spans (suc q) (a ++ b)) h).1)

-- If no place is stray, places outside the jobs and intervals hold 0, so they have no rows.
strays_none : (names : List ℕ) (jobs spans q : ℕ) (a b : List ℕ) → no_stray most_intervals jobs spans q (a ++ b) ≡ true
    → ((k : ℕ) → q ≤ k → k < q + length a → (ltb (k / most_intervals) jobs && ltb (k % most_intervals) spans) ≡ false)
    → rows_bytes most_intervals names q a ≡ []
unfolding no_stray rows_bytes
strays_none names jobs spans q [] b h stray = refl
strays_none names jobs spans q (u ∷ a) b h stray =
    let s = both (eqb u 0 || ltb (q / most_intervals) jobs && ltb (q % most_intervals) spans) (no_stray most_intervals jobs spans (suc q) (a ++ b)) h in
    let none : eqb u 0 ≡ true = sym (ap (λ t. eqb u 0 || t) (stray q (omega arith) (omega arith)) ∙ or-false (eqb u 0)) ∙ s.0 in
    rw none (strays_none names jobs spans (suc q) a b s.1 (λ k l m. stray k (omega arith) (omega arith)))

-- The rows of the first n + m places are those of the first n, then those of the next m.
rows_more : (names table : List ℕ) (n m : ℕ) → n ≤ length table
    → rows_bytes most_intervals names 0 (take (n + m) table) ≡ rows_bytes most_intervals names 0 (take n table) ++ rows_bytes most_intervals names n (take m (drop n table))
rows_more names table n m h =
    ap (rows_bytes most_intervals names 0) (take-add n m table)
    ∙ rows_split most_intervals names 0 (take n table) (take m (drop n table))
    ∙ ap (λ k. rows_bytes most_intervals names 0 (take n table) ++ rows_bytes most_intervals names k (take m (drop n table)))
    (zero-add (length (take n table)) ∙ length-take-le n table h)

module _ (names table : List ℕ) (jobs spans : ℕ) (clear : no_stray most_intervals jobs spans 0 table ≡ true) where
  -- Places outside the jobs and intervals, after the first n places, add no rows.
  rows_same : (n m : ℕ) → n ≤ length table
      → ((k : ℕ) → n ≤ k → k < n + m → (ltb (k / most_intervals) jobs && ltb (k % most_intervals) spans) ≡ false)
      → rows_bytes most_intervals names 0 (take (n + m) table) ≡ rows_bytes most_intervals names 0 (take n table)
  rows_same n m h stray =
      let from : no_stray most_intervals jobs spans (0 + length (take n table)) (drop n table) ≡ true
      = clear_rest jobs spans 0 (take n table) (drop n table) (rw (take-append-drop n table) clear) in
      let here : no_stray most_intervals jobs spans n (take m (drop n table) ++ drop m (drop n table)) ≡ true
      = rw (take-append-drop m (drop n table)) (rw (zero-add (length (take n table)), length-take-le n table h) at from) in
      rows_more names table n m h
      ∙ ap (λ l. rows_bytes most_intervals names 0 (take n table) ++ l)
      (strays_none names jobs spans n (take m (drop n table)) (drop m (drop n table)) here (λ k a b. stray k a (omega (arith, length-take m (drop n table)))))
      ∙ append-nil (rows_bytes most_intervals names 0 (take n table))

  -- The rows of one more job are those of its intervals.
  module _ (i : ℕ) {n : ℕ} (e : n ≡ spans) (narrow : spans ≤ most_intervals) (h : most_intervals * i + most_intervals ≤ length table) where
    pub job_rows_next :
        rows_bytes most_intervals names 0 (take (most_intervals * i) table) ++ rows_bytes most_intervals (get_or names i 0 ∷ []) 0 (take n (drop (most_intervals * i) table))
        ≡ rows_bytes most_intervals names 0 (take (most_intervals * (i + 1)) table)
    job_rows_next =
        let from = most_intervals * i in
        let row = take n (drop from table) in
        let one : rows_bytes most_intervals names from row ≡ rows_bytes most_intervals (get_or names i 0 ∷ []) 0 row
        = ap (λ k. rows_bytes most_intervals names k row) (sym (add-zero from)) ∙ one_job_lem names i 0 row (omega (arith, length-take n (drop from table))) in
        let whole : from + n + (most_intervals - n) ≡ most_intervals * (i + 1) = omega arith in
        ap (λ l. rows_bytes most_intervals names 0 (take from table) ++ l) (sym one)
        ∙ sym (rows_more names table from n (omega arith))
        ∙ sym (rows_same (from + n) (most_intervals - n) (omega arith)
        (λ k a b. ap (λ t. ltb (k / most_intervals) jobs && t) (le-ltb (k % most_intervals) spans (omega arith)) ∙ and-false (ltb (k / most_intervals) jobs)))
        ∙ ap (λ k. rows_bytes most_intervals names 0 (take k table)) whole

    pub job_rows_fit :
        length (rows_bytes most_intervals names 0 (take (most_intervals * i) table)) + length (rows_bytes most_intervals (get_or names i 0 ∷ []) 0 (take n (drop (most_intervals * i) table)))
        ≤ length (rows_bytes most_intervals names 0 table)
    job_rows_fit =
        let before = rows_bytes most_intervals names 0 (take (most_intervals * i) table) in
        let here = rows_bytes most_intervals (get_or names i 0 ∷ []) 0 (take n (drop (most_intervals * i) table)) in
        omega (arith, rows_within most_intervals names table (most_intervals * (i + 1)), length-append before here, ap length job_rows_next)

  -- Places after those of the jobs add no rows.
  pub job_rows_all : most_intervals * jobs ≤ length table → rows_bytes most_intervals names 0 (take (most_intervals * jobs) table) ≡ rows_bytes most_intervals names 0 table
  job_rows_all h =
      let n = most_intervals * jobs in
      sym (rows_same n (length table) h (λ k a b. rw (le-ltb (k / most_intervals) jobs (omega arith)) refl))
      ∙ ap (rows_bytes most_intervals names 0) (take_all (n + length table) table (omega arith))

-- With no stray place there is at most one row for each job and interval.
module _ (table : List ℕ) (jobs spans : ℕ) (clear : no_stray most_intervals jobs spans 0 table ≡ true) (narrow : spans ≤ most_intervals) where
  -- The rows of lists of places, as many bytes, are as many rows.
  same_count : (a b : List ℕ) → length (rows_bytes most_intervals [] 0 a) ≡ length (rows_bytes most_intervals [] 0 b) → row_count a ≡ row_count b
  same_count a b e = omega (arith, e, rows_long most_intervals [] 0 a, rows_long most_intervals [] 0 b)

  count_by_jobs : (i : ℕ) → most_intervals * i ≤ length table → row_count (take (most_intervals * i) table) ≤ i * spans
  unfolding row_count
  count_by_jobs zero h = omega arith
  count_by_jobs (suc i) h =
      let before = take (most_intervals * i) table in
      let row = take spans (drop (most_intervals * i) table) in
      let next : length (rows_bytes most_intervals [] 0 before) + length (rows_bytes most_intervals (0 ∷ []) 0 row) ≡ length (rows_bytes most_intervals [] 0 (take (most_intervals * suc i) table))
      = sym (length-append (rows_bytes most_intervals [] 0 before) (rows_bytes most_intervals (0 ∷ []) 0 row))
      ∙ ap length (job_rows_next [] table jobs spans clear i refl narrow (omega arith))
      ∙ ap (λ n. length (rows_bytes most_intervals [] 0 (take (most_intervals * n) table))) (add-one i) in
      let here : row_count (take (most_intervals * suc i) table) ≡ row_count before + row_count row
      = omega (
        arith,
        next,
        rows_long most_intervals [] 0 before,
        rows_long most_intervals (0 ∷ []) 0 row,
        rows_long most_intervals [] 0 (take (most_intervals * suc i) table),
      ) in
      omega (arith, here, count_by_jobs i (omega arith), count_few row, length-take spans (drop (most_intervals * i) table), suc-mul i spans)

  pub count_within : most_intervals * jobs ≤ length table → row_count table ≤ jobs * spans
  count_within h =
      rw (← (same_count (take (most_intervals * jobs) table) table (ap length (job_rows_all [] table jobs spans clear h)))) (count_by_jobs jobs h)
