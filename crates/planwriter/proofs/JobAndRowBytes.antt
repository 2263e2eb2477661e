-- Laws of the bytes of jobs and rows: their lengths, and how a loop extends them.
use mathlib.Core.Path.{◌≡◌, refl, sym, ◌∙◌, ap}
use mathlib.Core.Bool.{Bool, true, false, cond}
use mathlib.Core.List.{List, [], ◌∷◌, ◌++◌, append-nil, append_assoc}
use Prim.Native.Nat.{ℕ, zero, suc, ◌+◌, ◌*◌, ◌/◌, ◌%◌, ◌≤◌, ◌<◌}
use native.Mathlib.Nat.{add-zero, add-suc, suc-add, zero-add}
use native.Mathlib.Numerals.{add-one}
use native.Mathlib.Omega.{arith}
use borrow.Author.Tests.{eq-eqb, ne_eqb}
use lib.Dec.{eqb}
use lib.ListN.{length, get_or, take, drop, length-append, take-append-drop}
use lib.Seq.{sets, take-suc, length-take-le}
use Rattle.plan.specs.Edition.{most_intervals}
use Rattle.planfields.specs.Layout.{job_length, row_length}
use Rattle.plan.specs.Rules.{job_of}
use Rattle.plan.specs.declared.kinds.Job.{Job}
use Rattle.plan.specs.declared.kinds.Plan.{Plan}
use Rattle.fields.specs.Bytes.{bytes}
use Rattle.planwriter.specs.Writing.{job_bytes, jobs_bytes, row_bytes, row_at, rows_bytes, row_count}
use Rattle.fields.proofs.ByteLaws.{length_bytes}
use Rattle.planwriter.proofs.Sets.{Put, put_on}

-- A field of x, as the number y, written after the bytes written so far.
pub put_field : {first : List ℕ} {at : ℕ} {bs out : List ℕ} {next : ℕ} → Put first at bs out next → (w x : ℕ) {y : ℕ} {after : List ℕ} {then : ℕ}
    → y ≡ x → then ≡ next + w → after ≡ sets out next (bytes w y) → Put first at (bs ++ bytes w x) after then
put_field so w x is e h = put_on so (bytes w x) (rw length_bytes e) (rw is at h)

pub job_long : (j : Job) → length (job_bytes j) ≡ 1 + job_length
job_long j = simp (length-append, length_bytes)

pub row_long : (name interval units : ℕ) → length (row_bytes name interval units) ≡ 1 + row_length
row_long name interval units = simp (length-append, length_bytes)

pub jobs_long : (p : Plan) (n : ℕ) → length (jobs_bytes p n) ≡ n * (1 + job_length)
unfolding jobs_bytes
jobs_long p zero = refl
jobs_long p (suc n) = length-append (jobs_bytes p n) (job_bytes (job_of p n)) ∙ omega (arith, jobs_long p n, job_long (job_of p n))

pub jobs_start : (p : Plan) → jobs_bytes p 0 ≡ []
unfolding jobs_bytes
jobs_start p = refl

pub jobs_next : (p : Plan) (i : ℕ) → jobs_bytes p i ++ job_bytes (job_of p i) ≡ jobs_bytes p (i + 1)
unfolding jobs_bytes
jobs_next p i = rw (add-one i) refl

-- The bytes for a place of a job: none for 0 units, otherwise a row.
module _ (name interval units : ℕ) where
  pub place_none : units ≡ 0 → row_at most_intervals (name ∷ []) interval units ≡ []
  place_none e = rw (eq-eqb units 0 e)

  pub place_row : (units ≡ 0 → ⊥) → interval < most_intervals → row_at most_intervals (name ∷ []) interval units ≡ row_bytes name interval units
  place_row h l =
      let d : interval / most_intervals ≡ 0 = omega arith in
      let m : interval % most_intervals ≡ interval = omega arith in
      rw (ne_eqb units 0 h, d, m) refl

-- The rows of a concatenation are the rows of its first part, then those of its second.
pub rows_split : (width : ℕ) (names : List ℕ) (q : ℕ) (a b : List ℕ)
    → rows_bytes width names q (a ++ b) ≡ rows_bytes width names q a ++ rows_bytes width names (q + length a) b
unfolding rows_bytes
rows_split width names q [] b = ap (λ k. rows_bytes width names k b) (sym (add-zero q))
rows_split width names q (u ∷ a) b =
    ap (λ l. row_at width names q u ++ l) (rows_split width names (suc q) a b)
    ∙ sym (append_assoc (row_at width names q u) (rows_bytes width names (suc q) a) (rows_bytes width names (suc q + length a) b))
    ∙ ap (λ k. row_at width names q u ++ rows_bytes width names (suc q) a ++ rows_bytes width names k b) (suc-add q (length a) ∙ sym (add-suc q (length a)))

pub rows_one : (width : ℕ) (names : List ℕ) (q u : ℕ) → rows_bytes width names q (u ∷ []) ≡ row_at width names q u
unfolding rows_bytes
rows_one width names q u = append-nil (row_at width names q u)

pub rows_none : (width : ℕ) (names : List ℕ) (q : ℕ) → rows_bytes width names q [] ≡ []
unfolding rows_bytes
rows_none width names q = refl

-- The rows of a prefix are no longer than all rows.
pub rows_within : (width : ℕ) (names table : List ℕ) (n : ℕ) → length (rows_bytes width names 0 (take n table)) ≤ length (rows_bytes width names 0 table)
rows_within width names table n =
    let a = take n table in
    let b = drop n table in
    let whole : length (rows_bytes width names 0 table) ≡ length (rows_bytes width names 0 a) + length (rows_bytes width names (0 + length a) b)
    = ap (λ l. length (rows_bytes width names 0 l)) (sym (take-append-drop n table)) ∙ ap length (rows_split width names 0 a b)
    ∙ length-append (rows_bytes width names 0 a) (rows_bytes width names (0 + length a) b) in
    omega (arith, whole)

-- The rows of the first q places, extended by the row of place q, which fits.
module _ (width : ℕ) (names table : List ℕ) (q : ℕ) (h : q < length table) where
  pub rows_next : rows_bytes width names 0 (take q table) ++ row_at width names q (get_or table q 0) ≡ rows_bytes width names 0 (take (q + 1) table)
  rows_next =
      let n : 0 + length (take q table) ≡ q = zero-add (length (take q table)) ∙ length-take-le q table (omega arith) in
      rw (add-one q, take-suc table q 0 h)
      (sym (rows_split width names 0 (take q table) (get_or table q 0 ∷ [])
      ∙ ap (λ k. rows_bytes width names 0 (take q table) ++ rows_bytes width names k (get_or table q 0 ∷ [])) n
      ∙ ap (λ l. rows_bytes width names 0 (take q table) ++ l) (rows_one width names q (get_or table q 0))))

  pub rows_fit : length (rows_bytes width names 0 (take q table)) + length (row_at width names q (get_or table q 0)) ≤ length (rows_bytes width names 0 table)
  rows_fit =
      let here = sym (length-append (rows_bytes width names 0 (take q table)) (row_at width names q (get_or table q 0))) ∙ ap length rows_next in
      omega (arith, rows_within width names table (q + 1), here)

-- The row count of a concatenation, of a prefix as a loop counts it, and its bound.
pub count_split : (a b : List ℕ) → row_count (a ++ b) ≡ row_count a + row_count b
unfolding row_count
count_split [] b = sym (zero-add (row_count b))
count_split (u ∷ a) b = by (eqb u 0) (count_split a b)
  where
    by : (t : Bool) → row_count (a ++ b) ≡ row_count a + row_count b
        → cond t (row_count (a ++ b)) (suc (row_count (a ++ b))) ≡ cond t (row_count a) (suc (row_count a)) + row_count b
    by true e = e
    by false e = omega (arith, e)

pub count_start : (l : List ℕ) → 0 ≡ row_count (take 0 l)
unfolding row_count
count_start l = refl

pub count_next : (l : List ℕ) (q : ℕ) {so_far one : ℕ} → q < length l → so_far ≡ row_count (take q l) → one ≡ cond (eqb (get_or l q 0) 0) 0 1
    → so_far + one ≡ row_count (take (q + 1) l)
unfolding row_count
count_next l q h e f =
    rw (add-one q, take-suc l q 0 h, count_split (take q l) (get_or l q 0 ∷ []), e, f) refl

pub count_few : (l : List ℕ) → row_count l ≤ length l
unfolding row_count
count_few [] = omega arith
count_few (u ∷ l) = by (eqb u 0) (count_few l)
  where
    by : (t : Bool) → row_count l ≤ length l → cond t (row_count l) (suc (row_count l)) ≤ suc (length l)
    by true h = omega arith
    by false h = omega arith

-- Each row takes 1 + row_length bytes.
pub rows_long : (width : ℕ) (names : List ℕ) (q : ℕ) (l : List ℕ) → length (rows_bytes width names q l) ≡ row_count l * (1 + row_length)
unfolding rows_bytes row_count
rows_long width names q [] = refl
rows_long width names q (u ∷ l) =
    length-append (row_at width names q u) (rows_bytes width names (suc q) l)
    ∙ by (eqb u 0) (row_long (get_or names (q / width) 0) (q % width) u) (rows_long width names (suc q) l)
  where
    by : (t : Bool) → length (row_bytes (get_or names (q / width) 0) (q % width) u) ≡ 1 + row_length
        → length (rows_bytes width names (suc q) l) ≡ row_count l * (1 + row_length)
        → length (cond t [] (row_bytes (get_or names (q / width) 0) (q % width) u)) + length (rows_bytes width names (suc q) l)
        ≡ cond t (row_count l) (suc (row_count l)) * (1 + row_length)
    by true r e = omega (arith, e)
    by false r e = omega (arith, e, r)
