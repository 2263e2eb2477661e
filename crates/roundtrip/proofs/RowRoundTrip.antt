-- Round trips of rows: the written rows of a table, read into zeros, give the table back,
-- and where rows are read the file has the written rows of the resulting table.
use mathlib.Core.Path.{◌≡◌, refl, sym, ◌∙◌, ap, ap₂}
use mathlib.Core.Bool.{Bool, true, false, not, cond, ◌&&◌, ◌||◌}
use mathlib.Core.List.{List, [], ◌∷◌, ◌++◌, append-nil, append_assoc}
use Prim.Native.Nat.{ℕ, zero, suc, ◌+◌, ◌*◌, ◌-◌, ◌/◌, ◌%◌, ◌≤◌, ◌<◌, ◌^◌}
use native.Mathlib.Nat.{add-zero, add-suc, suc-add, zero-add, div-add-mod, mul_comm}
use native.Mathlib.Omega.{arith}
use borrow.Author.Tests.{ne_eqb, eqb-true, eqb-false, ltb-true, lt-ltb, leb-true, le-leb, not-true}
use lib.Arith.{digits_div, digits_mod}
use lib.Dec.{leb, ltb, eqb, lit<}
use lib.ListN.{length, get_or, set, replicate, length-append, length-replicate, replicate-append-replicate}
use lib.Seq.{set_at}
use Rattle.plan.specs.Edition.{most_intervals, name_bytes}
use Rattle.planfields.specs.Layout.{row_length}
use Rattle.plan.specs.Refusal.{row_without_job, row_without_interval, row_without_units, row_out_of_order}
use Rattle.plan.specs.Table.{place, no_stray}
use Rattle.base.proofs.Logic.{both}
use Rattle.fields.specs.Bytes.{bytes}
use Rattle.fields.specs.Parsers.{got}
use Rattle.planfile.specs.Reader.{position, Row, row_job, one_row, all_rows}
use Rattle.planwriter.specs.Writing.{row_bytes, rows_bytes, row_count}
use Rattle.planfile.specs.Inner.Parts.{Distinct}
use Rattle.fields.proofs.ByteLaws.{Octets}
use Rattle.fields.proofs.ParserLaws.{through, same_value, same_next}
use Rattle.planfile.proofs.PositionLaws.{position_only, position_found}
use Rattle.planfile.proofs.Rows.{row_inside, rows_step, rows_done}
use Rattle.planwriter.proofs.JobAndRowBytes.{rows_split, count_split}
use Rattle.fields.proofs.BytesAt.{Stands, stands_none, stands_then, stands_first, stands_rest, stands_at}
use Rattle.fields.proofs.RoundTripLaws.{Law, law_as, here_law, then_law, test_law, done_law, field_law, checked_law, length_law}

-- Zeros have no rows.
zeros_rows : (names : List ℕ) (q m : ℕ) → rows_bytes most_intervals names q (replicate m 0) ≡ []
unfolding rows_bytes
zeros_rows names q zero = refl
zeros_rows names q (suc m) = zeros_rows names (suc q) m

-- The row count of zeros is 0.
zeros_count : (m : ℕ) → row_count (replicate m 0) ≡ 0
unfolding row_count
zeros_count zero = refl
zeros_count (suc m) = zeros_count m

-- Zeros contain no stray place.
zeros_clear : (jobs spans q m : ℕ) → no_stray most_intervals jobs spans q (replicate m 0) ≡ true
unfolding no_stray
zeros_clear jobs spans q zero = refl
zeros_clear jobs spans q (suc m) = zeros_clear jobs spans (suc q) m

-- Zeros fit in 32 bits.
zeros_small : (m k : ℕ) → get_or (replicate m 0) k 0 < 256 ^ 4
zeros_small zero k = lit< tt
zeros_small (suc m) zero = lit< tt
zeros_small (suc m) (suc k) = zeros_small m k

-- A concatenation of lists without stray places has none.
clear_split : (jobs spans q : ℕ) (a b : List ℕ) → no_stray most_intervals jobs spans q a ≡ true → no_stray most_intervals jobs spans (q + length a) b ≡ true
    → no_stray most_intervals jobs spans q (a ++ b) ≡ true
unfolding no_stray
clear_split jobs spans q [] b ha hb = rw (add-zero q) at hb
clear_split jobs spans q (u ∷ a) b ha hb =
    let h = both (eqb u 0 || ltb (q / most_intervals) jobs && ltb (q % most_intervals) spans) (no_stray most_intervals jobs spans (suc q) a) ha in
    rw h.0 (clear_split jobs spans (suc q) a b h.1 (rw (add-suc q (length a) ∙ sym (suc-add q (length a))) at hb))

-- A concatenation of lists whose numbers fit in 32 bits has only such numbers.
small_split : (a b : List ℕ) → ((k : ℕ) → get_or a k 0 < 256 ^ 4) → ((k : ℕ) → get_or b k 0 < 256 ^ 4) → (k : ℕ) → get_or (a ++ b) k 0 < 256 ^ 4
small_split [] b ha hb k = hb k
small_split (x ∷ a) b ha hb zero = ha 0
small_split (x ∷ a) b ha hb (suc k) = small_split a b (λ j. ha (suc j)) hb k

-- Rows, in a plan with these names and this many intervals.
module _ (names : List ℕ) (spans : ℕ) (differ : Distinct names) (narrow : spans ≤ most_intervals) where
  -- What a row needs to be read after rows at places below `low`.
  pub record RowReadable (low : ℕ) (row : Row) : Type 0 where
    pub fits : get_or names (row.at / most_intervals) 0 < 256 ^ 8
    pub job : row.at / most_intervals < length names
    pub interval : row.at % most_intervals < spans
    pub some : row.units ≡ 0 → ⊥
    pub small : row.units < 256 ^ 4
    pub after : low ≤ row.at

  -- The job and the interval of a place.
  place_parts : (i j : ℕ) → j < spans → (place most_intervals i j / most_intervals ≡ i) × (place most_intervals i j % most_intervals ≡ j)
  place_parts i j h =
      let wide : j < most_intervals = omega (arith, h, narrow) in
      let is : place most_intervals i j ≡ i * most_intervals + j = ap (λ k. k + j) (mul_comm most_intervals i) in
      (ap (λ k. k / most_intervals) is ∙ digits_div i wide, ap (λ k. k % most_intervals) is ∙ digits_mod i wide)

  -- The length byte and the name of a row, by the position of its job.
  row_job_law : (file : List ℕ)
      → Law file (row_job names) (λ job. bytes 1 row_length ++ bytes name_bytes (get_or names job 0)) (λ job. (job < length names) × (get_or names job 0 < 256 ^ 8))
  unfolding row_job
  row_job_law file =
      law_as
      (then_law (λ _. tt) (length_law file row_length (lit< tt))
      (λ _. here_law (λ from. then_law (λ job. get_or names job 0) (field_law file name_bytes (omega arith))
      (λ name. test_law (ltb (position names name) (length names)) row_without_job from (done_law file (position names name)))
      (λ name job first good.
      ap (λ i. get_or names i 0) good.1 ∙ position_found names name (ltb-true (position names name) (length names) good.0))))
      (λ a b first good. refl))
      (λ job good.
      let is : job ≡ position names (get_or names job 0) = position_only names (get_or names job 0) job differ good.0 refl in
      (tt, (good.1, (lt-ltb (position names (get_or names job 0)) (length names) (rw (← is) good.0), is))))
      (λ job good.
      (omega (arith, good.1.1.1, ltb-true (position names (get_or names job 0)) (length names) good.1.1.0), good.1.0))
      (λ job. simp (append-nil))

  -- A row, from its fields and their tests.
  pub row_law : (file : List ℕ) (low : ℕ)
      → Law file (one_row most_intervals names spans low) (λ row. row_bytes (get_or names (row.at / most_intervals) 0) (row.at % most_intervals) row.units) (RowReadable low)
  unfolding one_row
  row_law file low =
      law_as
      (here_law (λ from. then_law (λ (r : Row). r.at / most_intervals) (row_job_law file)
      (λ job. then_law (λ (r : Row). r.at % most_intervals) (checked_law file 2 (omega arith) (λ j. ltb j spans) row_without_interval)
      (λ interval. then_law (λ (r : Row). r.units) (checked_law file 4 (omega arith) (λ u. not (eqb u 0)) row_without_units)
      (λ units. test_law (leb low (place most_intervals job interval)) row_out_of_order from
      (done_law file (record { at = place most_intervals job interval; units = units })))
      (λ a b first good. ap (λ (r : Row). r.units) good.1))
      (λ a b first good. ap (λ (r : Row). r.at % most_intervals) good.1.1 ∙ (place_parts job a (ltb-true a spans first.1)).1))
      (λ a b first good.
      ap (λ (r : Row). r.at / most_intervals) good.1.1.1 ∙ (place_parts a (b.at % most_intervals) (ltb-true (b.at % most_intervals) spans good.0.1)).0)))
      (λ r ok.
      let is : place most_intervals (r.at / most_intervals) (r.at % most_intervals) ≡ r.at = div-add-mod r.at most_intervals in (
        (ok.job, ok.fits),
        (
          (omega (arith, ok.interval, narrow), lt-ltb (r.at % most_intervals) spans ok.interval),
          ((ok.small, unit_test ok.some), (rw is (le-leb low r.at ok.after), ap (λ k. record { at = k; units = r.units }) (sym is))),
        ),
      ))
      (λ r good.
      let is : r.at ≡ place most_intervals (r.at / most_intervals) (r.at % most_intervals) = ap (λ (r : Row). r.at) good.1.1.1.1 in
      record {
        fits = good.0.1;
        job = good.0.0;
        interval = ltb-true (r.at % most_intervals) spans good.1.0.1;
        some = eqb-false r.units 0 (not-true (eqb r.units 0) good.1.1.0.1);
        small = good.1.1.0.0;
        after = omega (arith, is, leb-true low (place most_intervals (r.at / most_intervals) (r.at % most_intervals)) good.1.1.1.0);
      })
      (λ r. simp (append-nil, append_assoc))
    where
      unit_test : {u : ℕ} → (u ≡ 0 → ⊥) → not (eqb u 0) ≡ true
      unit_test {u} h = rw (ne_eqb u 0 h) refl

  -- The written rows of the numbers l from place q on, read into zeros after `pre`, give pre ++ l.
  pub rows_back : ((k : ℕ) → get_or names k 0 < 256 ^ 8) → (file l pre : List ℕ) (q low at : ℕ) {next : ℕ} → q ≡ length pre → low ≤ q → no_stray most_intervals (length names) spans q l ≡ true
      → ((k : ℕ) → get_or l k 0 < 256 ^ 4) → Stands file at (rows_bytes most_intervals names q l) next
      → all_rows (row_count l) most_intervals names spans low (pre ++ replicate (length l) 0) file at ≡ got (pre ++ l) next
  unfolding rows_bytes row_count no_stray
  rows_back fit file [] pre q low at long h clear small s =
      rows_done most_intervals names spans low (pre ++ []) file at ∙ ap (got (pre ++ [])) (sym (s.ends ∙ add-zero at))
  rows_back fit file (u ∷ l) pre q low at {next} long h clear small s =
      by (eqb u 0) refl clear s
      (λ x low' at' h' c s'. rows_back fit file l (pre ++ (x ∷ [])) (suc q) low' at' (ap suc long ∙ sym (length-append pre (x ∷ []) ∙ omega arith)) h' c (λ k. small (suc k)) s')
    where
      by : (t : Bool) → eqb u 0 ≡ t
          → ((t || ltb (q / most_intervals) (length names) && ltb (q % most_intervals) spans) && no_stray most_intervals (length names) spans (suc q) l) ≡ true
          → Stands file at (cond t [] (row_bytes (get_or names (q / most_intervals) 0) (q % most_intervals) u) ++ rows_bytes most_intervals names (suc q) l) next
          → ((x low' at' : ℕ) → low' ≤ suc q → no_stray most_intervals (length names) spans (suc q) l ≡ true → Stands file at' (rows_bytes most_intervals names (suc q) l) next
          → all_rows (row_count l) most_intervals names spans low' (pre ++ (x ∷ []) ++ replicate (length l) 0) file at' ≡ got (pre ++ (x ∷ []) ++ l) next)
          → all_rows (cond t (row_count l) (suc (row_count l))) most_intervals names spans low (pre ++ (0 ∷ replicate (length l) 0)) file at ≡ got (pre ++ (u ∷ l)) next
      by true z clear s rest =
          ap (λ t. all_rows (row_count l) most_intervals names spans low t file at) (sym (append_assoc pre (0 ∷ []) (replicate (length l) 0)))
          ∙ rest 0 low at (omega arith) clear s
          ∙ ap (λ t. got t next) (append_assoc pre (0 ∷ []) l ∙ ap (λ x. pre ++ (x ∷ l)) (sym (eqb-true u 0 z)))
      by false z clear s rest =
          let b = row_bytes (get_or names (q / most_intervals) 0) (q % most_intervals) u in
          let c = both (ltb (q / most_intervals) (length names) && ltb (q % most_intervals) spans) (no_stray most_intervals (length names) spans (suc q) l) clear in
          let d = both (ltb (q / most_intervals) (length names)) (ltb (q % most_intervals) spans) c.0 in
          let good : RowReadable low (record { at = q; units = u })
          = record {
            fits = fit (q / most_intervals);
            job = ltb-true (q / most_intervals) (length names) d.0;
            interval = ltb-true (q % most_intervals) spans d.1;
            some = eqb-false u 0 z;
            small = small 0;
            after = h;
          } in
          let here = (row_law file low).back (record { at = q; units = u }) at good (stands_first b (rows_bytes most_intervals names (suc q) l) s) in
          rows_step (row_count l) most_intervals names spans low (pre ++ (0 ∷ replicate (length l) 0)) file at here
          ∙ ap (λ t. all_rows (row_count l) most_intervals names spans (suc q) t file (at + length b))
          (set_at pre 0 (replicate (length l) 0) u q (sym long) ∙ sym (append_assoc pre (u ∷ []) (replicate (length l) 0)))
          ∙ rest u (suc q) (at + length b) (omega arith) c.1 (stands_rest b (rows_bytes most_intervals names (suc q) l) s)
          ∙ ap (λ t. got t next) (append_assoc pre (u ∷ []) l)

  -- What reading n rows into m zeros after `pre` gives:
  -- m numbers, whose n written rows the file has.
  pub record Filled (file : List ℕ) (n m q : ℕ) (pre : List ℕ) (at : ℕ) (table : List ℕ) (next : ℕ) : Type 0 where
    pub numbers : List ℕ
    pub is : table ≡ pre ++ numbers
    pub long : length numbers ≡ m
    pub rows : row_count numbers ≡ n
    pub stands : Stands file at (rows_bytes most_intervals names q numbers) next
    pub clear : no_stray most_intervals (length names) spans q numbers ≡ true
    pub small : (k : ℕ) → get_or numbers k 0 < 256 ^ 4

  -- One more row adds k zeros and its units in front of the numbers of the remaining rows.
  filled_on : {file : List ℕ} {n m q : ℕ} {pre : List ℕ} {at : ℕ} {table : List ℕ} {next n₁ : ℕ} (row : Row) (k m' : ℕ) → q + k ≡ row.at → m ≡ k + suc m'
      → Stands file at (row_bytes (get_or names (row.at / most_intervals) 0) (row.at % most_intervals) row.units) n₁ → RowReadable q row → Filled file n m' (suc row.at) (pre ++ replicate k 0 ++ (row.units ∷ [])) n₁ table next
      → Filled file (suc n) m q pre at table next
  unfolding rows_bytes row_count no_stray
  filled_on {file} {n} {m} {q} {pre} {at} {table} {next} row k m' here long s r f =
      let u = row.units in
      let l = f.numbers in
      let zeros = length-replicate {A = ℕ} k 0 in
      let test = eqb_of r.some in
      let at_k : q + length (replicate {A = ℕ} k 0) ≡ row.at = ap (λ i. q + i) zeros ∙ here in
      record {
        numbers = replicate k 0 ++ (u ∷ l);
        is = f.is ∙ append_assoc (pre ++ replicate k 0) (u ∷ []) l ∙ append_assoc pre (replicate k 0) (u ∷ l);
        long = length-append (replicate k 0) (u ∷ l) ∙ omega (arith, zeros, f.long, long);
        rows = count_split (replicate k 0) (u ∷ l) ∙ rw (zeros_count k, test, f.rows) (zero-add (suc n));
        stands =
            rw (rows_split most_intervals names q (replicate k 0) (u ∷ l), zeros_rows names q k, at_k, test)
            (stands_then s f.stands);
        clear =
            clear_split (length names) spans q (replicate k 0) (u ∷ l) (zeros_clear (length names) spans q k)
            (rw (at_k, test, lt-ltb (row.at / most_intervals) (length names) r.job, lt-ltb (row.at % most_intervals) spans r.interval) f.clear);
        small = small_split (replicate k 0) (u ∷ l) (zeros_small k) (front l r.small f.small);
      }
    where
      eqb_of : {u : ℕ} → (u ≡ 0 → ⊥) → eqb u 0 ≡ false
      eqb_of {u} h = ne_eqb u 0 h

      front : {u : ℕ} (l : List ℕ) → u < 256 ^ 4 → ((k : ℕ) → get_or l k 0 < 256 ^ 4) → (k : ℕ) → get_or (u ∷ l) k 0 < 256 ^ 4
      front l h t zero = h
      front l h t (suc k) = t k

  -- Storing u at index k of zeros that follow `pre`.
  stored : (pre : List ℕ) (q k m' u : ℕ) → q ≡ length pre
      → set (pre ++ replicate (k + suc m') 0) (q + k) u ≡ pre ++ replicate k 0 ++ (u ∷ []) ++ replicate m' 0
  stored pre q k m' u long =
      ap (λ l. set (pre ++ l) (q + k) u) (sym (replicate-append-replicate k (suc m') 0))
      ∙ ap (λ l. set l (q + k) u) (sym (append_assoc pre (replicate k 0) (0 ∷ replicate m' 0)))
      ∙ set_at (pre ++ replicate k 0) 0 (replicate m' 0) u (q + k) (length-append pre (replicate k 0) ∙ omega (arith, long, length-replicate {A = ℕ} k 0))
      ∙ sym (append_assoc (pre ++ replicate k 0) (u ∷ []) (replicate m' 0))

  pub rows_again : (file : List ℕ) (n m q : ℕ) (pre : List ℕ) (at : ℕ) (table : List ℕ) (next : ℕ) → Octets file → q ≡ length pre
      → most_intervals * length names ≤ q + m → all_rows n most_intervals names spans q (pre ++ replicate m 0) file at ≡ got table next
      → Filled file n m q pre at table next
  unfolding all_rows
  rows_again file zero m q pre at table next octets long room e =
      record {
        numbers = replicate m 0;
        is = sym (same_value e);
        long = length-replicate m 0;
        rows = zeros_count m;
        stands = rw (zeros_rows names q m) (stands_at (stands_none file at) (same_next e));
        clear = zeros_clear (length names) spans q m;
        small = zeros_small m;
      }
  rows_again file (suc n) m q pre at table next octets long room e =
      let t = through (one_row most_intervals names spans q file at) e in
      let row = t.value in
      let r = (row_law file q).again octets at t.is in
      let inside = row_inside names spans q file at t.is narrow in
      let k = row.at - q in
      let m' = m - suc k in
      let here : q + k ≡ row.at = omega (arith, r.1.after) in
      let parts : m ≡ k + suc m' = omega (arith, r.1.after, inside, room) in
      let store = ap₂ (λ (i j : ℕ). set (pre ++ replicate i 0) j row.units) parts (sym here) ∙ stored pre q k m' row.units long in
      filled_on row k m' here parts r.0 r.1
      (rows_again file n m' (suc row.at) (pre ++ replicate k 0 ++ (row.units ∷ [])) t.next table next octets
      (omega (arith, here, long, length-replicate {A = ℕ} k 0, length-append (pre ++ replicate k 0) (row.units ∷ []), length-append pre (replicate k 0)))
      (omega (arith, here, parts, room))
      (rw store at t.on))
