-- Read after write: a sound plan, accepted or not, is read back from its file as the same plan.
use mathlib.Core.Path.{◌≡◌, refl, sym, ◌∙◌, ap, ap₂}
use mathlib.Core.Bool.{Bool, true, false, not, cond, ◌&&◌, ◌||◌}
use mathlib.Core.List.{List, [], ◌∷◌, ◌++◌, append-nil}
use Prim.Native.Nat.{ℕ, zero, suc, ◌+◌, ◌/◌, ◌%◌, ◌≤◌, ◌<◌, ◌^◌}
use native.Mathlib.Nat.{zero-add}
use native.Mathlib.Omega.{arith}
use borrow.Author.Tests.{ltb-true, ltb-false, leb-true}
use lib.Dec.{ltb, eqb, lit<}
use lib.ListN.{length, get_or, take, drop, replicate, length-append, length-map, get_or-eq_default}
use lib.Seq.{drop-length, take_all, take-take, length-take-le}
use Rattle.plan.specs.Edition.{most_jobs, most_intervals, places}
use Rattle.plan.specs.Versions.{newest_version, most_rows_in, rows_allowed_in, version_for}
use Rattle.plan.specs.Refusal.{too_many_rows}
use Rattle.base.specs.Below.{every}
use Rattle.plan.specs.Rules.{job_of, name, names, counted, name_allowed, same_name, is_absent, grade_allowed, names_hold, names_differ, grades_hold}
use Rattle.plan.specs.Boundaries.{intervals}
use Rattle.plan.specs.Table.{no_stray, sound}
use Rattle.plan.specs.declared.kinds.Job.{Job}
use Rattle.plan.specs.declared.kinds.Plan.{Plan}
use Rattle.base.proofs.Below.{every_ext, every_at}
use Rattle.base.proofs.Logic.{both}
use Rattle.plan.proofs.Names.{name_at_lem}
use Rattle.plan.proofs.BoundaryOrder.{boundaries_few}
use Rattle.plan.proofs.VersionLimits.{count_written}
use Rattle.fields.specs.Bytes.{bytes}
use Rattle.fields.specs.Parsers.{got, field, checked, opening}
use Rattle.planfields.specs.Records.{Head, head}
use Rattle.plan.specs.JobLists.{names_of}
use Rattle.planfile.specs.Reader.{all_jobs, plan_from, preamble, all_rows, read_file}
use Rattle.planwriter.specs.Writing.{jobs_bytes, row_bytes, rows_bytes, row_count, body, written}
use Rattle.planwriter.specs.Inner.Writable.{Writable}
use Rattle.fields.proofs.ByteLaws.{length_bytes}
use Rattle.fields.proofs.OpeningLaws.{ended_back}
use Rattle.fields.proofs.RoundTripLaws.{opening_back}
use Rattle.planfields.proofs.HeadLaws.{head_whole}
use Rattle.planfile.proofs.DistinctNames.{jobs_apart}
use Rattle.planfile.proofs.WholeFile.{file_whole}
use Rattle.plan.proofs.Soundness.{Rules, rules_parts, Sound, sound_parts, Bounded, rules_bounded, job_bounds}
use Rattle.planwriter.proofs.WrittenFile.{counted_is, writable, rows_allowed, body_of, body_short, written_of, written_long}
use Rattle.fields.proofs.BytesAt.{Stands, stands_at, stands_as, stands_first, stands_rest, field_back}
use Rattle.roundtrip.proofs.JobRoundTrip.{Readable, span_whole, jobs_back}
use Rattle.roundtrip.proofs.RowRoundTrip.{rows_back}
use Rattle.roundtrip.proofs.KeptPlan.{kept, kept_intervals, names_prefix}

-- Each counted job of a sound plan can be read after the jobs before it.
readable : (p : Plan) → Rules p → p.count ≤ most_jobs → length p.jobs ≡ most_jobs → ((i : ℕ) → i < p.count → name p i < 256 ^ 8)
    → (k : ℕ) → k < p.count → Readable (names_of (take k p.jobs)) (job_of p k)
unfolding names_hold names_differ grades_hold is_absent
readable p s few long fits k h =
    let h' : k < counted p = rw (counted_is p few) h in
    let n : length (names_of (take k p.jobs)) ≡ k
    = length-map (take k p.jobs) (λ (j : Job). j.name.0) ∙ length-take-le k p.jobs (omega (arith, long, few)) in
    record {
      fits = fits k h;
      allowed = every_at (λ i. name_allowed (name p i)) (counted p) k s.named h';
      absent =
          rw n
          (every_ext (λ i. not (eqb (get_or (names_of (take k p.jobs)) i 0) (name p k))) (λ i. not (same_name (name p i) (name p k))) k
          (λ i l. ap (λ x. not (eqb x (name p k))) (names_prefix p.jobs k i l))
          ∙ every_at (λ i. every (λ j. not (same_name (name p j) (name p i))) i) (counted p) k s.differ h');
      graded = every_at (λ i. grade_allowed (job_of p i).grade) (counted p) k s.grades h';
      bounds = job_bounds p s.bounds k h';
    }

-- If no place is stray, lists that agree in the first `jobs` names give the same bytes of rows.
pub rows_counted : (jobs spans : ℕ) (a b : List ℕ) → ((k : ℕ) → k < jobs → get_or a k 0 ≡ get_or b k 0) → (q : ℕ) (l : List ℕ)
    → no_stray most_intervals jobs spans q l ≡ true → rows_bytes most_intervals a q l ≡ rows_bytes most_intervals b q l
unfolding rows_bytes no_stray
rows_counted jobs spans a b same q [] clear = refl
rows_counted jobs spans a b same q (u ∷ l) clear =
    by (eqb u 0) refl clear (rows_counted jobs spans a b same (suc q) l)
  where
    row : List ℕ → Bool → List ℕ
    row names t = cond t [] (row_bytes (get_or names (q / most_intervals) 0) (q % most_intervals) u)

    by : (t : Bool) → eqb u 0 ≡ t → ((t || ltb (q / most_intervals) jobs && ltb (q % most_intervals) spans) && no_stray most_intervals jobs spans (suc q) l) ≡ true
        → (no_stray most_intervals jobs spans (suc q) l ≡ true → rows_bytes most_intervals a (suc q) l ≡ rows_bytes most_intervals b (suc q) l)
        → row a t ++ rows_bytes most_intervals a (suc q) l ≡ row b t ++ rows_bytes most_intervals b (suc q) l
    by true z clear rest = rest clear
    by false z clear rest =
        let c = both (ltb (q / most_intervals) jobs && ltb (q % most_intervals) spans) (no_stray most_intervals jobs spans (suc q) l) clear in
        let d = both (ltb (q / most_intervals) jobs) (ltb (q % most_intervals) spans) c.0 in
        ap₂ (λ (x : ℕ) (r : List ℕ). row_bytes x (q % most_intervals) u ++ r)
        (same (q / most_intervals) (ltb-true (q / most_intervals) jobs d.0)) (rest c.1)

-- The preamble from its three parts.
preamble_is : (file : List ℕ) {h : Head} {jobs : List Job} {rows a b c : ℕ} → head true file 0 ≡ got h a → all_jobs h.count [] file a ≡ got jobs b
    → checked 2 (rows_allowed_in h.version) too_many_rows file b ≡ got rows c
    → preamble file 0 ≡ got (record { plan = plan_from h jobs; names = names_of jobs; rows = rows }) c
unfolding preamble
preamble_is file e₁ e₂ e₃ = rw (e₁, e₂, e₃)

-- A row count that the version allows is read from its field.
count_back : (version : ℕ) (file : List ℕ) (at : ℕ) {rows next : ℕ} → field 2 file at ≡ got rows next → rows_allowed_in version rows ≡ true
    → checked 2 (rows_allowed_in version) too_many_rows file at ≡ got rows next
count_back version file at e h = rw (e, h)

-- A plan that is sound with a table is sound with the table's own places alone.
pub sound_own : (p : Plan) (table : List ℕ) → sound p table ≡ true → sound p (take places table) ≡ true
unfolding sound
sound_own p table e = rw (take-take places places table (omega arith)) e

-- A sound plan with exactly its own places, and the bounds that the code's types give.
module _ (p : Plan) (table : List ℕ) (sound_is : sound p table ≡ true) (exact : length table ≡ places) (records : length p.jobs ≡ most_jobs)
    (named : (i : ℕ) → i < p.count → name p i < 256 ^ 8) (entries : (k : ℕ) → get_or table k 0 < 256 ^ 4) where
  abbrev file : List ℕ
  file = written p table

  abbrev counted_jobs : List Job
  counted_jobs = take p.count p.jobs

  parts : Sound p table
  parts = sound_parts p table sound_is

  rules : Rules p
  rules = rules_parts p parts.rules

  limits : Bounded p
  limits = rules_bounded p parts.rules

  few : p.count ≤ most_jobs
  few = limits.few

  own : take places table ≡ table
  own = take_all places table (omega (arith, exact))

  writes : Writable p table
  writes = rw own at (writable p table sound_is (omega (arith, exact)))

  abbrev version : ℕ
  version = version_for p.count

  abbrev front : List ℕ
  front = bytes 1 version ++ bytes 4 (length (body p table))

  -- The parts of the file at their offsets.
  whole : Stands file 0 (front ++ body p table) (length file)
  whole = record {
    is =
        sym (append-nil file) ∙ ap (λ l. file ++ l) (sym (drop-length file))
        ∙ ap (λ l. l ++ drop (length file) file) (sym (written_of p table));
    ends = ap length (sym (written_of p table)) ∙ sym (zero-add (length (front ++ body p table)));
  }

  front_long : 0 + length front ≡ 5
  front_long =
      ap (λ k. 0 + k) (length-append (bytes 1 version) (bytes 4 (length (body p table))) ∙ ap₂ ◌+◌ (length_bytes 1 version) (length_bytes 4 (length (body p table))))

  opened : opening newest_version true file 0 ≡ got version 5
  opened =
      opening_back newest_version version (length (body p table)) file refl (lit< tt) (body_short p table writes)
      (stands_at (stands_first front (body p table) whole) front_long) (sym (written_long p table))

  body_parts : Stands file 5
      (bytes 2 p.n.0 ++ bytes 2 p.d.0 ++ bytes 1 p.count ++ jobs_bytes p p.count ++ bytes 2 (row_count table)
      ++ rows_bytes most_intervals (names p) 0 table)
      (length file)
  body_parts = rw (body_of p table few refl refl) (rw front_long at (stands_rest front (body p table) whole))

  -- The prefixes of the body, part by part, and the head that is read.
  abbrev after_d : List ℕ
  after_d = bytes 2 p.n.0 ++ bytes 2 p.d.0

  abbrev after_count : List ℕ
  after_count = after_d ++ bytes 1 p.count

  abbrev after_jobs : List ℕ
  after_jobs = after_count ++ jobs_bytes p p.count

  abbrev after_rows : List ℕ
  after_rows = after_jobs ++ bytes 2 (row_count table)

  to_rows : Stands file 5 after_rows (5 + length after_rows)
  to_rows = stands_first after_rows (rows_bytes most_intervals (names p) 0 table) body_parts

  to_jobs : Stands file 5 after_jobs (5 + length after_jobs)
  to_jobs = stands_first after_jobs (bytes 2 (row_count table)) to_rows

  to_count : Stands file 5 after_count (5 + length after_count)
  to_count = stands_first after_count (jobs_bytes p p.count) to_jobs

  abbrev headed : Head
  headed = record { version = version; n = p.n.0; d = p.d.0; count = p.count }

  head_is : head true file 0 ≡ got headed (5 + length after_count)
  head_is =
      let s = stands_first after_d (bytes 1 p.count) to_count in
      sym (head_whole true file 0 opened
      (field_back 2 p.n.0 file 5 (omega arith) (omega (arith, limits.rate)) (stands_first (bytes 2 p.n.0) (bytes 2 p.d.0) s))
      (field_back 2 p.d.0 file (5 + length (bytes 2 p.n.0)) (omega arith) (omega (arith, limits.rate, limits.rates)) (stands_rest (bytes 2 p.n.0) (bytes 2 p.d.0) s))
      rules.rates
      (field_back 1 p.count file (5 + length after_d) (omega arith) (omega (arith, few)) (stands_rest after_d (bytes 1 p.count) to_count))
      (count_written p.count rules.count))

  jobs_are : all_jobs p.count [] file (5 + length after_count) ≡ got counted_jobs (5 + length after_jobs)
  jobs_are =
      jobs_back p file p.count 0 (5 + length after_count) (omega (arith, records, few))
      (λ k l h. readable p rules few records named k (omega arith))
      (stands_as (stands_rest after_count (jobs_bytes p p.count) to_jobs) (sym (span_whole p p.count)))
      ∙ ap (λ k. got (take k p.jobs) (5 + length after_jobs)) (zero-add p.count)

  rows_are : checked 2 (rows_allowed_in version) too_many_rows file (5 + length after_jobs) ≡ got (row_count table) (5 + length after_rows)
  rows_are =
      let allowed = rw own at (rows_allowed p table sound_is (omega (arith, exact))) in
      count_back version file (5 + length after_jobs)
      (field_back 2 (row_count table) file (5 + length after_jobs) (omega arith) (omega (arith, leb-true (row_count table) (most_rows_in version) allowed)) (stands_rest after_jobs (bytes 2 (row_count table)) to_rows))
      allowed

  abbrev counted_names : List ℕ
  counted_names = names_of counted_jobs

  names_long : length counted_names ≡ p.count
  names_long =
      length-map counted_jobs (λ (j : Job). j.name.0) ∙ length-take-le p.count p.jobs (omega (arith, records, few))

  table_is : all_rows (row_count table) most_intervals counted_names (intervals (kept p)) 0 (replicate places 0) file (5 + length after_rows) ≡ got table (length file)
  table_is =
      let apart = (jobs_apart p.count [] file (5 + length after_count) counted_jobs (5 + length after_jobs) jobs_are (λ i j hi hj e. absurd (omega arith))).0 in
      let clear : no_stray most_intervals p.count (intervals p) 0 table ≡ true
      = ap (λ k. no_stray most_intervals k (intervals p) 0 table) (sym (counted_is p few)) ∙ (rw own at parts.clear) in
      let same : (k : ℕ) → k < p.count → get_or counted_names k 0 ≡ get_or (names p) k 0
      = λ k h. names_prefix p.jobs p.count k h ∙ sym (name_at_lem p k (rw (counted_is p few) h)) in
      let stands = stands_as (stands_rest after_rows (rows_bytes most_intervals (names p) 0 table) body_parts)
      (sym (rows_counted p.count (intervals p) counted_names (names p) same 0 table clear)) in
      rw (kept_intervals p)
      (ap (λ m. all_rows (row_count table) most_intervals counted_names (intervals p) 0 (replicate m 0) file (5 + length after_rows)) (sym exact)
      ∙ rows_back counted_names (intervals p) apart (omega (arith, boundaries_few p (counted p), counted_is p few, few)) fit file table [] 0 0 (5 + length after_rows)
      refl (omega arith) (rw names_long clear) entries stands)
    where
      fit : (k : ℕ) → get_or counted_names k 0 < 256 ^ 8
      fit k = by (ltb k p.count) refl
        where
          by : (t : Bool) → ltb k p.count ≡ t → get_or counted_names k 0 < 256 ^ 8
          by true h =
              let l = ltb-true k p.count h in
              rw (names_prefix p.jobs p.count k l) (named k l)
          by false h = rw (get_or-eq_default counted_names 0 {n = k} (omega (arith, ltb-false k p.count h, names_long))) (lit< tt)

  pub read_own : read_file file ≡ got (record { plan = kept p; table = table }) (length file)
  read_own = file_whole file (preamble_is file head_is jobs_are rows_are) table_is (ended_back file (length file) refl)

-- Every sound plan, accepted or not, is read back from its written file as the same plan:
-- the rates, the count, the counted records (the others are zero) and the table's own places. The
-- premises on the number of records and on the sizes of names and places hold by the code's types.
pub read_after_write : (p : Plan) (table : List ℕ) → sound p table ≡ true → places ≤ length table → length p.jobs ≡ most_jobs
    → ((i : ℕ) → i < p.count → name p i < 256 ^ 8) → ((k : ℕ) → get_or table k 0 < 256 ^ 4)
    → read_file (written p (take places table)) ≡ got (record { plan = kept p; table = take places table }) (length (written p (take places table)))
read_after_write p table e long records named entries =
    read_own p (take places table) (sound_own p table e) (length-take-le places table long) records named (own_small places table entries)
  where
    own_small : (n : ℕ) (l : List ℕ) → ((k : ℕ) → get_or l k 0 < 256 ^ 4) → (k : ℕ) → get_or (take n l) k 0 < 256 ^ 4
    own_small zero l h k = lit< tt
    own_small (suc n) [] h k = lit< tt
    own_small (suc n) (x ∷ l) h zero = h 0
    own_small (suc n) (x ∷ l) h (suc k) = own_small n l (λ j. h (suc j)) k
