-- Where a refused file is wrong: the field that its offset names, and that nothing before its record is wrong.
use mathlib.Core.Path.{◌≡◌, refl, sym, ◌∙◌, ap}
use mathlib.Core.Logic.{◌⊎◌, inl, inr, ⊎_elim}
use mathlib.Core.Bool.{Bool, true, false, not, ◌&&◌}
use mathlib.Core.List.{List, [], ◌∷◌}
use Prim.Native.Nat.{ℕ, zero, suc, ◌+◌, ◌*◌, ◌≤◌, ◌<◌}
use native.Mathlib.Nat.{eq-or-lt_of_le}
use native.Mathlib.Omega.{arith}
use borrow.Author.Tests.{eqb-false}
use lib.Dec.{leb, ltb, eqb}
use lib.ListN.{length}
use Rattle.plan.specs.Refusal.{wrong_extent, too_many_rows}
use Rattle.plan.specs.Edition.{name_bytes, places}
use Rattle.plan.specs.Versions.{newest_version, count_allowed_in, rows_allowed_in}
use Rattle.plan.specs.Report.{Report, or_else, first}
use Rattle.plan.specs.Rules.{rates_allowed, name_allowed, is_absent, grade_allowed, window_allowed, size_allowed}
use Rattle.plan.specs.Boundaries.{intervals}
use Rattle.base.proofs.Logic.{below-or-last}
use Rattle.plan.proofs.Reports.{or_none, or_empty}
use Rattle.fields.specs.Parsers.{is_version}
use Rattle.planfields.specs.Layout.{opening_bytes, header_bytes, job_length, row_length, row_count_bytes}
use Rattle.plan.specs.JobLists.{names_of}
use Rattle.planfile.specs.Reader.{position, reader}
use Rattle.promises.specs.FileFaults.{length_from, value_at, cut_at, unless_at, field_faults, head_faults, head_in, name_from, job_from, job_at, jobs_in, job_faults_at, job_faults, interval_from, units_from, row_from, row_in, row_faults_at, lowest_at, file_jobs, file_plan, row_count_from, rows_from, rows_said, end_of, preamble_fault, file_row_faults, file_fault, WrongInHead, WrongInJob, WrongRowCount, WrongInRow, WrongAt}
use Rattle.promises.specs.FileFaults.{head_version, head_length_field, head_normal_cut, head_floor_cut, head_rates, head_count_cut, head_count_other}
use Rattle.promises.specs.FileFaults.{job_length_cut, job_length_other, job_name_cut, job_name_byte, job_name_taken, job_grade_cut, job_grade_other, job_release_cut, job_size_cut, job_deadline_cut, job_bounds}
use Rattle.promises.specs.FileFaults.{rows_count_cut, rows_too_many}
use Rattle.promises.specs.FileFaults.{row_length_cut, row_length_other, row_name_cut, row_name_of_no_job, row_interval_cut, row_interval_other, row_units_cut, row_units_none, row_out_of_order_lem}
use Rattle.promises.specs.FileFaults.{in_head, in_job, in_row_count, in_row, left_over}
use Rattle.promises.proofs.ReaderExactly.{offset_inside, reader_exactly}

-- A report is empty, or a number and an offset of which P holds.
abbrev Each : (P : ℕ → ℕ → Type 0) → Report → Type 0
Each P [] = Unit {0}
Each P (number ∷ []) = ⊥
Each P (number ∷ offset ∷ []) = P number offset
Each P (number ∷ offset ∷ more ∷ rest) = ⊥

record Told (P : ℕ → ℕ → Type 0) (F : Report) : Type 0 where
  is : Each P F

infixr 5 ◌or◌
◌or◌ : {P : ℕ → ℕ → Type 0} {F G : Report} → Told P F → Told P G → Told P (or_else F G)
◌or◌ {P} {F} {G} f g = record { is = by F f.is }
  where
    by : (F : Report) → Each P F → Each P (or_else F G)
    by [] f = g.is
    by (number ∷ []) f = f
    by (number ∷ offset ∷ []) f = f
    by (number ∷ offset ∷ more ∷ rest) f = f

-- A test that fails with a number and an offset of which P holds.
unless : (P : ℕ → ℕ → Type 0) (ok : Bool) {number offset : ℕ} → P number offset → Told P (unless_at ok number offset)
unless P true p = record { is = tt }
unless P false p = record { is = p }

-- The faults of each record, with the field of each.
module _ (file : List ℕ) where
  cut : (P : ℕ → ℕ → Type 0) (w : ℕ) {at : ℕ} → P wrong_extent at → Told P (cut_at file w at)
  cut P w {at} p = unless P (leb (at + w) (length file)) p

  in_the_head : Told WrongInHead (head_faults file)
  unfolding head_faults
  in_the_head =
      let P = WrongInHead in
      let h = head_in file in
      (unless P (leb 1 (length file) && is_version newest_version h.version) head_version or cut P 4 head_length_field
      or unless P (eqb (opening_bytes + value_at file 4 length_from) (length file)) head_length_field)
      or cut P 2 head_normal_cut or cut P 2 head_floor_cut or unless P (rates_allowed h.n h.d) head_rates
      or cut P 1 head_count_cut or unless P (count_allowed_in h.version h.count) head_count_other

  in_the_job : (earlier : List ℕ) (at : ℕ) → Told (WrongInJob at) (job_faults_at file earlier at)
  in_the_job earlier at =
      let P = WrongInJob at in
      let j = job_at file at in
      ((cut P 1 job_length_cut or unless P (eqb (value_at file 1 at) job_length) job_length_other) or cut P name_bytes job_name_cut
      or unless P (name_allowed j.name.0) job_name_byte or unless P (is_absent earlier j.name.0) job_name_taken)
      or (cut P 1 job_grade_cut or unless P (grade_allowed j.grade) job_grade_other)
      or cut P 4 job_release_cut or cut P 4 job_size_cut or cut P 4 job_deadline_cut
      or unless P (window_allowed j.release.0 j.deadline.0 && size_allowed j.size.0) job_bounds

  in_the_row_count : (at : ℕ) (ok : ℕ → Bool) → Told (WrongRowCount at) (field_faults file row_count_bytes ok too_many_rows at)
  in_the_row_count at ok = let P = WrongRowCount at in cut P row_count_bytes rows_count_cut or unless P (ok (value_at file row_count_bytes at)) rows_too_many

  in_the_row : (names : List ℕ) (spans low at : ℕ) → Told (WrongInRow at) (row_faults_at file names spans low at)
  in_the_row names spans low at =
      let P = WrongInRow at in
      ((cut P 1 row_length_cut or unless P (eqb (value_at file 1 at) row_length) row_length_other) or cut P name_bytes row_name_cut
      or unless P (ltb (position names (value_at file name_bytes (name_from at))) (length names)) row_name_of_no_job)
      or (cut P 2 row_interval_cut or unless P (ltb (value_at file 2 (interval_from at)) spans) row_interval_other)
      or (cut P 4 row_units_cut or unless P (not (eqb (value_at file 4 (units_from at)) 0)) row_units_none)
      or unless P (leb low (row_in file names at).at) row_out_of_order_lem

-- A report that is said, of a report of which P holds.
said : {P : ℕ → ℕ → Type 0} {F : Report} {number offset : ℕ} → Told P F → F ≡ number ∷ offset ∷ [] → P number offset
said t is = rw is at t.is

-- Which of two reports is said; and which of several, with all before it empty.
or_said : (F G : Report) {number offset : ℕ} → or_else F G ≡ number ∷ offset ∷ [] → (F ≡ number ∷ offset ∷ []) ⊎ ((F ≡ []) × (G ≡ number ∷ offset ∷ []))
or_said [] G e = inr (refl, e)
or_said (number ∷ rest) G e = inl e

record FirstSaid (f : ℕ → Report) (n number offset : ℕ) : Type 0 where
  at : ℕ
  below : at < n
  is : f at ≡ number ∷ offset ∷ []
  before : (k : ℕ) → k < at → f k ≡ []

none_before : (f : ℕ → Report) (n : ℕ) → first f n ≡ [] → (k : ℕ) → k < n → f k ≡ []
unfolding first
none_before f zero e k h = absurd (omega arith)
none_before f (suc n) e k h =
    let rest = or_empty (first f n) (f n) e in
    below-or-last k n h (λ l. none_before f n rest k l) (λ is. ap f is ∙ sym (or_none (first f n) (f n) rest) ∙ e)

first_said : (f : ℕ → Report) (n : ℕ) {number offset : ℕ} → first f n ≡ number ∷ offset ∷ [] → FirstSaid f n number offset
unfolding first
first_said f zero e = absurd (let z : ◌≡◌ {A = ℕ} 0 1 = cc in omega arith)
first_said f (suc n) e =
    ⊎_elim
    (λ earlier. let s = first_said f n earlier in record { at = s.at; below = omega (arith, s.below); is = s.is; before = s.before })
    (λ here. record { at = n; below = omega arith; is = here.1; before = none_before f n here.0 })
    (or_said (first f n) (f n) e)

-- Where the first fault of a file is.
fault_at_a_field : (file : List ℕ) {number offset : ℕ} → file_fault file ≡ number ∷ offset ∷ [] → WrongAt file number offset
unfolding file_fault
fault_at_a_field file e =
    ⊎_elim (λ early. before_rows early) (λ late. ⊎_elim
    (λ in_rows.
    let s = first_said (file_row_faults file) (rows_said file) in_rows in
    in_row s.at s.below late.0 s.before s.is (said (in_the_row file (names_of (file_jobs file)) (intervals (file_plan file)) (lowest_at file (names_of (file_jobs file)) (rows_from file) s.at) (row_from (rows_from file) s.at)) s.is))
    (λ rest. leftover late.0 (none_before (file_row_faults file) (rows_said file) rest.0) (within e) rest.1)
    (or_said (first (file_row_faults file) (rows_said file)) _ late.1))
    (or_said (preamble_fault file) _ e)
  where
    before_rows : {number offset : ℕ} → preamble_fault file ≡ number ∷ offset ∷ [] → WrongAt file number offset
    before_rows e =
        ⊎_elim (λ in-front. in_head in-front (said (in_the_head file) in-front)) (λ late. ⊎_elim
        (λ in-jobs.
        let s = first_said (job_faults file) (head_in file).count in-jobs in
        in_job s.at s.below late.0 s.before s.is (said (in_the_job file (names_of (jobs_in file s.at)) (job_from s.at)) s.is))
        (λ rest. in_row_count late.0 (none_before (job_faults file) (head_in file).count rest.0) rest.1 (said (in_the_row_count file (row_count_from file) (rows_allowed_in (head_in file).version)) rest.1))
        (or_said (first (job_faults file) (head_in file).count) _ late.1))
        (or_said (head_faults file) _ e)

    within : {number offset : ℕ} → file_fault file ≡ number ∷ offset ∷ [] → offset ≤ length file
    within e = (rw e at (offset_inside file)).0

    leftover : preamble_fault file ≡ [] → ((k : ℕ) → k < rows_said file → file_row_faults file k ≡ []) → {number offset : ℕ} → offset ≤ length file
        → unless_at (eqb (end_of file) (length file)) wrong_extent (end_of file) ≡ number ∷ offset ∷ [] → WrongAt file number offset
    leftover early rows h is = by (eqb (end_of file) (length file)) refl h is
      where
        by : (t : Bool) → eqb (end_of file) (length file) ≡ t → {number offset : ℕ} → offset ≤ length file → unless_at t wrong_extent (end_of file) ≡ number ∷ offset ∷ []
            → WrongAt file number offset
        by true e h is = absurd (let z : ◌≡◌ {A = ℕ} 0 1 = cc in omega arith)
        by false e {offset = offset} h is =
            let there : end_of file ≡ offset = cc in
            let left : end_of file < length file
            = ⊎_elim (λ end. absurd (eqb-false (end_of file) (length file) e end)) (λ l. l) (eq-or-lt_of_le {n = end_of file} {m = length file} (omega (arith, there, h))) in
            said (unless (WrongAt file) false (left_over early rows left)) is

-- For every refused file the number and the offset name a field of the layout; it is the first fault of its
-- record, and no record before it has one.
pub wrong_at_a_field : (file table : List ℕ) → places ≤ length table → {number offset : ℕ} → (reader file table).answer ≡ number ∷ offset ∷ [] → WrongAt file number offset
wrong_at_a_field file table long e = fault_at_a_field file (sym (reader_exactly file table long) ∙ e)

-- Jobs and rows begin where the lengths of the layout put them.
pub job_begins : (i : ℕ) → job_from i ≡ header_bytes + i * (1 + job_length)
unfolding job_from
job_begins zero = refl
job_begins (suc i) = omega (arith, job_begins i)

pub row_begins : (start k : ℕ) → row_from start k ≡ start + k * (1 + row_length)
unfolding row_from
row_begins start zero = omega arith
row_begins start (suc k) = omega (arith, row_begins start k)
