-- The reader answers the first fault that the bytes have by the layout, with its number and offset, or
-- reads what the layout says: each number exactly when its ground holds and none before it does.
use mathlib.Core.Path.{◌≡◌, refl, sym, ◌∙◌, ap}
use mathlib.Core.Logic.{inl, inr}
use mathlib.Core.Bool.{Bool, true, false, not, cond, ◌&&◌}
use mathlib.Core.List.{List, [], ◌∷◌, ◌++◌}
use Prim.Native.Nat.{ℕ, zero, suc, ◌+◌, ◌≤◌, ◌<◌}
use native.Mathlib.Nat.{add-zero, add-suc, suc-add, zero-add}
use native.Mathlib.Omega.{arith}
use borrow.Author.Tests.{leb-true, le-leb, eqb-true, eqb-false}
use lib.Dec.{leb, ltb, eqb}
use lib.ListN.{length, take, drop, set, replicate}
use lib.Seq.{take-take}
use Rattle.plan.specs.Refusal.{refusal_at, wrong_version, wrong_extent, wrong_record_length, wrong_rates, wrong_job_count, wrong_name_byte, name_taken, wrong_grade, wrong_job_bounds, too_many_rows, row_without_job, row_without_interval, row_without_units, row_out_of_order}
use Rattle.plan.specs.Edition.{most_intervals, name_bytes, places}
use Rattle.plan.specs.Versions.{newest_version, count_allowed_in, rows_allowed_in}
use Rattle.plan.specs.Report.{Report, or_else, fault, first}
use Rattle.plan.specs.Rules.{rates_allowed, name_allowed, is_absent, grade_allowed, window_allowed, size_allowed}
use Rattle.plan.specs.Boundaries.{intervals}
use Rattle.plan.specs.Table.{place}
use Rattle.plan.specs.declared.kinds.Job.{Job}
use Rattle.plan.proofs.Reports.{or_assoc}
use Rattle.fields.specs.Bytes.{value}
use Rattle.fields.specs.Parsers.{Parsed, got, no, Parser, onward, test, field, checked, record_length, refused_as, is_version, version, extent, opening, ended}
use Rattle.planfields.specs.Layout.{opening_bytes, header_bytes, job_length, row_length}
use Rattle.planfields.specs.Records.{Head, head, job_name, one_job}
use Rattle.plan.specs.JobLists.{names_of}
use Rattle.planfile.specs.Reader.{all_jobs, position, Row, row_job, one_row, all_rows, Contents, plan_from, Preamble, preamble, plan_file, read_file, ReadEffect, leaves, reader}
use Rattle.planfile.proofs.WholeFile.{reader_long}
use Rattle.promises.specs.FileFaults.{value_at, cut_at, unless_at, field_faults, length_faults, opening_faults, head_faults, head_in, name_from, grade_from, release_from, size_from, deadline_from, after_job, job_from, job_at, jobs_in, job_faults_at, job_faults, interval_from, units_from, after_row, row_from, row_in, row_faults_at, lowest_at, row_faults, table_in, file_jobs, file_plan, rows_from, rows_said, end_of, file_fault, InsideFile, last_read, length_from, normal_from, floor_from, count_from}

-- A parser's result by a report: the value and the next offset if the report is empty, otherwise the refusal
-- that it names.
abbrev pub settle : {A : Type 0} → Report → A → ℕ → Parsed A
settle [] a next = got a next
settle (number ∷ []) a next = no (refusal_at number 0)
settle (number ∷ offset ∷ rest) a next = no (refusal_at number offset)

-- A report is empty, and then the next offset is at most the file's length; or it is `InsideFile`.
abbrev pub Inside : (file : List ℕ) → Report → ℕ → Type 0
Inside file [] next = next ≤ length file
Inside file (number ∷ []) next = ⊥
Inside file (number ∷ offset ∷ []) next = InsideFile file (number ∷ offset ∷ [])
Inside file (number ∷ offset ∷ more ∷ rest) next = ⊥

-- How far a parser has read.
abbrev pub reach : (file : List ℕ) → Report → ℕ → ℕ
reach file [] next = next
reach file (number ∷ []) next = last_read file number 0
reach file (number ∷ offset ∷ rest) next = last_read file number offset

-- What a parser gives at an offset, by the faults that it finds; it gives the same in another file of the same
-- length that agrees as far as it has read.
pub record Settles {A : Type 0} (file : List ℕ) (read : Parser A) (at : ℕ) (F : Report) (a : A) (next : ℕ) : Type 0 where
  pub is : read file at ≡ settle F a next
  pub inside : at ≤ length file → Inside file F next
  pub goes : at ≤ length file → at ≤ reach file F next
  pub same : at ≤ length file → (other : List ℕ) → length other ≡ length file → take (reach file F next) other ≡ take (reach file F next) file → read other at ≡ settle F a next

take_none : (w : ℕ) → take {A = ℕ} w [] ≡ []
take_none zero = refl
take_none (suc w) = refl

-- Lists that agree up to n agree up to a lesser m; and a part of them is the same.
agree_less : (a b : List ℕ) (m n : ℕ) → m ≤ n → take n a ≡ take n b → take m a ≡ take m b
agree_less a b m n h e = sym (take-take m n a h) ∙ ap (take m) e ∙ take-take m n b h

part_of : (at w : ℕ) (l : List ℕ) → drop at (take (at + w) l) ≡ take w (drop at l)
part_of zero w l = ap (λ n. take n l) (zero-add w)
part_of (suc at) w [] = rw (suc-add at w) (sym (take_none w))
part_of (suc at) w (x ∷ l) = rw (suc-add at w) (part_of at w l)

agree_part : (a b : List ℕ) (at w : ℕ) → take (at + w) a ≡ take (at + w) b → take w (drop at a) ≡ take w (drop at b)
agree_part a b at w e = sym (part_of at w a) ∙ ap (drop at) e ∙ part_of at w b

-- A parser, then the one that its value gives: the first report, or else the second.
pub then_settles : {A B : Type 0} {file : List ℕ} {read : Parser A} {at : ℕ} {F : Report} {a : A} {next : ℕ} {rest : A → Parser B} {G : A → Report} {b : A → B} {end : A → ℕ}
    → Settles file read at F a next → ((x : A) → x ≡ a → Settles file (rest x) next (G x) (b x) (end x))
    → Settles file (λ f n. onward (read f n) rest f) at (or_else F (G a)) (b a) (end a)
then_settles {A} {B} {file} {F = F} {a} {next} {rest} {G} {b} {end} e f =
    record {
      is = by F file e.is (f a refl).is;
      inside = λ h. within F (e.inside h);
      goes = λ h. further F (e.inside h) (e.goes h);
      same = λ h other long agree. alike F (e.inside h) other (e.same h other long) (λ i. (f a refl).same i other long) agree;
    }
  where
    by : (F : Report) (file : List ℕ) {s : Parsed A} → s ≡ settle F a next → rest a file next ≡ settle (G a) (b a) (end a) → onward s rest file ≡ settle (or_else F (G a)) (b a) (end a)
    by [] file e f = rw e f
    by (number ∷ []) file e f = rw e refl
    by (number ∷ offset ∷ more) file e f = rw e refl

    further : (F : Report) {at : ℕ} → Inside file F next → at ≤ reach file F next → at ≤ reach file (or_else F (G a)) (end a)
    further [] i h = omega (arith, h, (f a refl).goes i)
    further (number ∷ []) i h = h
    further (number ∷ offset ∷ more) i h = h

    alike : (F : Report) → Inside file F next → (other : List ℕ) → {s : Parsed A} → (take (reach file F next) other ≡ take (reach file F next) file → s ≡ settle F a next)
        → (next ≤ length file → take (reach file (G a) (end a)) other ≡ take (reach file (G a) (end a)) file → rest a other next ≡ settle (G a) (b a) (end a))
        → take (reach file (or_else F (G a)) (end a)) other ≡ take (reach file (or_else F (G a)) (end a)) file → onward s rest other ≡ settle (or_else F (G a)) (b a) (end a)
    alike [] i other e g agree = by [] other (e (agree_less other file next (reach file (G a) (end a)) ((f a refl).goes i) agree)) (g i agree)
    alike (number ∷ []) i other e g agree = rw (e agree) refl
    alike (number ∷ offset ∷ more) i other e g agree = rw (e agree) refl

    within : (F : Report) → Inside file F next → Inside file (or_else F (G a)) (end a)
    within [] i = (f a refl).inside i
    within (number ∷ []) i = i
    within (number ∷ offset ∷ []) i = i
    within (number ∷ offset ∷ more ∷ rest) i = i

-- A parser, then a value made of its value.
pub value_settles : {A B : Type 0} {file : List ℕ} {read : Parser A} {at : ℕ} {F : Report} {a : A} {next : ℕ} → Settles file read at F a next → (f : A → B)
    → Settles file (λ g n. onward (read g n) (λ x _ m. got (f x) m) g) at F (f a) next
value_settles {A} {B} {file} {F = F} {a} {next} e f =
    record { is = by F file e.is; inside = e.inside; goes = e.goes; same = λ h other long agree. by F other (e.same h other long agree) }
  where
    by : (F : Report) (file : List ℕ) {s : Parsed A} → s ≡ settle F a next → onward s (λ x _ m. got (f x) m) file ≡ settle F (f a) next
    by [] file e = rw e refl
    by (number ∷ []) file e = rw e refl
    by (number ∷ offset ∷ more) file e = rw e refl

-- A parser that is told where it begins.
pub here_settles : {B : Type 0} {file : List ℕ} {rest : ℕ → Parser B} {at : ℕ} {F : ℕ → Report} {b : B} {end : ℕ}
    → ((from : ℕ) → from ≡ at → Settles file (rest from) at (F from) b end) → Settles file (λ f n. rest n f n) at (F at) b end
here_settles {at = at} e = record { is = (e at refl).is; inside = (e at refl).inside; goes = (e at refl).goes; same = (e at refl).same }

-- The same with equal reports, values and offsets.
pub settles_as : {A : Type 0} {file : List ℕ} {read : Parser A} {at : ℕ} {F G : Report} {a b : A} {m n : ℕ} → Settles file read at F a m → F ≡ G → a ≡ b → m ≡ n
    → Settles file read at G b n
settles_as s p q r = rw r at (rw q at (rw p at s))

module _ (file : List ℕ) where
  -- A field that is refused by 2 begins no later than where reading ended.
  cut_goes : (at : ℕ) → at ≤ last_read file wrong_extent at
  cut_goes at = by (eqb at length_from) refl (leb opening_bytes (length file))
    where
      by : (t : Bool) → eqb at length_from ≡ t → (u : Bool) → at ≤ cond (t && u) opening_bytes at
      by true e true = omega (arith, eqb-true at length_from e)
      by true e false = omega arith
      by false e u = omega arith

  pub field_settles : (w at : ℕ) → Settles file (field w) at (cut_at file w at) (value_at file w at) (at + w)
  unfolding field
  field_settles w at =
      record {
        is = by (leb (at + w) (length file));
        inside = λ h. within h (leb (at + w) (length file)) refl;
        goes = λ _. goes_on (leb (at + w) (length file));
        same = λ _ other long agree. rw long (alike (leb (at + w) (length file)) other agree);
      }
    where
      goes_on : (t : Bool) → at ≤ reach file (fault (not t) (wrong_extent ∷ at ∷ [])) (at + w)
      goes_on true = omega arith
      goes_on false = cut_goes at

      alike : (t : Bool) (other : List ℕ) → take (reach file (fault (not t) (wrong_extent ∷ at ∷ [])) (at + w)) other ≡ take (reach file (fault (not t) (wrong_extent ∷ at ∷ [])) (at + w)) file
          → cond t (got (value_at other w at) (at + w)) (no (refusal_at wrong_extent at)) ≡ settle (fault (not t) (wrong_extent ∷ at ∷ [])) (value_at file w at) (at + w)
      alike true other agree = ap (λ l. got (value 0 l) (at + w)) (agree_part other file at w agree)
      alike false other agree = refl

      by : (t : Bool) → cond t (got (value_at file w at) (at + w)) (no (refusal_at wrong_extent at)) ≡ settle (fault (not t) (wrong_extent ∷ at ∷ [])) (value_at file w at) (at + w)
      by true = refl
      by false = refl

      within : at ≤ length file → (t : Bool) → leb (at + w) (length file) ≡ t → Inside file (fault (not t) (wrong_extent ∷ at ∷ [])) (at + w)
      within h true e = leb-true (at + w) (length file) e
      within h false e = (h, λ _. inl refl)

  -- A test on a field that begins before the offset, then a value.
  pub passed_settles : {A : Type 0} (ok : Bool) (number from at : ℕ) → from < at → (at ≤ length file → at ≤ last_read file number from) → (a : A)
      → Settles file (λ f n. onward (test ok number from f n) (λ _ _ next. got a next) f) at (unless_at ok number from) a at
  passed_settles true number from at l r a = record { is = refl; inside = λ h. h; goes = λ _. omega arith; same = λ _ other long agree. refl }
  passed_settles false number from at l r a =
      record { is = refl; inside = λ h. (omega arith, λ e. absurd (omega (arith, e))); goes = r; same = λ _ other long agree. refl }

  pub test_settles : (ok : Bool) (number from at : ℕ) → from < at → (at ≤ length file → at ≤ last_read file number from) → Settles file (test ok number from) at (unless_at ok number from) tt at
  test_settles true number from at l r = record { is = refl; inside = λ h. h; goes = λ _. omega arith; same = λ _ other long agree. refl }
  test_settles false number from at l r =
      record { is = refl; inside = λ h. (omega arith, λ e. absurd (omega (arith, e))); goes = r; same = λ _ other long agree. refl }

  checked_settles : (w : ℕ) → 1 ≤ w → (ok : ℕ → Bool) (number at : ℕ) → at + w ≤ last_read file number at
      → Settles file (checked w ok number) at (field_faults file w ok number at) (value_at file w at) (at + w)
  checked_settles w some ok number at r =
      here_settles (λ from is. then_settles (field_settles w at) (λ x _. passed_settles (ok x) number from (at + w) (omega (arith, is)) (λ _. rw is r) x))

  pub length_settles : (long at : ℕ) → Settles file (record_length long) at (length_faults file long at) tt (at + 1)
  unfolding record_length
  length_settles long at =
      here_settles (λ from is. then_settles (field_settles 1 at) (λ x _. test_settles (eqb x long) wrong_record_length from (at + 1) (omega (arith, is)) (λ _. omega (arith, is))))

  -- The version byte: where there is none, it is refused at 0 too.
  version_settles : (newest : ℕ) → Settles file (version newest) 0 (unless_at (leb 1 (length file) && is_version newest (value_at file 1 0)) wrong_version 0) (value_at file 1 0) 1
  unfolding version field
  version_settles newest =
      record {
        is = by file (leb 1 (length file)) (is_version newest (value_at file 1 0)) refl;
        inside = λ h. within (leb 1 (length file)) refl (is_version newest (value_at file 1 0));
        goes = λ _. omega arith;
        same = λ _ other long agree.
            rw (long, first_byte other (rw (one_byte (leb 1 (length file) && is_version newest (value_at file 1 0))) at agree))
            (by other (leb 1 (length file)) (is_version newest (value_at file 1 0)) refl);
      }
    where
      one_byte : (t : Bool) → reach file (unless_at t wrong_version 0) 1 ≡ 1
      one_byte true = refl
      one_byte false = refl

      first_byte : (other : List ℕ) → take 1 other ≡ take 1 file → value_at other 1 0 ≡ value_at file 1 0
      first_byte other agree = ap (value 0) (agree_part other file 0 1 agree)

      by : (f : List ℕ) (long t : Bool) → is_version newest (value_at file 1 0) ≡ t
          → refused_as wrong_version
          (onward (cond long (got (value_at file 1 0) 1) (no (refusal_at wrong_extent 0)))
          (λ x rest next. onward (test (is_version newest x) wrong_version 0 rest next) (λ _ _ at. got x at) rest) f)
          ≡ settle (unless_at (long && is_version newest (value_at file 1 0)) wrong_version 0) (value_at file 1 0) 1
      by f false t e = refl
      by f true true e = rw e refl
      by f true false e = rw e refl

      within : (long : Bool) → leb 1 (length file) ≡ long → (known : Bool) → Inside file (unless_at (long && known) wrong_version 0) 1
      within false e known = (omega arith, λ _. inr (refl, refl))
      within true e true = leb-true 1 (length file) e
      within true e false = (omega arith, λ _. inr (refl, refl))

  extent_settles : Settles file (extent true) length_from (or_else (cut_at file 4 length_from) (unless_at (eqb (opening_bytes + value_at file 4 length_from) (length file)) wrong_extent length_from)) tt opening_bytes
  unfolding extent
  extent_settles = here_settles (λ from is. then_settles (field_settles 4 length_from) (λ x _. compares from is x))
    where
      compares : (from : ℕ) → from ≡ length_from → (x : ℕ)
          → Settles file (λ f n. test (eqb (n + x) (length f)) wrong_extent from f n) opening_bytes (unless_at (eqb (opening_bytes + x) (length file)) wrong_extent from) tt opening_bytes
      compares from is x =
          let t = test_settles (eqb (opening_bytes + x) (length file)) wrong_extent from opening_bytes (omega (arith, is)) (λ h. rw (is, le-leb opening_bytes (length file) h) (omega arith)) in
          record { is = t.is; inside = t.inside; goes = t.goes; same = λ h other long agree. rw long (t.same h other long agree) }

  pub opening_settles : (newest : ℕ) → Settles file (opening newest true) 0 (opening_faults newest file) (value_at file 1 0) opening_bytes
  unfolding opening
  opening_settles newest = then_settles (version_settles newest) (λ v _. value_settles extent_settles (λ _. v))

  head_settles : Settles file (head true) 0 (head_faults file) (head_in file) header_bytes
  unfolding head head_faults
  head_settles =
      then_settles {B = Head} (opening_settles newest_version)
      (λ v _. here_settles (λ from is. then_settles (field_settles 2 normal_from)
      (λ n _. then_settles (field_settles 2 floor_from)
      (λ d _. then_settles (test_settles (rates_allowed n d) wrong_rates from count_from (omega (arith, is)) (λ _. omega (arith, is)))
      (λ _ _. value_settles (checked_settles 1 (omega arith) (count_allowed_in v) wrong_job_count count_from (omega arith)) (λ count. record { version = v; n = n; d = d; count = count }))))))

  job_settles : (earlier : List ℕ) (at : ℕ) → Settles file (one_job earlier) at (job_faults_at file earlier at) (job_at file at) (after_job at)
  unfolding one_job job_name
  job_settles earlier at =
      then_settles {B = Job}
      (then_settles (length_settles job_length at)
      (λ _ _. here_settles (λ from is. then_settles (field_settles name_bytes (name_from at))
      (λ name _. then_settles (test_settles (name_allowed name) wrong_name_byte from (grade_from at) (omega (arith, is)) (λ _. omega (arith, is)))
      (λ _ _. passed_settles (is_absent earlier name) name_taken from (grade_from at) (omega (arith, is)) (λ _. omega (arith, is)) name)))))
      (λ name _. then_settles (checked_settles 1 (omega arith) grade_allowed wrong_grade (grade_from at) (omega arith))
      (λ grade _. here_settles (λ from is. then_settles (field_settles 4 (release_from at))
      (λ release _. then_settles (field_settles 4 (size_from at))
      (λ size _. then_settles (field_settles 4 (deadline_from at))
      (λ deadline _. passed_settles (window_allowed release deadline && size_allowed size) wrong_job_bounds from (after_job at) (omega (arith, is)) (λ _. omega (arith, is))
      (record {
        name = record { 0 = name };
        grade = grade;
        release = record { 0 = release };
        size = record { 0 = size };
        deadline = record { 0 = deadline };
      })))))))

  row_settles : (names : List ℕ) (spans low at : ℕ)
      → Settles file (one_row most_intervals names spans low) at (row_faults_at file names spans low at) (row_in file names at) (after_row at)
  unfolding one_row row_job
  row_settles names spans low at =
      here_settles {B = Row}
      (λ from is. then_settles
      (then_settles (length_settles row_length at)
      (λ _ _. here_settles (λ start here. then_settles (field_settles name_bytes (name_from at))
      (λ name _. passed_settles (ltb (position names name) (length names)) row_without_job start (interval_from at) (omega (arith, here)) (λ _. omega (arith, here)) (position names name)))))
      (λ job _. then_settles (checked_settles 2 (omega arith) (λ j. ltb j spans) row_without_interval (interval_from at) (omega arith))
      (λ interval _. then_settles (checked_settles 4 (omega arith) (λ u. not (eqb u 0)) row_without_units (units_from at) (omega arith))
      (λ units _. passed_settles (leb low (place most_intervals job interval)) row_out_of_order from (after_row at) (omega (arith, is)) (λ _. omega (arith, is))
      (record { at = place most_intervals job interval; units = units })))))

  ended_settles : (at : ℕ) → Settles file ended at (unless_at (eqb at (length file)) wrong_extent at) tt at
  unfolding ended
  ended_settles at = by (eqb at (length file)) refl
    where
      by : (t : Bool) → eqb at (length file) ≡ t → Settles file (λ f n. test (eqb n (length f)) wrong_extent n f n) at (unless_at t wrong_extent at) tt at
      by true e = record { is = rw e refl; inside = λ h. h; goes = λ _. omega arith; same = λ _ other long agree. rw (long, e) refl }
      by false e =
          record {
            is = rw e refl;
            inside = λ h. (h, λ s. absurd (eqb-false at (length file) e s));
            goes = λ _. cut_goes at;
            same = λ _ other long agree. rw (long, e) refl;
          }

-- The first of several reports is that of the first, or else the first of the others.
or_done : (F : Report) → or_else F [] ≡ F
or_done [] = refl
or_done (number ∷ rest) = refl

first_on : (f : ℕ → Report) (n : ℕ) → first f (suc n) ≡ or_else (f 0) (first (λ k. f (suc k)) n)
unfolding first
first_on f zero = sym (or_done (f 0))
first_on f (suc n) = ap (λ r. or_else r (f (suc n))) (first_on f n) ∙ or_assoc (f 0) (first (λ k. f (suc k)) n) (f (suc n))

first_same : (f g : ℕ → Report) (n : ℕ) → ((k : ℕ) → f k ≡ g k) → first f n ≡ first g n
first_same f g n e = ap (λ h. first h n) (λ j k. e k j)

-- The report of n records from record i on.
from_on : (f : ℕ → Report) (i n : ℕ) → or_else (f i) (first (λ k. f (suc i + k)) n) ≡ first (λ k. f (i + k)) (suc n)
from_on f i n =
    ap (λ j. or_else (f j) (first (λ k. f (suc i + k)) n)) (sym (add-zero i))
    ∙ ap (or_else (f (i + 0))) (first_same (λ k. f (suc i + k)) (λ k. f (i + suc k)) n (λ k. ap f (suc-add i k ∙ sym (add-suc i k))))
    ∙ sym (first_on (λ k. f (i + k)) n)

module _ (file : List ℕ) where
  jobs_settle : (n i : ℕ)
      → Settles file (all_jobs n (jobs_in file i)) (job_from i) (first (λ k. job_faults file (i + k)) n) (jobs_in file (i + n)) (job_from (i + n))
  unfolding all_jobs first jobs_in job_from
  jobs_settle zero i =
      settles_as (record { is = refl; inside = λ h. h; goes = λ _. omega arith; same = λ _ other long agree. refl }) refl (ap (jobs_in file) (sym (add-zero i))) (ap job_from (sym (add-zero i)))
  jobs_settle (suc n) i =
      settles_as
      (then_settles (job_settles file (names_of (jobs_in file i)) (job_from i)) (λ job is. next (jobs_settle n (suc i)) job is))
      (from_on (job_faults file) i n) (ap (jobs_in file) (suc-add i n ∙ sym (add-suc i n))) (ap job_from (suc-add i n ∙ sym (add-suc i n)))
    where
      next : Settles file (all_jobs n (jobs_in file i ++ (job_at file (job_from i) ∷ []))) (after_job (job_from i)) (first (λ k. job_faults file (suc i + k)) n) (jobs_in file (suc i + n)) (job_from (suc i + n))
          → (job : Job) → job ≡ job_at file (job_from i)
          → Settles file (all_jobs n (jobs_in file i ++ (job ∷ []))) (after_job (job_from i)) (first (λ k. job_faults file (suc i + k)) n) (jobs_in file (suc i + n)) (job_from (suc i + n))
      next rest job is = rw is rest

  module _ (names : List ℕ) (spans start : ℕ) where
    rows_settle : (n k : ℕ)
        → Settles file (all_rows n most_intervals names spans (lowest_at file names start k) (table_in file names start k)) (row_from start k)
        (first (λ m. row_faults file names spans start (k + m)) n) (table_in file names start (k + n)) (row_from start (k + n))
    unfolding all_rows first table_in row_from
    rows_settle zero k =
        settles_as (record { is = refl; inside = λ h. h; goes = λ _. omega arith; same = λ _ other long agree. refl }) refl (ap (table_in file names start) (sym (add-zero k))) (ap (row_from start) (sym (add-zero k)))
    rows_settle (suc n) k =
        settles_as
        (then_settles (row_settles file names spans (lowest_at file names start k) (row_from start k)) (λ row is. next (rows_settle n (suc k)) row is))
        (from_on (row_faults file names spans start) k n) (ap (table_in file names start) (suc-add k n ∙ sym (add-suc k n))) (ap (row_from start) (suc-add k n ∙ sym (add-suc k n)))
      where
        next : Settles file (all_rows n most_intervals names spans (lowest_at file names start (suc k)) (set (table_in file names start k) (row_in file names (row_from start k)).at (row_in file names (row_from start k)).units))
            (after_row (row_from start k)) (first (λ m. row_faults file names spans start (suc k + m)) n) (table_in file names start (suc k + n)) (row_from start (suc k + n))
            → (row : Row) → row ≡ row_in file names (row_from start k)
            → Settles file (all_rows n most_intervals names spans (suc row.at) (set (table_in file names start k) row.at row.units)) (after_row (row_from start k))
            (first (λ m. row_faults file names spans start (suc k + m)) n) (table_in file names start (suc k + n)) (row_from start (suc k + n))
        next rest row is = rw is rest

  all_jobs_lem : (n : ℕ) → Settles file (all_jobs n []) header_bytes (first (job_faults file) n) (jobs_in file n) (job_from n)
  unfolding jobs_in job_from
  all_jobs_lem n =
      settles_as (jobs_settle n 0) (first_same (λ k. job_faults file (0 + k)) (job_faults file) n (λ k. ap (job_faults file) (zero-add k)))
      (ap (jobs_in file) (zero-add n)) (ap job_from (zero-add n))

  all_rows_lem : (names : List ℕ) (spans start n : ℕ)
      → Settles file (all_rows n most_intervals names spans 0 (replicate places 0)) start (first (row_faults file names spans start) n) (table_in file names start n) (row_from start n)
  unfolding table_in row_from
  all_rows_lem names spans start n =
      settles_as (rows_settle names spans start n 0)
      (first_same (λ k. row_faults file names spans start (0 + k)) (row_faults file names spans start) n (λ k. ap (row_faults file names spans start) (zero-add k)))
      (ap (table_in file names start) (zero-add n)) (ap (row_from start) (zero-add n))

  -- What the file holds by the layout.
  abbrev contents_in : Contents
  contents_in = record { plan = file_plan file; table = table_in file (names_of (file_jobs file)) (rows_from file) (rows_said file) }

  file_settles : Settles file plan_file 0 (file_fault file) contents_in (end_of file)
  unfolding plan_file preamble file_fault
  file_settles =
      then_settles {B = Contents}
      (then_settles {B = Preamble} (head_settles file)
      (λ h _. then_settles (all_jobs_lem h.count)
      (λ jobs _. value_settles (checked_settles file 2 (omega arith) (rows_allowed_in h.version) too_many_rows (job_from h.count) (omega arith))
      (λ rows. record { plan = plan_from h jobs; names = names_of jobs; rows = rows }))))
      (λ f _. then_settles (all_rows_lem f.names (intervals f.plan) (rows_from file) f.rows)
      (λ table _. value_settles (ended_settles file (row_from (rows_from file) f.rows)) (λ _. record { plan = f.plan; table = table })))

-- For every file: it is read, as the layout says, if it has no fault; otherwise it is refused by the number
-- and at the offset of its first fault.
read_by_layout : (file : List ℕ) → read_file file ≡ settle (file_fault file) (contents_in file) (end_of file)
read_by_layout file = (file_settles file).is

by_layout : (file table : List ℕ) → places ≤ length table → reader file table ≡ leaves (settle (file_fault file) (contents_in file) (end_of file)) table
by_layout file table long = sym (reader_long file table long) ∙ ap (λ s. leaves s table) (read_by_layout file)

-- The offset of a refusal is at most the file's length, and is the length only with 2, or with 1 for an empty
-- file.
pub offset_inside : (file : List ℕ) → InsideFile file (file_fault file)
offset_inside file = by (file_fault file) ((file_settles file).inside (omega arith))
  where
    by : (F : Report) → Inside file F (end_of file) → InsideFile file F
    by [] i = tt
    by (number ∷ []) i = i
    by (number ∷ offset ∷ []) i = i
    by (number ∷ offset ∷ more ∷ rest) i = i

-- The reader's report is the first fault, for every file and every table that is long enough.
pub reader_exactly : (file table : List ℕ) → places ≤ length table → (reader file table).answer ≡ file_fault file
reader_exactly file table long =
    ap (λ (e : ReadEffect). e.answer) (by_layout file table long) ∙ by (file_fault file) (offset_inside file)
  where
    by : (F : Report) → InsideFile file F → (leaves (settle F (contents_in file) (end_of file)) table).answer ≡ F
    by [] i = refl
    by (number ∷ []) i = absurd i
    by (number ∷ offset ∷ []) i = refl
    by (number ∷ offset ∷ more ∷ rest) i = absurd i

-- A file without a fault is read: the plan and the table are those that the layout has.
pub reads_the_layout : (file table : List ℕ) → places ≤ length table → file_fault file ≡ []
    → ((reader file table).plan ≡ file_plan file) × ((reader file table).table ≡ table_in file (names_of (file_jobs file)) (rows_from file) (rows_said file) ++ drop places table)
reads_the_layout file table long none =
    let is = by_layout file table long ∙ ap (λ F. leaves (settle F (contents_in file) (end_of file)) table) none in
    (ap (λ (e : ReadEffect). e.plan) is, ap (λ (e : ReadEffect). e.table) is)

-- The bytes after the last field that was read do not matter: another file of the same length that agrees up
-- to there is refused alike.
pub later_bytes_do_not_matter : (file other table : List ℕ) → places ≤ length table → length other ≡ length file → {number offset : ℕ}
    → (reader file table).answer ≡ number ∷ offset ∷ [] → take (last_read file number offset) other ≡ take (last_read file number offset) file
    → (reader other table).answer ≡ number ∷ offset ∷ []
later_bytes_do_not_matter file other table long length_is {number} {offset} e agree =
    let is : file_fault file ≡ number ∷ offset ∷ [] = sym (reader_exactly file table long) ∙ e in
    let there : read_file other ≡ settle (file_fault file) (contents_in file) (end_of file)
    = (file_settles file).same (omega arith) other length_is (rw is agree) in
    ap (λ (x : ReadEffect). x.answer) (sym (reader_long other table long) ∙ ap (λ s. leaves s table) (there ∙ ap (λ F. settle F (contents_in file) (end_of file)) is))
