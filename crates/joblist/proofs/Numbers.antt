-- Import and export refuse only by the numbers that the rules give them.
use mathlib.Core.Path.{◌≡◌, refl, sym, ◌∙◌, ap}
use mathlib.Core.Bool.{Bool, true, false, true≢false, not, cond, ◌&&◌}
use mathlib.Core.List.{List, [], ◌∷◌, ◌++◌}
use mathlib.Core.Logic.{◌↔◌}
use Prim.Native.Nat.{ℕ, zero, suc, ◌≤◌, ◌<◌}
use native.Mathlib.Omega.{arith}
use borrow.Author.Tests.{ltb-true, ltb-false}
use lib.Dec.{leb, ltb}
use lib.ListN.{length, drop}
use Rattle.plan.specs.Kinds.{Bytes}
use Rattle.plan.specs.Edition.{most_jobs}
use Rattle.plan.specs.Refusal.{wrong_job_count, wrong_name_byte, name_taken, wrong_grade, wrong_job_bounds, wrong_line, wrong_header, unsound, buffer_too_short}
use Rattle.plan.specs.Report.{Report, is_one_of}
use Rattle.plan.specs.JobLists.{names_of, list_of}
use Rattle.plan.specs.Rules.{name_allowed, is_absent, grade_allowed, window_allowed, size_allowed, jobs_hold}
use Rattle.plan.specs.declared.kinds.Job.{Job}
use Rattle.plan.specs.declared.kinds.JobList.{JobList}
use Rattle.fields.specs.Parsers.{Parsed, got, no, Parser, onward, test}
use Rattle.fields.proofs.Only.{among, Only, only_onward, only_test}
use Rattle.csvtext.specs.Items.{exactly}
use Rattle.csvtext.proofs.ItemRefusals.{exactly_refuses}
use Rattle.joblist.specs.Import.{line, one_job, all_lines, header, job_text, imported_from, imported}
use Rattle.joblist.proofs.LineRefusals.{line_refuses}
use Rattle.joblist.specs.Export.{wrote, refused, list_text, ExportEffect, withheld, exported}

-- The refusals of the import: 24, 5, 23, and 6 to 9.
abbrev pub import_numbers : List ℕ
import_numbers = wrong_header ∷ wrong_job_count ∷ wrong_line ∷ wrong_name_byte ∷ name_taken ∷ wrong_grade ∷ wrong_job_bounds ∷ []

module _ (text : List ℕ) where
  job_only : (earlier : List ℕ) (at : ℕ) → Only import_numbers (one_job earlier text at)
  unfolding one_job
  job_only earlier at =
      only_onward import_numbers (line text at) _ text (line_refuses (among import_numbers) text at refl)
      (λ l next.
      let ok : Bool = window_allowed l.release l.deadline && size_allowed l.size in
      only_onward import_numbers (test (name_allowed l.name) wrong_name_byte at text next) _ text (only_test import_numbers (name_allowed l.name) wrong_name_byte at text next refl)
      (λ _ n₁. only_onward import_numbers (test (is_absent earlier l.name) name_taken at text n₁) _ text (only_test import_numbers (is_absent earlier l.name) name_taken at text n₁ refl)
      (λ _ n₂. only_onward import_numbers (test (grade_allowed l.grade) wrong_grade l.grade_at text n₂) _ text
      (only_test import_numbers (grade_allowed l.grade) wrong_grade l.grade_at text n₂ refl)
      (λ _ n₃. only_onward import_numbers (test ok wrong_job_bounds l.release_at text n₃) _ text (only_test import_numbers ok wrong_job_bounds l.release_at text n₃ refl) (λ _ _. tt)))))

  lines_only : (room : ℕ) (jobs : List Job) (at : ℕ) → Only import_numbers (all_lines room jobs text at)
  unfolding all_lines
  lines_only zero jobs at =
      only_onward import_numbers (test (leb (length text) at) wrong_job_count at text at) _ text
      (only_test import_numbers (leb (length text) at) wrong_job_count at text at refl) (λ _ _. tt)
  lines_only (suc room) jobs at = by (leb (length text) at) (λ j next. lines_only room (jobs ++ (j ∷ [])) next)
    where
      by : (b : Bool) → ((j : Job) (next : ℕ) → Only import_numbers (all_lines room (jobs ++ (j ∷ [])) text next))
          → Only import_numbers
          (cond {A = Parser (List Job)} b (λ (file : List ℕ) (from : ℕ). got jobs from)
          (λ (file : List ℕ) (from : ℕ). onward (one_job (names_of jobs) file from) (λ j. all_lines room (jobs ++ (j ∷ []))) file) text at)
      by true rest = tt
      by false rest = only_onward import_numbers (one_job (names_of jobs) text at) _ text (job_only (names_of jobs) at) rest

  pub text_only : Only import_numbers (job_text text 0)
  unfolding job_text
  text_only =
      only_onward import_numbers (exactly header wrong_header 0 text 0) _ text (exactly_refuses (among import_numbers) text header wrong_header 0 0 refl)
      (λ _ at. only_onward import_numbers (all_lines most_jobs [] text at) _ text (lines_only most_jobs [] at)
      (λ jobs end. only_onward import_numbers (test (leb 1 (length jobs)) wrong_job_count end text end) _ text
      (only_test import_numbers (leb 1 (length jobs)) wrong_job_count end text end refl) (λ _ _. tt)))

-- A report of the import is empty, or its number is one of these.
pub import_numbers_lem : (text : Bytes) (number : ℕ) (rest : Report) → (imported text).answer ≡ number ∷ rest → is_one_of import_numbers number ≡ true
unfolding imported
import_numbers_lem text number rest e = by (job_text text 0) (text_only text) e
  where
    by : (s : Parsed (List Job)) → Only import_numbers s → (imported_from s).answer ≡ number ∷ rest → is_one_of import_numbers number ≡ true
    by (got jobs next) h e = absurd (let z : ◌≡◌ {A = ℕ} 0 1 = cc in omega arith)
    by (no k) h e = let n : number ≡ k.number = cc in rw n h

-- The refusals of the export: 21 and 22.
abbrev pub export_numbers : List ℕ
export_numbers = unsound ∷ buffer_too_short ∷ []

pub export_numbers_lem : (list : JobList) (out : Bytes) (number : ℕ) → (exported list out).answer ≡ refused number → is_one_of export_numbers number ≡ true
unfolding exported
export_numbers_lem list out number e = by (not (jobs_hold list)) (ltb (length out) (length (list_text list))) e
  where
    by : (a b : Bool)
        → (cond {A = ExportEffect} a (withheld unsound out)
        (cond b (withheld buffer_too_short out)
        (record { answer = wrote (length (list_text list)); out = list_text list ++ drop (length (list_text list)) out }))).answer
        ≡ refused number
        → is_one_of export_numbers number ≡ true
    by true b e = let n : number ≡ unsound = cc in rw n refl
    by false true e = let n : number ≡ buffer_too_short = cc in rw n refl
    by false false e = absurd (let z : ◌≡◌ {A = ℕ} 0 1 = cc in omega arith)

-- When each answer of the export is given: 21 exactly when a rule from 5 to 9 is broken, 22 exactly when none is and the
-- output is shorter than the text, and otherwise the text's length.
pub record ExportExactly (list : JobList) (out : Bytes) : Type 0 where
  pub unsound_exactly : ((exported list out).answer ≡ refused unsound) ↔ (jobs_hold list ≡ false)
  pub short_exactly : ((exported list out).answer ≡ refused buffer_too_short) ↔ ((jobs_hold list ≡ true) × (length out < length (list_text list)))
  pub written_exactly : (n : ℕ) → ((exported list out).answer ≡ wrote n)
      ↔ ((jobs_hold list ≡ true) × (length (list_text list) ≤ length out) × (length (list_text list) ≡ n))

pub export_exactly : (list : JobList) (out : Bytes) → ExportExactly list out
unfolding exported
export_exactly list out = by (jobs_hold list) refl (ltb (length out) (length (list_text list))) refl
  where
    long : ℕ
    long = length (list_text list)

    by : (holds : Bool) → jobs_hold list ≡ holds → (short : Bool) → ltb (length out) long ≡ short → ExportExactly list out
    by false h short s =
        record {
          unsound_exactly = ((λ e. h), (λ e. rw h refl));
          short_exactly = ((λ e. absurd (let z : ◌≡◌ {A = ℕ} unsound buffer_too_short = cc (rw h at e) in omega (arith, z))), (λ e. absurd (true≢false (sym e.0 ∙ h))));
          written_exactly = λ n. ((λ e. absurd (let z : ◌≡◌ {A = ℕ} 0 1 = cc (rw h at e) in omega arith)), (λ e. absurd (true≢false (sym e.0 ∙ h))));
        }
    by true h true s =
        record {
          unsound_exactly = ((λ e. absurd (let z : ◌≡◌ {A = ℕ} buffer_too_short unsound = cc (rw (h, s) at e) in omega (arith, z))), (λ e. absurd (true≢false (sym h ∙ e))));
          short_exactly = ((λ e. (h, ltb-true (length out) long s)), (λ e. rw (h, s) refl));
          written_exactly = λ n. ((λ e. absurd (let z : ◌≡◌ {A = ℕ} 0 1 = cc (rw (h, s) at e) in omega arith)), (λ e. absurd (omega (arith, e.1, ltb-true (length out) long s))));
        }
    by true h false s =
        record {
          unsound_exactly = ((λ e. absurd (let z : ◌≡◌ {A = ℕ} 0 1 = cc (rw (h, s) at e) in omega arith)), (λ e. absurd (true≢false (sym h ∙ e))));
          short_exactly = ((λ e. absurd (let z : ◌≡◌ {A = ℕ} 0 1 = cc (rw (h, s) at e) in omega arith)), (λ e. absurd (omega (arith, e.1, ltb-false (length out) long s))));
          written_exactly = λ n. ((λ e. (h, ltb-false (length out) long s, cc (rw (h, s) at e))), (λ e. rw (h, s) (ap wrote e.2)));
        }

-- A refused export leaves the output as it was.
pub export_refused_leaves : (list : JobList) (out : Bytes) (number : ℕ) → (exported list out).answer ≡ refused number → (exported list out).out ≡ out
unfolding exported
export_refused_leaves list out number e = by (not (jobs_hold list)) (ltb (length out) (length (list_text list))) e
  where
    by : (a b : Bool)
        → (cond {A = ExportEffect} a (withheld unsound out)
        (cond b (withheld buffer_too_short out)
        (record { answer = wrote (length (list_text list)); out = list_text list ++ drop (length (list_text list)) out }))).answer
        ≡ refused number
        → (cond {A = ExportEffect} a (withheld unsound out)
        (cond b (withheld buffer_too_short out)
        (record { answer = wrote (length (list_text list)); out = list_text list ++ drop (length (list_text list)) out }))).out
        ≡ out
    by true b e = refl
    by false true e = refl
    by false false e = absurd (let z : ◌≡◌ {A = ℕ} 0 1 = cc in omega arith)

-- A refused import yields no jobs.
pub import_refused_yields_none : (bytes : Bytes) (number : ℕ) (rest : Report) → (imported bytes).answer ≡ number ∷ rest → (imported bytes).list ≡ list_of []
unfolding imported
import_refused_yields_none bytes number rest e = by (job_text bytes 0) e
  where
    by : (s : Parsed (List Job)) → (imported_from s).answer ≡ number ∷ rest → (imported_from s).list ≡ list_of []
    by (got jobs next) e = absurd (let z : ◌≡◌ {A = ℕ} 0 1 = cc in omega arith)
    by (no k) e = refl
