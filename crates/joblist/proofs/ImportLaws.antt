-- The import by what its parts give: the header, and the lines as a list.
use Rattle.std.proofs.Common.{◌≡◌, Bool, true, false, cond, List, [], ◌∷◌, ℕ, ◌+◌, length, refl, ◌≤◌, ◌<◌}
use lib.Dec.{leb}
use borrow.Author.Tests.{le-leb, lt-leb}
use Rattle.plan.specs.Edition.{most_jobs}
use Rattle.plan.specs.Refusal.{Refusal, refusal_at, wrong_header, wrong_job_count}
use Rattle.plan.specs.JobLists.{list_of}
use Rattle.plan.specs.declared.kinds.Job.{Job}
use Rattle.plan.specs.declared.kinds.JobList.{JobList}
use Rattle.fields.specs.Parsers.{Parsed, got, no, onward, test}
use Rattle.csvtext.specs.Grammar.{begins}
use Rattle.csvtext.specs.Items.{exactly}
use Rattle.joblist.specs.Import.{all_lines, header, job_text, ImportEffect, imported_from, imported}
use Rattle.joblist.specs.Inner.Parts.{lines_listed}

-- What a refusal leaves.
abbrev refused_by : Refusal → ImportEffect
refused_by refusal = record { answer = refusal.number ∷ refusal.offset ∷ []; list = list_of [] }

abbrev pub import_known : (headed : Bool) → Parsed JobList → ImportEffect
import_known false lines = refused_by (refusal_at wrong_header 0)
import_known true (got list end) = cond (leb 1 list.count) (record { answer = []; list = list }) (refused_by (refusal_at wrong_job_count end))
import_known true (no refusal) = refused_by refusal

pub import_is : (text : List ℕ) → imported text ≡ import_known (begins header text) (lines_listed (all_lines most_jobs [] text (length header)))
unfolding imported job_text exactly
import_is text = by (begins header text)
  where
    by : (b : Bool)
        → imported_from
        (onward (cond {A = Parsed (Unit {0})} b (got tt (0 + length header)) (no (refusal_at wrong_header 0)))
        (λ _ file at. onward (all_lines most_jobs [] file at) (λ jobs f end. onward (test (leb 1 (length jobs)) wrong_job_count end f end) (λ _ _ q. got jobs q) f) file) text)
        ≡ import_known b (lines_listed (all_lines most_jobs [] text (length header)))
    by false = refl
    by true = on (all_lines most_jobs [] text (length header))
      where
        on : (s : Parsed (List Job))
            → imported_from (onward s (λ jobs f end. onward (test (leb 1 (length jobs)) wrong_job_count end f end) (λ _ _ q. got jobs q) f) text)
            ≡ import_known true (lines_listed s)
        on (no k) = refl
        on (got jobs end) = last (leb 1 (length jobs))
          where
            last : (c : Bool)
                → imported_from (onward (test c wrong_job_count end text end) (λ _ _ q. got jobs q) text)
                ≡ cond c (record { answer = []; list = list_of jobs }) (refused_by (refusal_at wrong_job_count end))
            last true = refl
            last false = refl

-- What an import that reads these jobs leaves.
abbrev pub shown : JobList → ImportEffect
shown list = record { answer = []; list = list }

module _ (text : List ℕ) where
  pub import_no_header : {k : Refusal} → exactly header wrong_header 0 text 0 ≡ no k → imported_from (no k) ≡ imported text
  unfolding imported job_text
  import_no_header e = rw e

  module _ {at : ℕ} (e₁ : exactly header wrong_header 0 text 0 ≡ got tt at) where
    pub import_no_lines : {k : Refusal} → all_lines most_jobs [] text at ≡ no k → imported_from (no k) ≡ imported text
    unfolding imported job_text
    import_no_lines e = rw (e₁, e)

    module _ {jobs : List Job} {next : ℕ} (e₂ : all_lines most_jobs [] text at ≡ got jobs next) where
      pub import_none : length jobs < 1 → imported_from (no (refusal_at wrong_job_count next)) ≡ imported text
      unfolding imported job_text
      import_none h = rw (e₁, e₂, lt-leb 1 (length jobs) h)

      pub import_whole : 1 ≤ length jobs → shown (list_of jobs) ≡ imported text
      unfolding imported job_text
      import_whole h = rw (e₁, e₂, le-leb 1 (length jobs) h)
