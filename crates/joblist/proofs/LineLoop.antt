-- Laws of the loop that reads the lines.
use mathlib.Core.Path.{◌≡◌, refl, sym, ◌∙◌, ap}
use mathlib.Core.List.{List, [], ◌∷◌, ◌++◌}
use Prim.Native.Nat.{ℕ, zero, suc, ◌+◌, ◌-◌, ◌≤◌, ◌<◌}
use native.Mathlib.Numerals.{add-one}
use native.Mathlib.Omega.{arith}
use borrow.Author.Tests.{le-leb, lt-leb}
use lib.ListN.{length, take, set, replicate, length-set}
use lib.Seq.{take-suc-set}
use Rattle.plan.specs.Edition.{most_jobs}
use Rattle.plan.specs.Refusal.{Refusal, refusal_at, wrong_job_count}
use Rattle.plan.specs.declared.kinds.Job.{Job}
use Rattle.plan.specs.declared.kinds.JobList.{JobList}
use Rattle.fields.specs.Parsers.{got, no}
use Rattle.plan.specs.JobLists.{names_of, list_of}
use Rattle.plan.proofs.JobLists.{length_snoc, records_next, names_snoc}
use Rattle.joblist.specs.Import.{one_job, all_lines}
use Rattle.joblist.specs.Inner.Parts.{lines_listed}

-- `all_lines` at the end of the text, with no room left, with a line whose job is read, and with one that
-- is refused.
module _ (jobs : List Job) (text : List ℕ) (at : ℕ) where
  pub lines_over : (room : ℕ) → length text ≤ at → all_lines room jobs text at ≡ got jobs at
  unfolding all_lines
  lines_over zero h = rw (le-leb (length text) at h)
  lines_over (suc room) h = rw (le-leb (length text) at h)

  module _ (h : at < length text) where
    pub lines_full : all_lines zero jobs text at ≡ no (refusal_at wrong_job_count at)
    unfolding all_lines
    lines_full = rw (lt-leb (length text) at h)

    pub lines_step : (room : ℕ) {j : Job} {next : ℕ} → one_job (names_of jobs) text at ≡ got j next
        → all_lines (suc room) jobs text at ≡ all_lines room (jobs ++ (j ∷ [])) text next
    unfolding all_lines
    lines_step room e = rw (lt-leb (length text) at h, e)

    pub lines_stop : (room : ℕ) {k : Refusal} → one_job (names_of jobs) text at ≡ no k → all_lines (suc room) jobs text at ≡ no k
    unfolding all_lines
    lines_stop room e = rw (lt-leb (length text) at h, e)

-- The loop invariant after i jobs: the names and the list hold the i jobs read, and reading the remaining
-- lines from `next` gives the result of the whole.
pub record LinesRead (text : List ℕ) (at : ℕ) (names : List ℕ) (list : JobList) (next i : ℕ) : Type 0 where
  pub jobs : List Job
  pub many : length jobs ≡ i
  pub few : i ≤ most_jobs
  pub long : length names ≡ most_jobs
  pub kept : take i names ≡ names_of jobs
  pub made : list ≡ list_of jobs
  pub left : all_lines (most_jobs - i) jobs text next ≡ all_lines most_jobs [] text at

pub lines_start : (text : List ℕ) (at : ℕ) → LinesRead text at (replicate most_jobs 0) (list_of []) at 0
lines_start text at = record { jobs = []; many = refl; few = omega arith; long = refl; kept = refl; made = refl; left = refl }

module _ {text : List ℕ} {at : ℕ} {names : List ℕ} {list : JobList} {next i : ℕ} (so : LinesRead text at names list next i) where
  room_on : i < most_jobs → most_jobs - i ≡ suc (most_jobs - suc i)
  room_on h = omega arith

  -- The lines end here, and the jobs read so far are the list.
  pub lines_end : length text ≤ next → got list next ≡ lines_listed (all_lines most_jobs [] text at)
  lines_end h =
      let all : all_lines most_jobs [] text at ≡ got so.jobs next = sym so.left ∙ lines_over so.jobs text next (most_jobs - i) h in
      rw (all, so.made) refl

  module _ (h : next < length text) where
    pub lines_too_many : i ≡ most_jobs → no (refusal_at wrong_job_count next) ≡ lines_listed (all_lines most_jobs [] text at)
    lines_too_many e =
        let all : all_lines most_jobs [] text at ≡ no (refusal_at wrong_job_count next)
        = sym so.left ∙ ap (λ n. all_lines n so.jobs text next) (omega (arith, e)) ∙ lines_full so.jobs text next h in
        rw all refl

    module _ (fits : i < most_jobs) where
      pub lines_refused : {k : Refusal} → no k ≡ one_job (take i names) text next → no k ≡ lines_listed (all_lines most_jobs [] text at)
      lines_refused {k} e =
          let all : all_lines most_jobs [] text at ≡ no k
          = sym so.left ∙ ap (λ n. all_lines n so.jobs text next) (room_on fits)
          ∙ lines_stop so.jobs text next h (most_jobs - suc i) (rw so.kept at (sym e)) in
          rw all refl

      pub lines_next : {j : Job} {after : ℕ} → got j after ≡ one_job (take i names) text next
          → LinesRead text at (set names i j.name.0) (record { count = i + 1; jobs = set list.jobs i j }) after (i + 1)
      lines_next {j} {after} e =
          rw add-one
          (let jobs = so.jobs ++ (j ∷ []) in
          let many : length jobs ≡ suc i = length_snoc so.jobs j ∙ ap suc so.many in
          let records : set list.jobs i j ≡ (list_of jobs).jobs = ap (λ (l : JobList). set l.jobs i j) so.made ∙ records_next so.jobs j i so.many fits in
          record {
            jobs = jobs;
            many = many;
            few = omega arith;
            long = length-set names i j.name.0 ∙ so.long;
            kept = take-suc-set names i j.name.0 (omega (arith, so.long)) ∙ ap (λ l. l ++ (j.name.0 ∷ [])) so.kept
                ∙ sym (names_snoc so.jobs j);
            made = λ k. record { count = sym many k; jobs = records k };
            left =
                sym (lines_step so.jobs text next h (most_jobs - suc i) (rw so.kept at (sym e)))
                ∙ ap (λ n. all_lines n so.jobs text next) (sym (room_on fits)) ∙ so.left;
          })
