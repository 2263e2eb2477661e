-- Laws of the loop that reads the jobs.
use mathlib.Core.Path.{◌≡◌, refl, sym, ◌∙◌, ap}
use mathlib.Core.List.{List, [], ◌∷◌, ◌++◌}
use Prim.Native.Nat.{ℕ, zero, suc, ◌+◌, ◌-◌, ◌<◌}
use native.Mathlib.Nat.{sub-zero}
use native.Mathlib.Numerals.{add-one}
use native.Mathlib.Omega.{arith}
use lib.ListN.{length, take, set}
use Rattle.std.proofs.Math.Seq.{take-suc-set}
use Rattle.std.specs.Prelude.{Ok, Err}
use Rattle.plan.specs.Refusal.{Refusal, refusal_view}
use Rattle.plan.specs.Edition.{most_jobs}
use Rattle.plan.specs.declared.kinds.Job.{Job}
use Rattle.plan.specs.declared.kinds.Plan.{Plan}
use Rattle.plan.specs.declared.refusal.Refusal as code
use Rattle.fields.specs.Parsers.{got, no}
use Rattle.planfields.specs.Records.{one_job, Head}
use Rattle.plan.specs.JobLists.{names_of}
use Rattle.plan.proofs.JobLists.{length_snoc, records_next, names_snoc}
use Rattle.planfile.specs.Reader.{all_jobs, plan_from}
use Rattle.planfile.specs.Inner.Parts.{JobsAnswer}

-- The loop invariant after i jobs: the names and the plan hold the i jobs read,
-- and reading the remaining ones from `next` gives the result of the whole.
pub record JobsRead (file : List ℕ) (at : ℕ) (h : Head) (names : List ℕ) (plan : Plan) (next i : ℕ) : Type 0 where
  pub jobs : List Job
  pub many : length jobs ≡ i
  pub kept : take i names ≡ names_of jobs
  pub made : plan ≡ plan_from h jobs
  pub left : all_jobs (h.count - i) jobs file next ≡ all_jobs h.count [] file at

-- `all_jobs` with a next job that is read, with one that is refused, and with none left.
pub jobs_step : (n : ℕ) (jobs : List Job) (file : List ℕ) (at : ℕ) {j : Job} {next : ℕ} → one_job (names_of jobs) file at ≡ got j next
    → all_jobs (suc n) jobs file at ≡ all_jobs n (jobs ++ (j ∷ [])) file next
unfolding all_jobs
jobs_step n jobs file at e = rw e

pub jobs_stop : (n : ℕ) (jobs : List Job) (file : List ℕ) (at : ℕ) {k : Refusal} → one_job (names_of jobs) file at ≡ no k
    → all_jobs (suc n) jobs file at ≡ no k
unfolding all_jobs
jobs_stop n jobs file at e = rw e

pub jobs_done : (jobs : List Job) (file : List ℕ) (at : ℕ) → all_jobs zero jobs file at ≡ got jobs at
unfolding all_jobs
jobs_done jobs file at = refl

pub jobs_read_start : (file : List ℕ) (at : ℕ) (h : Head) (names : List ℕ) → JobsRead file at h names (plan_from h []) at 0
jobs_read_start file at h names =
    record { jobs = []; many = refl; kept = refl; made = refl; left = ap (λ n. all_jobs n [] file at) (sub-zero h.count) }

module _ {file : List ℕ} {at : ℕ} {h : Head} {names : List ℕ} {plan : Plan} {next i : ℕ} (so : JobsRead file at h names plan next i) where
  count_on : i < h.count → h.count - i ≡ suc (h.count - suc i)
  count_on more = omega arith

  pub jobs_read_next : i < h.count → i < most_jobs → i < length names → {j : Job} {after : ℕ} → one_job (take i names) file next ≡ got j after
      → JobsRead file at h (set names i j.name.0) (record { n = plan.n; d = plan.d; count = plan.count; jobs = set plan.jobs i j }) after (i + 1)
  jobs_read_next more fits room {j} {after} e =
      rw add-one
      (record {
        jobs = so.jobs ++ (j ∷ []);
        many = length_snoc so.jobs j ∙ ap suc so.many;
        kept = take-suc-set names i j.name.0 room ∙ rw so.kept (sym (names_snoc so.jobs j));
        made = rw so.made (ap (λ l. record { n = record { 0 = h.n }; d = record { 0 = h.d }; count = h.count; jobs = l }) (records_next so.jobs j i so.many fits));
        left =
            sym (jobs_step (h.count - suc i) so.jobs file next (rw so.kept at e))
            ∙ ap (λ n. all_jobs n so.jobs file next) (sym (count_on more)) ∙ so.left;
      })

  -- What `read_jobs` gives at a job that is refused, and after the last job.
  pub jobs_refused : i < h.count → (k : code.Refusal) → one_job (take i names) file next ≡ no (refusal_view k)
      → JobsAnswer h (all_jobs h.count [] file at) (Err k) names
  jobs_refused more k e =
      rw (sym so.left ∙ ap (λ n. all_jobs n so.jobs file next) (count_on more) ∙ jobs_stop (h.count - suc i) so.jobs file next (rw so.kept at e)) refl

  pub jobs_whole : i ≡ h.count → JobsAnswer h (all_jobs h.count [] file at) (Ok (record { value = plan; next = next })) names
  jobs_whole e =
      rw (sym so.left ∙ ap (λ n. all_jobs n so.jobs file next) (omega (arith, e)) ∙ jobs_done so.jobs file next) (refl, so.made, rw e at so.kept)
