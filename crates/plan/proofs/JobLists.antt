-- Laws of a list of jobs that grows by one job at a time.
use mathlib.Core.Path.{◌≡◌, refl, sym, ◌∙◌, ap}
use mathlib.Core.List.{List, [], ◌∷◌, ◌++◌, append_assoc}
use Prim.Native.Nat.{ℕ, suc, ◌-◌, ◌≤◌, ◌<◌}
use native.Mathlib.Omega.{arith}
use lib.ListN.{length, set, replicate, length-append, length-map, length-replicate}
use lib.Seq.{set_at}
use Rattle.plan.specs.Edition.{most_jobs}
use Rattle.plan.specs.JobLists.{names_of, records_of}
use Rattle.plan.specs.Rules.{no_job}
use Rattle.plan.specs.declared.kinds.Job.{Job}

pub length_snoc : (jobs : List Job) (j : Job) → length (jobs ++ (j ∷ [])) ≡ suc (length jobs)
length_snoc jobs j = simp length-append (omega arith)

pub records_length : (jobs : List Job) → length jobs ≤ most_jobs → length (records_of jobs) ≡ most_jobs
records_length jobs h = simp (length-append, length-replicate) (omega arith)

-- Storing a record at index i, after i jobs, appends the job.
pub records_next : (jobs : List Job) (j : Job) (i : ℕ) → length jobs ≡ i → i < most_jobs → set (records_of jobs) i j ≡ records_of (jobs ++ (j ∷ []))
records_next jobs j i n h =
    let m : most_jobs - length jobs ≡ suc (most_jobs - length (jobs ++ (j ∷ []))) = rw length_snoc (omega arith) in
    ap (λ k. set (jobs ++ replicate k no_job) i j) m
    ∙ set_at jobs no_job (replicate (most_jobs - length (jobs ++ (j ∷ []))) no_job) j i n
    ∙ sym (append_assoc jobs (j ∷ []) (replicate (most_jobs - length (jobs ++ (j ∷ []))) no_job))

pub names_snoc : (jobs : List Job) (j : Job) → names_of (jobs ++ (j ∷ [])) ≡ names_of jobs ++ (j.name.0 ∷ [])
names_snoc [] j = refl
names_snoc (x ∷ jobs) j = ap (λ l. x.name.0 ∷ l) (names_snoc jobs j)

pub names_length : (jobs : List Job) → length (names_of jobs) ≡ length jobs
names_length jobs = length-map jobs (λ (j : Job). j.name.0)
