-- A plan with only its counted records, the others zero: what is read back of a plan.
use mathlib.Core.Path.{◌≡◌, refl, sym, ◌∙◌, ap, ap₂}
use mathlib.Core.List.{List, [], ◌∷◌, ◌++◌}
use Prim.Native.Nat.{ℕ, zero, suc, ◌-◌, ◌/◌, ◌≤◌, ◌<◌}
use native.Mathlib.Omega.{arith}
use lib.ListN.{length, get_or, take, replicate, get_or-map}
use lib.Seq.{get_or-take, take_at}
use Rattle.plan.specs.Edition.{most_jobs}
use Rattle.plan.specs.Versions.{version_for}
use Rattle.plan.specs.Rules.{no_job, job_of, counted, names}
use Rattle.plan.specs.Boundaries.{insert, boundaries_to, intervals}
use Rattle.plan.specs.declared.kinds.Job.{Job}
use Rattle.plan.specs.declared.kinds.Plan.{Plan}
use Rattle.plan.proofs.Names.{prefix_at}
use Rattle.planfields.specs.Records.{Head}
use Rattle.plan.specs.JobLists.{names_of}
use Rattle.planfile.specs.Reader.{plan_from}
use Rattle.planwriter.specs.Writing.{row_at, rows_bytes}
use Rattle.base.proofs.Padding.{get_or_pad}

-- The names of a plan that was read are those of its jobs, then zeros.
pub names_read : (h : Head) (jobs : List Job) → length jobs ≡ h.count → h.count ≤ most_jobs → (k : ℕ)
    → get_or (names (plan_from h jobs)) k 0 ≡ get_or (names_of jobs) k 0
names_read h jobs many few k =
    let all : take (counted (plan_from h jobs)) (plan_from h jobs).jobs ≡ jobs
    = take_at jobs (replicate (most_jobs - length jobs) no_job) (counted (plan_from h jobs)) (omega arith) in
    prefix_at (plan_from h jobs) k ∙ ap (λ l. (get_or l k no_job).name.0) all ∙ sym (get_or-map (λ (j : Job). j.name.0) jobs k no_job)

-- Lists of names with equal entries give the same bytes of rows.
pub rows_names : (width : ℕ) (a b : List ℕ) → ((k : ℕ) → get_or a k 0 ≡ get_or b k 0) → (q : ℕ) (l : List ℕ) → rows_bytes width a q l ≡ rows_bytes width b q l
unfolding rows_bytes
rows_names width a b same q [] = refl
rows_names width a b same q (u ∷ l) = rw (same (q / width)) (ap (λ r. row_at width b q u ++ r) (rows_names width a b same (suc q) l))

-- The plan as it is read back.
abbrev pub kept : Plan → Plan
kept p = plan_from (record { version = version_for p.count; n = p.n.0; d = p.d.0; count = p.count }) (take p.count p.jobs)

-- The counted jobs are read back unchanged.
pub kept_job : (p : Plan) (i : ℕ) → i < p.count → job_of (kept p) i ≡ job_of p i
kept_job p i h =
    get_or_pad (take p.count p.jobs) (most_jobs - length (take p.count p.jobs)) i no_job ∙ get_or-take p.count p.jobs i no_job h

-- Plans with the same first n jobs have the same boundaries of them.
boundaries_same : (p q : Plan) (n : ℕ) → ((i : ℕ) → i < n → job_of p i ≡ job_of q i) → boundaries_to p n ≡ boundaries_to q n
unfolding boundaries_to
boundaries_same p q zero h = refl
boundaries_same p q (suc n) h =
    let e = h n (omega arith) in
    ap₂ insert (ap (λ (j : Job). j.deadline.0) e)
    (ap₂ insert (ap (λ (j : Job). j.release.0) e) (boundaries_same p q n (λ i l. h i (omega arith))))

-- The plan as it is read back has as many intervals.
pub kept_intervals : (p : Plan) → intervals (kept p) ≡ intervals p
kept_intervals p = ap (λ l. length l - 1) (boundaries_same (kept p) p (counted p) (λ i h. kept_job p i (omega arith)))

-- Name k of the first n jobs is the name of job k.
pub names_prefix : (jobs : List Job) (n k : ℕ) → k < n → get_or (names_of (take n jobs)) k 0 ≡ (get_or jobs k no_job).name.0
names_prefix jobs n k h =
    get_or-map (λ (j : Job). j.name.0) (take n jobs) k no_job ∙ ap (λ (j : Job). j.name.0) (get_or-take n jobs k no_job h)
