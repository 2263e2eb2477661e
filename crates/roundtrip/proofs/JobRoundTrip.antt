-- Round trips of jobs: a job is read where the file has its written bytes,
-- and where a job is read the file has them.
use mathlib.Core.Path.{◌≡◌, refl, sym, ◌∙◌, ap}
use mathlib.Core.Bool.{Bool, true, false, ◌&&◌, ◌||◌}
use mathlib.Core.List.{List, [], ◌∷◌, ◌++◌, append-nil, append_assoc}
use Prim.Native.Nat.{ℕ, zero, suc, ◌+◌, ◌≤◌, ◌<◌, ◌^◌}
use native.Mathlib.Nat.{add-zero, add-suc, suc-add, zero-add}
use native.Mathlib.Omega.{arith}
use borrow.Author.Tests.{eqb-true, ltb-true, leb-true}
use lib.Dec.{leb, ltb, eqb, lit<}
use lib.ListN.{length, get_or, take, get_or-append}
use lib.Seq.{take-suc, get_or_at}
use Rattle.plan.specs.Edition.{most_deadline, most_size, name_bytes}
use Rattle.planfields.specs.Layout.{job_length}
use Rattle.plan.specs.Refusal.{wrong_name_byte, name_taken, wrong_grade, wrong_job_bounds}
use Rattle.plan.specs.Rules.{name_allowed, is_absent, grade_allowed, window_allowed, size_allowed, no_job, job_of}
use Rattle.plan.specs.declared.kinds.Job.{Job}
use Rattle.plan.specs.declared.kinds.Plan.{Plan}
use Rattle.base.proofs.Logic.{both}
use Rattle.fields.specs.Parsers.{got}
use Rattle.planfields.specs.Records.{job_name, one_job}
use Rattle.plan.specs.JobLists.{names_of}
use Rattle.planfile.specs.Reader.{all_jobs}
use Rattle.planwriter.specs.Writing.{job_bytes, jobs_bytes}
use Rattle.fields.proofs.ByteLaws.{Octets}
use Rattle.fields.proofs.ParserLaws.{through, same_value, same_next}
use Rattle.plan.proofs.JobLists.{length_snoc}
use Rattle.planfile.proofs.JobLoop.{jobs_step, jobs_done}
use Rattle.fields.proofs.BytesAt.{Stands, stands_none, stands_then, stands_first, stands_rest, stands_at}
use Rattle.fields.proofs.RoundTripLaws.{Law, law_as, here_law, then_law, test_law, done_law, field_law, checked_law, length_law}

-- What a job needs to be read after jobs with the given names.
pub record Readable (earlier : List ℕ) (j : Job) : Type 0 where
  pub fits : j.name.0 < 256 ^ 8
  pub allowed : name_allowed j.name.0 ≡ true
  pub absent : is_absent earlier j.name.0 ≡ true
  pub graded : grade_allowed j.grade ≡ true
  pub bounds : (window_allowed j.release.0 j.deadline.0 && size_allowed j.size.0) ≡ true

-- An allowed grade fits in one byte.
grade_small : (g : ℕ) → grade_allowed g ≡ true → g < 256
grade_small g e = by (eqb g 0) refl (eqb g 1) refl e
  where
    by : (a : Bool) → eqb g 0 ≡ a → (b : Bool) → eqb g 1 ≡ b → (a || b) ≡ true → g < 256
    by true ha b hb e = omega (arith, eqb-true g 0 ha)
    by false ha true hb e = omega (arith, eqb-true g 1 hb)
    by false ha false hb e = absurd (let z : ◌≡◌ {A = ℕ} 0 1 = cc in omega arith)

-- A job, from its fields and their tests.
pub job_law : (file earlier : List ℕ) → Law file (one_job earlier) job_bytes (Readable earlier)
unfolding one_job job_name
job_law file earlier =
    law_as
    (then_law (λ (j : Job). j.name.0)
    (then_law (λ _. tt) (length_law file job_length (lit< tt))
    (λ _. here_law (λ from. then_law (λ x. x) (field_law file name_bytes (omega arith))
    (λ name. test_law (name_allowed name) wrong_name_byte from (test_law (is_absent earlier name) name_taken from (done_law file name)))
    (λ a b first good. good.1.1)))
    (λ a b first good. refl))
    (λ name. then_law (λ (j : Job). j.grade) (checked_law file 1 (omega arith) grade_allowed wrong_grade)
    (λ grade. here_law (λ from. then_law (λ (j : Job). j.release.0) (field_law file 4 (omega arith))
    (λ release. then_law (λ (j : Job). j.size.0) (field_law file 4 (omega arith))
    (λ size. then_law (λ (j : Job). j.deadline.0) (field_law file 4 (omega arith))
    (λ deadline. test_law (window_allowed release deadline && size_allowed size) wrong_job_bounds from
    (done_law file
    (record {
      name = record { 0 = name };
      grade = grade;
      release = record { 0 = release };
      size = record { 0 = size };
      deadline = record { 0 = deadline };
    })))
    (λ a b first good. ap (λ (j : Job). j.deadline.0) good.1))
    (λ a b first good. ap (λ (j : Job). j.size.0) good.1.1))
    (λ a b first good. ap (λ (j : Job). j.release.0) good.1.1.1)))
    (λ a b first good. ap (λ (j : Job). j.grade) good.1.1.1.1))
    (λ a b first good. ap (λ (j : Job). j.name.0) good.1.1.1.1.1))
    (λ j ok.
    let t = both (window_allowed j.release.0 j.deadline.0) (size_allowed j.size.0) ok.bounds in
    let w = both (ltb j.release.0 j.deadline.0) (leb j.deadline.0 most_deadline) t.0 in
    let from = ltb-true j.release.0 j.deadline.0 w.0 in
    let to = leb-true j.deadline.0 most_deadline w.1 in
    let size = leb-true j.size.0 most_size (both (leb 1 j.size.0) (leb j.size.0 most_size) t.1).1 in (
      (tt, (ok.fits, (ok.allowed, (ok.absent, refl)))),
      (
        (grade_small j.grade ok.graded, ok.graded),
        (omega (arith, from, to), (omega (arith, size), (omega (arith, to), (ok.bounds, refl)))),
      ),
    ))
    (λ j good. record {
      fits = good.0.1.0;
      allowed = good.0.1.1.0;
      absent = good.0.1.1.1.0;
      graded = good.1.0.1;
      bounds = good.1.1.1.1.1.0;
    })
    (λ j. simp (append-nil, append_assoc))

-- The bytes of n jobs from job i on.
unfoldable pub span_bytes : Plan → ℕ → ℕ → List ℕ
span_bytes p i zero = []
span_bytes p i (suc n) = job_bytes (job_of p i) ++ span_bytes p (suc i) n

-- The bytes of the first i jobs, then those of the next n, are the bytes of the first i + n.
pub span_on : (p : Plan) (i n : ℕ) → jobs_bytes p i ++ span_bytes p i n ≡ jobs_bytes p (i + n)
unfolding jobs_bytes span_bytes
span_on p i zero = rw (add-zero i) (append-nil (jobs_bytes p i))
span_on p i (suc n) =
    sym (append_assoc (jobs_bytes p i) (job_bytes (job_of p i)) (span_bytes p (suc i) n)) ∙ span_on p (suc i) n
    ∙ ap (jobs_bytes p) (suc-add i n ∙ sym (add-suc i n))

-- The bytes of n jobs from job 0 on are those of the first n jobs.
pub span_whole : (p : Plan) (n : ℕ) → span_bytes p 0 n ≡ jobs_bytes p n
unfolding jobs_bytes
span_whole p n = span_on p 0 n ∙ ap (jobs_bytes p) (zero-add n)

-- `Readable` jobs are read where the file has their written bytes.
pub jobs_back : (p : Plan) (file : List ℕ) (n i at : ℕ) {next : ℕ} → i + n ≤ length p.jobs
    → ((k : ℕ) → i ≤ k → k < i + n → Readable (names_of (take k p.jobs)) (job_of p k))
    → Stands file at (span_bytes p i n) next → all_jobs n (take i p.jobs) file at ≡ got (take (i + n) p.jobs) next
unfolding span_bytes
jobs_back p file zero i at fits ok s =
    jobs_done (take i p.jobs) file at ∙ ap (λ k. got (take k p.jobs) at) (sym (add-zero i))
    ∙ ap (got (take (i + 0) p.jobs)) (sym (s.ends ∙ add-zero at))
jobs_back p file (suc n) i at {next} fits ok s =
    let b = job_bytes (job_of p i) in
    let here = (job_law file (names_of (take i p.jobs))).back (job_of p i) at (ok i (omega arith) (omega arith)) (stands_first b (span_bytes p (suc i) n) s) in
    let rest = jobs_back p file n (suc i) (at + length b) (omega arith) (λ k h l. ok k (omega arith) (omega arith)) (stands_rest b (span_bytes p (suc i) n) s) in
    jobs_step n (take i p.jobs) file at here
    ∙ ap (λ l. all_jobs n l file (at + length b)) (sym (take-suc p.jobs i no_job (omega arith)))
    ∙ rest ∙ ap (λ k. got (take k p.jobs) next) (suc-add i n ∙ sym (add-suc i n))

-- Reading more jobs keeps those already read.
pub jobs_keep : (n : ℕ) (jobs : List Job) (file : List ℕ) (at : ℕ) (all : List Job) (next : ℕ) → all_jobs n jobs file at ≡ got all next
    → (k : ℕ) → k < length jobs → get_or all k no_job ≡ get_or jobs k no_job
unfolding all_jobs
jobs_keep zero jobs file at all next e k h = rw (same_value e) refl
jobs_keep (suc n) jobs file at all next e k h =
    let t = through (one_job (names_of jobs) file at) e in
    jobs_keep n (jobs ++ (t.value ∷ [])) file t.next all next t.on k (omega (arith, length_snoc jobs t.value))
    ∙ get_or-append jobs (t.value ∷ []) no_job k h

-- Where jobs are read, the file has their written bytes.
pub jobs_again : (p : Plan) (n : ℕ) (jobs : List Job) (file : List ℕ) (at : ℕ) (all : List Job) (next : ℕ) → Octets file
    → ((k : ℕ) → k < length jobs + n → job_of p k ≡ get_or all k no_job) → all_jobs n jobs file at ≡ got all next
    → Stands file at (span_bytes p (length jobs) n) next
unfolding all_jobs span_bytes
jobs_again p zero jobs file at all next octets same e = stands_at (stands_none file at) (same_next e)
jobs_again p (suc n) jobs file at all next octets same e =
    let t = through (one_job (names_of jobs) file at) e in
    let long = length_snoc jobs t.value in
    let here = ((job_law file (names_of jobs)).again octets at t.is).0 in
    let is : job_of p (length jobs) ≡ t.value
    = same (length jobs) (omega arith)
    ∙ jobs_keep n (jobs ++ (t.value ∷ [])) file t.next all next t.on (length jobs) (omega (arith, long))
    ∙ get_or_at jobs t.value [] no_job (length jobs) refl in
    let rest = jobs_again p n (jobs ++ (t.value ∷ [])) file t.next all next octets (λ k h. same k (omega (arith, long))) t.on in
    stands_then (rw (← is) at here) (rw long at rest)
