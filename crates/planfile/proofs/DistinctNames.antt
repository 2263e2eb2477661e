-- Jobs that are read have pairwise distinct names.
use mathlib.Core.Path.{◌≡◌, sym, ◌∙◌, ap}
use mathlib.Core.Bool.{true, not, ◌&&◌}
use mathlib.Core.List.{List, [], ◌∷◌, ◌++◌}
use mathlib.Core.Logic.{⊎_elim}
use Prim.Native.Nat.{ℕ, zero, suc, ◌+◌, ◌<◌}
use native.Mathlib.Nat.{eq-or-lt_of_le}
use native.Mathlib.Omega.{arith}
use borrow.Author.Tests.{eqb-false, not-true}
use lib.Dec.{eqb}
use lib.ListN.{length, get_or, length-append, get_or-append}
use lib.Seq.{get_or_at}
use Rattle.planfields.specs.Layout.{job_length}
use Rattle.plan.specs.Refusal.{wrong_name_byte, name_taken, wrong_grade, wrong_job_bounds}
use Rattle.plan.specs.Rules.{name_allowed, is_absent, grade_allowed, window_allowed, size_allowed}
use Rattle.plan.specs.declared.kinds.Job.{Job}
use Rattle.base.proofs.Below.{every_at}
use Rattle.fields.specs.Parsers.{got, field, checked, record_length}
use Rattle.planfields.specs.Records.{job_name, one_job}
use Rattle.plan.specs.JobLists.{names_of}
use Rattle.planfile.specs.Reader.{all_jobs}
use Rattle.planfile.specs.Inner.Parts.{Distinct}
use Rattle.fields.proofs.ParserLaws.{through, past, checked_is, same_value, same_next}
use Rattle.plan.proofs.JobLists.{names_snoc, length_snoc}

pub absent_each : (l : List ℕ) (x k : ℕ) → is_absent l x ≡ true → k < length l → get_or l k 0 ≡ x → ⊥
unfolding is_absent
absent_each l x k e h = eqb-false (get_or l k 0) x (not-true (eqb (get_or l k 0) x) (every_at (λ k. not (eqb (get_or l k 0) x)) (length l) k e h))

-- Appending an absent number to distinct numbers keeps them distinct.
pub distinct_snoc : (l : List ℕ) (x : ℕ) → Distinct l → is_absent l x ≡ true → Distinct (l ++ (x ∷ []))
distinct_snoc l x d e i j hi hj same =
    let n : length (l ++ (x ∷ [])) ≡ length l + 1 = length-append l (x ∷ []) in
    ⊎_elim
    (λ ei. ⊎_elim
    (λ ej. ei ∙ sym ej)
    (λ lj. absurd (absent_each l x j e lj (sym (at_front j lj) ∙ sym same ∙ at_back i ei)))
    (eq-or-lt_of_le {n = j} {m = length l} (omega arith)))
    (λ li. ⊎_elim
    (λ ej. absurd (absent_each l x i e li (sym (at_front i li) ∙ same ∙ at_back j ej)))
    (λ lj. d i j li lj (sym (at_front i li) ∙ same ∙ at_front j lj))
    (eq-or-lt_of_le {n = j} {m = length l} (omega arith)))
    (eq-or-lt_of_le {n = i} {m = length l} (omega arith))
  where
    at_front : (k : ℕ) → k < length l → get_or (l ++ (x ∷ [])) k 0 ≡ get_or l k 0
    at_front k h = get_or-append l (x ∷ []) 0 k h

    at_back : (k : ℕ) → k ≡ length l → get_or (l ++ (x ∷ [])) k 0 ≡ x
    at_back k h = get_or_at l x [] 0 k (sym h)

-- The fields of a job that is read, at their offsets, and the tests that they pass.
pub record JobRead (earlier file : List ℕ) (at : ℕ) (j : Job) (next : ℕ) : Type 0 where
  pub a₁ : ℕ
  pub a₂ : ℕ
  pub a₃ : ℕ
  pub a₄ : ℕ
  pub start : ℕ
  pub measured : record_length job_length file at ≡ got tt start
  pub name : field 8 file start ≡ got j.name.0 a₁
  pub allowed : name_allowed j.name.0 ≡ true
  pub absent : is_absent earlier j.name.0 ≡ true
  pub grade : field 1 file a₁ ≡ got j.grade a₂
  pub graded : grade_allowed j.grade ≡ true
  pub release : field 4 file a₂ ≡ got j.release.0 a₃
  pub size : field 4 file a₃ ≡ got j.size.0 a₄
  pub deadline : field 4 file a₄ ≡ got j.deadline.0 next
  pub bounds : (window_allowed j.release.0 j.deadline.0 && size_allowed j.size.0) ≡ true

-- The name of a job that is read, behind its length byte, and the tests that it passes.
record NameRead (earlier file : List ℕ) (at x next : ℕ) : Type 0 where
  start : ℕ
  measured : record_length job_length file at ≡ got tt start
  name : field 8 file start ≡ got x next
  allowed : name_allowed x ≡ true
  absent : is_absent earlier x ≡ true

name_read : (earlier file : List ℕ) (at : ℕ) {x next : ℕ} → job_name earlier file at ≡ got x next → NameRead earlier file at x next
unfolding job_name
name_read earlier file at e =
    let t₀ = through (record_length job_length file at) e in
    let t₁ = through (field 8 file t₀.next) t₀.on in
    let t₂ = past (name_allowed t₁.value) wrong_name_byte t₀.next file t₁.next t₁.on in
    let t₃ = past (is_absent earlier t₁.value) name_taken t₀.next file t₁.next t₂.on in
    let v = same_value t₃.on in
    record { start = t₀.next; measured = t₀.is; name = t₁.is ∙ t₃.on; allowed = rw v at t₂.is; absent = rw v at t₃.is }

moved : {earlier file : List ℕ} {at : ℕ} {j k : Job} {m n : ℕ} → JobRead earlier file at j m → j ≡ k → m ≡ n → JobRead earlier file at k n
moved r p q = rw q at (rw p at r)

pub job_read : (earlier file : List ℕ) (at : ℕ) (j : Job) (next : ℕ) → one_job earlier file at ≡ got j next → JobRead earlier file at j next
unfolding one_job
job_read earlier file at j next e =
    let t₁ = through (job_name earlier file at) e in
    let t₂ = through (checked 1 grade_allowed wrong_grade file t₁.next) t₁.on in
    let t₃ = through (field 4 file t₂.next) t₂.on in
    let t₄ = through (field 4 file t₃.next) t₃.on in
    let t₅ = through (field 4 file t₄.next) t₄.on in
    let t₆ = past (window_allowed t₃.value t₅.value && size_allowed t₄.value) wrong_job_bounds t₂.next file t₅.next t₅.on in
    let n = name_read earlier file at t₁.is in
    let g = checked_is 1 grade_allowed wrong_grade file t₁.next t₂.is in
    moved (record {
      a₁ = t₁.next;
      a₂ = t₂.next;
      a₃ = t₃.next;
      a₄ = t₄.next;
      start = n.start;
      measured = n.measured;
      name = n.name;
      allowed = n.allowed;
      absent = n.absent;
      grade = g.0;
      graded = g.1;
      release = t₃.is;
      size = t₄.is;
      deadline = t₅.is;
      bounds = t₆.is;
    })
    (same_value t₆.on) (same_next t₆.on)

-- If n more jobs are read, all names are still distinct, and there are n more jobs.
pub jobs_apart : (n : ℕ) (jobs : List Job) (file : List ℕ) (at : ℕ) (all : List Job) (next : ℕ) → all_jobs n jobs file at ≡ got all next → Distinct (names_of jobs)
    → Distinct (names_of all) × (length all ≡ length jobs + n)
unfolding all_jobs
jobs_apart zero jobs file at all next e d =
    let q = same_value e in
    (rw q at d, omega (arith, ap length q))
jobs_apart (suc n) jobs file at all next e d =
    let t = through (one_job (names_of jobs) file at) e in
    let j = job_read (names_of jobs) file at t.value t.next t.is in
    let rest = jobs_apart n (jobs ++ (t.value ∷ [])) file t.next all next t.on
    (rw names_snoc (distinct_snoc (names_of jobs) t.value.name.0 d j.absent)) in
    (rest.0, rest.1 ∙ omega (arith, length_snoc jobs t.value))
