-- How many bytes each parser consumes, and that the file has them.
use mathlib.Core.Path.{◌≡◌, refl, ◌∙◌, ap}
use mathlib.Core.Bool.{true}
use mathlib.Core.List.{List, [], ◌∷◌, ◌++◌}
use Prim.Native.Nat.{ℕ, zero, suc, ◌+◌, ◌*◌, ◌≤◌, ◌<◌}
use native.Mathlib.Omega.{arith}
use lib.ListN.{length, replicate}
use Rattle.plan.specs.Edition.{most_intervals, places}
use Rattle.plan.specs.Versions.{newest_version, count_allowed_in, rows_allowed_in}
use Rattle.plan.specs.Refusal.{wrong_rates, wrong_job_count, too_many_rows}
use Rattle.plan.specs.Rules.{rates_allowed}
use Rattle.plan.specs.Boundaries.{intervals}
use Rattle.plan.specs.declared.kinds.Job.{Job}
use Rattle.fields.specs.Parsers.{Parsed, got, no, field, checked, opening, ended}
use Rattle.planfields.specs.Layout.{job_length, name_at}
use Rattle.planfields.specs.Records.{Head, head, one_job}
use Rattle.plan.specs.JobLists.{names_of}
use Rattle.planfile.specs.Reader.{all_jobs, Preamble, preamble, all_rows, Contents, plan_file, read_file}
use Rattle.planfile.specs.Inner.Parts.{count_of}
use Rattle.fields.proofs.ParserLaws.{through, past, checked_is, same_value, same_next, field_extent}
use Rattle.fields.proofs.OpeningLaws.{length_is, opening_read}
use Rattle.planfile.proofs.DistinctNames.{job_read}

-- A job takes 1 + job_length bytes inside the file, and n jobs take n times as many.
pub job_extent : (earlier file : List ℕ) (at : ℕ) {j : Job} {next : ℕ} → one_job earlier file at ≡ got j next
    → (next ≡ at + (1 + job_length)) × (at + (1 + job_length) ≤ length file)
job_extent earlier file at {j} {next} e =
    let r = job_read earlier file at j next e in
    let x₀ = field_extent 1 file at (length_is job_length file at r.measured) in
    let x₁ = field_extent 8 file r.start r.name in
    let x₂ = field_extent 1 file r.a₁ r.grade in
    let x₃ = field_extent 4 file r.a₂ r.release in
    let x₄ = field_extent 4 file r.a₃ r.size in
    let x₅ = field_extent 4 file r.a₄ r.deadline in
    (omega (arith, x₀.0, x₁.0, x₂.0, x₃.0, x₄.0, x₅.0), omega (arith, x₀.0, x₁.0, x₂.0, x₃.0, x₄.0, x₅.1))

pub jobs_extent : (n : ℕ) (jobs : List Job) (file : List ℕ) (at : ℕ) (all : List Job) (next : ℕ) → all_jobs n jobs file at ≡ got all next
    → (next ≡ at + n * (1 + job_length)) × (1 ≤ n → at + n * (1 + job_length) ≤ length file)
unfolding all_jobs
jobs_extent zero jobs file at all next e = (omega (arith, same_next e), λ h. absurd (omega arith))
jobs_extent (suc n) jobs file at all next e =
    let t = through (one_job (names_of jobs) file at) e in
    let x = job_extent (names_of jobs) file at t.is in
    let rest = jobs_extent n (jobs ++ (t.value ∷ [])) file t.next all next t.on in
    (omega (arith, x.0, rest.0), λ h. by n x.0 x.1 rest.1)
  where
    by : (n : ℕ) {next : ℕ} → next ≡ at + (1 + job_length) → at + (1 + job_length) ≤ length file → (1 ≤ n → next + n * (1 + job_length) ≤ length file) → at + suc n * (1 + job_length) ≤ length file
    by zero e h rest = omega arith
    by (suc n) e h rest = omega (arith, rest (omega arith))

-- The fields of a head that is read, at their offsets, and the tests that they pass.
pub record HeadRead (file : List ℕ) (h : Head) (next : ℕ) : Type 0 where
  pub opened : opening newest_version true file 0 ≡ got h.version 5
  pub normal : field 2 file 5 ≡ got h.n 7
  pub floor : field 2 file 7 ≡ got h.d 9
  pub rates : rates_allowed h.n h.d ≡ true
  pub jobs : field 1 file 9 ≡ got h.count 10
  pub some : count_allowed_in h.version h.count ≡ true
  pub end : next ≡ 10

moved : {file : List ℕ} {h k : Head} {m n : ℕ} → HeadRead file h m → h ≡ k → m ≡ n → HeadRead file k n
moved r p q = rw q at (rw p at r)

at_places : (file : List ℕ) {v n d c n₁ n₂ n₃ n₄ : ℕ} → opening newest_version true file 0 ≡ got v n₁ → n₁ ≡ 5 → field 2 file n₁ ≡ got n n₂ → n₂ ≡ 7
    → field 2 file n₂ ≡ got d n₃ → n₃ ≡ 9 → rates_allowed n d ≡ true → field 1 file n₃ ≡ got c n₄ → n₄ ≡ 10
    → count_allowed_in v c ≡ true → HeadRead file (record { version = v; n = n; d = d; count = c }) n₄
at_places file e₁ p₁ e₂ p₂ e₃ p₃ r e₄ p₄ t =
    record {
      opened = rw p₁ at e₁;
      normal = rw (p₁, p₂) at e₂;
      floor = rw (p₂, p₃) at e₃;
      rates = r;
      jobs = rw (p₃, p₄) at e₄;
      some = t;
      end = p₄;
    }

pub head_read : (file : List ℕ) {h : Head} {next : ℕ} → head true file 0 ≡ got h next → HeadRead file h next
unfolding head
head_read file e =
    let t₁ = through (opening newest_version true file 0) e in
    let x₁ = (opening_read newest_version file t₁.is).end in
    let t₂ = through (field 2 file t₁.next) t₁.on in
    let x₂ : t₂.next ≡ 7 = (field_extent 2 file t₁.next t₂.is).0 ∙ ap (λ k. k + 2) x₁ in
    let t₃ = through (field 2 file t₂.next) t₂.on in
    let x₃ : t₃.next ≡ 9 = (field_extent 2 file t₂.next t₃.is).0 ∙ ap (λ k. k + 2) x₂ in
    let t₄ = past (rates_allowed t₂.value t₃.value) wrong_rates t₁.next file t₃.next t₃.on in
    let t₅ = through (checked 1 (count_allowed_in t₁.value) wrong_job_count file t₃.next) t₄.on in
    let c = checked_is 1 (count_allowed_in t₁.value) wrong_job_count file t₃.next t₅.is in
    let x₅ : t₅.next ≡ 10 = (field_extent 1 file t₃.next c.0).0 ∙ ap (λ k. k + 1) x₃ in
    moved (at_places file t₁.is x₁ t₂.is x₂ t₃.is x₃ t₄.is c.0 x₅ c.1) (same_value t₅.on) (same_next t₅.on)

-- If a file is read, the name of each of its jobs lies inside the file.
pub shown_within : (file : List ℕ) {held : Contents} {end : ℕ} → read_file file ≡ got held end → (k : ℕ) → k < held.plan.count
    → name_at k + 8 ≤ length file
unfolding plan_file preamble
shown_within file {held} e k h =
    let t = through (preamble file 0) e in
    let t₁ = through (head true file 0) t.is in
    let x₁ = (head_read file t₁.is).end in
    let t₂ = through (all_jobs t₁.value.count [] file t₁.next) t₁.on in
    let t₃ = through (checked 2 (rows_allowed_in t₁.value.version) too_many_rows file t₂.next) t₂.on in
    let x₂ = (jobs_extent t₁.value.count [] file t₁.next t₂.value t₂.next t₂.is).1 in
    let u₁ = through (all_rows t.value.rows most_intervals t.value.names (intervals t.value.plan) 0 (replicate places 0) file t.next) t.on in
    let u₂ = through (ended file u₁.next) u₁.on in
    let q : t₁.value.count ≡ held.plan.count
    = ap (λ (f : Preamble). f.plan.count) (same_value t₃.on) ∙ ap (λ (h : Contents). h.plan.count) (same_value u₂.on) in
    omega (arith, q, x₁, x₂ (omega (arith, q)))

pub shown_inside : (file : List ℕ) (k : ℕ) → k < count_of (read_file file) → name_at k + 8 ≤ length file
shown_inside file k h = by (read_file file) refl h
  where
    by : (s : Parsed Contents) → read_file file ≡ s → k < count_of s → name_at k + 8 ≤ length file
    by (got held end) e h = shown_within file e k h
    by (no refusal) e h = absurd (omega arith)
