-- The name lookup shows the bytes of the name that the reader stored.
use mathlib.Core.Path.{◌≡◌, refl, sym, ◌∙◌, ap}
use mathlib.Core.List.{List, [], ◌++◌}
use Prim.Native.Nat.{ℕ, suc, ◌+◌, ◌*◌, ◌-◌, ◌<◌}
use native.Mathlib.Omega.{arith}
use lib.ListN.{length, take}
use lib.Seq.{take_at}
use Rattle.plan.specs.Edition.{most_jobs}
use Rattle.planfields.specs.Layout.{job_length}
use Rattle.plan.specs.Rules.{no_job, job_of, name}
use Rattle.plan.specs.declared.kinds.Plan.{Plan}
use Rattle.fields.specs.Bytes.{bytes}
use Rattle.fields.specs.Parsers.{got}
use Rattle.planfile.specs.Reader.{plan_from, Contents, read_file, name_shown}
use Rattle.planwriter.specs.Writing.{job_bytes, jobs_bytes}
use Rattle.fields.proofs.ByteLaws.{Octets, length_bytes}
use Rattle.planwriter.proofs.JobAndRowBytes.{jobs_long}
use Rattle.planfile.proofs.WholeFile.{shown_part}
use Rattle.fields.proofs.BytesAt.{Stands, stands_first, stands_rest, stands_as}
use Rattle.roundtrip.proofs.JobRoundTrip.{span_bytes, span_on, span_whole, jobs_again}
use Rattle.base.proofs.Padding.{get_or_pad}
use Rattle.roundtrip.proofs.WriteAfterRead.{FileRead, file_read}

-- The bytes of m + 1 jobs from job k on begin with those of job k.
span_first : (p : Plan) (k m : ℕ) → span_bytes p k (suc m) ≡ job_bytes (job_of p k) ++ span_bytes p (suc k) m
unfolding span_bytes
span_first p k m = refl

-- A file that is read has the written bytes of job k at offset 10 + k × (1 + job_length).
job_stands : (file : List ℕ) → Octets file → {contents : Contents} → FileRead file contents → (k : ℕ) → k < contents.plan.count
    → (next : ℕ) × Stands file (10 + k * (1 + job_length)) (job_bytes (job_of contents.plan k)) next
job_stands file octets {contents} r k h =
    let p = plan_from r.h r.jobs in
    let count = r.h.count in
    let less : k < count = rw r.is at h in
    let m = count - suc k in
    let all = jobs_again p count [] file 10 r.jobs r.after_jobs octets (λ i l. get_or_pad r.jobs (most_jobs - length r.jobs) i no_job) r.read in
    let split : span_bytes p 0 count ≡ jobs_bytes p k ++ (job_bytes (job_of p k) ++ span_bytes p (suc k) m)
    = span_whole p count ∙ ap (jobs_bytes p) (let e : count ≡ k + suc m = omega arith in e) ∙ sym (span_on p k (suc m))
    ∙ ap (λ l. jobs_bytes p k ++ l) (span_first p k m) in
    let rest = stands_rest (jobs_bytes p k) (job_bytes (job_of p k) ++ span_bytes p (suc k) m) (stands_as all split) in
    let here = stands_first (job_bytes (job_of p k)) (span_bytes p (suc k) m) rest in
    (_, moved here (ap (λ n. 10 + n) (jobs_long p k)) (ap (λ q. job_bytes (job_of q k)) (sym r.is)))
  where
    moved : {a b next : ℕ} {x y : List ℕ} → Stands file a x next → a ≡ b → x ≡ y → Stands file b y next
    moved s e f = rw f at (rw e at s)

-- For a file that is read, the name lookup shows the eight bytes of the name
-- that the reader stored.
pub shown_stored : (file : List ℕ) → Octets file → {contents : Contents} {end : ℕ} → read_file file ≡ got contents end → (k : ℕ) → k < contents.plan.count
    → name_shown file k ≡ bytes 8 (name contents.plan k)
unfolding name_shown
shown_stored file octets {contents} {end} e k h =
    let s = (job_stands file octets (file_read file e) k h).1 in
    let j = job_of contents.plan k in
    let a = bytes 1 job_length in
    let b = bytes 8 j.name.0 in
    let s₅ = stands_first (a ++ b ++ bytes 1 j.grade ++ bytes 4 j.release.0 ++ bytes 4 j.size.0) (bytes 4 j.deadline.0) s in
    let s₄ = stands_first (a ++ b ++ bytes 1 j.grade ++ bytes 4 j.release.0) (bytes 4 j.size.0) s₅ in
    let s₃ = stands_first (a ++ b ++ bytes 1 j.grade) (bytes 4 j.release.0) s₄ in
    let s₂ = stands_first (a ++ b) (bytes 1 j.grade) s₃ in
    let name_stands = rw (length_bytes 1 job_length) at (stands_rest a b s₂) in
    rw e (shown_part (got contents end) file k h) ∙ ap (take 8) name_stands.is ∙ take_at b _ 8 (length_bytes 8 j.name.0)
