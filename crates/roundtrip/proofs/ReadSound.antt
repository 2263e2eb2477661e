-- What the reader reads is sound:
-- a file is read exactly when it is the written file of some sound plan.
use mathlib.Core.Path.{◌≡◌, sym, ◌∙◌, ap}
use mathlib.Core.Bool.{true, not, ◌&&◌}
use mathlib.Core.List.{List, [], ◌∷◌, ◌++◌, append_assoc, append-nil}
use mathlib.Core.Logic.{◌↔◌, ⊎_elim}
use Prim.Native.Nat.{ℕ, zero, suc, ◌+◌, ◌-◌, ◌≤◌, ◌<◌, ◌^◌}
use native.Mathlib.Nat.{eq-or-lt_of_le}
use native.Mathlib.Omega.{arith}
use lib.Dec.{eqb}
use lib.ListN.{length, get_or, take, length-map}
use lib.Seq.{take_at, take_all, get_or_at, length-take-le}
use Rattle.plan.specs.Edition.{most_jobs, most_intervals, places}
use Rattle.base.specs.Below.{every}
use Rattle.plan.specs.Rules.{no_job, job_of, name, release, size, deadline, counted, name_allowed, same_name, is_absent, grade_allowed, window_allowed, size_allowed, names_hold, names_differ, grades_hold, bounds_hold, rules_hold}
use Rattle.plan.specs.Boundaries.{intervals}
use Rattle.plan.specs.Table.{no_stray, sound}
use Rattle.plan.specs.declared.kinds.Job.{Job}
use Rattle.plan.specs.declared.kinds.Plan.{Plan}
use Rattle.base.proofs.Below.{every_ext, every_all}
use Rattle.fields.specs.Parsers.{got}
use Rattle.planfields.specs.Records.{one_job}
use Rattle.plan.proofs.VersionLimits.{count_in_hand}
use Rattle.plan.specs.JobLists.{names_of}
use Rattle.planfile.specs.Reader.{all_jobs, plan_from, Contents, read_file}
use Rattle.planwriter.specs.Writing.{written}
use Rattle.fields.proofs.ByteLaws.{Octets}
use Rattle.fields.proofs.ParserLaws.{through, same_value}
use Rattle.plan.proofs.JobLists.{length_snoc, records_length}
use Rattle.planwriter.proofs.WrittenFile.{counted_is}
use Rattle.roundtrip.proofs.JobRoundTrip.{Readable, job_law}
use Rattle.roundtrip.proofs.KeptPlan.{names_prefix, kept}
use Rattle.base.proofs.Padding.{get_or_pad}
use Rattle.roundtrip.proofs.ReadAfterWrite.{read_own}
use Rattle.roundtrip.proofs.WriteAfterRead.{FileRead, file_read, filled, write_after_read}

-- Reading more jobs appends them to those already read.
jobs_grow : (n : ℕ) (jobs : List Job) (file : List ℕ) (at : ℕ) (all : List Job) (next : ℕ) → all_jobs n jobs file at ≡ got all next
    → (rest : List Job) × (all ≡ jobs ++ rest)
unfolding all_jobs
jobs_grow zero jobs file at all next e = ([], sym (same_value e) ∙ sym (append-nil jobs))
jobs_grow (suc n) jobs file at all next e =
    let t = through (one_job (names_of jobs) file at) e in
    let g = jobs_grow n (jobs ++ (t.value ∷ [])) file t.next all next t.on in
    (t.value ∷ g.0, g.1 ∙ append_assoc jobs (t.value ∷ []) g.0)

-- Each job that is read is `Readable` after the jobs before it.
jobs_readable : (n : ℕ) (jobs : List Job) (file : List ℕ) (at : ℕ) (all : List Job) (next : ℕ) → Octets file → all_jobs n jobs file at ≡ got all next
    → (k : ℕ) → length jobs ≤ k → k < length jobs + n → Readable (names_of (take k all)) (get_or all k no_job)
unfolding all_jobs
jobs_readable zero jobs file at all next octets e k l h = absurd (omega arith)
jobs_readable (suc n) jobs file at all next octets e k l h =
    let t = through (one_job (names_of jobs) file at) e in
    let long = length_snoc jobs t.value in
    let here = ((job_law file (names_of jobs)).again octets at t.is).1 in
    let g = jobs_grow n (jobs ++ (t.value ∷ [])) file t.next all next t.on in
    let whole : all ≡ jobs ++ (t.value ∷ g.0) = g.1 ∙ append_assoc jobs (t.value ∷ []) g.0 in
    ⊎_elim
    (λ same. moved here
    (sym (ap (take k) whole ∙ take_at jobs (t.value ∷ g.0) k same))
    (sym (ap (λ l. get_or l k no_job) whole ∙ get_or_at jobs t.value g.0 no_job k same)))
    (λ more. jobs_readable n (jobs ++ (t.value ∷ [])) file t.next all next octets t.on k (omega (arith, long, more)) (omega (arith, long)))
    (eq-or-lt_of_le {n = length jobs} {m = k} l)
  where
    moved : {a b : List Job} {i j : Job} → Readable (names_of a) i → a ≡ b → i ≡ j → Readable (names_of b) j
    moved r p q = rw q at (rw p at r)

-- The plan of a file that is read obeys rules 4 to 9 and, with its table, is sound.
module _ (file : List ℕ) (octets : Octets file) {held : Contents} (r : FileRead file held) where
  abbrev p : Plan
  p = plan_from r.h r.jobs

  count_is : counted p ≡ r.h.count
  count_is = counted_is p r.fine.few

  job_is : (k : ℕ) → job_of p k ≡ get_or r.jobs k no_job
  job_is k = get_or_pad r.jobs (most_jobs - length r.jobs) k no_job

  each : (k : ℕ) → k < counted p → Readable (names_of (take k r.jobs)) (job_of p k)
  each k h =
      like (jobs_readable r.h.count [] file 10 r.jobs r.after_jobs octets r.read k (omega arith) (omega (arith, rw count_is at h))) (sym (job_is k))
    where
      like : {l : List ℕ} {i j : Job} → Readable l i → i ≡ j → Readable l j
      like x e = rw e at x

  pub rules_read : rules_hold p ≡ true
  unfolding rules_hold names_hold names_differ grades_hold bounds_hold is_absent
  rules_read =
      rw (
        r.headed.rates,
        count_in_hand r.h.version r.h.count r.headed.some,
        every_all (λ i. name_allowed (name p i)) (counted p) (λ k h. (each k h).allowed),
        every_all (λ i. every (λ k. not (same_name (name p k) (name p i))) i) (counted p) (λ k h. differ k h),
        every_all (λ i. grade_allowed (job_of p i).grade) (counted p) (λ k h. (each k h).graded),
        every_all (λ i. window_allowed (release p i) (deadline p i) && size_allowed (size p i)) (counted p) (λ k h. (each k h).bounds),
      )
    where
      differ : (k : ℕ) → k < counted p → every (λ i. not (same_name (name p i) (name p k))) k ≡ true
      differ k h =
          let taken = names_of (take k r.jobs) in
          let many : length r.jobs ≡ r.h.count = sym (length-map r.jobs (λ (j : Job). j.name.0)) ∙ r.fine.many in
          let n : length taken ≡ k
          = length-map (take k r.jobs) (λ (j : Job). j.name.0) ∙ length-take-le k r.jobs (omega (arith, many, rw count_is at h)) in
          every_ext (λ i. not (same_name (name p i) (name p k))) (λ i. not (eqb (get_or taken i 0) (name p k))) k
          (λ i l. ap (λ x. not (eqb x (name p k))) (ap (λ (j : Job). j.name.0) (job_is i) ∙ sym (names_prefix r.jobs k i l)))
          ∙ ap (every (λ i. not (eqb (get_or taken i 0) (name p k)))) (sym n) ∙ (each k h).absent

  pub sound_read : sound p held.table ≡ true
  unfolding sound
  sound_read =
      let f = filled file octets r in
      let table_is : held.table ≡ f.numbers = f.is in
      let own : take places held.table ≡ held.table = take_all places held.table (omega (arith, ap length table_is, f.long)) in
      let clear : no_stray most_intervals r.h.count (intervals p) 0 held.table ≡ true
      = rw (sym table_is, r.fine.many) at f.clear in
      rw (rules_read, own) (ap (λ k. no_stray most_intervals k (intervals p) 0 held.table) count_is ∙ clear)

-- A plan and its own places that the writer can be given:
-- sound, and within the bounds that the code's types give.
pub record Proper (q : Plan) (table : List ℕ) : Type 0 where
  pub is : sound q table ≡ true
  pub exact : length table ≡ places
  pub records : length q.jobs ≡ most_jobs
  pub named : (i : ℕ) → i < q.count → name q i < 256 ^ 8
  pub entries : (k : ℕ) → get_or table k 0 < 256 ^ 4

-- The contents of a file that is read are `Proper`.
pub read_proper : (file : List ℕ) → Octets file → {held : Contents} {end : ℕ} → read_file file ≡ got held end → Proper held.plan held.table
read_proper file octets {held} e =
    let r = file_read file e in
    let f = filled file octets r in
    let many : length r.jobs ≡ r.h.count = sym (length-map r.jobs (λ (j : Job). j.name.0)) ∙ r.fine.many in
    like r.is
    (record {
      is = sound_read file octets r;
      exact = ap length f.is ∙ f.long;
      records = records_length r.jobs (omega (arith, many, r.fine.few));
      named = λ i h. (each file octets r i (rw (count_is file octets r) h)).fits;
      entries = λ k. rw f.is (f.small k);
    })
  where
    like : {a b : Plan} {t : List ℕ} → a ≡ b → Proper b t → Proper a t
    like e x = rw e x

-- A file is read exactly when it is the written file of some sound plan.
pub taken_exactly : (file : List ℕ) → Octets file
    → ((held : Contents) × (end : ℕ) × (read_file file ≡ got held end)) ↔ ((q : Plan) × (table : List ℕ) × Proper q table × (written q table ≡ file))
taken_exactly file octets = (
  λ t. (t.0.plan, t.0.table, read_proper file octets t.2, write_after_read file octets t.2),
  λ w.
      let x = w.2 in (
        record { plan = kept w.0; table = w.1 },
        length (written w.0 w.1),
        ap read_file (sym w.3) ∙ read_own w.0 w.1 x.is x.exact x.records x.named x.entries,
      ),
)
