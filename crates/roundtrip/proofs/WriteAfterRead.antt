-- Write after read: writing what was read gives the file back, byte for byte.
-- So two files with the same contents are equal.
use mathlib.Core.Path.{◌≡◌, refl, sym, ◌∙◌, ap}
use mathlib.Core.Bool.{true}
use mathlib.Core.List.{List, [], ◌++◌, append-nil}
use Prim.Native.Nat.{ℕ, ◌-◌}
use native.Mathlib.Omega.{arith}
use borrow.Author.Tests.{leb-true}
use lib.Dec.{leb}
use lib.ListN.{length, drop, replicate, length-map}
use lib.Seq.{drop-length}
use Rattle.plan.specs.Edition.{most_jobs, most_intervals, places}
use Rattle.plan.specs.Versions.{newest_version, rows_allowed_in, version_for}
use Rattle.plan.specs.Refusal.{too_many_rows}
use Rattle.plan.specs.Rules.{no_job, names}
use Rattle.plan.specs.Boundaries.{intervals}
use Rattle.plan.specs.declared.kinds.Job.{Job}
use Rattle.plan.specs.declared.kinds.Plan.{Plan}
use Rattle.base.proofs.Logic.{both}
use Rattle.base.proofs.Padding.{get_or_pad}
use Rattle.plan.proofs.VersionLimits.{version_written}
use Rattle.fields.specs.Bytes.{bytes}
use Rattle.fields.specs.Parsers.{got, checked, ended}
use Rattle.planfields.specs.Records.{Head, head}
use Rattle.plan.specs.JobLists.{names_of}
use Rattle.planfile.specs.Reader.{all_jobs, plan_from, Preamble, preamble, all_rows, Contents, plan_file, read_file}
use Rattle.planwriter.specs.Writing.{rows_bytes, row_count, body, written}
use Rattle.fields.proofs.ByteLaws.{Octets}
use Rattle.fields.proofs.ParserLaws.{through, checked_is, same_value, same_next}
use Rattle.fields.proofs.OpeningLaws.{opening_read, ended_at}
use Rattle.fields.proofs.BytesAt.{Stands, stands_then, field_again}
use Rattle.fields.proofs.RoundTripLaws.{opening_again}
use Rattle.planfile.proofs.PreambleLaws.{Fine, preamble_fine}
use Rattle.planfile.proofs.Offsets.{HeadRead, head_read}
use Rattle.planwriter.proofs.WrittenFile.{body_of, written_of}
use Rattle.roundtrip.proofs.JobRoundTrip.{span_whole, jobs_again}
use Rattle.roundtrip.proofs.RowRoundTrip.{Filled, rows_again}
use Rattle.roundtrip.proofs.KeptPlan.{names_read, rows_names}

-- The parts of a file that is read, at their offsets.
pub record FileRead (file : List ℕ) (held : Contents) : Type 0 where
  pub h : Head
  pub jobs : List Job
  pub rows : ℕ
  pub after_jobs : ℕ
  pub after_rows : ℕ
  pub last : ℕ
  pub headed : HeadRead file h 10
  pub read : all_jobs h.count [] file 10 ≡ got jobs after_jobs
  pub counted : checked 2 (rows_allowed_in h.version) too_many_rows file after_jobs ≡ got rows after_rows
  pub stored : all_rows rows most_intervals (names_of jobs) (intervals (plan_from h jobs)) 0 (replicate places 0) file after_rows ≡ got held.table last
  pub end : last ≡ length file
  pub fine : Fine (record { plan = plan_from h jobs; names = names_of jobs; rows = rows })
  pub is : held.plan ≡ plan_from h jobs

-- `FileRead` from the results of the parsers, with plain variables as values.
preamble_parts : (file : List ℕ) {f : Preamble} {at : ℕ} {table : List ℕ} {last end : ℕ} {u : Unit {0}} {held : Contents} {h : Head} {jobs : List Job} {rows n₁ n₂ n₃ : ℕ}
    → Fine f → head true file 0 ≡ got h n₁ → all_jobs h.count [] file n₁ ≡ got jobs n₂
    → checked 2 (rows_allowed_in h.version) too_many_rows file n₂ ≡ got rows n₃
    → record { plan = plan_from h jobs; names = names_of jobs; rows = rows } ≡ f → n₃ ≡ at
    → all_rows f.rows most_intervals f.names (intervals f.plan) 0 (replicate places 0) file at ≡ got table last → ended file last ≡ got u end
    → record { plan = f.plan; table = table } ≡ held → FileRead file held
preamble_parts file {last = last} {h = h} {jobs} {rows} {n₁} {n₂} {n₃} fine e₁ e₂ e₃ f at e₄ e₅ held =
    let hr = head_read file e₁ in
    record {
      h = h;
      jobs = jobs;
      rows = rows;
      after_jobs = n₂;
      after_rows = n₃;
      last = last;
      headed = rw hr.end at hr;
      read = rw hr.end at e₂;
      counted = e₃;
      stored = rw (← f, ← at) at e₄ ∙ ap (λ (h : Contents). got h.table last) held;
      end = ended_at file last e₅;
      fine = rw (← f) at fine;
      is = ap (λ (h : Contents). h.plan) (sym held) ∙ ap (λ (f : Preamble). f.plan) (sym f);
    }

-- A file that is read has all its parts.
pub file_read : (file : List ℕ) {held : Contents} {end : ℕ} → read_file file ≡ got held end → FileRead file held
unfolding plan_file preamble
file_read file e =
    let t = through (preamble file 0) e in
    let t₁ = through (head true file 0) t.is in
    let t₂ = through (all_jobs t₁.value.count [] file t₁.next) t₁.on in
    let t₃ = through (checked 2 (rows_allowed_in t₁.value.version) too_many_rows file t₂.next) t₂.on in
    let u₁ = through (all_rows t.value.rows most_intervals t.value.names (intervals t.value.plan) 0 (replicate places 0) file t.next) t.on in
    let u₂ = through (ended file u₁.next) u₁.on in
    preamble_parts file (preamble_fine file t.is) t₁.is t₂.is t₃.is (same_value t₃.on) (same_next t₃.on) u₁.is u₂.is (same_value u₂.on)

-- The parts of a file that is read are consecutive,
-- and together they are the written file of its contents.
module _ (file : List ℕ) (octets : Octets file) {held : Contents} (r : FileRead file held) where
  abbrev plan_read : Plan
  plan_read = plan_from r.h r.jobs

  pub filled : Filled (names_of r.jobs) (intervals plan_read) r.fine.differ r.fine.spans file r.rows places 0 [] r.after_rows held.table r.last
  filled =
      rows_again (names_of r.jobs) (intervals plan_read) r.fine.differ r.fine.spans file r.rows places 0 [] r.after_rows held.table r.last
      octets refl (omega (arith, r.fine.many, r.fine.few)) r.stored

  body_stands : Stands file 5 (body plan_read held.table) r.last
  body_stands =
      let few = r.fine.few in
      let p = plan_read in
      let c = (checked_is 2 (rows_allowed_in r.h.version) too_many_rows file r.after_jobs r.counted).0 in
      let jobs = jobs_again p r.h.count [] file 10 r.jobs r.after_jobs octets (λ k h. get_or_pad r.jobs (most_jobs - length r.jobs) k no_job) r.read in
      let rows : rows_bytes most_intervals (names_of r.jobs) 0 filled.numbers ≡ rows_bytes most_intervals (names p) 0 held.table
      = ap (rows_bytes most_intervals (names_of r.jobs) 0) (sym filled.is) ∙ sym (rows_names most_intervals (names p) (names_of r.jobs) (names_read r.h r.jobs (sym (length-map r.jobs (λ (j : Job). j.name.0)) ∙ r.fine.many) few) 0 held.table) in
      rw (body_of p held.table few (sym filled.rows ∙ ap row_count (sym filled.is)) refl) at
      (stands_then
      (stands_then
      (stands_then
      (stands_then (stands_then (field_again 2 file 5 octets r.headed.normal).0 (field_again 2 file 7 octets r.headed.floor).0)
      (field_again 1 file 9 octets r.headed.jobs).0)
      (rw (span_whole p r.h.count) at jobs))
      (field_again 2 file r.after_jobs octets c).0)
      (rw rows at filled.stands))

  pub written_again : written held.plan held.table ≡ file
  written_again =
      let h = r.h in
      let b = body plan_read held.table in
      let o = opening_read newest_version file r.headed.opened in
      let known = both (leb 1 h.version) (leb h.version newest_version) o.known in
      let version : version_for h.count ≡ h.version
      = version_written h.version h.count (leb-true 1 h.version known.0) (leb-true h.version newest_version known.1) r.headed.some in
      let follows : o.says ≡ length b = omega (arith, o.counts, r.end, body_stands.ends) in
      let all = stands_then (rw (follows, ← version) at (opening_again file octets o)) body_stands in
      let front = bytes 1 (version_for h.count) ++ bytes 4 (length b) in
      ap (λ p. written p held.table) r.is ∙ sym (written_of plan_read held.table)
      ∙ sym (append-nil _) ∙ ap (λ l. front ++ b ++ l) (sym (drop-length file))
      ∙ ap (λ n. front ++ b ++ drop n file) (sym r.end) ∙ sym all.is

-- Writing the contents of a file that is read gives the file.
pub write_after_read : (file : List ℕ) → Octets file → {held : Contents} {end : ℕ} → read_file file ≡ got held end → written held.plan held.table ≡ file
write_after_read file octets e = written_again file octets (file_read file e)

-- Two files with the same contents are equal.
pub one_file : (a b : List ℕ) → Octets a → Octets b → {held : Contents} {m n : ℕ} → read_file a ≡ got held m → read_file b ≡ got held n → a ≡ b
one_file a b oa ob ea eb = sym (write_after_read a oa ea) ∙ write_after_read b ob eb
