-- What the import takes meets rules 5 to 9, and is a list as the code has it: all records, and names of eight bytes.
use mathlib.Core.Path.{◌≡◌, refl, sym, ◌∙◌, ap}
use mathlib.Core.Bool.{Bool, true, false, not, cond, ◌&&◌}
use mathlib.Core.List.{List, [], ◌∷◌, ◌++◌}
use Prim.Native.Nat.{ℕ, zero, suc, ◌+◌, ◌-◌, ◌^◌, ◌≤◌, ◌<◌}
use native.Mathlib.Omega.{arith}
use borrow.Author.Tests.{leb-true, le-leb, eqb-true}
use lib.Dec.{leb, eqb}
use lib.ListN.{length, get_or, get_or-append, get_or-map, length-map}
use lib.Seq.{get_or_at}
use Rattle.base.proofs.Below.{every_at, every_all}
use Rattle.base.proofs.Logic.{below-or-last}
use Rattle.base.proofs.Padding.{get_or_pad}
use Rattle.plan.specs.Kinds.{Bytes}
use Rattle.plan.specs.Edition.{name_bytes, most_jobs}
use Rattle.plan.specs.Refusal.{wrong_job_count, wrong_name_byte, name_taken, wrong_grade, wrong_job_bounds, wrong_line, wrong_header}
use Rattle.plan.specs.Rules.{name_allowed, is_absent, grade_allowed, window_allowed, size_allowed, same_name, no_job, names_hold, names_differ, grades_hold, bounds_hold, jobs_hold}
use Rattle.plan.specs.declared.kinds.Job.{Job}
use Rattle.fields.specs.Parsers.{Parsed, got, no, Parser, onward}
use Rattle.fields.proofs.ByteLaws.{value_below}
use Rattle.fields.proofs.ParserLaws.{through, past, same_value}
use Rattle.csvtext.specs.Grammar.{comma, line_end}
use Rattle.plan.specs.JobLists.{names_of, list_of}
use Rattle.csvtext.specs.Items.{exactly, item, name_item, grade_item, number_item}
use Rattle.joblist.specs.Import.{Line, line, one_job, all_lines, header, job_text, imported_from, imported}
use Rattle.csvtext.proofs.ItemLaws.{item_small}
use Rattle.plan.proofs.JobLists.{length_snoc}

-- The job at an index.
abbrev job_at : List Job → ℕ → Job
job_at jobs i = get_or jobs i no_job

-- Rule 9 for a job.
abbrev in_bounds : Job → Bool
in_bounds j = window_allowed j.release.0 j.deadline.0 && size_allowed j.size.0

-- A job that is read passes rules 6 to 9.
record Passes (earlier : List ℕ) (j : Job) : Type 0 where
  allowed : name_allowed j.name.0 ≡ true
  absent : is_absent earlier j.name.0 ≡ true
  graded : grade_allowed j.grade ≡ true
  bounded : in_bounds j ≡ true
  eight : j.name.0 < 256 ^ 8

passes_as : {earlier : List ℕ} {j k : Job} → Passes earlier j → j ≡ k → Passes earlier k
passes_as p e = rw e at p

-- A name that is read has eight bytes.
name_eight : (from : ℕ) (text : List ℕ) (at : ℕ) {x next : ℕ} → name_item from text at ≡ got x next → x < 256 ^ 8
unfolding name_item
name_eight from text at e =
    let t = through (item (comma ∷ []) from text at) e in
    let p = past (eqb (length t.value) name_bytes) wrong_line from text t.next t.on in
    let below = value_below t.value (item_small (comma ∷ []) from text at t.is) in
    let long : length t.value ≡ 8 = eqb-true (length t.value) name_bytes p.is in
    rw (sym (same_value p.on)) (rw long at below)

line_eight : (text : List ℕ) (at : ℕ) {l : Line} {next : ℕ} → line text at ≡ got l next → l.name < 256 ^ 8
unfolding line
line_eight text at e =
    let t₁ = through (name_item at text at) e in
    let t₂ = through (grade_item at text t₁.next) t₁.on in
    let t₃ = through (number_item (comma ∷ []) at text t₂.next) t₂.on in
    let t₄ = through (number_item (comma ∷ []) at text t₃.next) t₃.on in
    let t₅ = through (number_item line_end at text t₄.next) t₄.on in
    rw (ap (λ (l : Line). l.name) (sym (same_value t₅.on))) (name_eight at text at t₁.is)

job_passes : (earlier text : List ℕ) (at : ℕ) {j : Job} {next : ℕ} → one_job earlier text at ≡ got j next → Passes earlier j
unfolding one_job
job_passes earlier text at e =
    let t = through (line text at) e in
    let l = t.value in
    let t₁ = past (name_allowed l.name) wrong_name_byte at text t.next t.on in
    let t₂ = past (is_absent earlier l.name) name_taken at text t.next t₁.on in
    let t₃ = past (grade_allowed l.grade) wrong_grade l.grade_at text t.next t₂.on in
    let t₄ = past (window_allowed l.release l.deadline && size_allowed l.size) wrong_job_bounds l.release_at text t.next t₃.on in
    passes_as (record { allowed = t₁.is; absent = t₂.is; graded = t₃.is; bounded = t₄.is; eight = line_eight text at t.is }) (same_value t₄.on)

-- All jobs of a list pass rules 6 to 9.
record Fine (jobs : List Job) : Type 0 where
  allowed : (i : ℕ) → i < length jobs → name_allowed (job_at jobs i).name.0 ≡ true
  apart : (i : ℕ) → i < length jobs → (k : ℕ) → k < i → not (same_name (job_at jobs k).name.0 (job_at jobs i).name.0) ≡ true
  graded : (i : ℕ) → i < length jobs → grade_allowed (job_at jobs i).grade ≡ true
  bounded : (i : ℕ) → i < length jobs → in_bounds (job_at jobs i) ≡ true
  eight : (i : ℕ) → i < length jobs → (job_at jobs i).name.0 < 256 ^ 8

fine_none : Fine []
fine_none =
    record {
      allowed = λ i h. absurd (omega arith);
      apart = λ i h k l. absurd (omega arith);
      graded = λ i h. absurd (omega arith);
      bounded = λ i h. absurd (omega arith);
      eight = λ i h. absurd (omega arith);
    }

-- One job more.
module _ (jobs : List Job) (j : Job) where
  front : (i : ℕ) → i < length jobs → job_at (jobs ++ (j ∷ [])) i ≡ job_at jobs i
  front i h = get_or-append jobs (j ∷ []) no_job i h

  back : (i : ℕ) → i ≡ length jobs → job_at (jobs ++ (j ∷ [])) i ≡ j
  back i e = get_or_at jobs j [] no_job i (sym e)

  -- What holds of all jobs and of the new one holds of all.
  on_all : (p : Job → Bool) → ((i : ℕ) → i < length jobs → p (job_at jobs i) ≡ true) → p j ≡ true
      → (i : ℕ) → i < length (jobs ++ (j ∷ [])) → p (job_at (jobs ++ (j ∷ [])) i) ≡ true
  on_all p old new i h =
      below-or-last i (length jobs) (rw length_snoc at h) (λ l. ap p (front i l) ∙ old i l) (λ e. ap p (back i e) ∙ new)

  new_name : is_absent (names_of jobs) j.name.0 ≡ true → (k : ℕ) → k < length jobs → not (same_name (job_at jobs k).name.0 j.name.0) ≡ true
  unfolding is_absent
  new_name t k h =
      rw (get_or-map (λ (x : Job). x.name.0) jobs k no_job) at
      (every_at (λ k. not (eqb (get_or (names_of jobs) k 0) j.name.0)) (length (names_of jobs)) k t (rw (length-map jobs (λ (x : Job). x.name.0)) h))

  fine_next : Fine jobs → Passes (names_of jobs) j → Fine (jobs ++ (j ∷ []))
  fine_next so p =
      record {
        allowed = on_all (λ x. name_allowed x.name.0) so.allowed p.allowed;
        apart = λ i h k l.
            let m : k < length jobs = omega (arith, length_snoc jobs j) in
            below-or-last i (length jobs) (rw length_snoc at h)
            (λ b. rw (front i b, front k m) (so.apart i b k l))
            (λ e. rw (back i e, front k m) (new_name p.absent k m));
        graded = on_all (λ x. grade_allowed x.grade) so.graded p.graded;
        bounded = on_all in_bounds so.bounded p.bounded;
        eight = λ i h.
            below-or-last i (length jobs) (rw length_snoc at h)
            (λ b. rw (front i b) (so.eight i b)) (λ e. rw (back i e) p.eight);
      }

-- Lines that are read keep all jobs fine, and there is room for them.
lines_fine : (room : ℕ) (jobs : List Job) (text : List ℕ) (at : ℕ) (all : List Job) (next : ℕ) → all_lines room jobs text at ≡ got all next
    → Fine jobs → Fine all × (length all ≤ length jobs + room)
unfolding all_lines
lines_fine zero jobs text at all next e so =
    let q = same_value (past (leb (length text) at) wrong_job_count at text at e).on in
    (rw q at so, omega (arith, ap length q))
lines_fine (suc room) jobs text at all next e so = by (leb (length text) at) (λ j n. lines_fine room (jobs ++ (j ∷ [])) text n all next) e
  where
    by : (b : Bool)
        → ((j : Job) (n : ℕ) → all_lines room (jobs ++ (j ∷ [])) text n ≡ got all next → Fine (jobs ++ (j ∷ []))
        → Fine all × (length all ≤ length (jobs ++ (j ∷ [])) + room))
        → cond {A = Parser (List Job)} b (λ (file : List ℕ) (from : ℕ). got jobs from)
        (λ (file : List ℕ) (from : ℕ). onward (one_job (names_of jobs) file from) (λ j. all_lines room (jobs ++ (j ∷ []))) file) text at
        ≡ got all next
        → Fine all × (length all ≤ length jobs + suc room)
    by true rest e = let q = same_value e in (rw q at so, omega (arith, ap length q))
    by false rest e =
        let t = through (one_job (names_of jobs) text at) e in
        let r = rest t.value t.next t.on (fine_next jobs t.value so (job_passes (names_of jobs) text at t.is)) in
        (r.0, omega (arith, r.1, length_snoc jobs t.value))

-- A list of fine jobs, from one to `most_jobs`, meets rules 5 to 9.
module _ (jobs : List Job) (so : Fine jobs) (some : 1 ≤ length jobs) (few : length jobs ≤ most_jobs) where
  pad : (i : ℕ) → get_or (list_of jobs).jobs i no_job ≡ job_at jobs i
  pad i = get_or_pad jobs (most_jobs - length jobs) i no_job

  names_hold_lem : names_hold (list_of jobs) ≡ true
  unfolding names_hold
  names_hold_lem = every_all _ _ (λ i h. rw (pad i) (so.allowed i (omega arith)))

  names_differ_lem : names_differ (list_of jobs) ≡ true
  unfolding names_differ
  names_differ_lem = every_all _ _ (λ i h. every_all _ _ (λ k l. rw (pad i, pad k) (so.apart i (omega arith) k l)))

  grades_hold_lem : grades_hold (list_of jobs) ≡ true
  unfolding grades_hold
  grades_hold_lem = every_all _ _ (λ i h. rw (pad i) (so.graded i (omega arith)))

  bounds_hold_lem : bounds_hold (list_of jobs) ≡ true
  unfolding bounds_hold
  bounds_hold_lem = every_all _ _ (λ i h. rw (pad i) (so.bounded i (omega arith)))

  fine_holds : jobs_hold (list_of jobs) ≡ true
  fine_holds =
      rw (le-leb 1 (length jobs) some, le-leb (length jobs) most_jobs few, names_hold_lem, names_differ_lem, grades_hold_lem, bounds_hold_lem) refl

-- What a text that is read gives.
pub record Taken (jobs : List Job) : Type 0 where
  pub holds : jobs_hold (list_of jobs) ≡ true
  pub few : length jobs ≤ most_jobs
  pub eight : (i : ℕ) → i < length jobs → (get_or jobs i no_job).name.0 < 256 ^ 8

taken_as : {jobs all : List Job} → Taken jobs → jobs ≡ all → Taken all
taken_as t e = rw e at t

pub text_taken : (text : List ℕ) {jobs : List Job} {next : ℕ} → job_text text 0 ≡ got jobs next → Taken jobs
unfolding job_text
text_taken text e =
    let t₁ = through (exactly header wrong_header 0 text 0) e in
    let t₂ = through (all_lines most_jobs [] text t₁.next) t₁.on in
    let t₃ = past (leb 1 (length t₂.value)) wrong_job_count t₂.next text t₂.next t₂.on in
    let f = lines_fine most_jobs [] text t₁.next t₂.value t₂.next t₂.is fine_none in
    let few : length t₂.value ≤ most_jobs = omega (arith, f.1) in
    taken_as (record { holds = fine_holds t₂.value f.0 (leb-true 1 (length t₂.value) t₃.is) few; few = few; eight = f.0.eight })
    (same_value t₃.on)

-- An import with an empty report has read jobs that meet rules 5 to 9.
pub import_holds : (text : Bytes) → (imported text).answer ≡ [] → jobs_hold (imported text).list ≡ true
unfolding imported
import_holds text e = by (job_text text 0) refl e
  where
    by : (s : Parsed (List Job)) → job_text text 0 ≡ s → (imported_from s).answer ≡ [] → jobs_hold (imported_from s).list ≡ true
    by (got jobs next) h e = (text_taken text h).holds
    by (no k) h e = absurd (let z : ◌≡◌ {A = ℕ} 0 1 = cc in omega arith)
