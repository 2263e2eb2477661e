-- Importing the text that the export writes gives the list's jobs.
use mathlib.Core.Path.{◌≡◌, refl, sym, ◌∙◌, ap}
use mathlib.Core.Bool.{Bool, true, false, not, cond}
use mathlib.Core.List.{List, [], ◌∷◌, ◌++◌, append_assoc, append-nil}
use Prim.Native.Nat.{ℕ, zero, suc, ◌+◌, ◌-◌, ◌^◌, ◌≤◌, ◌<◌}
use native.Mathlib.Omega.{arith}
use borrow.Author.Tests.{le-leb, leb-true, ltb-true}
use lib.Dec.{leb, ltb}
use lib.ListN.{length, take, drop, replicate, length-append, length-drop, length-map, length-replicate, get_or-map}
use lib.Seq.{take-suc, take_at, drop_at, length-take-le, get_or-take}
use Rattle.base.proofs.Logic.{both, below-or-last}
use Rattle.base.proofs.Below.{every_all}
use Rattle.base.proofs.Padding.{get_or_pad}
use Rattle.plan.specs.Edition.{most_jobs, most_deadline, most_size}
use Rattle.plan.specs.Refusal.{unsound, buffer_too_short, wrong_line, wrong_header}
use Rattle.plan.specs.Rules.{job_in, no_job, name_allowed, is_absent, grade_allowed, window_allowed, size_allowed, jobs_hold}
use Rattle.plan.specs.declared.kinds.Job.{Job}
use Rattle.plan.specs.declared.kinds.JobList.{JobList}
use Rattle.fields.specs.Parsers.{Parsed, got, no}
use Rattle.fields.proofs.BytesAt.{Stands, stands_first, stands_rest, stands_as}
use Rattle.text.specs.Text.{decimal, name_text}
use Rattle.csvtext.specs.Grammar.{comma, line_end, field}
use Rattle.csvtext.specs.Decimals.{most_number}
use Rattle.plan.specs.JobLists.{names_of, list_of}
use Rattle.csvtext.specs.Items.{exactly, item, name_item, grade_item, number_item}
use Rattle.joblist.specs.Import.{Line, line, one_job, all_lines, header, job_text, ImportEffect, imported_from, imported}
use Rattle.joblist.specs.Export.{field_text, grade_text, line_text, lines_text, list_text, ExportEffect, wrote, withheld, exported}
use Rattle.csvtext.proofs.TextBack.{printable, Ends, comma_ends, line_ends, begins_self, decimal_back, decimal_printable, number_back, name_printable, name_back}
use Rattle.joblist.proofs.LineLoop.{lines_over, lines_step}
use Rattle.joblist.proofs.Soundness.{text_taken}
use Rattle.joblist.proofs.RuleParts.{Meets, meets}
use Rattle.joblist.proofs.ExportLaws.{list_text_lem}
use Rattle.joblist.proofs.FieldBack.{field_back, grade_back, grade_printable}

-- Bytes that stand there are found.
exactly_back : (bytes : List ℕ) (number from : ℕ) (file : List ℕ) (at : ℕ) (rest : List ℕ) → drop at file ≡ bytes ++ rest
    → exactly bytes number from file at ≡ got tt (at + length bytes)
unfolding exactly
exactly_back bytes number from file at rest e = rw (e, begins_self bytes rest) refl

-- An item is read where its field and what ends it stand.
item_back : (l ends : List ℕ) (from : ℕ) (file : List ℕ) (at : ℕ) {next : ℕ} → printable l ≡ true → ((rest : List ℕ) → Ends (ends ++ rest))
    → Stands file at (field_text l ++ ends) next → item ends from file at ≡ got l next
unfolding item
item_back l ends from file at {next} h after s =
    let tail = drop next file in
    let whole : drop at file ≡ field_text l ++ (ends ++ tail) = s.is ∙ append_assoc (field_text l) ends tail in
    let inner = stands_rest (field_text l) ends s in
    let e = ap field whole ∙ field_back l (ends ++ tail) h (after tail) in
    let last = exactly_back ends wrong_line from file (at + length (field_text l)) tail inner.is in
    rw (e, last) (ap (got l) (sym inner.ends))

comma_after : (rest : List ℕ) → Ends ((comma ∷ []) ++ rest)
comma_after rest = comma_ends rest

line_after : (rest : List ℕ) → Ends (line_end ++ rest)
line_after rest = line_ends rest

module _ (from : ℕ) (file : List ℕ) (at : ℕ) {next : ℕ} where
  name_item_lem : (x : ℕ) → name_allowed x ≡ true → x < 256 ^ 8 → Stands file at (field_text (name_text x) ++ (comma ∷ [])) next → name_item from file at ≡ got x next
  unfolding name_item
  name_item_lem x a h s =
      rw (item_back (name_text x) (comma ∷ []) from file at (name_printable x a) comma_after s) (ap (λ v. got v next) (name_back x h))

  grade_item_lem : (g : ℕ) → grade_allowed g ≡ true → Stands file at (field_text (grade_text g) ++ (comma ∷ [])) next → grade_item from file at ≡ got g next
  unfolding grade_item
  grade_item_lem g a s =
      rw (item_back (grade_text g) (comma ∷ []) from file at (grade_printable g) comma_after s) (ap (λ v. got v next) (grade_back g a))

  number_item_lem : (ends : List ℕ) → ((rest : List ℕ) → Ends (ends ++ rest)) → (n : ℕ) → n ≤ most_number → Stands file at (field_text (decimal n) ++ ends) next
      → number_item ends from file at ≡ got n next
  unfolding number_item
  number_item_lem ends after n h s =
      rw (item_back (decimal n) ends from file at (decimal_printable n) after s, decimal_back n) (ap (λ v. got v next) (number_back n h))

-- A job that meets rules 6, 8 and 9, and whose name has eight bytes.
record Good (j : Job) : Type 0 where
  named : name_allowed j.name.0 ≡ true
  fits : j.name.0 < 256 ^ 8
  graded : grade_allowed j.grade ≡ true
  window : window_allowed j.release.0 j.deadline.0 ≡ true
  sized : size_allowed j.size.0 ≡ true

-- A line is its five items.
items_are : (a b c d e f g h i k : List ℕ) → a ++ b ++ c ++ d ++ e ++ f ++ g ++ h ++ i ++ k ≡ a ++ b ++ (c ++ d ++ (e ++ f ++ (g ++ h ++ (i ++ k))))
items_are a b c d e f g h i k = simp append_assoc refl

-- The offsets that a line tells beside its five fields, and the line of a job.
abbrev line_of : Job → (grade_at release_at : ℕ) → Line
line_of j grade_at release_at =
    record {
      name = j.name.0;
      grade_at = grade_at;
      grade = j.grade;
      release_at = release_at;
      release = j.release.0;
      size = j.size.0;
      deadline = j.deadline.0;
    }

-- The line of a job is read where it stands.
record LineBack (file : List ℕ) (at : ℕ) (j : Job) (next : ℕ) : Type 0 where
  grade_at : ℕ
  release_at : ℕ
  is : line file at ≡ got (line_of j grade_at release_at) next

line_back : (file : List ℕ) (at : ℕ) {next : ℕ} (j : Job) → Good j → Stands file at (line_text j) next → LineBack file at j next
unfolding line
line_back file at {next} j ok s =
    let mark = comma ∷ [] in
    let a = field_text (name_text j.name.0) in
    let b = field_text (grade_text j.grade) in
    let c = field_text (decimal j.release.0) in
    let d = field_text (decimal j.size.0) in
    let e = field_text (decimal j.deadline.0) in
    let t₄ = e ++ line_end in
    let t₃ = d ++ mark ++ t₄ in
    let t₂ = c ++ mark ++ t₃ in
    let t₁ = b ++ mark ++ t₂ in
    let s₀ : Stands file at (a ++ mark ++ t₁) next = stands_as s (items_are a mark b mark c mark d mark e line_end) in
    let at₁ = at + length (a ++ mark) in
    let s₁ = stands_rest (a ++ mark) t₁ s₀ in
    let at₂ = at₁ + length (b ++ mark) in
    let s₂ = stands_rest (b ++ mark) t₂ s₁ in
    let at₃ = at₂ + length (c ++ mark) in
    let s₃ = stands_rest (c ++ mark) t₃ s₂ in
    let at₄ = at₃ + length (d ++ mark) in
    let s₄ = stands_rest (d ++ mark) t₄ s₃ in
    let late = both (ltb j.release.0 j.deadline.0) (leb j.deadline.0 most_deadline) ok.window in
    let before = ltb-true j.release.0 j.deadline.0 late.0 in
    let least = leb-true j.deadline.0 most_deadline late.1 in
    let most = leb-true j.size.0 most_size (both (leb 1 j.size.0) (leb j.size.0 most_size) ok.sized).1 in
    let r₁ = name_item_lem at file at j.name.0 ok.named ok.fits (stands_first (a ++ mark) t₁ s₀) in
    let r₂ = grade_item_lem at file at₁ j.grade ok.graded (stands_first (b ++ mark) t₂ s₁) in
    let r₃ = number_item_lem at file at₂ mark comma_after j.release.0 (omega (arith, before, least)) (stands_first (c ++ mark) t₃ s₂) in
    let r₄ = number_item_lem at file at₃ mark comma_after j.size.0 (omega (arith, most)) (stands_first (d ++ mark) t₄ s₃) in
    let r₅ = number_item_lem at file at₄ line_end line_after j.deadline.0 (omega (arith, least)) s₄ in
    record { grade_at = at₁; release_at = at₂; is = rw (r₁, r₂, r₃, r₄, r₅) refl }

-- And so is the job, if its name is new.
job_back : (earlier file : List ℕ) (at : ℕ) {next : ℕ} (j : Job) → Good j → is_absent earlier j.name.0 ≡ true → Stands file at (line_text j) next
    → one_job earlier file at ≡ got j next
unfolding one_job
job_back earlier file at j ok new s =
    rw ((line_back file at j ok s).is, ok.named, new, ok.graded, ok.window, ok.sized) refl

-- A line is not empty.
line_some : (j : Job) → 1 ≤ length (line_text j)
line_some j =
    let front =
    field_text (name_text j.name.0) ++ (comma ∷ []) ++ field_text (grade_text j.grade) ++ (comma ∷ []) ++ field_text (decimal j.release.0)
    ++ (comma ∷ []) ++ field_text (decimal j.size.0) ++ (comma ∷ []) ++ field_text (decimal j.deadline.0) in
    omega (arith, length-append front line_end)

-- Where the line of job i stands in some bytes, the lines of the first n jobs, and others.
line_stands : (list : JobList) (n i : ℕ) → i < n → (front rest : List ℕ)
    → Stands (front ++ lines_text list n ++ rest) (length front + length (lines_text list i)) (line_text (job_in list i)) (length front + length (lines_text list (suc i)))
unfolding lines_text
line_stands list zero i h front rest = absurd (omega arith)
line_stands list (suc n) i h front rest =
    let lines = lines_text list n in
    let last = line_text (job_in list n) in
    let e : front ++ (lines ++ last) ++ rest ≡ front ++ lines ++ (last ++ rest) = simp append_assoc refl in
    below-or-last i n h
    (λ b. rw e (line_stands list n i b front (last ++ rest)))
    (λ q. rw q (record {
      is =
          ap (drop (length front + length lines)) e
          ∙ drop_at (front ++ lines) (last ++ rest) (length front + length lines) (length-append front lines)
          ∙ ap (λ l. last ++ l)
          (sym (drop_at (front ++ (lines ++ last)) rest (length front + length (lines ++ last)) (length-append front (lines ++ last))));
      ends = omega (arith, length-append lines last);
    }))

module _ (list : JobList) (m : Meets list) (records : length list.jobs ≡ most_jobs)
    (named : (i : ℕ) → i < list.count → (job_in list i).name.0 < 256 ^ 8) where
  abbrev file : List ℕ
  file = header ++ lines_text list list.count

  -- The offset of the line of job i.
  abbrev line_at : ℕ → ℕ
  line_at i = length header + length (lines_text list i)

  good : (i : ℕ) → i < list.count → Good (job_in list i)
  good i h = record { named = m.named i h; fits = named i h; graded = m.graded i h; window = m.window i h; sized = m.size i h }

  -- No job before job i has its name.
  new : (i : ℕ) → i < list.count → is_absent (names_of (take i list.jobs)) (job_in list i).name.0 ≡ true
  unfolding is_absent
  new i h =
      let front = take i list.jobs in
      let name : Job → ℕ = λ j. j.name.0 in
      let long : length (names_of front) ≡ i = length-map front name ∙ length-take-le i list.jobs (omega (arith, records, m.few)) in
      every_all _ _
      (λ k l.
      let b : k < i = omega (arith, l, long) in
      rw (get_or-map name front k no_job, get_or-take i list.jobs k no_job b) (m.apart i h k b))

  stands : (i : ℕ) → i < list.count → Stands file (line_at i) (line_text (job_in list i)) (line_at (suc i))
  stands i h = rw (append-nil file) at (line_stands list list.count i h header [])

  -- The lines from job i on are read.
  lines_back : (k i room : ℕ) → i + k ≡ list.count → k ≤ room
      → all_lines room (take i list.jobs) file (line_at i) ≡ got (take list.count list.jobs) (line_at list.count)
  lines_back zero i room e h =
      let q : i ≡ list.count = omega arith in
      rw q (lines_over (take list.count list.jobs) file (line_at list.count) room (omega (arith, length-append header (lines_text list list.count))))
  lines_back (suc k) i zero e h = absurd (omega arith)
  lines_back (suc k) i (suc room) e h =
      let b : i < list.count = omega arith in
      let l : i < length list.jobs = omega (arith, records, m.few) in
      let s = stands i b in
      let j = job_back (names_of (take i list.jobs)) file (line_at i) (job_in list i) (good i b) (new i b) s in
      let inside : line_at i < length file
      = omega (arith, length-drop (line_at i) file, ap length s.is, length-append (line_text (job_in list i)) (drop (line_at (suc i)) file), line_some (job_in list i)) in
      lines_step (take i list.jobs) file (line_at i) inside room j
      ∙ ap (λ jobs. all_lines room jobs file (line_at (suc i))) (sym (take-suc list.jobs i no_job l))
      ∙ lines_back k (suc i) room (omega arith) (omega arith)

  text_back : job_text file 0 ≡ got (take list.count list.jobs) (line_at list.count)
  unfolding job_text lines_text
  text_back =
      let all = take list.count list.jobs in
      let long : length all ≡ list.count = length-take-le list.count list.jobs (omega (arith, records, m.few)) in
      rw (
        exactly_back header wrong_header 0 file 0 (lines_text list list.count) refl,
        lines_back list.count 0 most_jobs (omega arith) m.few,
        le-leb 1 (length all) (omega (arith, long, m.some)),
      ) refl

-- The text of a list that meets rules 5 to 9 is read back: the list's count and its counted jobs; records
-- from the count on are zero. Every list of the code has all its records and names of eight bytes.
pub import_after_export : (list : JobList) → jobs_hold list ≡ true → length list.jobs ≡ most_jobs
    → ((i : ℕ) → i < list.count → (job_in list i).name.0 < 256 ^ 8)
    → ◌≡◌ {A = ImportEffect} (imported (list_text list)) (record { answer = []; list = list_of (take list.count list.jobs) })
unfolding imported
import_after_export list holds records named =
    let m = meets list holds in
    ap imported (sym (list_text_lem list m.few)) ∙ ap imported_from (text_back list m records named)

-- Its count and its counted jobs are those of the list that was written.
pub import_after_export_count : (list : JobList) → jobs_hold list ≡ true → length list.jobs ≡ most_jobs
    → ((i : ℕ) → i < list.count → (job_in list i).name.0 < 256 ^ 8) → (imported (list_text list)).list.count ≡ list.count
import_after_export_count list holds records named =
    ap (λ (x : ImportEffect). x.list.count) (import_after_export list holds records named)
    ∙ length-take-le list.count list.jobs (omega (arith, records, (meets list holds).few))

pub import_after_export_jobs : (list : JobList) → jobs_hold list ≡ true → length list.jobs ≡ most_jobs
    → ((i : ℕ) → i < list.count → (job_in list i).name.0 < 256 ^ 8)
    → (i : ℕ) → i < list.count → job_in (imported (list_text list)).list i ≡ job_in list i
import_after_export_jobs list holds records named i h =
    let all = take list.count list.jobs in
    ap (λ (x : ImportEffect). job_in x.list i) (import_after_export list holds records named)
    ∙ get_or_pad all (most_jobs - length all) i no_job ∙ get_or-take list.count list.jobs i no_job h

-- The export, by the results of its two tests.
abbrev exported_by : (bad short : Bool) (bytes out : List ℕ) → ExportEffect
exported_by bad short bytes out =
    cond bad (withheld unsound out)
    (cond short (withheld buffer_too_short out) (record { answer = wrote (length bytes); out = bytes ++ drop (length bytes) out }))

-- What a done export leaves in its output is the list's text.
pub exported_is_text : (list : JobList) (out : List ℕ) (n : ℕ) → (exported list out).answer ≡ wrote n
    → (take n (exported list out).out ≡ list_text list) × (jobs_hold list ≡ true)
unfolding exported
exported_is_text list out n e = by (jobs_hold list) refl (ltb (length out) (length (list_text list))) e
  where
    by : (holds : Bool) → jobs_hold list ≡ holds → (short : Bool)
        → (exported_by (not holds) short (list_text list) out).answer ≡ wrote n
        → (take n (exported_by (not holds) short (list_text list) out).out ≡ list_text list) × (jobs_hold list ≡ true)
    by true h false e =
        let long : length (list_text list) ≡ n = cc in
        (take_at (list_text list) (drop (length (list_text list)) out) n long, h)
    by true h true e = absurd (let z : ◌≡◌ {A = ℕ} 0 1 = cc in omega arith)
    by false h short e = absurd (let z : ◌≡◌ {A = ℕ} 0 1 = cc in omega arith)

-- So it is imported: the same count, and the same counted jobs.
pub exported_and_imported : (list : JobList) (out : List ℕ) (n : ℕ) → length list.jobs ≡ most_jobs
    → ((i : ℕ) → i < list.count → (job_in list i).name.0 < 256 ^ 8) → (exported list out).answer ≡ wrote n
    → ◌≡◌ {A = ImportEffect} (imported (take n (exported list out).out)) (record { answer = []; list = list_of (take list.count list.jobs) })
exported_and_imported list out n records named e =
    let x = exported_is_text list out n e in
    ap imported x.0 ∙ import_after_export list x.1 records named

-- What the import takes, written as text, is taken again and gives the same list.
text_again : (text : List ℕ) → (imported text).answer ≡ [] → imported (list_text (imported text).list) ≡ imported text
unfolding imported
text_again text e = by (job_text text 0) refl e
  where
    by : (s : Parsed (List Job)) → job_text text 0 ≡ s → (imported_from s).answer ≡ [] → imported_from (job_text (list_text (imported_from s).list) 0) ≡ imported_from s
    by (got jobs next) h e =
        let t = text_taken text h in
        let list = list_of jobs in
        let pad = replicate (most_jobs - length jobs) no_job in
        let records : length list.jobs ≡ most_jobs
        = length-append jobs pad ∙ omega (arith, t.few, length-replicate {A = Job} (most_jobs - length jobs) no_job) in
        import_after_export list t.holds records (λ i b. rw (get_or_pad jobs (most_jobs - length jobs) i no_job) (t.eight i b))
        ∙ ap (λ l. record { answer = []; list = list_of l }) (take_at jobs pad (length jobs) refl)
    by (no k) h e = absurd (let z : ◌≡◌ {A = ℕ} 0 1 = cc in omega arith)

-- What the import takes, exported, imports to the same list.
pub import_again : (text out : List ℕ) (n : ℕ) → (imported text).answer ≡ [] → (exported (imported text).list out).answer ≡ wrote n
    → imported (take n (exported (imported text).list out).out) ≡ imported text
import_again text out n taken done = ap imported (exported_is_text (imported text).list out n done).0 ∙ text_again text taken
