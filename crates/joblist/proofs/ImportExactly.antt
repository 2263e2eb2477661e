-- The import refuses a text with a number at an offset exactly when that is what is wrong with the text first
-- (specs/Grounds).
use mathlib.Core.Path.{◌≡◌, refl, sym, ◌∙◌, ap}
use mathlib.Core.Bool.{Bool, true, false, false≢true, ◌&&◌}
use mathlib.Core.List.{List, [], ◌∷◌, ◌++◌}
use mathlib.Core.Logic.{◌↔◌}
use Prim.Native.Nat.{ℕ, zero, suc, ◌+◌, ◌-◌, ◌≤◌, ◌<◌}
use native.Mathlib.Omega.{arith}
use borrow.Author.Tests.{eqb-true}
use lib.Dec.{eqb}
use lib.ListN.{length}
use Rattle.base.proofs.Logic.{both, if_less}
use Rattle.plan.specs.Edition.{most_jobs}
use Rattle.plan.specs.JobLists.{names_of}
use Rattle.plan.specs.Refusal.{refusal_at, wrong_job_count, wrong_header}
use Rattle.plan.specs.Report.{Report}
use Rattle.plan.specs.Rules.{name_allowed, is_absent, grade_allowed, window_allowed, size_allowed}
use Rattle.plan.specs.declared.kinds.Job.{Job}
use Rattle.plan.proofs.JobLists.{length_snoc}
use Rattle.fields.specs.Parsers.{Parsed, got, no}
use Rattle.csvtext.specs.Grammar.{begins}
use Rattle.csvtext.specs.Items.{exactly}
use Rattle.joblist.specs.Import.{Line, line, job_on, one_job, all_lines, header, ImportEffect, imported}
use Rattle.joblist.specs.Grounds.{Reached, begun, further, WrongLine, not_formed, name_byte, name_taken_lem, grade, bounds, WrongText, no_header, no_line, line_too_many, in_line}
use Rattle.joblist.proofs.ImportLaws.{import_no_header, import_no_lines, import_none, import_whole}
use Rattle.joblist.proofs.LineLaws.{job_no_line, job_name_byte, job_name_taken, job_grade, job_bounds, job_whole}
use Rattle.joblist.proofs.LineLoop.{lines_over, lines_full, lines_step, lines_stop}
use Rattle.joblist.proofs.LineRefusals.{line_no}

-- A text that begins with another and is no longer is that text.
begins_whole : (with text : List ℕ) → begins with text ≡ true → length text ≤ length with → text ≡ with
unfolding begins
begins_whole [] [] e h = refl
begins_whole [] (b ∷ l) e h = absurd (omega arith)
begins_whole (w ∷ with) [] e h = absurd (false≢true e)
begins_whole (w ∷ with) (b ∷ l) e h =
    let so = both (eqb w b) (begins with l) e in
    let first : b ≡ w = sym (eqb-true w b so.0) in
    let rest = begins_whole with l so.1 (omega arith) in
    λ t. first t ∷ rest t

-- A parser's result: something right is read, or it is refused with this number at this offset, and that is what is wrong.
data Decided {A : Type 0} (right : A → Type 0) (wrong : ℕ → ℕ → Type 0) (s : Parsed A) : Type 0 where
  taken : (a : A) (next : ℕ) → s ≡ got a next → right a → Decided right wrong s
  refused : (number offset : ℕ) → s ≡ no (refusal_at number offset) → wrong number offset → Decided right wrong s

-- One line.
module _ (text earlier : List ℕ) (at : ℕ) where
  line_refused : {number offset : ℕ} → WrongLine text earlier at number offset → one_job earlier text at ≡ no (refusal_at number offset)
  line_refused (not_formed e) = sym (job_no_line earlier text at e) ∙ ap no (line_no text at e)
  line_refused (name_byte e t) = sym (job_name_byte earlier text at e t)
  line_refused (name_taken_lem e t₁ t) = sym (job_name_taken earlier text at e t₁ t)
  line_refused (grade e t₁ t₂ t) = sym (job_grade earlier text at e t₁ t₂ t)
  line_refused (bounds e t₁ t₂ t₃ t) = sym (job_bounds earlier text at e t₁ t₂ t₃ t)

  line_decided : Decided (λ _. Unit {0}) (WrongLine text earlier at) (one_job earlier text at)
  line_decided = by_line (line text at) refl
    where
      wrong : {number offset : ℕ} → WrongLine text earlier at number offset → Decided (λ _. Unit {0}) (WrongLine text earlier at) (one_job earlier text at)
      wrong {number} {offset} w = refused number offset (line_refused w) w

      by_rules : {l : Line} {next : ℕ} → line text at ≡ got l next → (b₁ b₂ b₃ b₄ : Bool) → name_allowed l.name ≡ b₁ → is_absent earlier l.name ≡ b₂
          → grade_allowed l.grade ≡ b₃ → (window_allowed l.release l.deadline && size_allowed l.size) ≡ b₄
          → Decided (λ _. Unit {0}) (WrongLine text earlier at) (one_job earlier text at)
      by_rules e false b₂ b₃ b₄ t₁ t₂ t₃ t₄ = wrong (name_byte e t₁)
      by_rules e true false b₃ b₄ t₁ t₂ t₃ t₄ = wrong (name_taken_lem e t₁ t₂)
      by_rules e true true false b₄ t₁ t₂ t₃ t₄ = wrong (grade e t₁ t₂ t₃)
      by_rules e true true true false t₁ t₂ t₃ t₄ = wrong (bounds e t₁ t₂ t₃ t₄)
      by_rules {l} {next} e true true true true t₁ t₂ t₃ t₄ = taken (job_on l) next (sym (job_whole earlier text at e t₁ t₂ t₃ t₄)) tt

      by_line : (s : Parsed Line) → line text at ≡ s → Decided (λ _. Unit {0}) (WrongLine text earlier at) (one_job earlier text at)
      by_line (no k) e = wrong (not_formed e)
      by_line (got l next) e =
          by_rules e (name_allowed l.name) (is_absent earlier l.name) (grade_allowed l.grade)
          (window_allowed l.release l.deadline && size_allowed l.size) refl refl refl refl

-- All lines: from a place that is reached, and to it.
module _ (text : List ℕ) where
  room_on : (jobs : List Job) (j : Job) → length jobs < most_jobs → most_jobs - length jobs ≡ suc (most_jobs - length (jobs ++ (j ∷ [])))
  room_on jobs j h = rw length_snoc (omega arith)

  -- As many jobs as before, or more.
  abbrev Grown : List Job → List Job → Type 0
  Grown jobs all = length jobs ≤ length all

  module _ (jobs : List Job) (at : ℕ) (r : Reached text jobs at) (h : at < length text) (few : length jobs < most_jobs) (room : ℕ) where
    first_decided : Decided (λ _. Unit {0}) (WrongLine text (names_of jobs) at) (one_job (names_of jobs) text at)
        → ((j : Job) (next : ℕ) → one_job (names_of jobs) text at ≡ got j next
        → Decided (Grown (jobs ++ (j ∷ []))) (WrongText text) (all_lines room (jobs ++ (j ∷ [])) text next))
        → Decided (λ all. suc (length jobs) ≤ length all) (WrongText text) (all_lines (suc room) jobs text at)
    first_decided (refused number offset e w) rest = refused number offset (lines_stop jobs text at h room e) (in_line r h few w)
    first_decided (taken j next e _) rest = on (rest j next e)
      where
        on : Decided (Grown (jobs ++ (j ∷ []))) (WrongText text) (all_lines room (jobs ++ (j ∷ [])) text next)
            → Decided (λ all. suc (length jobs) ≤ length all) (WrongText text) (all_lines (suc room) jobs text at)
        on (taken all end q more) = taken all end (lines_step jobs text at h room e ∙ q) (omega (arith, more, length_snoc jobs j))
        on (refused number offset q w) = refused number offset (lines_step jobs text at h room e ∙ q) w

  more : (jobs : List Job) {s : Parsed (List Job)} → Decided (λ all. suc (length jobs) ≤ length all) (WrongText text) s → Decided (Grown jobs) (WrongText text) s
  more jobs (taken all end q m) = taken all end q (omega arith)
  more jobs (refused number offset q w) = refused number offset q w

  lines_decided : (room : ℕ) (jobs : List Job) (at : ℕ) → Reached text jobs at → room + length jobs ≡ most_jobs
      → Decided (Grown jobs) (WrongText text) (all_lines room jobs text at)
  lines_decided zero jobs at r full =
      if_less at (length text)
      (λ h. refused wrong_job_count at (lines_full jobs text at h) (line_too_many r h (omega (arith, full))))
      (λ h. taken jobs at (lines_over jobs text at zero h) (omega arith))
  lines_decided (suc room) jobs at r full =
      if_less at (length text)
      (λ h. more jobs (first_decided jobs at r h (omega (arith, full)) room (line_decided text (names_of jobs) at)
      (λ j next e. lines_decided room (jobs ++ (j ∷ [])) next (further r h (omega (arith, full)) e) (rw length_snoc (omega (arith, full))))))
      (λ h. taken jobs at (lines_over jobs text at (suc room) h) (omega arith))

  -- What is known of a place that is reached.
  record Since (jobs : List Job) (at : ℕ) : Type 0 where
    few : length jobs ≤ most_jobs
    head : begins header text ≡ true
    rest : all_lines most_jobs [] text (length header) ≡ all_lines (most_jobs - length jobs) jobs text at

  since : {jobs : List Job} {at : ℕ} → Reached text jobs at → Since jobs at
  since (begun e) = record { few = omega arith; head = e; rest = refl }
  since (further {jobs} {at} {job} {next} r h few e) =
      let so = since r in
      record {
        few = rw length_snoc (omega arith);
        head = so.head;
        rest =
            so.rest ∙ ap (λ n. all_lines n jobs text at) (room_on jobs job few)
            ∙ lines_step jobs text at h (most_jobs - length (jobs ++ (job ∷ []))) e;
      }

  -- The header stands at the beginning, or it does not.
  header_stands : begins header text ≡ true → exactly header wrong_header 0 text 0 ≡ got tt (length header)
  unfolding exactly
  header_stands e = rw e refl

  header_wrong : begins header text ≡ false → exactly header wrong_header 0 text 0 ≡ no (refusal_at wrong_header 0)
  unfolding exactly
  header_wrong e = rw e refl

  header_itself : begins header header ≡ true
  unfolding begins
  header_itself = refl

  answered : {k : ImportEffect} → k ≡ imported text → (imported text).answer ≡ k.answer
  answered e = ap (λ (x : ImportEffect). x.answer) (sym e)

  -- What is wrong with the text is what the import answers.
  wrong_answered : {number offset : ℕ} → WrongText text number offset → (imported text).answer ≡ number ∷ offset ∷ []
  wrong_answered (no_header e) = answered (import_no_header text (header_wrong e))
  wrong_answered (no_line e) =
      let stands : begins header text ≡ true = ap (begins header) e ∙ header_itself in
      let over : length text ≤ length header = omega (arith, ap length e) in
      let at : length header ≡ length text = ap length (sym e) in
      answered (import_none text (header_stands stands) (lines_over [] text (length header) most_jobs over) (omega arith)) ∙ ap (λ x. wrong_job_count ∷ x ∷ []) at
  wrong_answered (line_too_many {jobs} {at} r h full) =
      let so = since r in
      answered (import_no_lines text (header_stands so.head)
      (so.rest ∙ ap (λ n. all_lines n jobs text at) (omega (arith, full)) ∙ lines_full jobs text at h))
  wrong_answered (in_line {jobs} {at} r h few w) =
      let so = since r in
      let room : most_jobs - length jobs ≡ suc (most_jobs - suc (length jobs)) = omega arith in
      answered (import_no_lines text (header_stands so.head)
      (so.rest ∙ ap (λ n. all_lines n jobs text at) room ∙ lines_stop jobs text at h (most_jobs - suc (length jobs)) (line_refused text (names_of jobs) at w)))

  -- What the import answers is what is wrong with the text.
  answered_wrong : {number offset : ℕ} → (imported text).answer ≡ number ∷ offset ∷ [] → WrongText text number offset
  answered_wrong {number} {offset} a = by_header (begins header text) refl
    where
      told : {n o : ℕ} → WrongText text n o → WrongText text number offset
      told {n} {o} w =
          let same : number ∷ offset ∷ [] ≡ n ∷ o ∷ [] = sym a ∙ wrong_answered w in
          let first : n ≡ number = cc in
          let second : o ≡ offset = cc in
          rw (first, second) at w

      none : (imported text).answer ≡ [] → WrongText text number offset
      none e = absurd (let z : ◌≡◌ {A = Report} (number ∷ offset ∷ []) [] = sym a ∙ e in let y : ◌≡◌ {A = ℕ} 0 1 = cc in omega arith)

      by_lines : begins header text ≡ true → Decided (λ all. 1 ≤ length all) (WrongText text) (all_lines most_jobs [] text (length header)) → WrongText text number offset
      by_lines stands (taken all end q some) = none (answered (import_whole text (header_stands stands) q some))
      by_lines stands (refused n o q w) = told w

      by_header : (b : Bool) → begins header text ≡ b → WrongText text number offset
      by_header false e = told (no_header e)
      by_header true e =
          if_less (length header) (length text)
          (λ h. by_lines e (first_decided [] (length header) (begun e) h (omega arith) (most_jobs - 1) (line_decided text [] (length header))
          (λ j next q. lines_decided (most_jobs - 1) (j ∷ []) next (further (begun e) h (omega arith) q) refl)))
          (λ h. told (no_line (begins_whole header text e h)))

-- Each number comes with its offset exactly when that is the first thing that is wrong with the text.
pub import_exactly : (text : List ℕ) (number offset : ℕ) → ((imported text).answer ≡ number ∷ offset ∷ []) ↔ WrongText text number offset
import_exactly text number offset = (answered_wrong text, wrong_answered text)
