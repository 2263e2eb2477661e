-- No exported text is longer than `longest_text`, so an output of that many bytes is always enough.
use mathlib.Core.Path.{◌≡◌, refl}
use mathlib.Core.Bool.{Bool, true, false, not, cond}
use mathlib.Core.List.{List, [], ◌∷◌, ◌++◌}
use mathlib.Core.Logic.{◌≢◌}
use Prim.Native.Nat.{ℕ, zero, suc, ◌+◌, ◌*◌, ◌≤◌, ◌<◌, ◌^◌}
use native.Mathlib.Omega.{arith}
use borrow.Author.Tests.{ltb-true, leb-true, le-ltb}
use lib.Dec.{leb, ltb, eqb}
use lib.ListN.{length, drop, replicate, length-append}
use Rattle.base.proofs.Logic.{both}
use Rattle.plan.specs.Edition.{most_deadline}
use Rattle.plan.specs.Refusal.{unsound, buffer_too_short}
use Rattle.plan.specs.Rules.{hi, job_in, counted_in, jobs_hold}
use Rattle.plan.specs.declared.kinds.Job.{Job}
use Rattle.plan.specs.declared.kinds.JobList.{JobList}
use Rattle.text.specs.Text.{text, decimal, name_text, most_digits}
use Rattle.text.proofs.Decimal.{decimal_length}
use Rattle.csvtext.specs.Grammar.{quote}
use Rattle.joblist.specs.Import.{header}
use Rattle.joblist.specs.Export.{needs_quotes, doubled, field_text, grade_text, line_text, lines_text, list_text, Answer, wrote, refused, ExportEffect, withheld, exported}
use Rattle.joblist.specs.Longest.{longest_line, longest_text}
use Rattle.joblist.proofs.ExportLaws.{field_plain, number_plain, grade_plain, list_text_lem}
use Rattle.joblist.proofs.Growing.{grows_twice, grows_same}
use Rattle.joblist.specs.declared.export.Draft.{Draft}
use Rattle.joblist.specs.Inner.Growing.{Grows}
use Rattle.text.specs.Inner.Growth.{Grown}
use Rattle.joblist.proofs.RuleParts.{Meets, meets, small}

-- In quotes a field has two bytes more, and at most each byte twice.
doubled_length : (l : List ℕ) → length (doubled l) ≤ 2 * length l
unfolding doubled
doubled_length [] = omega arith
doubled_length (b ∷ l) = by (eqb b quote) (doubled_length l)
  where
    by : (t : Bool) → length (doubled l) ≤ 2 * length l → length (cond t (quote ∷ quote ∷ doubled l) (b ∷ doubled l)) ≤ 2 * suc (length l)
    by true h = omega arith
    by false h = omega arith

field_length : (l : List ℕ) → length (field_text l) ≤ 2 + 2 * length l
unfolding field_text
field_length l = by (needs_quotes l)
  where
    by : (t : Bool) → length (cond t (quote ∷ doubled l ++ (quote ∷ [])) l) ≤ 2 + 2 * length l
    by true = omega (arith, length-append (doubled l) (quote ∷ []), doubled_length l)
    by false = omega arith

grade_length : (grade : ℕ) → length (grade_text grade) ≡ 1
grade_length grade = by (eqb grade hi)
  where
    by : (t : Bool) → length (cond t (text "H") (text "L")) ≡ 1
    by true = refl
    by false = refl

line_length : (j : Job) → j.release.0 < 10 ^ most_digits → j.size.0 < 10 ^ most_digits → j.deadline.0 < 10 ^ most_digits → length (line_text j) ≤ longest_line
line_length j r s d =
    let a = name_text j.name.0 in
    let b = grade_text j.grade in
    let c = decimal j.release.0 in
    let e = decimal j.size.0 in
    let f = decimal j.deadline.0 in
    let eight : length a ≡ 8 = refl in
    rw (grade_plain j.grade, field_plain c (number_plain j.release.0), field_plain e (number_plain j.size.0), field_plain f (number_plain j.deadline.0))
    (simp length-append (omega (arith, field_length a, eight, grade_length j.grade, decimal_length j.release.0 r, decimal_length j.size.0 s, decimal_length j.deadline.0 d)))

-- The numbers of a counted job have at most `most_digits` digits.
module _ (l : JobList) (m : Meets l) where
  numbers_short : (i : ℕ) → i < l.count → ((job_in l i).release.0 < 10 ^ most_digits) × ((job_in l i).size.0 < 10 ^ most_digits) × ((job_in l i).deadline.0 < 10 ^ most_digits)
  numbers_short i h =
      let from = (job_in l i).release.0 in
      let to = (job_in l i).deadline.0 in
      let w = both (ltb from to) (leb to most_deadline) (m.window i h) in
      let before = ltb-true from to w.0 in
      let end = leb-true to most_deadline w.1 in
      (omega (arith, before, end), omega (arith, small m i h), omega (arith, end))

  lines_length : (n : ℕ) → n ≤ l.count → length (lines_text l n) ≤ n * longest_line
  unfolding lines_text
  lines_length zero h = omega arith
  lines_length (suc n) h =
      let s = numbers_short n (omega arith) in
      omega (arith, length-append (lines_text l n) (line_text (job_in l n)), lines_length n (omega arith), line_length (job_in l n) s.0 s.1 s.2)

-- The text of a list that meets rules 5 to 9 has at most `longest_text` bytes.
pub text_fits : (l : JobList) → jobs_hold l ≡ true → length (list_text l) ≤ longest_text
unfolding list_text
text_fits l e =
    let m = meets l e in
    let n : counted_in l ≡ l.count = omega (arith, m.few) in
    rw n (omega (arith, length-append header (lines_text l l.count), lines_length l m l.count (omega arith), m.few))

-- So an output of that length is never too short.
pub long_output_suffices : (l : JobList) (out : List ℕ) → longest_text ≤ length out → (exported l out).answer ≢ refused buffer_too_short
unfolding exported
long_output_suffices l out room = by (jobs_hold l) refl
  where
    effect : Bool → Bool → ExportEffect
    effect bad short =
        cond bad (withheld unsound out)
        (cond short (withheld buffer_too_short out) (record { answer = wrote (length (list_text l)); out = list_text l ++ drop (length (list_text l)) out }))

    by : (holds : Bool) → jobs_hold l ≡ holds → (effect (not holds) (ltb (length out) (length (list_text l)))).answer ≢ refused buffer_too_short
    by false h e = let z : ◌≡◌ {A = ℕ} unsound buffer_too_short = cc in absurd (omega (arith, z))
    by true h e = fitting (rw (le-ltb (length out) (length (list_text l)) (omega (arith, text_fits l h, room))) at e)
      where
        fitting : ◌≡◌ {A = Answer} (wrote (length (list_text l))) (refused buffer_too_short) → ⊥
        fitting q = let z : ◌≡◌ {A = ℕ} 0 1 = cc in absurd (omega arith)

-- The text that the export makes in a buffer of that length: the header, then the lines.
abbrev pub blank : Draft
blank = record { bytes = replicate longest_text 0; length = 0 }

pub text_made : (l : JobList) {headed text : Draft} → jobs_hold l ≡ true → Grows blank header headed → Grows headed (lines_text l l.count) text
    → Grown blank.bytes text.bytes 0 text.length (list_text l)
text_made l e a g =
    let m = meets l e in
    let all = grows_same (list_text_lem l m.few) (grows_twice a g) in
    all.grown (omega (arith, text_fits l e))
