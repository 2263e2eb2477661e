-- Laws of the text of a job list: when a field needs quotes, how it is doubled byte by byte, and line by line.
use mathlib.Core.Path.{◌≡◌, refl, sym, ◌∙◌, ap}
use mathlib.Core.Logic.{◌≢◌}
use mathlib.Core.Bool.{Bool, true, false, cond}
use mathlib.Core.List.{List, [], ◌∷◌, ◌++◌}
use Prim.Native.Nat.{ℕ, zero, suc, ◌+◌, ◌/◌, ◌%◌, ◌≤◌, ◌<◌}
use native.Mathlib.Nat.{zero-add}
use native.Mathlib.Numerals.{add-one}
use native.Mathlib.Omega.{arith}
use borrow.Author.Tests.{lt-ltb, le-ltb, ne_eqb}
use lib.Dec.{eqb}
use lib.ListN.{length, get_or, take, drop, length-take}
use lib.Seq.{get_or-take}
use Rattle.base.proofs.Logic.{if_less}
use Rattle.plan.specs.Edition.{most_jobs}
use Rattle.plan.specs.Refusal.{unsound, buffer_too_short}
use Rattle.plan.specs.Rules.{hi, no_job, counted_in, jobs_hold}
use Rattle.plan.specs.declared.kinds.Job.{Job}
use Rattle.plan.specs.declared.kinds.JobList.{JobList}
use Rattle.text.specs.Text.{digit, digits, decimal, name_text}
use Rattle.text.specs.Inner.Growth.{Grown}
use Rattle.csvtext.specs.Grammar.{comma, quote, carriage_return, line_feed, line_end}
use Rattle.joblist.specs.Import.{header}
use Rattle.joblist.specs.Export.{needs_quotes, doubled, field_text, grade_text, line_text, lines_text, list_text, wrote, ExportEffect, withheld, exported}

-- One byte more of a field in quotes.
doubled_suc : (l : List ℕ) (k : ℕ) → k < length l → doubled (take (suc k) l) ≡ doubled (take k l) ++ doubled (get_or l k 0 ∷ [])
unfolding doubled
doubled_suc [] k h = absurd (omega arith)
doubled_suc (b ∷ l) zero h = refl
doubled_suc (b ∷ l) (suc k) h = go (eqb b quote) (doubled_suc l k (omega arith))
  where
    go : (t : Bool) → doubled (take (suc k) l) ≡ doubled (take k l) ++ doubled (get_or l k 0 ∷ [])
        → cond t (quote ∷ quote ∷ doubled (take (suc k) l)) (b ∷ doubled (take (suc k) l))
        ≡ cond t (quote ∷ quote ∷ doubled (take k l)) (b ∷ doubled (take k l)) ++ doubled (get_or l k 0 ∷ [])
    go true e = ap (λ m. quote ∷ quote ∷ m) e
    go false e = ap (λ m. b ∷ m) e

pub doubled_next : (l : List ℕ) (k : ℕ) → k < length l → doubled (take k l) ++ doubled (get_or l k 0 ∷ []) ≡ doubled (take (k + 1) l)
doubled_next l k h = rw add-one (sym (doubled_suc l k h))

-- A field that needs no quotes is written as it is, and one that does in quotes.
pub field_plain : (l : List ℕ) → needs_quotes l ≡ false → field_text l ≡ l
unfolding field_text
field_plain l e = rw e refl

pub field_quoted : (l : List ℕ) → needs_quotes l ≡ true → field_text l ≡ quote ∷ doubled l ++ (quote ∷ [])
unfolding field_text
field_quoted l e = rw e refl

-- No digit needs quotes, so no number does.
digit_plain : (d : ℕ) (l : List ℕ) → d < 10 → needs_quotes l ≡ false → needs_quotes (digit d ∷ l) ≡ false
unfolding needs_quotes
digit_plain d l h e =
    rw (ne_eqb (digit d) quote (λ q. omega arith), ne_eqb (digit d) comma (λ q. omega arith), ne_eqb (digit d) carriage_return (λ q. omega arith), ne_eqb (digit d) line_feed (λ q. omega arith)) e

digits_plain : (most n : ℕ) (tail : List ℕ) → needs_quotes tail ≡ false → needs_quotes (digits most n tail) ≡ false
unfolding digits
digits_plain zero n tail e = e
digits_plain (suc most) n tail e =
    if_less n 10
    (λ h. rw (lt-ltb n 10 h) (digit_plain n tail h e))
    (λ h. rw (le-ltb n 10 h) (digits_plain most (n / 10) (digit (n % 10) ∷ tail) (digit_plain (n % 10) tail (omega arith) e)))

pub number_plain : (n : ℕ) → needs_quotes (decimal n) ≡ false
unfolding needs_quotes
number_plain n = digits_plain (suc n) n [] refl

-- A grade needs none.
pub grade_plain : (grade : ℕ) → field_text (grade_text grade) ≡ grade_text grade
unfolding field_text needs_quotes
grade_plain grade = go (eqb grade hi)
  where
    go : (t : Bool) → field_text (cond t (72 ∷ []) (76 ∷ [])) ≡ cond t (72 ∷ []) (76 ∷ [])
    go true = refl
    go false = refl

-- What stands at an index inside a list does not depend on what stands for an index outside it.
at_inside : (l : List Job) (i : ℕ) (d e : Job) → i < length l → get_or l i d ≡ get_or l i e
at_inside [] i d e h = absurd (omega arith)
at_inside (j ∷ l) zero d e h = refl
at_inside (j ∷ l) (suc i) d e h = at_inside l i d e (omega arith)

-- One line more.
pub lines_next : (list : JobList) (n : ℕ) (d : Job) → n < length (take list.count list.jobs) → list.count ≤ most_jobs
    → lines_text list n ++ line_text (get_or (take list.count list.jobs) n d) ≡ lines_text list (n + 1)
unfolding lines_text
lines_next list n d h few =
    let inside : n < list.count = omega (arith, length-take list.count list.jobs) in
    let held : n < length list.jobs = omega (arith, length-take list.count list.jobs) in
    rw add-one (ap (λ j. lines_text list n ++ line_text j) (get_or-take list.count list.jobs n d inside ∙ at_inside list.jobs n d no_job held))

pub lines_start : (list : JobList) → lines_text list 0 ≡ []
unfolding lines_text
lines_start list = refl

-- One byte: a quote is doubled, and any other is not.
pub doubled_none : doubled [] ≡ []
unfolding doubled
doubled_none = refl

pub doubled_other : (b : ℕ) → b ≢ quote → doubled (b ∷ []) ≡ b ∷ []
unfolding doubled
doubled_other b h = rw (ne_eqb b quote h) refl

pub doubled_quote : (b : ℕ) → b ≡ quote → doubled (b ∷ []) ≡ (b ∷ []) ++ (quote ∷ [])
unfolding doubled
doubled_quote b e = rw e refl

-- A line is its name, its letter and its numbers, none of which but the name needs quotes.
pub line_joined : (j : Job)
    → field_text (name_text j.name.0) ++ (comma ∷ []) ++ grade_text j.grade ++ (comma ∷ []) ++ decimal j.release.0 ++ (comma ∷ []) ++ decimal j.size.0 ++ (comma ∷ [])
    ++ decimal j.deadline.0 ++ line_end
    ≡ line_text j
line_joined j =
    rw (grade_plain j.grade, field_plain (decimal j.release.0) (number_plain j.release.0), field_plain (decimal j.size.0) (number_plain j.size.0), field_plain (decimal j.deadline.0) (number_plain j.deadline.0))
    refl

-- The text of a list whose count is allowed.
pub list_text_lem : (list : JobList) → list.count ≤ most_jobs → header ++ lines_text list list.count ≡ list_text list
unfolding list_text
list_text_lem list h = let e : counted_in list ≡ list.count = omega arith in rw e refl

-- What the export leaves: with a list that breaks a rule, with an output that is too short, and otherwise.
pub exported_unsound : (list : JobList) (out : List ℕ) → jobs_hold list ≡ false → withheld unsound out ≡ exported list out
unfolding exported
exported_unsound list out e = rw e refl

pub exported_short : (list : JobList) (out : List ℕ) → jobs_hold list ≡ true → length out < length (list_text list)
    → withheld buffer_too_short out ≡ exported list out
unfolding exported
exported_short list out e h = rw (e, lt-ltb (length out) (length (list_text list)) h) refl

pub exported_whole : (list : JobList) (out : List ℕ) {blank text left : List ℕ} {n : ℕ} → jobs_hold list ≡ true → Grown blank text 0 n (list_text list)
    → n ≤ length out → left ≡ take n text → ◌≡◌ {A = ExportEffect} (record { answer = wrote n; out = left ++ drop n out }) (exported list out)
unfolding exported
exported_whole list out e w h same =
    let long : _ ≡ length (list_text list) = w.end ∙ zero-add (length (list_text list)) in
    rw (same, w.bytes, long, e, le-ltb (length out) (length (list_text list)) (omega (arith, long))) refl
