-- Writing a job list: its header, then a line for each job.
use Rattle.std.specs.Prelude.{◌≡◌, Bool, false, not, cond, ◌||◌, List, [], ◌∷◌, ◌++◌, ◌⊎◌, ℕ, zero, suc, ◌<◌, ltb, eqb, length, get_or, drop}
use Rattle.plan.specs.Kinds.{Bytes, Number}
use Rattle.plan.specs.Refusal.{unsound, buffer_too_short}
use Rattle.plan.specs.Rules.{hi, job_in, counted_in, jobs_hold}
use Rattle.plan.specs.declared.kinds.Job.{Job}
use Rattle.plan.specs.declared.kinds.JobList.{JobList}
use Rattle.text.specs.Text.{text, decimal, name_text}
use Rattle.csvtext.specs.Grammar.{comma, quote, carriage_return, line_feed, line_end}
use Rattle.joblist.specs.Import.{header}

-- A field must be in quotes if it holds a quote, a comma, CR or LF.
unfoldable pub needs_quotes : Bytes → Bool
needs_quotes [] = false
needs_quotes (b ∷ l) = eqb b quote || eqb b comma || eqb b carriage_return || eqb b line_feed || needs_quotes l

-- The bytes of a field in quotes: each quote is doubled.
unfoldable pub doubled : Bytes → Bytes
doubled [] = []
doubled (b ∷ l) = cond (eqb b quote) (quote ∷ quote ∷ doubled l) (b ∷ doubled l)

-- A field as it is written: in quotes only if it must be.
unfoldable pub field_text : Bytes → Bytes
field_text l = cond (needs_quotes l) (quote ∷ doubled l ++ (quote ∷ [])) l

-- Some bytes have a quote or a comma among them.
abbrev pub Special : Bytes → Type 0
Special l = (k : ℕ) × (k < length l) × ((get_or l k 0 ≡ quote) ⊎ (get_or l k 0 ≡ comma))

-- A field as it is written begins with a quote.
abbrev pub InQuotes : Bytes → Type 0
InQuotes written = (rest : Bytes) × (written ≡ quote ∷ rest)

-- The letter of a grade.
abbrev pub grade_text : ℕ → Bytes
grade_text grade = cond (eqb grade hi) (text "H") (text "L")

-- The line of a job.
abbrev pub line_text : Job → Bytes
line_text j =
    field_text (name_text j.name.0) ++ (comma ∷ []) ++ field_text (grade_text j.grade) ++ (comma ∷ [])
    ++ field_text (decimal j.release.0) ++ (comma ∷ []) ++ field_text (decimal j.size.0) ++ (comma ∷ [])
    ++ field_text (decimal j.deadline.0) ++ line_end

-- The lines of the jobs at positions below n.
unfoldable pub lines_text : (list : JobList) (n : ℕ) → Bytes
lines_text list zero = []
lines_text list (suc n) = lines_text list n ++ line_text (job_in list n)

-- The text of a job list.
unfoldable pub list_text : JobList → Bytes
list_text list = header ++ lines_text list (counted_in list)

-- The export's answer: the text's length, or a refusal number.
pub data Answer : Type 0 where
  wrote : ℕ → Answer
  refused : ℕ → Answer

-- What a call of the export leaves: its answer and the lent output.
pub record ExportEffect : Type 0 where
  pub answer : Answer
  pub out : List ℕ

-- The effect of a refusal: the output is unchanged.
abbrev pub withheld : (number : Number) (out : Bytes) → ExportEffect
withheld number out = record { answer = refused number; out = out }

-- The export of a list: 21 for one that breaks a rule from 5 to 9, then 22 for an output shorter than the
-- text; otherwise it writes the text, and the bytes after it are unchanged.
unfoldable pub exported : (list : JobList) (out : Bytes) → ExportEffect
exported list out =
    let bytes = list_text list in
    cond (not (jobs_hold list)) (withheld unsound out)
    (cond (ltb (length out) (length bytes)) (withheld buffer_too_short out)
    (record { answer = wrote (length bytes); out = bytes ++ drop (length bytes) out }))

-- Two lists have the same count and the same counted jobs. Their other records may differ: the export looks at none of them.
pub record SameJobs (a b : JobList) : Type 0 where
  pub count : a.count ≡ b.count
  pub jobs : (i : ℕ) → i < counted_in a → job_in a i ≡ job_in b i
