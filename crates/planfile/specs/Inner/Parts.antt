-- No promise rests on this file: it is here for the contracts of inner functions.
-- The views and contracts of the parts of the reader.
use Rattle.std.specs.Prelude.{◌≡◌, cond, List, ℕ, ◌<◌, ltb, length, get_or, take, replicate, Option, Some, None, Result, Ok, Err}
use Rattle.plan.specs.Edition.{places}
use Rattle.plan.specs.Refusal.{refusal_view}
use Rattle.plan.specs.JobLists.{names_of}
use Rattle.plan.specs.declared.kinds.Job.{Job}
use Rattle.plan.specs.declared.kinds.Plan.{Plan}
use Rattle.plan.specs.declared.refusal.Refusal.{Refusal}
use Rattle.fields.specs.declared.field.Parsed as code
use Rattle.planfile.specs.declared.row.Row.{Row}
use Rattle.planfile.specs.declared.preamble.Preamble.{Preamble}
use Rattle.planfile.specs.Reader as rule
use Rattle.fields.specs.Parsers.{Parsed, got, no}
use Rattle.fields.specs.Answers.{parsed_view}
use Rattle.planfields.specs.Records.{Head}

-- The elements of the list are pairwise distinct.
abbrev pub Distinct : List ℕ → Type 0
Distinct l = (i j : ℕ) → i < length l → j < length l → get_or l i 0 ≡ get_or l j 0 → i ≡ j

-- Where a name stands in a list of names, if it does.
abbrev pub found_at : List ℕ → ℕ → Option ℕ
found_at names x = cond (ltb (rule.position names x) (length names)) (Some (rule.position names x)) None

-- The view of what `read_row` gives: the row and the offset of the next field, or the refusal.
abbrev pub row_view : Result (code.Parsed Row) Refusal → Parsed rule.Row
row_view = parsed_view (λ r. record { at = r.at; units = r.units })

-- The view of what `read_preamble` gives, with the names that it stored.
abbrev pub preamble_view : List ℕ → Result (code.Parsed Preamble) Refusal → Parsed rule.Preamble
preamble_view names = parsed_view (λ f. record { plan = f.plan; names = take f.plan.count names; rows = f.rows })

-- The contract of `read_jobs`: the next offset, the plan and the names; after a refusal, only the refusal.
abbrev pub JobsAnswer : Head → Parsed (List Job) → Result (code.Parsed Plan) Refusal → List ℕ → Type 0
JobsAnswer h (got jobs next) (Ok p) names = (p.next ≡ next) × (p.value ≡ rule.plan_from h jobs) × (take h.count names ≡ names_of jobs)
JobsAnswer h (got jobs next) (Err refusal) names = ⊥
JobsAnswer h (no k) (Ok p) names = ⊥
JobsAnswer h (no k) (Err refusal) names = refusal_view refusal ≡ k

-- The contract of `store_rows`: the next offset and the table; after a refusal, only the refusal.
abbrev pub RowsAnswer : Parsed (List ℕ) → Result ℕ Refusal → List ℕ → Type 0
RowsAnswer (got table next) (Ok after) left = (after ≡ next) × (left ≡ table)
RowsAnswer (got table next) (Err refusal) left = ⊥
RowsAnswer (no k) (Ok after) left = ⊥
RowsAnswer (no k) (Err refusal) left = refusal_view refusal ≡ k

-- The contract of `fill`: the plan and, if the table was all zeros, the table; after a refusal, only the
-- refusal.
abbrev pub FillAnswer : Parsed rule.Contents → (table : List ℕ) (r : Result Plan Refusal) (left : List ℕ) → Type 0
FillAnswer (got contents next) table (Ok plan) left = (plan ≡ contents.plan) × (table ≡ replicate places 0 → left ≡ contents.table)
FillAnswer (got contents next) table (Err refusal) left = ⊥
FillAnswer (no k) table (Ok plan) left = ⊥
FillAnswer (no k) table (Err refusal) left = refusal_view refusal ≡ k

-- The job count of a file's contents, or 0 for a refused file.
abbrev pub count_of : Parsed rule.Contents → ℕ
count_of (got contents next) = contents.plan.count
count_of (no refusal) = 0
