-- The views of the answers of import and export, and their contracts.
use Rattle.std.specs.Prelude.{◌≡◌, List, [], ◌∷◌, ℕ, Result, Ok, Err}
use Rattle.plan.specs.Kinds.{Bytes}
use Rattle.plan.specs.JobLists.{list_of}
use Rattle.plan.specs.Refusal.{number_of}
use Rattle.plan.specs.declared.kinds.JobList.{JobList}
use Rattle.plan.specs.declared.refusal.Reason.{Reason}
use Rattle.plan.specs.declared.refusal.Refusal.{Refusal}
use Rattle.joblist.specs.Import as rule
use Rattle.joblist.specs.Export as export

-- The view of the import's answer: the jobs with an empty report; or no jobs, with the refusal's number and its
-- offset.
abbrev pub import_view : Result JobList Refusal → rule.ImportEffect
import_view (Ok list) = record { answer = []; list = list }
import_view (Err refusal) = record { answer = number_of refusal.reason ∷ refusal.offset ∷ []; list = list_of [] }

-- The contract of `import`: the answer and the jobs are those of `imported`.
abbrev pub Imports : (text : Bytes) (r : Result JobList Refusal) → Type 0
Imports text r = import_view r ≡ rule.imported text

-- The view of the export's answer: the text's length, or the refusal number.
abbrev pub export_view : Result ℕ Reason → export.Answer
export_view (Ok n) = export.wrote n
export_view (Err reason) = export.refused (number_of reason)

-- The contract of `export`: the answer and the output at exit are those of `exported`.
abbrev pub Exports : (list : JobList) (out : Bytes) (r : Result ℕ Reason) (left : List ℕ) → Type 0
Exports list out r left = record { answer = export_view r; out = left } ≡ export.exported list out
