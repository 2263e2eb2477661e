-- The contracts of `import` and `export` determine their results, and can be met for every input.
use Rattle.std.proofs.Common.{◌≡◌, List, [], ◌∷◌, ℕ, refl, sym, ◌∙◌, ap}
use Rattle.std.specs.Prelude.{Result, Ok, Err}
use Rattle.plan.specs.Kinds.{Bytes}
use Rattle.plan.specs.JobLists.{list_of}
use Rattle.plan.specs.Refusal.{Refusal}
use Rattle.plan.specs.declared.kinds.Job.{Job}
use Rattle.plan.specs.declared.kinds.JobList.{JobList}
use Rattle.plan.specs.declared.refusal.Reason.{Reason}
use Rattle.plan.specs.declared.refusal.Reason.TheVariants as reason
use Rattle.plan.specs.declared.refusal.Refusal as code
use Rattle.plan.proofs.Reasons.{number_some, refusal_some}
use Rattle.fields.specs.Parsers.{Parsed, got, no}
use Rattle.fields.proofs.Only.{Only}
use Rattle.joblist.specs.Import.{job_text, imported_from, imported}
use Rattle.joblist.specs.Export.{ExportEffect, exported}
use Rattle.joblist.specs.Export as export
use Rattle.joblist.specs.Answers.{import_view, Imports, Exports}
use Rattle.joblist.proofs.Injective.{import_view_injective, export_view_injective}
use Rattle.joblist.proofs.Numbers.{import_numbers, text_only, export_numbers_lem}

pub one_import : (text : Bytes) (r s : Result JobList code.Refusal) → Imports text r → Imports text s → r ≡ s
one_import text r s d e = import_view_injective r s (d ∙ sym e)

-- The reasons for which a text is refused: their numbers are `import_numbers`.
abbrev import_reasons : List Reason
import_reasons =
    reason.WrongHeader ∷ reason.WrongJobCount ∷ reason.WrongLine ∷ reason.WrongNameByte ∷ reason.NameTaken ∷ reason.WrongGrade ∷ reason.WrongJobBounds ∷ []

pub some_import : (text : Bytes) → (r : Result JobList code.Refusal) × Imports text r
unfolding imported
some_import text = by (job_text text 0) (text_only text)
  where
    by : (s : Parsed (List Job)) → Only import_numbers s → (r : Result JobList code.Refusal) × (import_view r ≡ imported_from s)
    by (got jobs next) h = (Ok (list_of jobs), refl)
    by (no k) h =
        let r = refusal_some import_reasons k h in
        (Err r.0, ap (λ (x : Refusal). imported_from (no x)) r.1)

pub one_export : (list : JobList) (out : Bytes) (r s : Result ℕ Reason) (left right : List ℕ) → Exports list out r left → Exports list out s right
    → (r ≡ s) × (left ≡ right)
one_export list out r s left right d e =
    let same = d ∙ sym e in
    (export_view_injective r s (ap (λ (x : ExportEffect). x.answer) same), ap (λ (x : ExportEffect). x.out) same)

pub some_export : (list : JobList) (out : Bytes) → (r : Result ℕ Reason) × (left : List ℕ) × Exports list out r left
some_export list out = by (exported list out).answer refl
  where
    by : (a : export.Answer) → (exported list out).answer ≡ a → (r : Result ℕ Reason) × (left : List ℕ) × Exports list out r left
    by (export.wrote n) e = (Ok n, (exported list out).out, λ i. record { answer = sym e i; out = (exported list out).out })
    by (export.refused n) e =
        let s = number_some (reason.Unsound ∷ reason.BufferTooShort ∷ []) n (export_numbers_lem list out n e) in
        (Err s.0, (exported list out).out, λ i. record { answer = (ap export.refused s.1 ∙ sym e) i; out = (exported list out).out })
