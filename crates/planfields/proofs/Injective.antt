-- The views of heads and jobs are injective, and a parser's result that is refused only for reasons is the view of some answer.
use Rattle.std.proofs.Common.{◌≡◌, refl, ap}
use Rattle.std.specs.Prelude.{List, map, Result}
use Rattle.plan.specs.Refusal.{number_of}
use Rattle.plan.specs.declared.kinds.Job.{Job}
use Rattle.plan.specs.declared.refusal.Reason.{Reason}
use Rattle.plan.specs.declared.refusal.Refusal.{Refusal}
use Rattle.fields.specs.Parsers.{Parsed}
use Rattle.fields.specs.declared.field.Parsed as code
use Rattle.fields.proofs.Injective.{parsed_one, parsed_some}
use Rattle.fields.proofs.Only.{Only}
use Rattle.planfields.specs.Answers.{head_of, head_view, job_view}
use Rattle.planfields.specs.Records as rule
use Rattle.planfields.specs.declared.head.Head.{Head}

-- A head is told by its numbers, and each four numbers are those of a head.
code_of : rule.Head → Head
code_of h = record { version = h.version; n = record { 0 = h.n }; d = record { 0 = h.d }; count = h.count }

pub head_one : (g h : Head) → head_of g ≡ head_of h → g ≡ h
unfolding code_of
head_one g h e = ap code_of e

pub heads_one : (r s : Result (code.Parsed Head) Refusal) → head_view r ≡ head_view s → r ≡ s
heads_one = parsed_one head_of head_one

pub head_some : (some : List Reason) (s : Parsed rule.Head) → Only (map number_of some) s → (r : Result (code.Parsed Head) Refusal) × (head_view r ≡ s)
unfolding code_of
head_some = parsed_some head_of (λ h. (code_of h, refl))

pub jobs_one : (r s : Result (code.Parsed Job) Refusal) → job_view r ≡ job_view s → r ≡ s
jobs_one = parsed_one (λ j. j) (λ a b e. e)

pub job_some : (some : List Reason) (s : Parsed Job) → Only (map number_of some) s → (r : Result (code.Parsed Job) Refusal) × (job_view r ≡ s)
job_some = parsed_some (λ j. j) (λ j. (j, refl))
