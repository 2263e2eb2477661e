-- Laws of the preamble.
use mathlib.Core.Path.{◌≡◌, ◌∙◌}
use mathlib.Core.List.{List, []}
use Prim.Native.Nat.{ℕ, ◌≤◌}
use native.Mathlib.Omega.{arith}
use lib.ListN.{length}
use Rattle.std.specs.Prelude.{true}
use Rattle.plan.specs.Edition.{most_jobs, most_intervals}
use Rattle.plan.specs.Versions.{rows_allowed_in}
use Rattle.plan.specs.Refusal.{too_many_rows}
use Rattle.plan.specs.Rules.{counted}
use Rattle.plan.specs.Boundaries.{intervals}
use Rattle.fields.specs.Parsers.{got, checked}
use Rattle.planfields.specs.Records.{Head, head}
use Rattle.planfile.specs.Reader.{all_jobs, plan_from, Preamble, preamble}
use Rattle.planfile.specs.Inner.Parts.{Distinct}
use Rattle.plan.proofs.BoundaryOrder.{boundaries_few}
use Rattle.plan.proofs.VersionLimits.{count_some, count_fits}
use Rattle.planfile.proofs.Offsets.{head_read}
use Rattle.plan.proofs.JobLists.{names_length}
use Rattle.planfile.proofs.DistinctNames.{jobs_apart}
use Rattle.fields.proofs.ParserLaws.{through, same_value}

-- A head that is read has at least one job, and no more than a plan in hand has room for.
pub head_count : (file : List ℕ) {h : Head} {next : ℕ} → head true file 0 ≡ got h next → (1 ≤ h.count) × (h.count ≤ most_jobs)
head_count file {h} e =
    let allowed = (head_read file e).some in
    (count_some h.version h.count allowed, count_fits h.version h.count allowed)

-- What a preamble that is read has: distinct names, one per counted job,
-- and jobs and intervals within their bounds.
pub record Fine (f : Preamble) : Type 0 where
  pub differ : Distinct f.names
  pub many : length f.names ≡ f.plan.count
  pub some : 1 ≤ f.plan.count
  pub few : f.plan.count ≤ most_jobs
  pub spans : intervals f.plan ≤ most_intervals

fine_of : {f g : Preamble} → Fine f → f ≡ g → Fine g
fine_of r e = rw e at r

pub preamble_fine : (file : List ℕ) {f : Preamble} {next : ℕ} → preamble file 0 ≡ got f next → Fine f
unfolding preamble
preamble_fine file e =
    let t₁ = through (head true file 0) e in
    let t₂ = through (all_jobs t₁.value.count [] file t₁.next) t₁.on in
    let t₃ = through (checked 2 (rows_allowed_in t₁.value.version) too_many_rows file t₂.next) t₂.on in
    let c = head_count file t₁.is in
    let apart = jobs_apart t₁.value.count [] file t₁.next t₂.value t₂.next t₂.is (λ i j hi hj e. absurd (omega arith)) in
    fine_of
    (record {
      differ = apart.0;
      many = names_length t₂.value ∙ omega (arith, apart.1);
      some = c.0;
      few = c.1;
      spans = omega (arith, boundaries_few (plan_from t₁.value t₂.value) (counted (plan_from t₁.value t₂.value)));
    })
    (same_value t₃.on)
