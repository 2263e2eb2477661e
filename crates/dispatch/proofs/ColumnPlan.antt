-- The plan made from columns has these columns, and every plan that has them is alike to it.
use mathlib.Core.Path.{◌≡◌, refl, sym, ◌∙◌, ap}
use mathlib.Core.List.{List, [], ◌∷◌, ◌++◌}
use Prim.Native.Nat.{ℕ, zero, suc, ◌<◌}
use native.Mathlib.Omega.{arith}
use lib.ListN.{length, get_or, length-append, get_or-append}
use lib.Seq.{get_or-append_seam}
use Rattle.base.proofs.Logic.{below-or-last}
use Rattle.plan.specs.Edition.{most_jobs}
use Rattle.plan.specs.Rules.{no_job, counted, job_of}
use Rattle.plan.specs.Columns.{HasColumns}
use Rattle.plan.specs.declared.kinds.Job.{Job}
use Rattle.plan.specs.declared.columns.Columns.{Columns}
use Rattle.plan.specs.declared.kinds.Plan.{Plan}
use Rattle.dispatch.specs.Inner.Columns.{job_on, jobs_on, plan_on}
use Rattle.dispatch.proofs.Alike.{Alike}

module _ (cols : Columns) where
  jobs_long : (n : ℕ) → length (jobs_on cols n) ≡ n
  unfolding jobs_on
  jobs_long zero = refl
  jobs_long (suc n) = length-append (jobs_on cols n) _ ∙ rw (jobs_long n) (omega arith)

  job_at_lem : (n i : ℕ) → i < n → get_or (jobs_on cols n) i no_job ≡ job_on cols i
  unfolding jobs_on
  job_at_lem zero i h = absurd (omega arith)
  job_at_lem (suc n) i h =
      below-or-last i n h
      (λ l. get_or-append (jobs_on cols n) _ no_job i (rw (jobs_long n) l) ∙ job_at_lem n i l)
      (λ e.
      let at : i ≡ length (jobs_on cols n) = e ∙ sym (jobs_long n) in
      ap (λ k. get_or (jobs_on cols n ++ (job_on cols n ∷ [])) k no_job) at
      ∙ get_or-append_seam (jobs_on cols n) (job_on cols n) [] no_job
      ∙ ap (job_on cols) (sym e))

  -- Job i of the plan is job i of the columns.
  pub job_on_lem : (i : ℕ) → i < most_jobs → job_of (plan_on cols) i ≡ job_on cols i
  job_on_lem i h = job_at_lem most_jobs i h

  -- The columns are those of the plan made from them. So there is a plan for all columns, and a promise
  -- for every plan whose columns they are determines its result.
  pub own_columns : HasColumns (plan_on cols) cols
  own_columns =
      record {
        n = refl;
        d = refl;
        count = refl;
        grade = λ i h. ap (λ (j : Job). j.grade) (sym (job_on_lem i (omega arith)));
        release = λ i h. ap (λ (j : Job). j.release.0) (sym (job_on_lem i (omega arith)));
        size = λ i h. ap (λ (j : Job). j.size.0) (sym (job_on_lem i (omega arith)));
        deadline = λ i h. ap (λ (j : Job). j.deadline.0) (sym (job_on_lem i (omega arith)));
      }

  -- A plan with these columns is alike to the plan made from them, with any table.
  pub columns_alike : (p : Plan) (table : List ℕ) → HasColumns p cols
      → Alike p table (plan_on cols) table
  columns_alike p table c =
      let few : (i : ℕ) → i < counted p → i < most_jobs = λ i h. omega arith in
      record {
        n = c.n;
        d = c.d;
        count = c.count;
        grade = λ i h. sym (c.grade i h) ∙ ap (λ (j : Job). j.grade) (sym (job_on_lem i (few i h)));
        release = λ i h. sym (c.release i h) ∙ ap (λ (j : Job). j.release.0) (sym (job_on_lem i (few i h)));
        size = λ i h. sym (c.size i h) ∙ ap (λ (j : Job). j.size.0) (sym (job_on_lem i (few i h)));
        deadline = λ i h. sym (c.deadline i h) ∙ ap (λ (j : Job). j.deadline.0) (sym (job_on_lem i (few i h)));
        cells = refl;
      }
