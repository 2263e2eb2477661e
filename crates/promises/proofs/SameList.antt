-- Job lists with the same count and the same counted jobs are exported to the same text, whatever stands in their other records.
use mathlib.Core.Path.{◌≡◌, refl, ap₂}
use mathlib.Core.List.{List, [], ◌++◌}
use Prim.Native.Nat.{ℕ, zero, suc, ◌<◌}
use native.Mathlib.Omega.{arith}
use Rattle.plan.specs.Rules.{job_in, counted_in, jobs_hold}
use Rattle.plan.specs.Same.{Same}
use Rattle.plan.specs.declared.kinds.JobList.{JobList}
use Rattle.plan.specs.declared.kinds.Plan.{Plan}
use Rattle.joblist.specs.Export.{line_text, lines_text, list_text, exported, SameJobs}
use Rattle.hostmemory.specs.Memory.{short_list, list_held}
use Rattle.gateway.specs.Calls.{export_call}
use Rattle.promises.proofs.SameSlot.{grades_same, bounds_same}
use Rattle.promises.proofs.SameVerdict.{names_hold_same, names_differ_same}

-- A list's jobs as those of a plan without rates.
abbrev plan_with : JobList → Plan
plan_with l = record { n = record { 0 = 0 }; d = record { 0 = 0 }; count = l.count; jobs = l.jobs }

module _ (a b : JobList) (same : SameJobs a b) where
  as_plans : Same (plan_with a) [] (plan_with b) []
  as_plans = record { n = refl; d = refl; count = same.count; jobs = same.jobs; cells = refl }

  pub jobs_hold_same : jobs_hold a ≡ jobs_hold b
  jobs_hold_same =
      let p = plan_with a in
      let q = plan_with b in
      rw (names_hold_same p [] q [] as_plans, names_differ_same p [] q [] as_plans, grades_same p [] q [] as_plans, bounds_same p [] q [] as_plans, same.count) refl

  lines_same : (n : ℕ) → ((i : ℕ) → i < n → job_in a i ≡ job_in b i) → lines_text a n ≡ lines_text b n
  unfolding lines_text
  lines_same zero h = refl
  lines_same (suc n) h = ap₂ (λ l j. l ++ line_text j) (lines_same n (λ i l. h i (omega arith))) (h n (omega arith))

  text_same : list_text a ≡ list_text b
  unfolding list_text
  text_same = rw (lines_same (counted_in a) same.jobs, same.count) refl

  pub same_exported : (out : List ℕ) → exported a out ≡ exported b out
  unfolding exported
  same_exported out = rw (jobs_hold_same, text_same) refl

-- Words that encode the same list get the same, on both sides enough of them.
pub same_host_export : (list other out : List ℕ) (was : ℕ) → short_list list ≡ short_list other → SameJobs (list_held list) (list_held other)
    → export_call list out was ≡ export_call other out was
unfolding export_call
same_host_export list other out was short same = rw (short, same_exported (list_held list) (list_held other) same out) refl
