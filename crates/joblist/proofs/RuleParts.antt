-- What rules 5 to 9 say of a list of jobs, part by part.
use mathlib.Core.Path.{◌≡◌}
use mathlib.Core.Bool.{true, not, ◌&&◌}
use Prim.Native.Nat.{ℕ, ◌≤◌, ◌<◌, ◌^◌}
use native.Mathlib.Omega.{arith}
use borrow.Author.Tests.{leb-true}
use lib.Dec.{leb}
use Rattle.base.specs.Below.{every}
use Rattle.base.proofs.Logic.{both}
use Rattle.base.proofs.Below.{every_at}
use Rattle.plan.specs.Edition.{most_jobs, most_size}
use Rattle.plan.specs.Rules.{job_in, counted_in, name_allowed, same_name, grade_allowed, window_allowed, size_allowed, count_holds, names_hold, names_differ, grades_hold, bounds_hold, jobs_hold}
use Rattle.plan.specs.declared.kinds.JobList.{JobList}

pub record Meets (l : JobList) : Type 0 where
  pub some : 1 ≤ l.count
  pub few : l.count ≤ most_jobs
  pub named : (i : ℕ) → i < l.count → name_allowed (job_in l i).name.0 ≡ true
  pub apart : (i : ℕ) → i < l.count → (k : ℕ) → k < i → not (same_name (job_in l k).name.0 (job_in l i).name.0) ≡ true
  pub graded : (i : ℕ) → i < l.count → grade_allowed (job_in l i).grade ≡ true
  pub window : (i : ℕ) → i < l.count → window_allowed (job_in l i).release.0 (job_in l i).deadline.0 ≡ true
  pub size : (i : ℕ) → i < l.count → size_allowed (job_in l i).size.0 ≡ true

pub meets : (l : JobList) → jobs_hold l ≡ true → Meets l
unfolding names_hold names_differ grades_hold bounds_hold
meets l e =
    let n = counted_in l in
    let s₁ = both (count_holds l && names_hold l && names_differ l && grades_hold l) (bounds_hold l) e in
    let s₂ = both (count_holds l && names_hold l && names_differ l) (grades_hold l) s₁.0 in
    let s₃ = both (count_holds l && names_hold l) (names_differ l) s₂.0 in
    let s₄ = both (count_holds l) (names_hold l) s₃.0 in
    let number = both (leb 1 l.count) (leb l.count most_jobs) s₄.0 in
    let one = leb-true 1 l.count number.0 in
    let most = leb-true l.count most_jobs number.1 in
    let bounds : (i : ℕ) → i < l.count → (window_allowed (job_in l i).release.0 (job_in l i).deadline.0 ≡ true) × (size_allowed (job_in l i).size.0 ≡ true)
    = λ i h. both (window_allowed (job_in l i).release.0 (job_in l i).deadline.0) (size_allowed (job_in l i).size.0) (every_at (λ k. window_allowed (job_in l k).release.0 (job_in l k).deadline.0 && size_allowed (job_in l k).size.0) n i s₁.1 (omega arith)) in
    record {
      some = one;
      few = most;
      named = λ i h. every_at (λ k. name_allowed (job_in l k).name.0) n i s₄.1 (omega arith);
      apart = λ i h k b.
          every_at (λ k. not (same_name (job_in l k).name.0 (job_in l i).name.0)) i k
          (every_at (λ i. every (λ k. not (same_name (job_in l k).name.0 (job_in l i).name.0)) i) n i s₃.1 (omega arith)) b;
      graded = λ i h. every_at (λ k. grade_allowed (job_in l k).grade) n i s₂.1 (omega arith);
      window = λ i h. (bounds i h).0;
      size = λ i h. (bounds i h).1;
    }

-- A size that rule 9 allows fits into 32 bits.
pub small : {l : JobList} → Meets l → (i : ℕ) → i < l.count → (job_in l i).size.0 < 2 ^ 32
small {l} m i h =
    let u = (job_in l i).size.0 in
    omega (arith, leb-true u most_size (both (leb 1 u) (leb u most_size) (m.size i h)).1)
