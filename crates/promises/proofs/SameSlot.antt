-- Plans that are the same get the same effect from a slot's call, and the same outcomes.
use mathlib.Core.Path.{◌≡◌, refl, ◌∙◌, ap}
use mathlib.Core.Bool.{Bool}
use mathlib.Core.List.{List, [], ◌∷◌, ◌++◌}
use Prim.Native.Nat.{ℕ, zero, suc, ◌<◌}
use native.Mathlib.Omega.{arith}
use lib.Dec.{ltb}
use lib.ListN.{length, get_or}
use Rattle.base.specs.Below.{every}
use Rattle.base.proofs.Below.{every_ext}
use Rattle.plan.specs.Edition.{most_jobs, places}
use Rattle.plan.specs.Rules.{jobs_of, counted, job_of, release, deadline, size, hi, is_hi, grades_hold, bounds_hold}
use Rattle.plan.specs.Boundaries.{boundaries, first_release, last_deadline}
use Rattle.plan.specs.Same.{Same}
use Rattle.plan.specs.declared.kinds.Job.{Job}
use Rattle.plan.specs.declared.kinds.Plan.{Plan}
use Rattle.dispatch.specs.declared.Run.{Run}
use Rattle.dispatch.specs.Dues.{slow_at}
use Rattle.dispatch.specs.Step.{started, stepped, outcome, told_ended}
use Rattle.dispatch.specs.Shift.{shifted}
use Rattle.dispatch.proofs.SlotsInTurn.{alike_shift}
use Rattle.dispatch.proofs.Alike as alike
use Rattle.dispatch.proofs.Alike.{Alike, Done}
use Rattle.promises.proofs.Cases.{padded, job, table_of, capital_mirror, jobs_of_e, plan_e, table_e}

module _ (p : Plan) (table : List ℕ) (q : Plan) (other : List ℕ) (same : Same p table q other) where
  pub release_same : (i : ℕ) → i < counted p → release p i ≡ release q i
  release_same i h = ap (λ j. j.release.0) (same.jobs i h)

  pub deadline_same : (i : ℕ) → i < counted p → deadline p i ≡ deadline q i
  deadline_same i h = ap (λ j. j.deadline.0) (same.jobs i h)

  pub size_same : (i : ℕ) → i < counted p → size p i ≡ size q i
  size_same i h = ap (λ j. j.size.0) (same.jobs i h)

  -- Plans that are the same are alike.
  are_alike : Alike p table q other
  are_alike =
      record {
        n = same.n;
        d = same.d;
        count = same.count;
        grade = λ i h. ap (λ j. j.grade) (same.jobs i h);
        release = release_same;
        size = size_same;
        deadline = deadline_same;
        cells = same.cells;
      }

  pub counted_same : counted p ≡ counted q
  counted_same = alike.counted_same p table q other are_alike

  pub hi_same : (i : ℕ) → i < counted p → is_hi p i ≡ is_hi q i
  hi_same = alike.hi_same p table q other are_alike

  pub boundaries_same : boundaries p ≡ boundaries q
  boundaries_same = alike.boundaries_same p table q other are_alike

  pub first_same : first_release p ≡ first_release q
  first_same = alike.first_same p table q other are_alike

  pub last_same : last_deadline p ≡ last_deadline q
  last_same = alike.last_same p table q other are_alike

  -- A test of every counted record has the same result for both plans.
  pub every_same : (test : Job → Bool) → every (λ i. test (job_of p i)) (counted p) ≡ every (λ i. test (job_of q i)) (counted q)
  every_same test =
      every_ext (λ i. test (job_of p i)) (λ i. test (job_of q i)) (counted p) (λ i h. ap test (same.jobs i h))
      ∙ ap (every (λ i. test (job_of q i))) counted_same

  pub grades_same : grades_hold (jobs_of p) ≡ grades_hold (jobs_of q)
  grades_same = alike.grades_same p table q other are_alike

  pub bounds_same : bounds_hold (jobs_of p) ≡ bounds_hold (jobs_of q)
  bounds_same = alike.bounds_same p table q other are_alike

  -- Both tables are long enough, or neither is.
  pub long_same : ltb (length table) places ≡ ltb (length other) places
  long_same = alike.long_same p table q other are_alike

  -- Their own places are equal.
  pub cell_same : (k : ℕ) → k < places → get_or table k 0 ≡ get_or other k 0
  cell_same = alike.cell_same p table q other are_alike

  -- They get the same answer, run and grants from a slot's call.
  pub same_slot : (run : Run) (v : ℕ) (grants : List ℕ) → stepped p table run v grants ≡ stepped q other run v grants
  same_slot = alike.alike_slot p table q other are_alike

  -- A done call is a slow slot for both, or for neither.
  pub same_slow : (run : Run) (v : ℕ) (grants : List ℕ) → Done p table run v grants → slow_at p table run v ≡ slow_at q other run v
  same_slow = alike.slow_same p table q other are_alike

  -- They get the same answer, run, rows and numbers from a shift.
  pub same_shift : (run : Run) (speeds rows numbers : List ℕ) → shifted p table run speeds rows numbers ≡ shifted q other run speeds rows numbers
  same_shift = alike_shift p table q other are_alike

  -- They get the same answer and run from the word that a job has ended.
  pub same_word : (run : Run) (i : ℕ) → told_ended p run i ≡ told_ended q run i
  same_word = alike.alike_told p table q other are_alike

  -- Their jobs have the same outcomes.
  pub same_outcome : (run : Run) (i : ℕ) → outcome p run i ≡ outcome q run i
  same_outcome = alike.alike_outcome p table q other are_alike

-- Plan E as another host may hold it: with other records from the
-- count on, and one more place after its table.
abbrev pub else_e : Plan
else_e = record { n = plan_e.n; d = plan_e.d; count = plan_e.count; jobs = padded most_jobs (job capital_mirror hi 3 7 9) jobs_of_e }

abbrev pub else_table : List ℕ
else_table = table_e ++ (9 ∷ [])

-- It is the same plan, and so gets the same from a slot's call and the same outcome.
pub same_e : Same plan_e table_e else_e else_table
unfolding table_of
same_e = record { n = refl; d = refl; count = refl; jobs = counted_same_e; cells = refl }
  where
    counted_same_e : (i : ℕ) → i < counted plan_e → job_of plan_e i ≡ job_of else_e i
    counted_same_e zero h = refl
    counted_same_e (suc zero) h = refl
    counted_same_e (suc (suc i)) h = absurd (omega arith)

same_slot_e : stepped plan_e table_e (started plan_e) 2 (7 ∷ 7 ∷ 7 ∷ []) ≡ stepped else_e else_table (started plan_e) 2 (7 ∷ 7 ∷ 7 ∷ [])
same_slot_e = same_slot plan_e table_e else_e else_table same_e (started plan_e) 2 (7 ∷ 7 ∷ 7 ∷ [])

same_outcome_e : outcome plan_e (started plan_e) 1 ≡ outcome else_e (started plan_e) 1
same_outcome_e = same_outcome plan_e table_e else_e else_table same_e (started plan_e) 1
