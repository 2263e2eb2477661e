-- `judge::windows::outside_window` meets its contract. Loop
-- invariant: rule 15 holds for the first i jobs.
use Rattle.std.proofs.Common.{◌≡◌, Bool, ℕ, List, [], ◌∷◌, ◌<◌, ◌||◌, not, eqb, get_or, length, sym, ap, ap₂, ◌∙◌, arith}
use borrow.Author.Tests.{not-true, not-false}
use Rattle.base.specs.Below.{every}
use Rattle.base.proofs.Below.{every_ext}
use Rattle.plan.specs.Refusal.{outside_window}
use Rattle.plan.specs.Rules.{job_of}
use Rattle.plan.specs.Boundaries.{boundaries, intervals}
use Rattle.plan.specs.Report.{fault, first, is_none}
use Rattle.plan.specs.declared.kinds.Job.{Job}
use Rattle.plan.specs.declared.kinds.Plan.{Plan}
use Rattle.plan.proofs.Reports.{first_found, first_next, first_ext, none_empty, none_faults}
use Rattle.judge.specs.Constraints.{within, units, in_window}
use Rattle.judge.specs.Verdict.{is_outside, outside_fault}
use Rattle.judge.proofs.windows.outside_window.Goals as goal

-- The test of place j of a row, over slices; for the row of job i it is the test of rule 15.
abbrev fits : List ℕ → List ℕ → Job → ℕ → Bool
fits row times job j = within times job.release.0 job.deadline.0 j || eqb (get_or row j 0) 0

module _ (p : Plan) (table times row : List ℕ) (job : Job) (i : ℕ) (t : times ≡ boundaries p) (same : job ≡ job_of p i) (long : length row ≡ intervals p)
    (each : (j : ℕ) → j < intervals p → get_or row j 0 ≡ units table i j) where
  fits_is : (j : ℕ) → j < intervals p → fits row times job j ≡ (in_window p i j || eqb (units table i j) 0)
  fits_is j b =
      ap₂ (λ (x : List ℕ) (k : Job). within x k.release.0 k.deadline.0 j || eqb (get_or row j 0) 0) t same
      ∙ ap (λ u. in_window p i j || eqb u 0) (each j b)

  -- A row has no report exactly if rule 15 holds in all its intervals.
  row_none : is_none (first (λ j. fault (is_outside p table i j) (outside_window ∷ i ∷ j ∷ [])) (intervals p)) ≡ every (fits row times job) (length row)
  row_none =
      none_faults (λ j. in_window p i j || eqb (units table i j) 0) outside_window (λ j. i ∷ j ∷ []) (intervals p)
      ∙ sym (ap (every _) long ∙ every_ext _ _ (intervals p) fits_is)

  row_fault : first (λ j. fault (not (fits row times job j)) (outside_window ∷ i ∷ j ∷ [])) (length row)
      ≡ first (λ j. fault (is_outside p table i j) (outside_window ∷ i ∷ j ∷ [])) (intervals p)
  row_fault =
      ap (first _) long
      ∙ first_ext _ _ (intervals p) (λ j b. ap (λ x. fault (not x) (outside_window ∷ i ∷ j ∷ [])) (fits_is j b))

pub returns-then-not-row_inside : goal.returns-then-not-row_inside
unfolding outside_fault
returns-then-not-row_inside c =
    let hand = c.args.hand in
    let i = c.loop-i.i in
    let b : i < length c.jobs-job-items.result.now = omega arith in
    let job = c.jobs-job-items.ensures.each i (omega (arith, c.jobs-job-items.ensures.count)) in
    let row = c.row-row.ensures in
    c.outside_in_row.ensures
    ∙ row_fault hand.plan.now hand.table.now hand.times.now c.row-row.result.now _ i hand.are_boundaries job row.count row.each
    ∙ sym (first_found _ i _ c.loop-i.invariant (omega (arith, c.jobs-job-items.ensures.count))
    (row_none hand.plan.now hand.table.now hand.times.now c.row-row.result.now _ i hand.are_boundaries job row.count row.each
    ∙ sym c.row_inside.ensures ∙ not-true _ (ap not c.if-not-row_inside.true)))

pub loop-i-preserved : goal.loop-i-preserved
loop-i-preserved c =
    let hand = c.args.hand in
    let i = c.loop-i.i in
    let job = c.jobs-job-items.ensures.each i (omega (arith, c.jobs-job-items.ensures.count)) in
    let row = c.row-row.ensures in
    first_next _ i c.loop-i.invariant
    (none_empty _ (row_none hand.plan.now hand.table.now hand.times.now c.row-row.result.now _ i hand.are_boundaries job row.count row.each
    ∙ sym c.row_inside.ensures ∙ not-false _ (ap not c.if-not-row_inside.false)))
