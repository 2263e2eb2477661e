-- Folding as it happened: a judge that adds up a job's allotments by folded name passes a table in
-- which the second of two such names has nothing, and the second transfer is lost.
use mathlib.Core.Path.{◌≡◌, refl}
use mathlib.Core.Logic.{inr}
use mathlib.Core.Bool.{not}
use mathlib.Core.List.{List, [], ◌∷◌}
use Prim.Native.Nat.{ℕ}
use native.Mathlib.Omega.{arith}
use lib.Dec.{eqb, lit<, lit≤}
use Rattle.base.specs.Sum.{sum, on}
use Rattle.base.specs.Below
use Rattle.plan.specs.Edition.{name_bytes}
use Rattle.plan.specs.Refusal.{wrong_total}
use Rattle.plan.specs.Rules.{hi, counted, name, size, name_allowed, names_hold, names_differ, grades_hold, bounds_hold, rules_hold}
use Rattle.plan.specs.Boundaries.{insert, boundaries_to, come}
use Rattle.plan.specs.Table.{no_stray, sound}
use Rattle.plan.specs.declared.kinds.Job.{Job}
use Rattle.plan.specs.declared.kinds.Plan.{Plan}
use Rattle.judge.specs.Constraints.{total}
use Rattle.judge.specs.Verdict.{outside_fault, total_fault, capacity_fault, is_hi_deadline, floor_fault, hand_fault, judged}
use Rattle.plan.specs.Report.{Report, or_else, fault, first}
use Rattle.dispatch.specs.Order
use Rattle.dispatch.specs.Step.{started, slot_sound, slot_fault, granted, added, advanced, stepped}
use Rattle.promises.specs.Night.{run_after, had, night_at}
use Rattle.promises.proofs.Cases.{job, plan_with, table_of, capital_mirror, small_mirror}
use Rattle.promises.proofs.WrongVariants.{folded, Lost, run_by, had_by}

-- The total units of all jobs whose folded name is that of job i.
abbrev pub total_by_folded_name : Plan → List ℕ → ℕ → ℕ
total_by_folded_name p table i =
    sum (λ k. on (eqb (folded name_bytes (name p k)) (folded name_bytes (name p i))) (total p table k)) (counted p)

-- The folding judge: as `judged`, but rule 16 compares a job's size with the total by folded name.
abbrev pub judged_folding : Plan → List ℕ → Report
judged_folding p table =
    or_else (hand_fault p table)
    (or_else (outside_fault p table)
    (or_else (first (λ i. fault (not (eqb (total_by_folded_name p table i) (size p i))) (wrong_total ∷ i ∷ [])) (counted p))
    (or_else (capacity_fault p table) (floor_fault p table))))

-- Two essential transfers of one size and window, whose names differ in the case of one letter.
abbrev pub two_mirrors : List Job
two_mirrors = job capital_mirror hi 0 2 4 ∷ job small_mirror hi 0 2 4 ∷ []

abbrev pub plan_of_two : Plan
plan_of_two = plan_with two_mirrors

-- A table that gives the first its two units and the second nothing.
abbrev pub table_of_one : List ℕ
table_of_one = table_of ((2 ∷ []) ∷ (0 ∷ []) ∷ [])

-- The folding judge accepts it.
pub folding_passes : judged_folding plan_of_two table_of_one ≡ []
unfolding folded table_of sum Below.every name_allowed names_hold names_differ grades_hold bounds_hold rules_hold insert boundaries_to no_stray sound first outside_fault capacity_fault is_hi_deadline floor_fault
folding_passes = refl

-- Then, with the real step and at the normal rate throughout, the second is lost.
pub folding_loses : Lost stepped plan_of_two table_of_one (2 ∷ 2 ∷ 2 ∷ 2 ∷ []) 1
unfolding run_by had_by table_of sum Below.every Below.least Below.greatest grades_hold bounds_hold insert boundaries_to come started slot_sound slot_fault granted Order.order Order.queue Order.enqueue Order.serve added advanced stepped
folding_loses = record { a_job = lit< tt; owed = inr (omega arith); come = lit≤ tt; short = lit< tt }

-- It has had nothing at its deadline, and the first has had its size.
pub second_has_nothing : (had plan_of_two (night_at plan_of_two table_of_one (2 ∷ 2 ∷ 2 ∷ 2 ∷ [])) 1 ≡ 0)
    × (had plan_of_two (night_at plan_of_two table_of_one (2 ∷ 2 ∷ 2 ∷ 2 ∷ [])) 0 ≡ 2)
unfolding run_after had table_of sum Below.every Below.least Below.greatest grades_hold bounds_hold insert boundaries_to come started slot_sound slot_fault granted Order.order Order.queue Order.enqueue Order.serve added advanced stepped
second_has_nothing = (refl, refl)

-- The judge refuses the table by 16, at the second.
pub unfolded_refuses : judged plan_of_two table_of_one ≡ wrong_total ∷ 1 ∷ []
unfolding table_of sum Below.every name_allowed names_hold names_differ grades_hold bounds_hold rules_hold insert boundaries_to no_stray sound first outside_fault total_fault judged
unfolded_refuses = refl
