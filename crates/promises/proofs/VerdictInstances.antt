-- Instances of two theorems of the judge, computed: a plan without HI jobs, and P3 with the floor
-- rule over all later boundaries.
use mathlib.Core.Path.{◌≡◌, refl}
use mathlib.Core.List.{List, [], ◌∷◌}
use Prim.Native.Nat.{ℕ}
use Rattle.base.specs.Sum.{sum}
use Rattle.base.specs.Below
use Rattle.plan.specs.Refusal.{below_floor_rule}
use Rattle.plan.specs.Rules.{lo, name_allowed, names_hold, names_differ, grades_hold, bounds_hold, rules_hold}
use Rattle.plan.specs.Boundaries.{insert, boundaries_to}
use Rattle.plan.specs.Table.{no_stray, sound}
use Rattle.plan.specs.declared.kinds.Plan.{Plan}
use Rattle.judge.specs.Verdict.{outside_fault, total_fault, capacity_fault, is_hi_deadline, floor_fault, judged}
use Rattle.plan.specs.Report.{first}
use Rattle.judge.specs.AllBoundaries.{boundary_fault, judged_at_boundaries}
use Rattle.judge.specs.Slack.{none_essential, through, least_slack, slack_figure}
use Rattle.promises.proofs.Cases.{job, plan_with, table_of, P3, capital_mirror}

-- A plan of one LO job of two units.
abbrev one_other : Plan
one_other = plan_with (job capital_mirror lo 0 2 2 ∷ [])

abbrev one_other_table : List ℕ
one_other_table = table_of ((2 ∷ []) ∷ [])

-- It is accepted, and none is essential.
one_other_accepted : (judged one_other one_other_table ≡ []) × (slack_figure one_other one_other_table ≡ none_essential)
unfolding table_of sum Below.every name_allowed names_hold names_differ grades_hold bounds_hold rules_hold insert boundaries_to no_stray sound first outside_fault total_fault capacity_fault is_hi_deadline floor_fault judged through least_slack slack_figure
one_other_accepted = (refl, refl)

-- P3 is refused by 18 at interval 2 and time 10 over all later boundaries too.
P3_at_boundaries : judged_at_boundaries (plan_with P3.jobs) (table_of P3.rows) ≡ below_floor_rule ∷ 2 ∷ 10 ∷ []
unfolding table_of sum Below.every name_allowed names_hold names_differ grades_hold bounds_hold rules_hold insert boundaries_to no_stray sound first outside_fault total_fault capacity_fault boundary_fault judged_at_boundaries
P3_at_boundaries = refl
