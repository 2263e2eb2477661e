-- Plans that are the same get the same verdict, slack figure and start.
use mathlib.Core.Path.{◌≡◌, refl, ◌∙◌, ap, ap₂}
use mathlib.Core.Bool.{false, not, ◌&&◌, ◌||◌}
use mathlib.Core.List.{List, [], ◌∷◌}
use Prim.Native.Nat.{ℕ, zero, suc, ◌+◌, ◌*◌, ◌-◌, ◌<◌}
use native.Mathlib.Omega.{arith}
use lib.Dec.{leb, ltb, eqb}
use lib.IntN.{sub_ℕ}
use lib.ListN.{length, get_or, replicate}
use Rattle.base.specs.Sum.{sum, on}
use Rattle.base.proofs.SumLaws.{sum_ext}
use Rattle.plan.specs.Edition.{most_jobs, most_intervals}
use Rattle.plan.specs.Refusal.{outside_window, wrong_total, over_capacity, below_floor_rule}
use Rattle.base.specs.Below.{every}
use Rattle.plan.specs.Rules.{jobs_of, counted, name, name_allowed, same_name, names_hold, names_differ, rules_hold}
use Rattle.plan.specs.Boundaries.{boundary, intervals}
use Rattle.plan.specs.Table.{sound_within, sound}
use Rattle.plan.specs.Same.{Same}
use Rattle.plan.specs.declared.kinds.Rate.{Rate}
use Rattle.plan.specs.declared.kinds.Plan.{Plan}
use Rattle.base.proofs.Below.{every_ext}
use Rattle.plan.proofs.BoundaryOrder.{boundaries_few}
use Rattle.judge.specs.Constraints.{units, in_window, interval_length, demand, floor_capacity}
use Rattle.judge.specs.Verdict.{outside_fault, total_fault, capacity_fault, is_hi_deadline, is_pair, falls_short, floor_fault, judged}
use Rattle.plan.specs.Report.{fault, first}
use Rattle.judge.specs.Slack.{Figure, none_essential, slack_of, taken, through, least_slack, slack_figure}
use Rattle.plan.proofs.Reports.{first_ext}
use Rattle.dispatch.specs.Step.{no_run, started, start_from, start_in}
use Rattle.dispatch.specs.declared.Run.{Run}
use Rattle.promises.proofs.Cases.{plan_e, table_e}
use Rattle.promises.proofs.SameSlot.{counted_same, release_same, deadline_same, size_same, hi_same, boundaries_same, first_same, every_same, grades_same, bounds_same, long_same, cell_same, else_e, else_table, same_e}

-- Iterations of equal steps are equal.
through_ext : {A : Type 0} (f g : ℕ → A → A) (n : ℕ) → ((k : ℕ) (a : A) → f k a ≡ g k a) → (a : A) → through f n a ≡ through g n a
unfolding through
through_ext f g zero h a = refl
through_ext f g (suc n) h a = h n (through f n a) ∙ ap (g n) (through_ext f g n h a)

module _ (p : Plan) (table : List ℕ) (q : Plan) (other : List ℕ) (same : Same p table q other) where
  jobs_same : counted p ≡ counted q
  jobs_same = counted_same p table q other same

  pub intervals_same : intervals p ≡ intervals q
  intervals_same = ap (λ l. length l - 1) (boundaries_same p table q other same)

  boundary_same : (j : ℕ) → boundary p j ≡ boundary q j
  boundary_same j = ap (λ l. get_or l j 0) (boundaries_same p table q other same)

  pub name_same : (i : ℕ) → i < counted p → name p i ≡ name q i
  name_same i h = ap (λ j. j.name.0) (same.jobs i h)

  pub names_differ_same : names_differ (jobs_of p) ≡ names_differ (jobs_of q)
  unfolding names_differ
  names_differ_same =
      every_ext _ _ (counted p)
      (λ i h. every_ext _ _ i (λ k l. ap₂ (λ a b. not (same_name a b)) (name_same k (omega arith)) (name_same i h)))
      ∙ ap (every _) jobs_same

  pub names_hold_same : names_hold (jobs_of p) ≡ names_hold (jobs_of q)
  unfolding names_hold
  names_hold_same = every_same p table q other same (λ j. name_allowed j.name.0)

  pub rules_same : rules_hold p ≡ rules_hold q
  unfolding rules_hold
  rules_same =
      rw (names_hold_same, names_differ_same, grades_same p table q other same, bounds_same p table q other same, same.n, same.d, same.count) refl

  pub sound_within_same : (spans : ℕ) → sound_within spans p table ≡ sound_within spans q other
  sound_within_same spans = rw (rules_same, same.cells, jobs_same) refl

  pub sound_same : sound p table ≡ sound q other
  unfolding sound
  sound_same = rw intervals_same (sound_within_same (intervals q))

  -- The allotments of counted jobs in the plan's intervals are among the table's own places.
  units_same : (i j : ℕ) → i < counted p → j < intervals p → units table i j ≡ units other i j
  units_same i j h k = cell_same p table q other same (most_intervals * i + j) (omega (arith, boundaries_few p (counted p)))

  window_same : (i j : ℕ) → i < counted p → in_window p i j ≡ in_window q i j
  window_same i j h =
      ap₂ ◌&&◌
      (ap₂ leb (release_same p table q other same i h) (boundary_same j))
      (ap₂ leb (boundary_same (suc j)) (deadline_same p table q other same i h))

  outside_same : outside_fault p table ≡ outside_fault q other
  unfolding outside_fault
  outside_same =
      first_ext _ _ (counted p)
      (λ i h.
      first_ext _ _ (intervals p)
      (λ j k. ap₂ (λ a u. fault (not (a || eqb u 0)) (outside_window ∷ i ∷ j ∷ [])) (window_same i j h) (units_same i j h k))
      ∙ ap (first _) intervals_same)
      ∙ ap (first _) jobs_same

  totals_same : total_fault p table ≡ total_fault q other
  unfolding total_fault
  totals_same =
      first_ext _ _ (counted p)
      (λ i h.
      ap₂ (λ t s. fault (not (eqb t s)) (wrong_total ∷ i ∷ []))
      (sum_ext _ _ (intervals p) (λ j k. units_same i j h k) ∙ ap (sum (units other i)) intervals_same)
      (size_same p table q other same i h))
      ∙ ap (first _) jobs_same

  interval_length_same : (j : ℕ) → interval_length p j ≡ interval_length q j
  interval_length_same j = ap₂ ◌-◌ (boundary_same (suc j)) (boundary_same j)

  capacity_same : capacity_fault p table ≡ capacity_fault q other
  unfolding capacity_fault
  capacity_same =
      first_ext _ _ (intervals p)
      (λ j k.
      ap₂ (λ c l. fault (ltb c l) (over_capacity ∷ j ∷ []))
      (ap₂ (λ (r : Rate) s. r.0 * s) same.n (interval_length_same j))
      (sum_ext _ _ (counted p) (λ i h. units_same i j h k) ∙ ap (sum (λ i. units other i j)) jobs_same))
      ∙ ap (first _) intervals_same

  demand_same : (l D : ℕ) → demand p table l D ≡ demand q other l D
  demand_same l D =
      sum_ext _ _ (counted p)
      (λ i h.
      ap₂ on
      (ap₂ (λ a b. a && leb b D) (hi_same p table q other same i h) (deadline_same p table q other same i h))
      (sum_ext _ _ (intervals p) (λ j k. ap₂ (λ b u. on (leb l j && leb b D) u) (boundary_same (suc j)) (units_same i j h k))
      ∙ ap (sum _) intervals_same))
      ∙ ap (sum _) jobs_same

  carries_same : (l D : ℕ) → floor_capacity p l D ≡ floor_capacity q l D
  carries_same l D = ap₂ (λ (r : Rate) b. r.0 * (D - b)) same.d (boundary_same l)

  hi_deadline_same : (D : ℕ) → is_hi_deadline p D ≡ is_hi_deadline q D
  unfolding is_hi_deadline
  hi_deadline_same D =
      ap not
      (every_ext _ _ (counted p)
      (λ i h. ap₂ (λ a b. not (a && eqb b D)) (hi_same p table q other same i h) (deadline_same p table q other same i h))
      ∙ ap (every _) jobs_same)

  pair_same : (l m : ℕ)
      → fault (is_pair p l m && falls_short p table l m) (below_floor_rule ∷ l ∷ boundary p m ∷ [])
      ≡ fault (is_pair q l m && falls_short q other l m) (below_floor_rule ∷ l ∷ boundary q m ∷ [])
  pair_same l m =
      rw (boundary_same m, hi_deadline_same (boundary q m), carries_same l (boundary q m), demand_same l (boundary q m)) refl

  floor_same : floor_fault p table ≡ floor_fault q other
  unfolding floor_fault
  floor_same =
      first_ext _ _ (intervals p)
      (λ l k.
      first_ext _ _ (suc (intervals p))
      (λ m e. pair_same l m)
      ∙ ap (first (λ m. fault (is_pair q l m && falls_short q other l m) (below_floor_rule ∷ l ∷ boundary q m ∷ []))) (ap suc intervals_same))
      ∙ ap (first _) intervals_same

  -- The judge gives plans that are the same the same verdict.
  pub same_verdict : judged p table ≡ judged q other
  unfolding judged
  same_verdict = rw (long_same p table q other same, sound_same, outside_same, totals_same, capacity_same, floor_same) refl

  -- They have the same slack of each pair and the same slack figure.
  pub same_slack_of : (l D : ℕ) → slack_of p table l D ≡ slack_of q other l D
  same_slack_of l D = ap₂ sub_ℕ (carries_same l D) (demand_same l D)

  taken_same : (l m : ℕ) (f : Figure) → taken p table l m f ≡ taken q other l m f
  taken_same l m f =
      rw (boundary_same m, hi_deadline_same (boundary q m), carries_same l (boundary q m), demand_same l (boundary q m)) refl

  least_same : least_slack p table ≡ least_slack q other
  unfolding least_slack
  least_same =
      through_ext _ _ (intervals p)
      (λ l f. through_ext _ _ (suc (intervals p)) (taken_same l) f ∙ ap (λ n. through (taken q other l) (suc n) f) intervals_same)
      none_essential
      ∙ ap (λ n. through (λ l. through (taken q other l) (suc (intervals q))) n none_essential) intervals_same

  pub same_slack : slack_figure p table ≡ slack_figure q other
  unfolding slack_figure
  same_slack = rw (long_same p table q other same, sound_same, outside_same, totals_same, capacity_same, least_same) refl

  -- A start begins the same run, by value and in a lent record.
  pub started_same : started p ≡ started q
  unfolding started
  started_same =
      let first = first_same p table q other same in
      λ i. record { clock = record { 0 = first i }; slow = false; below = false; carried = replicate most_jobs 0; ended = replicate most_jobs false }

  pub same_start : (was : Run) → start_from (judged p table) (started p) was ≡ start_from (judged q other) (started q) was
  same_start was = ap₂ (λ r run. start_from r run was) same_verdict started_same

  pub same_start_in : (was : Run) → start_in p table was ≡ start_in q other was
  unfolding start_in
  same_start_in was = same_start was

-- The two forms of plan E get the same verdict, slack figure, slack of a pair and start.
same_verdict_e : judged plan_e table_e ≡ judged else_e else_table
same_verdict_e = same_verdict plan_e table_e else_e else_table same_e

same_slack_e : slack_figure plan_e table_e ≡ slack_figure else_e else_table
same_slack_e = same_slack plan_e table_e else_e else_table same_e

same_slack_of_e : slack_of plan_e table_e 1 10 ≡ slack_of else_e else_table 1 10
same_slack_of_e = same_slack_of plan_e table_e else_e else_table same_e 1 10

same_start_e : start_from (judged plan_e table_e) (started plan_e) no_run ≡ start_from (judged else_e else_table) (started else_e) no_run
same_start_e = same_start plan_e table_e else_e else_table same_e no_run

same_start_in_e : start_in plan_e table_e no_run ≡ start_in else_e else_table no_run
same_start_in_e = same_start_in plan_e table_e else_e else_table same_e no_run
