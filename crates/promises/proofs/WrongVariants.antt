-- Wrong variants: each shortcut as a definition, and what it loses
-- or lets pass on one of the cases' plans.
use mathlib.Core.Path.{◌≡◌, refl, ◌∙◌, ap, ap₂}
use mathlib.Core.Logic.{◌⊎◌, inl, inr}
use mathlib.Core.Bool.{Bool, true, not, cond, ◌&&◌}
use mathlib.Core.List.{List, [], ◌∷◌, ◌++◌}
use Prim.Native.Nat.{ℕ, zero, suc, ◌+◌, ◌*◌, ◌/◌, ◌%◌, ◌≤◌, ◌<◌}
use native.Mathlib.Omega.{arith}
use lib.Dec.{leb, ltb, eqb, lit<, lit≤}
use lib.IntN.{pos, negsuc}
use lib.ListN.{get_or, drop, replicate}
use Rattle.base.specs.Sum.{sum, on}
use Rattle.base.specs.Below
use Rattle.plan.specs.Edition.{name_bytes}
use Rattle.plan.specs.Refusal.{below_floor_rule, unsound}
use Rattle.plan.specs.Rules.{counted, size, deadline, is_hi, name_allowed, names_hold, names_differ, grades_hold, bounds_hold, rules_hold}
use Rattle.plan.specs.Boundaries.{insert, boundaries_to, come, boundary, intervals, first_release}
use Rattle.plan.specs.Table.{no_stray, sound}
use Rattle.plan.specs.declared.kinds.Plan.{Plan}
use Rattle.judge.specs.Constraints.{demand, floor_capacity}
use Rattle.judge.specs.Verdict.{outside_fault, total_fault, capacity_fault, is_hi_deadline, floor_fault, judged}
use Rattle.plan.specs.Report.{Report, or_else, fault, first}
use Rattle.judge.specs.Slack.{Figure, least, through, least_slack, slack_figure}
use Rattle.dispatch.specs.declared.Run.{Run}
use Rattle.dispatch.specs.Dues.{live, slow_after, below_after, due}
use Rattle.dispatch.specs.Order.{enqueue, order, serve}
use Rattle.dispatch.specs.Order
use Rattle.dispatch.specs.Step.{SlotEffect, started, slot_sound, slot_fault, granted, added, advanced, slot_by, stepped}
use Rattle.planfile.specs.Reader.{position}
use Rattle.promises.specs.Night.{Call, slot, word, is_done, word_effect, run_left, given, run_after, had, night_at, Between}
use Rattle.promises.proofs.Cases.{Case, plan_with, table_of, P1, P3, P8, P9, capital_mirror, small_mirror}

-- An order of service: the positions served in a slot of a run, by the slow mark. The wrong dispatchers
-- below differ only in their order and their dues.
abbrev pub ServiceOrder : Type 0
ServiceOrder = Plan → Run → Bool → List ℕ

-- What is due to each job in a slot.
abbrev pub Dues : Type 0
Dues = Plan → List ℕ → Run → Bool → ℕ → ℕ

-- A step: the effect of a slot's call, right or wrong.
abbrev pub Stepping : Type 0
Stepping = Plan → List ℕ → Run → ℕ → List ℕ → SlotEffect

-- The effect of a slot's call with this order and these dues, by the refusal found.
abbrev effect_by : Report → ServiceOrder → Dues → Stepping
effect_by [] order dues p table run v row =
    let grants = serve (dues p table run (slow_after p table run v)) v (order p run (slow_after p table run v)) (replicate (counted p) 0 ++ drop (counted p) row) in
    record {
      answer = [];
      run =
          record {
            clock = record { 0 = run.clock.0 + 1 };
            slow = slow_after p table run v;
            below = below_after p run v;
            carried = added (counted p) run.carried grants;
            ended = run.ended;
          };
      grants = grants;
    }
effect_by (number ∷ rest) order dues p table run v row = record { answer = number ∷ rest; run = run; grants = row }

-- The step with this order and these dues. It refuses what the step refuses.
abbrev pub stepped_by : ServiceOrder → Dues → Stepping
stepped_by order dues p table run v row = effect_by (slot_fault p table run v row) order dues p table run v row

-- With the right order and the right dues it is the step.
pub right_parts_are_the_step : (p : Plan) (table : List ℕ) (run : Run) (v : ℕ) (row : List ℕ)
    → stepped_by order due p table run v row ≡ stepped p table run v row
unfolding stepped advanced granted
right_parts_are_the_step p table run v row = go (slot_fault p table run v row)
  where
    go : (r : Report) → effect_by r order due p table run v row ≡ slot_by r p table run v row
    go [] = refl
    go (number ∷ rest) = refl

-- The run that a call leaves, and what it gives to job i, by a step.
abbrev run_left_by : Stepping → Call → Run → Run
run_left_by step (slot c) run = (step c.plan c.table run c.speed c.row).run
run_left_by step (word w) run = (word_effect w run).run

abbrev given_by : Stepping → Call → Run → ℕ → ℕ
given_by step (slot c) run i =
    let effect = step c.plan c.table run c.speed c.row in
    on (is_done effect.answer) (get_or effect.grants i 0)
given_by step (word w) run i = 0

-- The run after a night, and what job i has had in it, by a step.
unfoldable pub run_by : Stepping → Plan → List Call → Run
run_by step p [] = started p
run_by step p (c ∷ earlier) = run_left_by step c (run_by step p earlier)

unfoldable pub had_by : Stepping → Plan → List Call → ℕ → ℕ
had_by step p [] i = 0
had_by step p (c ∷ earlier) i = had_by step p earlier i + given_by step c (run_by step p earlier) i

-- By the step itself they are those of demand 3.
left_by_step : (c : Call) (run : Run) → run_left_by stepped c run ≡ run_left c run
left_by_step (slot c) run = refl
left_by_step (word w) run = refl

given_by_step : (c : Call) (run : Run) (i : ℕ) → given_by stepped c run i ≡ given c run i
given_by_step (slot c) run i = refl
given_by_step (word w) run i = refl

pub run_by_step : (p : Plan) (night : List Call) → run_by stepped p night ≡ run_after p night
unfolding run_by run_after
run_by_step p [] = refl
run_by_step p (c ∷ earlier) = left_by_step c (run_by stepped p earlier) ∙ ap (λ run. run_left c run) (run_by_step p earlier)

pub had_by_step : (p : Plan) (night : List Call) (i : ℕ) → had_by stepped p night i ≡ had p night i
unfolding had_by had
had_by_step p [] i = refl
had_by_step p (c ∷ earlier) i =
    ap₂ ◌+◌ (had_by_step p earlier i) (given_by_step c (run_by stepped p earlier) i ∙ ap (λ run. given c run i) (run_by_step p earlier))

-- Job i is lost, by a step, at the given speeds, the latest first: its size is promised, since it is
-- HI and the speeds lie from floor to normal, or since all of them are normal; its deadline has
-- come; and it has had less than its size.
pub record Lost (step : Stepping) (p : Plan) (table : List ℕ) (speeds : List ℕ) (i : ℕ) : Type 0 where
  pub a_job : i < counted p
  pub owed : (Between p.d.0 p.n.0 speeds × (is_hi p i ≡ true)) ⊎ Between p.n.0 p.n.0 speeds
  pub come : deadline p i ≤ (run_by step p (night_at p table speeds)).clock.0
  pub short : had_by step p (night_at p table speeds) i < size p i

-- The same for a case.
abbrev pub LostIn : Stepping → Case → List ℕ → ℕ → Type 0
LostIn step c speeds i = Lost step (plan_with c.jobs) (table_of c.rows) speeds i

-- The live LO jobs first, and then the live HI jobs.
abbrev pub lo_first : ServiceOrder
lo_first p run slow =
    Order.queue (λ i. live p run i && not (is_hi p i) && not slow) (deadline p) (counted p)
    ++ Order.queue (λ i. live p run i && is_hi p i) (deadline p) (counted p)

-- With it plan E loses `mirror-A` if the link drops to the floor after three slots.
pub lo_first_loses : LostIn (stepped_by lo_first due) P1 (1 ∷ 1 ∷ 1 ∷ 1 ∷ 1 ∷ 1 ∷ 1 ∷ 2 ∷ 2 ∷ 2 ∷ []) 1
unfolding run_by had_by table_of sum Below.every Below.least Below.greatest grades_hold bounds_hold insert boundaries_to come started slot_sound slot_fault granted order Order.queue enqueue serve added advanced stepped
lo_first_loses = record { a_job = lit< tt; owed = inl (omega arith, refl); come = lit≤ tt; short = lit< tt }

-- HI before LO, but each grade in table order.
abbrev pub table_order : ServiceOrder
table_order p run slow =
    Order.queue (λ i. live p run i && is_hi p i) (λ _. 0) (counted p)
    ++ Order.queue (λ i. live p run i && not (is_hi p i) && not slow) (λ _. 0) (counted p)

-- With it P9 loses A, at speeds from floor to normal.
pub table_order_loses : LostIn (stepped_by table_order due) P9 (1 ∷ 2 ∷ []) 1
unfolding run_by had_by table_of sum Below.every Below.least Below.greatest grades_hold bounds_hold insert boundaries_to come started slot_sound slot_fault granted order Order.queue enqueue serve added advanced stepped
table_order_loses = record { a_job = lit< tt; owed = inl (omega arith, refl); come = lit≤ tt; short = lit< tt }

-- The floor rule at the first interval only.
abbrev pub judged_at_start : Plan → List ℕ → Report
judged_at_start p table =
    or_else (outside_fault p table)
    (or_else (total_fault p table)
    (or_else (capacity_fault p table)
    (first
    (λ m.
    fault
    (ltb 0 m && is_hi_deadline p (boundary p m) && ltb (floor_capacity p 0 (boundary p m)) (demand p table 0 (boundary p m)))
    (below_floor_rule ∷ 0 ∷ boundary p m ∷ []))
    (suc (intervals p)))))

-- It accepts P3.
pub at_start_passes : judged_at_start (plan_with P3.jobs) (table_of P3.rows) ≡ []
unfolding table_of sum Below.every insert boundaries_to first outside_fault total_fault capacity_fault is_hi_deadline
at_start_passes = refl

-- The right dispatcher then loses `mirror-A` if the link drops at the start of interval 2.
pub at_start_loses : LostIn stepped P3 (1 ∷ 1 ∷ 1 ∷ 1 ∷ 1 ∷ 2 ∷ 2 ∷ 2 ∷ 2 ∷ 2 ∷ []) 1
unfolding run_by had_by table_of sum Below.every Below.least Below.greatest grades_hold bounds_hold insert boundaries_to come started slot_sound slot_fault granted order Order.queue enqueue serve added advanced stepped
at_start_loses = record { a_job = lit< tt; owed = inl (omega arith, refl); come = lit≤ tt; short = lit< tt }

-- A judge that accepts everything.
abbrev pub accepts_all : Plan → List ℕ → Report
accepts_all p table = []

-- It accepts P3 too, and `mirror-A` is lost as above.
pub accepts_all_loses : (accepts_all (plan_with P3.jobs) (table_of P3.rows) ≡ []) × LostIn stepped P3 (1 ∷ 1 ∷ 1 ∷ 1 ∷ 1 ∷ 2 ∷ 2 ∷ 2 ∷ 2 ∷ 2 ∷ []) 1
accepts_all_loses = (refl, at_start_loses)

-- A judge that refuses everything as unsound.
abbrev pub refuses_all : Plan → List ℕ → Report
refuses_all p table = unsound ∷ []

-- It refuses plan E, which the rules accept.
pub refuses_all_refuses_e : (judged (plan_with P1.jobs) (table_of P1.rows) ≡ []) × (refuses_all (plan_with P1.jobs) (table_of P1.rows) ≡ unsound ∷ [])
unfolding table_of sum Below.every Below.least Below.greatest name_allowed names_hold names_differ grades_hold bounds_hold rules_hold insert boundaries_to come no_stray sound first outside_fault total_fault capacity_fault is_hi_deadline floor_fault judged
refuses_all_refuses_e = (refl, refl)

-- An invented figure: slack 0 for every plan.
abbrev pub invented_slack : Plan → List ℕ → Figure
invented_slack p table = least (pos 0) 0 0

-- It hides that the slack of P3 is −1.
pub invented_slack_hides : (slack_figure (plan_with P3.jobs) (table_of P3.rows) ≡ least (negsuc 0) 2 10) × (invented_slack (plan_with P3.jobs) (table_of P3.rows) ≡ least (pos 0) 0 0)
unfolding table_of sum Below.every Below.least Below.greatest name_allowed names_hold names_differ grades_hold bounds_hold rules_hold insert boundaries_to come no_stray sound first outside_fault total_fault capacity_fault is_hi_deadline through least_slack slack_figure
invented_slack_hides = (refl, refl)

-- A judge that sums each job's allotments wherever they lie: rule 15 is left out.
abbrev pub judged_by_job : Plan → List ℕ → Report
judged_by_job p table = or_else (total_fault p table) (or_else (capacity_fault p table) (floor_fault p table))

-- It accepts P8.
pub by_job_passes : judged_by_job (plan_with P8.jobs) (table_of P8.rows) ≡ []
unfolding table_of sum Below.every insert boundaries_to first total_fault capacity_fault is_hi_deadline floor_fault
by_job_passes = refl

-- The first job of P8 then lacks units at its deadline, although the link never slowed.
pub by_job_loses : LostIn stepped P8 (2 ∷ 2 ∷ 2 ∷ 2 ∷ 2 ∷ []) 0
unfolding run_by had_by table_of sum Below.every Below.least Below.greatest grades_hold bounds_hold insert boundaries_to come started slot_sound slot_fault granted order Order.queue enqueue serve added advanced stepped
by_job_loses = record { a_job = lit< tt; owed = inr (omega arith); come = lit≤ tt; short = lit< tt }

-- A dispatcher that grants nothing.
abbrev pub nothing_due : Dues
nothing_due p table run slow i = 0

-- With it plan E loses `mirror-A` at the normal rate.
pub nothing_granted_loses : LostIn (stepped_by order nothing_due) P1 (2 ∷ 2 ∷ 2 ∷ 2 ∷ 2 ∷ 2 ∷ 2 ∷ 2 ∷ 2 ∷ 2 ∷ []) 1
unfolding run_by had_by table_of sum Below.every Below.least Below.greatest grades_hold bounds_hold insert boundaries_to come started slot_sound slot_fault granted order Order.queue enqueue serve added advanced stepped
nothing_granted_loses = record { a_job = lit< tt; owed = inr (omega arith); come = lit≤ tt; short = lit< tt }

-- A dispatcher that grants only in its first slot, and then only advances the clock.
abbrev pub first_slot_only : Dues
first_slot_only p table run slow i = on (eqb run.clock.0 (first_release p)) (due p table run slow i)

-- With it plan E loses `mirror-A` at the normal rate.
pub first_slot_only_loses : LostIn (stepped_by order first_slot_only) P1 (2 ∷ 2 ∷ 2 ∷ 2 ∷ 2 ∷ 2 ∷ 2 ∷ 2 ∷ 2 ∷ 2 ∷ []) 1
unfolding run_by had_by table_of sum Below.every Below.least Below.greatest grades_hold bounds_hold insert boundaries_to come started slot_sound slot_fault granted order Order.queue enqueue serve added advanced stepped
first_slot_only_loses = record { a_job = lit< tt; owed = inr (omega arith); come = lit≤ tt; short = lit< tt }

-- A name with its upper-case letters made lower-case, byte by byte.
unfoldable pub folded : ℕ → ℕ → ℕ
folded zero x = 0
folded (suc w) x = folded w (x / 256) * 256 + small (x % 256)
  where
    small : ℕ → ℕ
    small b = cond (leb 0x41 b && leb b 0x5A) (b + 0x20) b

-- `MIRROR-A`, the name of no job of plan E.
abbrev all_capitals : ℕ
all_capitals = 0x4D49_5252_4F52_2D41

-- Case folding identifies plan E's two names.
pub folding_joins : folded name_bytes capital_mirror ≡ folded name_bytes small_mirror
unfolding folded
folding_joins = refl

-- It finds a job for a row named `MIRROR-A`.
pub folding_finds : position (folded name_bytes capital_mirror ∷ folded name_bytes small_mirror ∷ []) (folded name_bytes all_capitals) ≡ 0
unfolding folded position
folding_finds = refl

-- The reader finds none: `position` is past both names, and such a row is refused by 11.
pub reader_finds_none : position (capital_mirror ∷ small_mirror ∷ []) all_capitals ≡ 2
unfolding position
reader_finds_none = refl
