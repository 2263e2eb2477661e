-- The slack figure: the least excess of the floor's capacity over the demand, with its first pair.
use Rattle.std.specs.Prelude.{cond, List, [], ◌∷◌, ℕ, zero, suc, ℤ, ◌≡◌, false, ◌≤◌}
use Rattle.std.proofs.Math.IntN.{sub_ℕ}
use Rattle.std.specs.Int.Signed.{lt_z}
use Rattle.plan.specs.Kinds.{Interval, Table, Time}
use Rattle.plan.specs.Boundaries.{boundary, intervals}
use Rattle.plan.specs.declared.kinds.Plan.{Plan}
use Rattle.judge.specs.Constraints.{demand, floor_capacity}
use Rattle.judge.specs.Verdict.{hand_fault, constraint_fault, is_pair}
use Rattle.plan.specs.Report.{Report, or_else}

-- The slack of interval l and time D: the floor's capacity less
-- the demand, below zero exactly where the demand is greater.
abbrev pub slack_of : (p : Plan) (table : Table) (l : Interval) (D : Time) → ℤ
slack_of p table l D = sub_ℕ (floor_capacity p l D) (demand p table l D)

-- A slack figure: that there is none, since none is essential; the least slack
-- with its interval and deadline; or a refusal with its report.
pub data Figure : Type 0 where
  none_essential : Figure
  least : ℤ → ℕ → ℕ → Figure
  refused : Report → Figure

-- The lesser of the figure so far and the slack s of interval l and deadline D; if equal, the figure
-- so far. If there is none so far, it is the slack s; a refusal stays.
abbrev pub lesser : (figure : Figure) (s : ℤ) (l : Interval) (D : Time) → Figure
lesser none_essential s l D = least s l D
lesser (least best l₀ D₀) s l D = cond (lt_z s best) (least s l D) (least best l₀ D₀)
lesser (refused report) s l D = refused report

-- What step 0, step 1, …, step (n − 1), in this order, make of a. The order decides between equal
-- slacks.
unfoldable pub through : {A : Type 0} → (ℕ → A → A) → ℕ → A → A
through step zero a = a
through step (suc n) a = step n (through step n a)

-- The figure so far, updated with interval l and boundary m if they are a pair.
abbrev pub taken : (p : Plan) (table : Table) (l : Interval) (m : ℕ) (so_far : Figure) → Figure
taken p table l m so_far = cond (is_pair p l m) (lesser so_far (slack_of p table l (boundary p m)) l (boundary p m)) so_far

-- The least slack over all intervals and later HI deadlines, with the first pair that has it;
-- `none_essential` if there is no pair.
unfoldable pub least_slack : (p : Plan) (table : Table) → Figure
least_slack p table = through (λ l. through (taken p table l) (suc (intervals p))) (intervals p) none_essential

-- The figure if the report is empty, otherwise the refusal.
abbrev pub unless : Report → Figure → Figure
unless [] figure = figure
unless (number ∷ places) figure = refused (number ∷ places)

-- The slack figure; refused as by the judge, except that rule 18 is no ground.
unfoldable pub slack_figure : (p : Plan) (table : Table) → Figure
slack_figure p table = unless (or_else (hand_fault p table) (constraint_fault p table)) (least_slack p table)

-- The order of slacks with their interval and deadline: by slack, then interval, then
-- deadline. It is reflexive and transitive.
pub record NoLater (s : ℤ) (i D : ℕ) (t : ℤ) (l E : ℕ) : Type 0 where
  pub slack : lt_z t s ≡ false
  pub interval : s ≡ t → i ≤ l
  pub deadline : s ≡ t → i ≡ l → D ≤ E

-- The figure has a slack that is no later in this order than that of interval l and boundary k.
abbrev pub Covered : Plan → List ℕ → Figure → ℕ → ℕ → Type 0
Covered p table none_essential l k = ⊥
Covered p table (least s i D) l k = NoLater s i D (slack_of p table l (boundary p k)) l (boundary p k)
Covered p table (refused report) l k = ⊥

-- The figure is `none_essential`, or its slack and deadline are
-- those of its interval and a boundary that are a pair in `In`.
abbrev pub Reached : Plan → List ℕ → (ℕ → ℕ → Type 0) → Figure → Type 0
Reached p table In none_essential = Unit {0}
Reached p table In (least s i D) = (k : ℕ) × In i k × (s ≡ slack_of p table i (boundary p k)) × (D ≡ boundary p k)
Reached p table In (refused report) = ⊥

-- The figure is the least slack of the pairs in `In`, with the first pair that has it; `none_essential`
-- if `In` has no pair.
pub record LeastAmong (p : Plan) (table : List ℕ) (In : ℕ → ℕ → Type 0) (f : Figure) : Type 0 where
  pub covers : (l k : ℕ) → In l k → Covered p table f l k
  pub reached : Reached p table In f
