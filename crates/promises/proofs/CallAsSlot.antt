-- A plan and a run in the terms of the slot laws: the facts of an
-- accepted plan, and a done call as a slot.
use mathlib.Core.Path.{◌≡◌, refl, sym, ◌∙◌, ap}
use mathlib.Core.Bool.{Bool, true, false, not, ◌&&◌, ◌||◌, and-false}
use mathlib.Core.List.{List, [], ◌∷◌, ◌++◌}
use Prim.Native.Nat.{ℕ, zero, suc, ◌+◌, ◌-◌, ◌≤◌, ◌<◌, min}
use native.Mathlib.Numerals.{add-one}
use native.Mathlib.Omega.{arith}
use borrow.Author.Tests.{lt-leb}
use lib.Dec.{leb, ltb}
use lib.ListN.{length, get_or, drop, replicate, length-append, length-replicate}
use Rattle.base.specs.Sum.{on}
use Rattle.base.proofs.SumLaws.{sum_ext}
use Rattle.base.proofs.Choice.{on_zero}
use Rattle.plan.specs.Edition.{most_jobs}
use Rattle.plan.specs.Rules.{counted, release, deadline, size, is_hi}
use Rattle.plan.specs.Boundaries.{boundary, intervals, present}
use Rattle.plan.specs.declared.kinds.Plan.{Plan}
use Rattle.plan.proofs.PresentInterval.{boundary_rises, release_is_boundary, deadline_is_boundary, present_inside}
use Rattle.judge.specs.Constraints.{units, Allotted}
use Rattle.dispatch.specs.declared.Run.{Run}
use Rattle.dispatch.specs.Dues
use Rattle.dispatch.specs.Dues.{carried_of, ended_of, slow_after}
use Rattle.dispatch.specs.Inner.Shares
use Rattle.dispatch.specs.Inner.Shares.{settled_of}
use Rattle.dispatch.specs.Order.{order}
use Rattle.dispatch.specs.Step.{granted, added, advanced}
use Rattle.dispatch.proofs.Queues.{serve_length}
use Rattle.dispatch.proofs.Shares.{within_claim, first_served, all_served, dues_are_claims}
use Rattle.promises.proofs.FloorTail.{Facts, Good, class}
use Rattle.promises.proofs.SlotInvariants.{State, Slot, in_its_window, claim, goal}
use Rattle.dispatch.proofs.Alike.{Done}

-- The facts of a plan and its table.
abbrev pub facts_of : Plan → List ℕ → Facts
facts_of p table =
    record {
      N = counted p;
      K = intervals p;
      rel = release p;
      size = size p;
      dl = deadline p;
      hi = is_hi p;
      x = units table;
      b = boundary p;
      n = p.n.0;
      d = p.d.0;
    }

-- The state of a run. An ended job counts for its size: it lacks nothing, so it claims nothing.
abbrev pub state_of : Plan → Run → State
state_of p run = record { t = run.clock.0; slow = run.slow; carried = settled_of p run }

-- A plan within rules 15 to 17 meets what the slot laws ask of times and allotments. What they ask of
-- the floor is rule 18 as it stands.
pub good_plan : (p : Plan) (table : List ℕ) → Allotted p table → Good (facts_of p table)
good_plan p table a =
    record {
      rise = boundary_rises p;
      starts = release_is_boundary p;
      ends = deadline_is_boundary p;
      early = λ i j h k e. a.inside i j h k (rw (lt-leb (release p i) (boundary p j) e) refl);
      late = λ i j h k e.
          a.inside i j h k (rw (lt-leb (boundary p (suc j)) (deadline p i) e, and-false (leb (release p i) (boundary p j))) refl);
      exact = a.exact;
      within = a.within;
    }

-- An entry of a list after an addition.
added_at : (n i : ℕ) (l grants : List ℕ) → i < n → i < length l → i < length grants → get_or (added n l grants) i 0 ≡ get_or l i 0 + get_or grants i 0
unfolding added
added_at (suc n) i [] grants h k g = absurd (omega arith)
added_at (suc n) i (x ∷ l) [] h k g = absurd (omega arith)
added_at (suc n) zero (x ∷ l) (y ∷ grants) h k g = refl
added_at (suc n) (suc i) (x ∷ l) (y ∷ grants) h k g = added_at n i l grants (omega arith) (omega arith) (omega arith)
added_at zero i l grants h k g = elim h [ ]

granted_long : (p : Plan) (table : List ℕ) (run : Run) (v : ℕ) (grants : List ℕ) (i : ℕ) → i < counted p → i < length (granted p table run v grants)
unfolding granted
granted_long p table run v grants i h =
    rw (
      serve_length (Dues.due p table run (slow_after p table run v)) v (order p run (slow_after p table run v))
          (replicate (counted p) 0 ++ drop (counted p) grants),
      length-append (replicate (counted p) 0) (drop (counted p) grants),
      length-replicate {A = ℕ} (counted p) 0,
    )
    (omega arith)

module _ (p : Plan) (table : List ℕ) (run : Run) (v : ℕ) (row : List ℕ) (d : Done p table run v row) (long : length run.carried ≡ most_jobs) where
  abbrev here : ℕ
  here = present p run.clock.0

  goal_is : (slow : Bool) (i : ℕ) → Dues.goal p table run.clock.0 slow i ≡ goal (facts_of p table) here slow i
  goal_is true i = refl
  goal_is false i = refl

  goal_least : (slow : Bool) (i : ℕ) → goal (facts_of p table) here slow i ≤ size p i
  goal_least true i = omega arith
  goal_least false i = omega arith

  claim_is : (slow : Bool) (i : ℕ) → Shares.claim p table run slow i ≡ claim (facts_of p table) (state_of p run) here slow i
  claim_is slow i = by (ended_of run i) refl
    where
      by : (b : Bool) → ended_of run i ≡ b → Shares.claim p table run slow i ≡ claim (facts_of p table) (state_of p run) here slow i
      by true e =
          let none : goal (facts_of p table) here slow i - size p i ≡ 0 = omega (arith, goal_least slow i) in
          rw e (sym (ap (on (in_its_window (facts_of p table) run.clock.0 i && (is_hi p i || not slow))) none ∙ on_zero (in_its_window (facts_of p table) run.clock.0 i && (is_hi p i || not slow))))
      by false e = rw e (ap (λ g. on (in_its_window (facts_of p table) run.clock.0 i && (is_hi p i || not slow)) (g - carried_of run i)) (goal_is slow i))

  abbrev grant : ℕ → ℕ
  grant i = get_or (granted p table run v row) i 0

  -- A job is given at most its claim; an ended one claims nothing.
  at_most : (i : ℕ) → i < counted p → grant i ≤ claim (facts_of p table) (state_of p run) here (slow_after p table run v) i
  at_most i h = rw (← (claim_is (slow_after p table run v) i)) (within_claim p table run v row i h)

  -- A slot's grants are added to what is carried.
  pub carried_adds : (i : ℕ) → i < counted p → carried_of (advanced p table run v row) i ≡ carried_of run i + grant i
  unfolding advanced
  carried_adds i h =
      added_at (counted p) i run.carried (granted p table run v row) h (omega (arith, d.sound.rules.few)) (granted_long p table run v row i h)

  -- An ended job is given nothing.
  pub ended_none : (i : ℕ) → i < counted p → ended_of run i ≡ true → grant i ≡ 0
  ended_none i h e = nothing (rw e at (within_claim p table run v row i h))
    where
      nothing : grant i ≤ 0 → grant i ≡ 0
      nothing m = omega arith

  settled_adds : (i : ℕ) → i < counted p → settled_of p (advanced p table run v row) i ≡ settled_of p run i + grant i
  unfolding advanced
  settled_adds i h = by (ended_of run i) refl
    where
      by : (b : Bool) → ended_of run i ≡ b → settled_of p (advanced p table run v row) i ≡ settled_of p run i + grant i
      by true e = rw e (omega (arith, ended_none i h e))
      by false e = rw e (carried_adds i h)

  -- A done call is a slot in the present interval.
  pub slot_of : Slot (facts_of p table) (state_of p run) (state_of p (advanced p table run v row)) here v grant
  unfolding advanced
  slot_of =
      record {
        inside = present_inside p d.sound.rules.some d.sound.rules.windows run.clock.0 d.sound.begun d.before_end;
        mark = ap (λ s. run.slow || ltb v (min p.n.0 s)) (dues_are_claims p table run ∙ sum_ext _ _ (counted p) (λ i h. claim_is false i));
        clock = add-one run.clock.0;
        adds = settled_adds;
        within = at_most;
        first = λ D.
            first_served p table run v row D
            ∙ ap (min v) (sum_ext _ _ (counted p) (λ i h. ap (on (class (facts_of p table) D i)) (claim_is (slow_after p table run v) i)));
        all = all_served p table run v row ∙ ap (min v) (sum_ext _ _ (counted p) (λ i h. claim_is (slow_after p table run v) i));
      }
