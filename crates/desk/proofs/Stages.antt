-- What the desk keeps from turn to turn, for a plan whose jobs have one release and for which the closed form holds.
use mathlib.Core.Path.{◌≡◌, refl, sym, ◌∙◌, ap}
use mathlib.Core.Logic.{◌≢◌, ◌⊎◌, inl, inr, ⊎_elim}
use mathlib.Core.Bool.{Bool, true, false, not, ◌&&◌, true≢false, false≢true}
use Prim.Native.Nat.{ℕ, zero, suc, ◌+◌, ◌*◌, ◌-◌, ◌≤◌, ◌<◌}
use native.Mathlib.Omega.{arith}
use borrow.Author.Tests.{eqb-true, eq-eqb, not-true}
use lib.Dec.{eqb}
use Rattle.base.specs.Sum.{sum}
use Rattle.base.proofs.SumLaws.{sum_ext, sum_none, sum_split}
use Rattle.base.proofs.Logic.{if_same, if_less, if_true, both, below-or-last}
use Rattle.plan.specs.Edition.{most_jobs, most_intervals}
use Rattle.plan.specs.Rules.{counted, size, deadline, is_hi}
use Rattle.plan.specs.Boundaries.{boundary, intervals}
use Rattle.plan.specs.declared.kinds.Plan.{Plan}
use Rattle.judge.specs.Constraints.{units, interval_length}
use Rattle.judge.specs.Slack.{through}
use Rattle.desk.specs.Timetable.{in_class, turn, Draft, placing, job_turn, turns_at, class_placed}
use Rattle.desk.proofs.Sums.{turn_below, turn_twice}
use Rattle.desk.proofs.Pouring.{Whole, room, placing_whole, placing_others, placing_room, placing_past, placing_all, placing_stops}
use Rattle.desk.proofs.Kept.{Ground, Good, State, Kept, Turned, rises, earlier, kept_lo, kept_hi}
use Rattle.desk.proofs.Fits.{Enough, Within, fits_lo, fits_hi}

-- A plan's jobs and intervals, and a draft, as functions.
abbrev pub ground : Plan → Ground
ground p =
    record {
      N = counted p;
      K = intervals p;
      dl = deadline p;
      size = size p;
      hi = is_hi p;
      b = boundary p;
      cap = λ j. p.n.0 * interval_length p j;
    }

abbrev pub state : Draft → State
state draft = record { room = room draft; x = units draft.table }

-- The boundary at which each job is due, which is not the first.
pub record Ends (p : Plan) : Type 0 where
  pub end : ℕ → ℕ
  pub is : (i : ℕ) → i < counted p → boundary p (end i) ≡ deadline p i
  pub after_first : (i : ℕ) → i < counted p → 1 ≤ end i
  pub last : (i : ℕ) → i < counted p → end i ≤ intervals p

-- What the other class has during a phase: nothing while the LO jobs are placed, and all while the HI jobs are.
abbrev pub Other : (p : Plan) (back : Bool) (draft : Draft) (i : ℕ) → Type 0
Other p true draft i = (j : ℕ) → j < intervals p → units draft.table i j ≡ 0
Other p false draft i = sum (units draft.table i) (intervals p) ≡ size p i

-- A class that is taken from the back has later intervals first, one from the front earlier ones.
back_order : (back : Bool) → back ≡ true → (m j l : ℕ) → j < l → l < m → turn back m l < turn back m j
back_order true is m j l h b = omega arith
back_order false is m j l h b = absurd (false≢true is)

front_order : (back : Bool) → back ≡ false → (m j l : ℕ) → l < j → turn back m l < turn back m j
front_order true is m j l h = absurd (true≢false is)
front_order false is m j l h = h

front_turn : (back : Bool) → back ≡ false → (n k : ℕ) → turn back n k ≡ k
front_turn true is n k = absurd (true≢false is)
front_turn false is n k = refl

-- The classes by the grades.
lo_class : (p : Plan) (back : Bool) (i : ℕ) → back ≡ true → in_class p back i ≡ true → is_hi p i ≡ false
lo_class p true i is c = not-true (is_hi p i) c
lo_class p false i is c = absurd (false≢true is)

hi_class : (p : Plan) (back : Bool) (i : ℕ) → back ≡ false → in_class p back i ≡ true → is_hi p i ≡ true
hi_class p true i is c = absurd (true≢false is)
hi_class p false i is c = c

-- What a job of the other class has does not change with its row.
other_row_same : (p : Plan) (back : Bool) (draft after : Draft) (i : ℕ) → ((j : ℕ) → j < intervals p → units after.table i j ≡ units draft.table i j) → Other p back draft i → Other p back after i
other_row_same p true draft after i same had = λ j b. same j b ∙ had j b
other_row_same p false draft after i same had = sum_ext _ _ (intervals p) same ∙ had

module _ (p : Plan) (ends : Ends p) where
  -- The turn of a job's boundary, and of its position.
  abbrev pub by_end : Bool → ℕ → ℕ
  by_end back i = turn back (intervals p) (ends.end i - 1)

  abbrev pub by_place : Bool → ℕ → ℕ
  by_place back i = turn back (counted p) i

  -- After k boundaries' turns, and q positions' turns at the next boundary.
  pub record Stage (back : Bool) (k q : ℕ) (draft : Draft) : Type 0 where
    pub whole : Whole draft
    pub kept : Kept (ground p) (state draft)
    pub within : Within (ground p) (state draft)
    pub strays : (i j : ℕ) → i < most_jobs → j < most_intervals → (counted p ≤ i) ⊎ (intervals p ≤ j) → units draft.table i j ≡ 0
    pub full : (i : ℕ) → i < counted p → in_class p back i ≡ true → (by_end back i < k) ⊎ ((by_end back i ≡ k) × (by_place back i < q))
        → sum (units draft.table i) (intervals p) ≡ size p i
    pub empty : (i : ℕ) → i < counted p → in_class p back i ≡ true → (k < by_end back i) ⊎ ((by_end back i ≡ k) × (q ≤ by_place back i))
        → (j : ℕ) → j < intervals p → units draft.table i j ≡ 0
    pub other : (i : ℕ) → i < counted p → in_class p back i ≡ false → Other p back draft i

  module _ (good : Good (ground p)) (enough : Enough (ground p) p.d.0) (few : intervals p ≤ most_intervals) (fewer : counted p ≤ most_jobs) where
    module _ (back : Bool) (k q : ℕ) (draft : Draft) (stage : Stage back k q draft) (in_k : k < intervals p) (in_q : q < counted p) where
      abbrev m : ℕ
      m = suc (turn back (intervals p) k)

      abbrev i : ℕ
      i = turn back (counted p) q

      m_last : m ≤ intervals p
      m_last = turn_below back (intervals p) k in_k

      known : i < counted p
      known = turn_below back (counted p) q in_q

      i_turn : by_place back i ≡ q
      i_turn = turn_twice back (counted p) q in_q

      -- A job is due at the boundary exactly if its boundary's turn has come.
      due_turn : (l : ℕ) → l < counted p → deadline p l ≡ boundary p m → by_end back l ≡ k
      due_turn l h e =
          let same : ends.end l ≡ m
          = if_less (ends.end l) m
          (λ less. absurd (omega (arith, ends.is l h, e, strictly (ends.end l) m less m_last)))
          (λ more. if_less m (ends.end l)
          (λ less. absurd (omega (arith, ends.is l h, e, strictly m (ends.end l) less (ends.last l h))))
          (λ less. omega arith)) in
          let one : ends.end l - 1 ≡ turn back (intervals p) k = omega (arith, same) in
          ap (turn back (intervals p)) one ∙ turn_twice back (intervals p) k in_k
        where
          strictly : (a c : ℕ) → a < c → c ≤ intervals p → boundary p a < boundary p c
          strictly a c less h = omega (arith, good.rise a (omega arith), rises (ground p) good (suc a) c less h)

      turn_due : (l : ℕ) → l < counted p → by_end back l ≡ k → deadline p l ≡ boundary p m
      turn_due l h e =
          let one : ends.end l - 1 ≡ turn back (intervals p) k
          = sym (turn_twice back (intervals p) (ends.end l - 1) (omega (arith, ends.last l h, ends.after_first l h))) ∙ ap (turn back (intervals p)) e in
          let same : ends.end l ≡ m = omega (arith, one, ends.after_first l h) in
          sym (ends.is l h) ∙ ap (boundary p) same

      -- A job whose position's turn is this one is job i.
      only_turn : (l : ℕ) → l < counted p → by_place back l ≡ q → l ≡ i
      only_turn l h e = sym (turn_twice back (counted p) l h) ∙ ap (turn back (counted p)) e

      -- The job is not due there: the draft stays.
      passed : (in_class p back i && eqb (deadline p i) (boundary p m)) ≡ false → Stage back k (suc q) draft
      passed none = record {
        whole = stage.whole;
        kept = stage.kept;
        within = stage.within;
        strays = stage.strays;
        full = λ l h c w.
            ⊎_elim
            (λ sooner. stage.full l h c (inl sooner))
            (λ v. below-or-last (by_place back l) q v.1
            (λ less. stage.full l h c (inr (v.0, less)))
            (λ e. absurd (true≢false (sym (is_due l h c v.0) ∙ ap (λ a. in_class p back a && eqb (deadline p a) (boundary p m)) (only_turn l h e) ∙ none))))
            w;
        empty = λ l h c w. stage.empty l h c (⊎_elim inl (λ v. inr (v.0, omega (arith, v.1))) w);
        other = stage.other;
      }
        where
          is_due : (l : ℕ) → l < counted p → in_class p back l ≡ true → by_end back l ≡ k → (in_class p back l && eqb (deadline p l) (boundary p m)) ≡ true
          is_due l h c e = rw (c, eq-eqb (deadline p l) (boundary p m) (turn_due l h e)) refl

      module _ (class : in_class p back i ≡ true) (due : deadline p i ≡ boundary p m) where
        abbrev after : Draft
        after = (placing back m i (size p i) draft).draft

        span : m ≤ most_intervals
        span = omega (arith, m_last, few)

        room_for : i < most_jobs
        room_for = omega (arith, known, fewer)

        was : (j : ℕ) → j < intervals p → units draft.table i j ≡ 0
        was = stage.empty i known class (inr (due_turn i known due, omega (arith, i_turn)))

        same : (l j : ℕ) → l ≢ i → j < most_intervals → units after.table l j ≡ units draft.table l j
        same = placing_others back m i (size p i) draft span room_for stage.whole

        past : (j : ℕ) → m ≤ j → j < intervals p → units after.table i j ≡ 0
        past j h b = (placing_past back m i (size p i) draft span room_for stage.whole j h (omega (arith, few))).1 ∙ was j b

        stops : (j l : ℕ) → j < m → l < m → turn back m l < turn back m j → units after.table i l < room draft l → units after.table i j ≡ 0
        stops = placing_stops back m i (size p i) draft span room_for stage.whole

        turned : Turned (ground p) back m i (state draft) (state after)
        turned = record {
          known = known;
          there = m_last;
          due = due;
          was = was;
          others = λ l j n b. same l j n (omega (arith, few));
          room = λ j b.
              if_less j m
              (λ less. placing_room back m i (size p i) draft span room_for stage.whole j less)
              (λ more. omega (arith, (placing_past back m i (size p i) draft span room_for stage.whole j more (omega (arith, few))).0, past j more b));
          past = past;
          stops_back = λ is j l h b. stops j l (omega arith) b (back_order back is m j l h b);
          stops_front = λ is j l h b. stops j l b (omega arith) (front_order back is m j l h);
        }

        -- While the LO jobs are placed, HI jobs have nothing.
        none_hi : back ≡ true → (l j : ℕ) → l < counted p → is_hi p l ≡ true → j < intervals p → units draft.table l j ≡ 0
        none_hi is l j h e b =
            (rw is at (stage.other l h (rw (is, e) refl))) j b

        -- While the HI jobs are placed, later ones have nothing.
        none_later : back ≡ false → (l j : ℕ) → l < counted p → is_hi p l ≡ true → deadline p i < deadline p l → j < intervals p → units draft.table l j ≡ 0
        none_later is l j h e later b =
            stage.empty l h (rw (is, e) refl) (inl after_this) j b
          where
            after_this : k < by_end back l
            after_this =
                let sooner : ends.end i < ends.end l
                = earlier (ground p) good (ends.end i) (ends.end l) (ends.last i known) (omega (arith, ends.is i known, ends.is l h)) in
                let this = due_turn i known due in
                omega (arith, sooner, this, front_turn back is (intervals p) (ends.end i - 1), front_turn back is (intervals p) (ends.end l - 1), ends.after_first i known)

        fits : size p i ≤ sum (room draft) m
        fits =
            if_true back
            (λ is. fits_lo (ground p) good (state draft) stage.kept stage.within p.d.0 enough i m known m_last due was (lo_class p back i is class) (none_hi is))
            (λ is. fits_hi (ground p) good (state draft) stage.kept stage.within p.d.0 enough i m known m_last due was (hi_class p back i is class) (none_later is))

        -- The job has all its units now.
        row : sum (units after.table i) (intervals p) ≡ size p i
        row =
            let e : intervals p ≡ m + (intervals p - m) = omega (arith, m_last) in
            ap (sum (units after.table i)) e
            ∙ sum_split (units after.table i) m (intervals p - m)
            ∙ omega (
              arith,
              placing_all back m i (size p i) draft span room_for stage.whole fits,
              sum_none (λ j. units after.table i (m + j)) (intervals p - m) (λ j b. past (m + j) (omega arith) (omega arith)),
            )

        other_row : (l : ℕ) → l ≢ i → sum (units after.table l) (intervals p) ≡ sum (units draft.table l) (intervals p)
        other_row l n = sum_ext _ _ (intervals p) (λ j b. same l j n (omega (arith, few)))

        not_this : (l : ℕ) → in_class p back l ≡ false → l ≢ i
        not_this l c e = true≢false (sym class ∙ ap (in_class p back) (sym e) ∙ c)

        placed : Stage back k (suc q) after
        placed = record {
          whole = placing_whole back m i (size p i) draft span room_for stage.whole;
          kept =
              if_true back
              (λ is. kept_lo (ground p) good back m i (state draft) (state after) turned stage.kept is (lo_class p back i is class) (none_hi is))
              (λ is. kept_hi (ground p) good back m i (state draft) (state after) turned stage.kept is (hi_class p back i is class) (none_later is));
          within = λ l h. if_same l i (λ e. rw e (omega (arith, row))) (λ n. omega (arith, other_row l n, stage.within l h));
          strays = λ l j f b w.
              if_same l i
              (λ e. rw e (⊎_elim
              (λ more. absurd (omega (arith, known, e)))
              (λ more. (placing_past back m i (size p i) draft span room_for stage.whole j (omega (arith, m_last)) b).1 ∙ stage.strays i j room_for b (inr more)) w))
              (λ n. same l j n b ∙ stage.strays l j f b w);
          full = λ l h c w.
              if_same l i
              (λ e. rw e row)
              (λ n. other_row l n ∙ stage.full l h c (⊎_elim inl
              (λ v. below-or-last (by_place back l) q v.1 (λ less. inr (v.0, less)) (λ e. absurd (n (only_turn l h e)))) w));
          empty = λ l h c w j b.
              same l j (λ e. absurd (⊎_elim
              (λ later. omega (arith, later, ap (by_end back) e, due_turn i known due))
              (λ v. omega (arith, v.1, ap (by_place back) e, i_turn)) w)) (omega (arith, few))
              ∙ stage.empty l h c (⊎_elim inl (λ v. inr (v.0, omega (arith, v.1))) w) j b;
          other = λ l h c. other_row_same p back draft after l (λ j b. same l j (not_this l c) (omega (arith, few))) (stage.other l h c);
        }

      -- One turn.
      pub one_turn : Stage back k (suc q) (job_turn p back m i draft)
      one_turn =
          if_true (in_class p back i && eqb (deadline p i) (boundary p m))
          (λ yes.
          let parts = both (in_class p back i) (eqb (deadline p i) (boundary p m)) yes in
          rw yes (placed parts.0 (eqb-true (deadline p i) (boundary p m) parts.1)))
          (λ none. rw none (passed none))

    -- The turns at one boundary.
    turns : (back : Bool) (k : ℕ) (draft : Draft) → Stage back k 0 draft → k < intervals p → (q : ℕ) → q ≤ counted p
        → Stage back k q (through (λ a. job_turn p back (suc (turn back (intervals p) k)) (turn back (counted p) a)) q draft)
    unfolding through
    turns back k draft stage h zero b = stage
    turns back k draft stage h (suc q) b = one_turn back k q _ (turns back k draft stage h q (omega arith)) h b

    -- After the last of them, the next boundary's turn begins.
    next_boundary : (back : Bool) (k : ℕ) (draft : Draft) → Stage back k (counted p) draft → Stage back (suc k) 0 draft
    next_boundary back k draft stage = record {
      whole = stage.whole;
      kept = stage.kept;
      within = stage.within;
      strays = stage.strays;
      full = λ l h c w. stage.full l h c (⊎_elim
          (λ less. below-or-last (by_end back l) k less inl (λ e. inr (e, turn_below back (counted p) l h)))
          (λ v. absurd (omega (arith, v.1))) w);
      empty = λ l h c w. stage.empty l h c (inl (⊎_elim (λ more. omega (arith, more)) (λ v. omega (arith, v.0)) w));
      other = stage.other;
    }

    boundaries_turns : (back : Bool) (draft : Draft) → Stage back 0 0 draft → (k : ℕ) → k ≤ intervals p
        → Stage back k 0 (through (λ a. turns_at p back (suc (turn back (intervals p) a))) k draft)
    unfolding through turns_at
    boundaries_turns back draft stage zero h = stage
    boundaries_turns back draft stage (suc k) h =
        next_boundary back k _ (turns back k _ (boundaries_turns back draft stage k (omega arith)) h (counted p) (omega arith))

    -- All jobs of a class are placed.
    pub class_placed_lem : (back : Bool) (draft : Draft) → Stage back 0 0 draft → Stage back (intervals p) 0 (class_placed p back draft)
    unfolding class_placed
    class_placed_lem back draft stage = boundaries_turns back draft stage (intervals p) (omega arith)

    -- After the LO jobs, the HI jobs' turn begins.
    pub then_hi : (draft : Draft) → Stage true (intervals p) 0 draft → Stage false 0 0 draft
    then_hi draft stage = record {
      whole = stage.whole;
      kept = stage.kept;
      within = stage.within;
      strays = stage.strays;
      full = λ l h c w. absurd (⊎_elim (λ less. omega (arith, less)) (λ v. omega (arith, v.1)) w);
      empty = λ l h c w. stage.other l h (ap not c);
      other = λ l h c. stage.full l h (ap not c) (inl (turn_below true (intervals p) (ends.end l - 1) (omega (arith, ends.last l h, ends.after_first l h))));
    }

    -- After the HI jobs, all jobs have their units.
    pub all_full : (draft : Draft) → Stage false (intervals p) 0 draft → (i : ℕ) → i < counted p → sum (units draft.table i) (intervals p) ≡ size p i
    all_full draft stage i h =
        if_true (is_hi p i)
        (λ e. stage.full i h e (inl (omega (arith, ends.last i h, ends.after_first i h))))
        (λ e. stage.other i h e)
