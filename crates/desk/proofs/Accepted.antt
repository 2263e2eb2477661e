-- The desk's timetable is accepted by the judge, if the releases are one and the closed form holds.
use mathlib.Core.Path.{◌≡◌, refl, sym, ◌∙◌, ap}
use mathlib.Core.Logic.{⊎_elim}
use mathlib.Core.Bool.{true, false, ◌&&◌}
use mathlib.Core.List.{List, []}
use Prim.Native.Nat.{ℕ, suc, ◌+◌, ◌*◌, ◌≤◌, ◌<◌}
use native.Mathlib.Decide.{dec_lt}
use native.Mathlib.Omega.{arith}
use borrow.Author.Tests.{le-leb, leb-false, eqb-true}
use lib.Dec.{leb}
use lib.ListN.{length, drop, replicate, length-replicate, length-append, get_or-replicate, get_or-append}
use Rattle.base.proofs.SumLaws.{sum_none}
use Rattle.base.proofs.Below.{every_at, greatest_upper}
use Rattle.base.proofs.FillLaws.{filled_at, filled_length}
use Rattle.base.proofs.Logic.{if_less, if_same}
use Rattle.plan.specs.Edition.{most_jobs, most_intervals, places}
use Rattle.plan.specs.Rules.{counted, release, deadline, rules_hold}
use Rattle.plan.specs.Boundaries.{boundary, intervals, first_release}
use Rattle.plan.specs.Table.{sound}
use Rattle.plan.specs.declared.kinds.Plan.{Plan}
use Rattle.plan.proofs.PresentInterval.{boundary_rises, deadline_is_boundary, first_boundary, last_boundary}
use Rattle.plan.proofs.Soundness.{Bounded, rules_bounded}
use Rattle.plan.proofs.Stray.{no_stray_told}
use Rattle.judge.specs.Constraints.{units, in_window, interval_length, Figure2}
use Rattle.judge.specs.Verdict.{judged}
use Rattle.judge.proofs.Exact.{exact}
use Rattle.desk.specs.Timetable.{Draft, class_placed, all_room, cleared, timetable}
use Rattle.desk.specs.Pairs.{pair_fault}
use Rattle.desk.specs.Desk.{one_release}
use Rattle.desk.proofs.Kept.{Good, rises}
use Rattle.desk.proofs.Fits.{floor_held}
use Rattle.desk.proofs.Stages.{ground, state, Ends, Stage, class_placed_lem, then_hi, all_full}
use Rattle.desk.proofs.Closed.{enough}

module _ (p : Plan) (rules : rules_hold p ≡ true) (one : one_release p ≡ true) (none : pair_fault p ≡ []) where
  bounds : Bounded p
  bounds = rules_bounded p rules

  begins : boundary p 0 ≡ first_release p
  begins = first_boundary p bounds.some bounds.windows

  released : (i : ℕ) → i < counted p → release p i ≡ boundary p 0
  unfolding one_release
  released i h = eqb-true (release p i) (first_release p) (every_at _ (counted p) i one h) ∙ sym begins

  good : Good (ground p)
  good = record {
    rise = boundary_rises p;
    last = λ i h. omega (arith, greatest_upper (deadline p) (counted p) i h, last_boundary p bounds.some bounds.windows);
  }

  -- The boundary of a counted job's deadline.
  abbrev end_at_lem : (i : ℕ) → Dec (i < counted p) → ℕ
  end_at_lem i (yes h) = (deadline_is_boundary p i h).0
  end_at_lem i (no h) = 0

  end_is : (i : ℕ) (known : Dec (i < counted p)) → i < counted p → (boundary p (end_at_lem i known) ≡ deadline p i) × (end_at_lem i known ≤ intervals p)
  end_is i (yes h) b = let w = deadline_is_boundary p i h in (w.2, w.1)
  end_is i (no h) b = absurd (h b)

  ends : Ends p
  ends = record {
    end = λ i. end_at_lem i (dec_lt i (counted p));
    is = λ i h. (end_is i (dec_lt i (counted p)) h).0;
    after_first = λ i h.
        if_same (end_at_lem i (dec_lt i (counted p))) 0
        (λ e. absurd (omega (arith, (end_is i (dec_lt i (counted p)) h).0, ap (boundary p) e, released i h, bounds.windows i h)))
        (λ n. omega arith);
    last = λ i h. (end_is i (dec_lt i (counted p)) h).1;
  }

  module _ (table : List ℕ) (long : places ≤ length table) where
    abbrev start : Draft
    start = record { rooms = all_room p; table = cleared table }

    cell : (i j : ℕ) → i < most_jobs → j < most_intervals → units (cleared table) i j ≡ 0
    cell i j h b =
        get_or-append (replicate places 0) (drop places table) 0 (most_intervals * i + j) (rw (length-replicate {A = ℕ} places 0) (omega arith))
        ∙ get_or-replicate places (most_intervals * i + j) 0 0 (omega arith)

    own : (i j : ℕ) → i < counted p → j < intervals p → units (cleared table) i j ≡ 0
    own i j h b = cell i j (omega (arith, bounds.few, bounds.count)) (omega (arith, bounds.spans))

    begun : Stage p ends true 0 0 start
    unfolding all_room
    begun = record {
      whole = record {
        rooms = filled_length _ (intervals p) _ ∙ length-replicate {A = ℕ} most_intervals 0;
        table = rw (length-append (replicate places 0) (drop places table), length-replicate {A = ℕ} places 0) (omega arith);
      };
      kept = record {
        room = λ j h.
            omega (
              arith,
              filled_at (λ l. p.n.0 * interval_length p l) (intervals p) (replicate most_intervals 0) j (rw (length-replicate {A = ℕ} most_intervals 0) (omega (arith, bounds.spans))) h,
              sum_none (λ i. units (cleared table) i j) (counted p) (λ i b. own i j b h),
            );
        late = λ i j h b e. own i j h b;
        lo_skip = λ i j k h e less b before more. own i j h (omega arith);
        hi_skip = λ i j k h e less b more. own i j h b;
      };
      within = λ i h. omega (arith, sum_none (units (cleared table) i) (intervals p) (λ j b. own i j h b));
      strays = λ i j f b w. cell i j f b;
      full = λ i h c w. absurd (⊎_elim (λ less. omega arith) (λ v. omega (arith, v.1)) w);
      empty = λ i h c w j b. own i j h b;
      other = λ i h c j b. own i j h b;
    }

    few_jobs : counted p ≤ most_jobs
    few_jobs = omega (arith, bounds.few, bounds.count)

    last_stage : Stage p ends false (intervals p) 0 (class_placed p false (class_placed p true start))
    last_stage =
        let closed = enough p ends good (omega (arith, bounds.rates)) none in
        class_placed_lem p ends good closed bounds.spans few_jobs false _
        (then_hi p ends good closed bounds.spans few_jobs _ (class_placed_lem p ends good closed bounds.spans few_jobs true start begun))

    -- Figure 2 holds for the timetable.
    meets : Figure2 p (timetable p table)
    unfolding timetable
    meets =
        let closed = enough p ends good (omega (arith, bounds.rates)) none in
        let kept = last_stage.kept in
        let all = all_full p ends good closed bounds.spans few_jobs _ last_stage in
        record {
          allotted = record {
            inside = λ i j h b o. kept.late i j h b (before_start i j h b o);
            exact = all;
            within = λ j h. omega (arith, kept.room j h);
          };
          floor = floor_held (ground p) good (state (class_placed p false (class_placed p true start))) kept last_stage.within p.d.0 closed;
        }
      where
        before_start : (i j : ℕ) → i < counted p → j < intervals p → in_window p i j ≡ false → deadline p i ≤ boundary p j
        before_start i j h b o =
            let started : leb (release p i) (boundary p j) ≡ true
            = le-leb (release p i) (boundary p j) (omega (arith, released i h, rises (ground p) good 0 j (omega arith) (omega arith))) in
            let over = leb-false (boundary p (suc j)) (deadline p i) (sym (ap (λ t. t && leb (boundary p (suc j)) (deadline p i)) started) ∙ o) in
            let e : ends.end i ≤ j
            = if_less j (ends.end i)
            (λ less. absurd (omega (arith, over, ends.is i h, rises (ground p) good (suc j) (ends.end i) less (ends.last i h))))
            (λ more. more) in
            omega (arith, ends.is i h, rises (ground p) good (ends.end i) j e (omega arith))

    -- The judge accepts it.
    pub drawn_accepted : judged p (timetable p table) ≡ []
    unfolding timetable sound
    drawn_accepted =
        (exact p (timetable p table) last_stage.whole.table).1
        (rw (rules, no_stray_told p (timetable p table) last_stage.strays) refl, meets)
