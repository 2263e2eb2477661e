-- Demand 3: what is promised holds at every point of every night, for any speeds
-- from floor to normal and any refused calls. All but the floor guarantee needs rules 15 to 17 alone.
use mathlib.Core.Path.{◌≡◌, refl, sym, ◌∙◌, ap, ap₂}
use mathlib.Core.Logic.{◌≢◌, ◌⊎◌, inl, inr, ⊎_elim}
use mathlib.Core.Bool.{Bool, true, false, cond, true≢false, not, ◌&&◌, ◌||◌, or-false, or-true, and-false}
use mathlib.Core.List.{List, [], ◌∷◌}
use Prim.Native.Nat.{ℕ, ◌+◌, ◌≤◌, ◌<◌}
use native.Mathlib.Omega.{arith}
use borrow.Author.Tests.{ltb-false, eq-eqb, ne_eqb, eqb-true}
use lib.Dec.{ltb, eqb}
use lib.ListN.{length, get_or, length-replicate, get_or-replicate, length-set}
use lib.Seq.{get_or-set_same, get_or-set_other}
use Rattle.base.specs.Sum.{on}
use Rattle.base.proofs.SumLaws.{sum_ext, sum_none}
use Rattle.plan.specs.Edition.{most_jobs}
use Rattle.plan.specs.Refusal.{unsound, no_such_job, cannot_end}
use Rattle.plan.specs.Rules.{counted, release, size, deadline, is_hi}
use Rattle.plan.specs.Boundaries.{intervals, present}
use Rattle.plan.specs.Same.{Same}
use Rattle.plan.specs.declared.kinds.Plan.{Plan}
use Rattle.plan.proofs.PresentInterval.{first_boundary, an_interval}
use Rattle.judge.specs.Constraints.{Allotted, FloorRule}
use Rattle.plan.specs.Report.{Report, or_else, fault}
use Rattle.dispatch.specs.declared.Run.{Run}
use Rattle.dispatch.specs.Dues.{carried_of, ended_of, in_its_window, slow_at}
use Rattle.dispatch.specs.Inner.Shares.{settled_of}
use Rattle.dispatch.specs.Step.{started, slot_fault, granted, advanced, slot_by, stepped, slot_sound, outcome, is_open, end_fault, ended_with, end_by, told_ended}
use Rattle.base.proofs.Logic.{if_true, if_same, neither}
use Rattle.base.proofs.Choice.{on_zero}
use Rattle.dispatch.proofs.RowShares.{added_length}
use Rattle.promises.specs.Night.{SlotCall, EndCall, Call, slot, word, is_done, slot_effect, word_effect, answer_of, run_left, given, tells, is_slow, AllowedCall, run_after, clock_at, had, had_in_window, told, had_since_told, slowed, slowed_before, had_since_slow, Allowed, WithinSpeeds, Kept}
use Rattle.promises.proofs.FloorTail.{Good}
use Rattle.promises.proofs.SlotInvariants
use Rattle.promises.proofs.SlotInvariants.{NoMore, FloorHolds, OnPace, keeps_no_more, keeps_floor, keeps_pace, on_pace_here, on_pace_reached, floor_reached, begins_with_floor, begins_on_pace, more_keeps_floor, more_keeps_pace}
use Rattle.plan.proofs.Soundness.{Bounded}
use Rattle.dispatch.proofs.Alike.{Done, done}
use Rattle.dispatch.proofs.WordLimits.{refused_word_changes_nothing}
use Rattle.promises.proofs.SameSlot.{same_slot, same_slow, same_word}
use Rattle.promises.proofs.CallAsSlot.{facts_of, state_of, good_plan, slot_of, carried_adds, ended_none}

-- A job whose end is taken lacks something of its size: its outcome was open.
open_lacks : (p : Plan) (run : Run) (i : ℕ) → end_fault p run i ≡ [] → carried_of run i ≢ size p i
unfolding end_fault outcome
open_lacks p run i clear whole =
    let so = tests (slot_sound p run) (ltb i p.count) (ltb run.clock.0 (release p i)) (is_open (outcome p run i)) clear in
    true≢false (sym so.2 ∙ rw (so.0, so.1, eq-eqb (carried_of run i) (size p i) whole) refl)
  where
    tests : (sound there early is_open : Bool)
        → or_else (fault (not sound) (unsound ∷ [])) (or_else (fault (not there) (no_such_job ∷ [])) (fault (early || not is_open) (cannot_end ∷ []))) ≡ []
        → (sound ≡ true) × (there ≡ true) × (is_open ≡ true)
    tests false there early is_open e = absurd (true≢false (sym (ap is_done e)))
    tests true false early is_open e = absurd (true≢false (sym (ap is_done e)))
    tests true true true is_open e = absurd (true≢false (sym (ap is_done e)))
    tests true true false true e = (refl, refl, refl)
    tests true true false false e = absurd (true≢false (sym (ap is_done e)))

-- A refused call leaves the run as it was, gives nothing, and is no slow slot.
pub refused_keeps : (c : Call) (run : Run) → is_done (answer_of c run) ≡ false → run_left c run ≡ run
unfolding stepped
refused_keeps (slot c) run e = go (slot_fault c.plan c.table run c.speed c.row) e
  where
    go : (r : Report) → is_done (slot_by r c.plan c.table run c.speed c.row).answer ≡ false
        → (slot_by r c.plan c.table run c.speed c.row).run ≡ run
    go [] e' = absurd (true≢false e')
    go (number ∷ rest) e' = refl
refused_keeps (word w) run e = by (word_effect w run).answer refl e
  where
    by : (r : Report) → (word_effect w run).answer ≡ r → is_done r ≡ false → (word_effect w run).run ≡ run
    by [] f g = absurd (true≢false g)
    by (number ∷ rest) f g = refused_word_changes_nothing w.plan run w.position number rest f

refused_gives_none : (c : Call) (run : Run) → is_done (answer_of c run) ≡ false → (i : ℕ) → given c run i ≡ 0
refused_gives_none (slot c) run e i = rw e refl
refused_gives_none (word w) run e i = refl

pub refused_tells_none : (c : Call) (run : Run) → is_done (answer_of c run) ≡ false → (i : ℕ) → tells c run i ≡ false
refused_tells_none (slot c) run e i = refl
refused_tells_none (word w) run e i = rw e refl

refused_not_slow : (c : Call) (run : Run) → is_done (answer_of c run) ≡ false → is_slow c run ≡ false
refused_not_slow (slot c) run e = rw e refl
refused_not_slow (word w) run e = refl

module _ (p : Plan) (table : List ℕ) (rules : Bounded p) (allotted : Allotted p table) where
  good : Good (facts_of p table)
  good = good_plan p table allotted

  -- The invariant at a point of a night.
  record Holds (night : List Call) : Type 0 where
    long : length (run_after p night).carried ≡ most_jobs
    long_marks : length (run_after p night).ended ≡ most_jobs
    counts : (i : ℕ) → i < counted p → carried_of (run_after p night) i ≡ had p night i
    in_window : (i : ℕ) → i < counted p → had_in_window p night i ≡ had p night i
    no_more : (i : ℕ) → i < counted p → carried_of (run_after p night) i ≤ size p i
    ends : (i : ℕ) → i < counted p → ended_of (run_after p night) i ≡ told p night i
    short : (i : ℕ) → i < counted p → told p night i ≡ true → carried_of (run_after p night) i ≢ size p i
    told_none : (i : ℕ) → i < counted p → had_since_told p night i ≡ 0
    pace : (run_after p night).slow ≡ false → (l : ℕ) × OnPace (facts_of p table) (state_of p (run_after p night)) l
    mark : (run_after p night).slow ≡ slowed p night
    in_time : (i : ℕ) → i < counted p → (run_after p night).slow ≡ true → slowed_before p (deadline p i) night ≡ false
        → settled_of p (run_after p night) i ≡ size p i
    discards : (i : ℕ) → i < counted p → is_hi p i ≡ false → had_since_slow p night i ≡ 0
    speeds : WithinSpeeds p night

  -- No job counts for more than its size.
  settled_no_more : (night : List Call) → Holds night → NoMore (facts_of p table) (state_of p (run_after p night))
  settled_no_more night h i k = by (ended_of (run_after p night) i)
    where
      by : (b : Bool) → cond b (size p i) (carried_of (run_after p night) i) ≤ size p i
      by true = omega arith
      by false = h.no_more i k

  -- The invariant holds at the start.
  begins : Holds []
  unfolding run_after started had had_in_window told had_since_told slowed slowed_before had_since_slow WithinSpeeds
  begins =
      let at_first = sym (first_boundary p rules.some rules.windows) in
      let none : (i : ℕ) → i < counted p → carried_of (started p) i ≡ 0 = λ i h. get_or-replicate most_jobs i 0 0 (omega (arith, rules.few)) in
      let no_marks : (i : ℕ) → i < counted p → ended_of (started p) i ≡ false = λ i h. get_or-replicate most_jobs i false false (omega (arith, rules.few)) in
      let none_settled : (i : ℕ) → i < counted p → settled_of p (started p) i ≡ 0 = λ i h. rw (no_marks i h) (none i h) in
      let some_interval : 0 < intervals p = an_interval p rules.some rules.windows in
      record {
        long = length-replicate {A = ℕ} most_jobs 0;
        long_marks = length-replicate {A = Bool} most_jobs false;
        counts = none;
        in_window = λ i h. refl;
        no_more = λ i h. omega (arith, none i h);
        ends = no_marks;
        short = λ i h e. absurd (true≢false (sym e));
        told_none = λ i h. refl;
        pace = λ e. (0, begins_on_pace (facts_of p table) good (state_of p (started p)) at_first none_settled some_interval);
        mark = refl;
        in_time = λ i h e. absurd (true≢false (sym e));
        discards = λ i h e. refl;
        speeds = tt;
      }

  -- A refused call preserves the invariant.
  holds_refused : (c : Call) (earlier : List Call) → is_done (answer_of c (run_after p earlier)) ≡ false → Holds earlier → Holds (c ∷ earlier)
  unfolding run_after had had_in_window told had_since_told slowed slowed_before had_since_slow WithinSpeeds
  holds_refused c earlier e h =
      let run_is = refused_keeps c (run_after p earlier) e in
      let nothing = refused_gives_none c (run_after p earlier) e in
      record {
        long = rw run_is h.long;
        long_marks = rw run_is h.long_marks;
        counts = λ i k. rw (run_is, nothing i) (omega (arith, h.counts i k));
        in_window = λ i k. rw (nothing i, on_zero (in_its_window p (clock_at p earlier) i)) (omega (arith, h.in_window i k));
        no_more = rw run_is h.no_more;
        ends = λ i k. rw (run_is, refused_tells_none c (run_after p earlier) e i, or-false (told p earlier i)) (h.ends i k);
        short = λ i k t. rw run_is (h.short i k (rw (refused_tells_none c (run_after p earlier) e i, or-false (told p earlier i)) at t));
        told_none = λ i k. rw (nothing i, on_zero (told p earlier i)) (omega (arith, h.told_none i k));
        pace = rw run_is h.pace;
        mark = rw (run_is, refused_not_slow c (run_after p earlier) e, or-false (slowed p earlier)) h.mark;
        in_time = λ i k s b. rw run_is (h.in_time i k (rw run_is at s) (neither (slowed_before p (deadline p i) earlier) _ b).0);
        discards = λ i k l. rw (nothing i, on_zero (slowed p (c ∷ earlier))) (omega (arith, h.discards i k l));
        speeds = (h.speeds, omega (arith, sum_none (given c (run_after p earlier)) (counted p) (λ i k. nothing i)));
      }

  module _ (c : SlotCall) (earlier : List Call) (h : Holds earlier) (same : Same p table c.plan c.table)
      (clear : slot_fault p table (run_after p earlier) c.speed c.row ≡ []) where
    abbrev was : Run
    was = run_after p earlier

    abbrev next : Run
    next = advanced p table was c.speed c.row

    abbrev grant : ℕ → ℕ
    grant i = get_or (granted p table was c.speed c.row) i 0

    abbrev here : ℕ
    here = present p was.clock.0

    -- A done call leaves the advanced run and the slot's grants.
    leaves : slot_effect c was ≡ record { answer = []; run = next; grants = granted p table was c.speed c.row }
    unfolding stepped
    leaves =
        sym (same_slot p table c.plan c.table same was c.speed c.row) ∙ ap (λ r. slot_by r p table was c.speed c.row) clear

    answer_is : is_done (slot_effect c was).answer ≡ true
    answer_is = ap (λ s. is_done s.answer) leaves

    run_is : (slot_effect c was).run ≡ next
    run_is = ap (λ s. s.run) leaves

    given_is : (i : ℕ) → given (slot c) was i ≡ grant i
    given_is i = rw answer_is (ap (λ s. get_or s.grants i 0) leaves)

    whole_slot : Done p table was c.speed c.row
    whole_slot = done p table was c.speed c.row clear

    served : SlotInvariants.Slot (facts_of p table) (state_of p was) (state_of p next) here c.speed grant
    served = slot_of p table was c.speed c.row whole_slot h.long

    adds : (i : ℕ) → i < counted p → carried_of next i ≡ carried_of was i + grant i
    adds = carried_adds p table was c.speed c.row whole_slot h.long

    -- The slot is slow by plan p exactly if it is by the plan of its call.
    slow_is : slow_at p table was c.speed ≡ slow_at c.plan c.table was c.speed
    slow_is = same_slow p table c.plan c.table same was c.speed c.row whole_slot

    -- An ended job gets nothing.
    not_ended : (i : ℕ) → i < counted p → told p earlier i ≡ true → grant i ≡ 0
    not_ended i k t = ended_none p table was c.speed c.row whole_slot h.long i k (h.ends i k ∙ t)

    -- A job that is not in its window gets nothing, nor does a LO job under the slow mark.
    not_in_window : (i : ℕ) → i < counted p → in_its_window p was.clock.0 i ≡ false → grant i ≡ 0
    not_in_window i k e = nothing (rw e at (served.within i k))
      where
        nothing : grant i ≤ 0 → grant i ≡ 0
        nothing m = omega arith

    not_hi : (i : ℕ) → i < counted p → is_hi p i ≡ false → next.slow ≡ true → grant i ≡ 0
    not_hi i k l s = nothing (rw (l, s, and-false (in_its_window p was.clock.0 i)) at (served.within i k))
      where
        nothing : grant i ≤ 0 → grant i ≡ 0
        nothing m = omega arith

    after_no_more : NoMore (facts_of p table) (state_of p next)
    after_no_more = keeps_no_more (facts_of p table) (state_of p was) (state_of p next) here c.speed grant served (settled_no_more earlier h)

    carried_no_more : (i : ℕ) → i < counted p → carried_of next i ≤ size p i
    unfolding advanced
    carried_no_more i k =
        if_true (ended_of was i)
        (λ e. omega (arith, adds i k, not_ended i k (sym (h.ends i k) ∙ e), h.no_more i k))
        (λ e. rw e at (after_no_more i k))

    -- A job that counted for its size still does.
    stays : (i : ℕ) → i < counted p → settled_of p was i ≡ size p i → settled_of p next i ≡ size p i
    stays i k e = omega (arith, served.adds i k, after_no_more i k)

    -- If no slot was slow, a job whose deadline the clock has reached has its size, or has ended.
    clear_reached : was.slow ≡ false → (i : ℕ) → i < counted p → deadline p i ≤ was.clock.0 → settled_of p was i ≡ size p i
    clear_reached e i k o =
        let w = h.pace e in on_pace_reached (facts_of p table) good (state_of p was) w.0 w.1 (settled_no_more earlier h) i k o

    slow_by : {a b : Bool} → a ≡ false → (a || b) ≡ true → b ≡ true
    slow_by e s = rw e at s

    still_in_time : (i : ℕ) → i < counted p → next.slow ≡ true → slowed_before p (deadline p i) earlier ≡ false
        → (slow_at c.plan c.table was c.speed && ltb was.clock.0 (deadline p i)) ≡ false → settled_of p next i ≡ size p i
    unfolding advanced
    still_in_time i k s before now =
        if_true was.slow
        (λ e. stays i k (h.in_time i k e before))
        (λ e. let slow_now : slow_at c.plan c.table was c.speed ≡ true = sym slow_is ∙ slow_by e s in
        stays i k (clear_reached e i k (ltb-false was.clock.0 (deadline p i) (rw slow_now at now))))

    holds_done : Holds (slot c ∷ earlier)
    unfolding run_after advanced had had_in_window told had_since_told slowed slowed_before had_since_slow WithinSpeeds
    holds_done =
        record {
          long = rw run_is (added_length (counted p) was.carried (granted p table was c.speed c.row) ∙ h.long);
          long_marks = rw run_is h.long_marks;
          counts = λ i k. rw (run_is, given_is i) (omega (arith, adds i k, h.counts i k));
          in_window = λ i k.
              if_true (in_its_window p was.clock.0 i)
              (λ e. rw e (omega (arith, h.in_window i k)))
              (λ e. rw (e, given_is i, not_in_window i k e) (omega (arith, h.in_window i k)));
          no_more = rw run_is carried_no_more;
          ends = λ i k. rw (run_is, or-false (told p earlier i)) (h.ends i k);
          short = λ i k t.
              let before = rw (or-false (told p earlier i)) at t in
              rw run_is (λ e. h.short i k before (omega (arith, adds i k, not_ended i k before)));
          told_none = λ i k.
              if_true (told p earlier i)
              (λ t. rw (t, given_is i, not_ended i k t) (omega (arith, h.told_none i k)))
              (λ t. rw t (omega (arith, h.told_none i k)));
          pace = rw run_is paced;
          mark = rw (run_is, answer_is) (ap₂ ◌||◌ h.mark slow_is);
          in_time = λ i k s b.
              let e = neither (slowed_before p (deadline p i) earlier) _ b in
              rw run_is (still_in_time i k (rw run_is at s) e.0 (rw answer_is at e.1));
          discards = λ i k l. late_none i k l;
          speeds = (h.speeds, rw (sum_ext _ _ (counted p) (λ i k. given_is i), served.all) (omega arith));
        }
      where
        paced : next.slow ≡ false → (l : ℕ) × OnPace (facts_of p table) (state_of p next) l
        paced e =
            let w = h.pace (neither was.slow (slow_at p table was c.speed) e).0 in (
              here,
              keeps_pace (facts_of p table) good (state_of p was) (state_of p next) here c.speed grant served
                  (on_pace_here (facts_of p table) good (state_of p was) w.0 here w.1 served.inside.0 served.inside.1 served.inside.2) e,
            )

        late_none : (i : ℕ) → i < counted p → is_hi p i ≡ false
            → had_since_slow p earlier i + on (slowed p earlier || is_slow (slot c) was) (given (slot c) was i) ≡ 0
        late_none i k l =
            if_true next.slow
            (λ s. rw (given_is i, not_hi i k l s, on_zero (slowed p earlier || is_slow (slot c) was)) (omega (arith, h.discards i k l)))
            (λ s. rw (answer_is, ← h.mark, ← slow_is, s) (omega (arith, h.discards i k l)))

  -- The host's word, once it is done.
  module _ (w : EndCall) (earlier : List Call) (h : Holds earlier)
      (is : word_effect w (run_after p earlier) ≡ told_ended p (run_after p earlier) w.position)
      (clear : end_fault p (run_after p earlier) w.position ≡ []) where
    abbrev before_word : Run
    before_word = run_after p earlier

    abbrev after_word : Run
    after_word = ended_with before_word w.position

    word_leaves : word_effect w before_word ≡ record { answer = []; run = after_word }
    unfolding told_ended
    word_leaves = is ∙ ap (λ r. end_by r before_word w.position) clear

    word_answer : is_done (word_effect w before_word).answer ≡ true
    word_answer = ap (λ e. is_done e.answer) word_leaves

    word_run : (word_effect w before_word).run ≡ after_word
    word_run = ap (λ e. e.run) word_leaves

    -- The mark of the job told of is set, and no other changes.
    marked : (i : ℕ) → i < counted p → ended_of after_word i ≡ (told p earlier i || eqb w.position i)
    marked i k =
        if_same w.position i
        (λ e. rw (← e) (get_or-set_same before_word.ended w.position true false (omega (arith, h.long_marks, rules.few))
        ∙ sym (rw (eq-eqb w.position w.position refl) (or-true (told p earlier w.position)))))
        (λ e. get_or-set_other before_word.ended w.position i true false (λ f. e (sym f))
        ∙ h.ends i k ∙ sym (rw (ne_eqb w.position i e) (or-false (told p earlier i))))

    -- No job counts for less after it.
    counts_for_more : (i : ℕ) → i < counted p → settled_of p before_word i ≤ settled_of p after_word i
    counts_for_more i k = go (ended_of before_word i) refl (eqb w.position i) refl
      where
        go : (a : Bool) → ended_of before_word i ≡ a → (b : Bool) → eqb w.position i ≡ b → settled_of p before_word i ≤ settled_of p after_word i
        go true e b f = rw (e, marked i k, ← (h.ends i k), e) (omega arith)
        go false e true f = rw (e, marked i k, f, or-true (told p earlier i)) (h.no_more i k)
        go false e false f = rw (e, marked i k, f, or-false (told p earlier i), ← (h.ends i k), e) (omega arith)

    -- The job told of lacks something of its size: its outcome is open.
    lacks : carried_of before_word w.position ≢ size p w.position
    lacks = open_lacks p before_word w.position clear

    -- A word preserves the invariant.
    holds_word : Holds (word w ∷ earlier)
    unfolding run_after had had_in_window told had_since_told slowed slowed_before had_since_slow WithinSpeeds
    holds_word =
        record {
          long = rw word_run h.long;
          long_marks = rw word_run (length-set before_word.ended w.position true ∙ h.long_marks);
          counts = λ i k. rw word_run (omega (arith, h.counts i k));
          in_window = λ i k. rw (on_zero (in_its_window p (clock_at p earlier) i)) (omega (arith, h.in_window i k));
          no_more = rw word_run h.no_more;
          ends = λ i k. rw (word_run, word_answer) (marked i k);
          short = λ i k t. rw word_run (still_short i k (rw word_answer at t));
          told_none = λ i k. rw (on_zero (told p earlier i)) (omega (arith, h.told_none i k));
          pace = rw word_run (λ e. let l = h.pace e in
              (l.0, more_keeps_pace (facts_of p table) (state_of p before_word) (state_of p after_word) refl counts_for_more l.0 l.1));
          mark = rw (word_run, or-false (slowed p earlier)) h.mark;
          in_time = λ i k s b. rw word_run (still_whole i k (h.in_time i k (rw word_run at s) (neither (slowed_before p (deadline p i) earlier) _ b).0));
          discards = λ i k l. rw (on_zero (slowed p (word w ∷ earlier))) (omega (arith, h.discards i k l));
          speeds = (h.speeds, omega (arith, sum_none (λ i. 0) (counted p) (λ i k. refl)));
        }
      where
        still_short : (i : ℕ) → i < counted p → (told p earlier i || eqb w.position i) ≡ true → carried_of before_word i ≢ size p i
        still_short i k t =
            if_true (eqb w.position i)
            (λ e. rw (← (eqb-true w.position i e)) lacks)
            (λ e. h.short i k (rw (e, or-false (told p earlier i)) at t))

        still_whole : (i : ℕ) → i < counted p → settled_of p before_word i ≡ size p i → settled_of p after_word i ≡ size p i
        still_whole i k e =
            if_true (ended_of after_word i)
            (λ m. rw m refl)
            (λ m. let most : settled_of p after_word i ≤ size p i = rw m (h.no_more i k) in omega (arith, counts_for_more i k, e, most))

  -- An allowed word is refused, or it is a word about plan p.
  by_word : {A : Type 0} (w : EndCall) (run : Run) → AllowedCall p table (word w) → (is_done (word_effect w run).answer ≡ false → A)
      → (word_effect w run ≡ told_ended p run w.position → end_fault p run w.position ≡ [] → A) → A
  unfolding told_ended
  by_word {A} w run same left done-word = go (end_fault p run w.position) refl
    where
      is : word_effect w run ≡ told_ended p run w.position
      is = sym (same_word p table w.plan table same run w.position)

      go : (r : Report) → end_fault p run w.position ≡ r → A
      go [] e = done-word is e
      go (number ∷ rest) e = left (ap (λ s. is_done s.answer) (is ∙ ap (λ r. end_by r run w.position) e))

  -- An allowed slot's call is refused, or it is a slot of plan p at a speed of at least d.
  by_slot : {A : Type 0} (c : SlotCall) (run : Run) → AllowedCall p table (slot c) → (is_done (slot_effect c run).answer ≡ false → A)
      → (p.d.0 ≤ c.speed → Same p table c.plan c.table → slot_fault p table run c.speed c.row ≡ [] → A)
      → A
  unfolding stepped
  by_slot {A} c run w left done-slot = go (slot_fault p table run c.speed c.row) refl
    where
      is : slot_effect c run ≡ stepped p table run c.speed c.row
      is = sym (same_slot p table c.plan c.table w.0 run c.speed c.row)

      go : (r : Report) → slot_fault p table run c.speed c.row ≡ r → A
      go [] e = done-slot w.1 w.0 e
      go (number ∷ rest) e = left (ap (λ s. is_done s.answer) (is ∙ ap (λ r. slot_by r p table run c.speed c.row) e))

  -- An allowed call preserves the invariant.
  holds_allowed : (c : Call) (earlier : List Call) → AllowedCall p table c → Holds earlier → Holds (c ∷ earlier)
  holds_allowed (slot c) earlier w h =
      by_slot c (run_after p earlier) w (λ e. holds_refused (slot c) earlier e h) (λ f same e. holds_done c earlier h same e)
  holds_allowed (word w) earlier same h =
      by_word w (run_after p earlier) same (λ e. holds_refused (word w) earlier e h) (λ is e. holds_word w earlier h is e)

  -- The invariant holds at every point of a night.
  holds : (night : List Call) → Allowed p table night → Holds night
  unfolding Allowed
  holds [] a = begins
  holds (c ∷ earlier) a =
      let h = holds earlier a.0 in
      ⊎_elim (λ e. holds_refused c earlier e h) (λ w. holds_allowed c earlier w h) a.1

  -- What the run carries for a job is what the job has had: the sum of its grants.
  pub carried_is_had : (night : List Call) → Allowed p table night → (i : ℕ) → i < counted p → carried_of (run_after p night) i ≡ had p night i
  carried_is_had night a = (holds night a).counts

  -- A job's ended mark is set if the host has told that it ended, and otherwise not.
  pub mark_is_told : (night : List Call) → Allowed p table night → (i : ℕ) → i < counted p → ended_of (run_after p night) i ≡ told p night i
  mark_is_told night a = (holds night a).ends

  -- A job that was told ended lacks something of its size.
  pub told_lacks : (night : List Call) → Allowed p table night → (i : ℕ) → i < counted p → told p night i ≡ true
      → carried_of (run_after p night) i ≢ size p i
  told_lacks night a = (holds night a).short

  -- The run's slow mark is set if some slot was slow, and otherwise not.
  pub mark_is_slowed : (night : List Call) → Allowed p table night → (run_after p night).slow ≡ slowed p night
  mark_is_slowed night a = (holds night a).mark

  -- A job whose deadline the clock has reached has its size or has ended, if no slow slot began before its deadline.
  in_time : (night : List Call) → Holds night → (i : ℕ) → i < counted p → deadline p i ≤ (run_after p night).clock.0
      → slowed_before p (deadline p i) night ≡ false → settled_of p (run_after p night) i ≡ size p i
  in_time night h i k o b =
      if_true (run_after p night).slow
      (λ s. h.in_time i k s b)
      (λ s. let w = h.pace s in on_pace_reached (facts_of p table) good (state_of p (run_after p night)) w.0 w.1 (settled_no_more night h) i k o)

  module _ (floor_rule : FloorRule p table) where
    -- The floor guarantee of a run.
    abbrev FloorAt : Run → Type 0
    FloorAt run = FloorHolds (facts_of p table) (state_of p run)

    -- An allowed call preserves the floor guarantee.
    floor_allowed : (c : Call) (earlier : List Call) → AllowedCall p table c → Holds earlier → FloorAt (run_after p earlier)
        → FloorAt (run_left c (run_after p earlier))
    floor_allowed (slot c) earlier w h before =
        by_slot c (run_after p earlier) w
        (λ e. rw (refused_keeps (slot c) (run_after p earlier) e) before)
        (λ f same e.
        rw (run_is c earlier h same e)
        (keeps_floor (facts_of p table) good (state_of p (run_after p earlier)) (state_of p (next c earlier h same e)) (here c earlier h same e) c.speed
        (grant c earlier h same e) (served c earlier h same e) floor_rule f (settled_no_more earlier h) before))
    floor_allowed (word w) earlier same h before =
        by_word w (run_after p earlier) same
        (λ e. rw (refused_keeps (word w) (run_after p earlier) e) before)
        (λ is e.
        rw (word_run w earlier h is e)
        (more_keeps_floor (facts_of p table) (state_of p (run_after p earlier)) (state_of p (after_word w earlier h is e)) refl
        (counts_for_more w earlier h is e) before))

    -- The floor guarantee holds at every point of a night.
    floor_holds : (night : List Call) → Allowed p table night → FloorAt (run_after p night)
    unfolding run_after started Allowed
    floor_holds [] a =
        begins_with_floor (facts_of p table) good (state_of p (started p)) floor_rule (sym (first_boundary p rules.some rules.windows))
        (λ i h. rw (get_or-replicate most_jobs i false false (omega (arith, rules.few))) (get_or-replicate most_jobs i 0 0 (omega (arith, rules.few))))
    floor_holds (c ∷ earlier) a =
        let before = floor_holds earlier a.0 in
        ⊎_elim
        (λ e. rw (refused_keeps c (run_after p earlier) e) before)
        (λ w. floor_allowed c earlier w (holds earlier a.0) before)
        a.1

    pub kept : (night : List Call) → Allowed p table night → Kept p night
    kept night a =
        let h = holds night a in
        let run = run_after p night in
        let whole : (i : ℕ) → i < counted p → settled_of p run i ≡ size p i
        → (told p night i ≡ true) ⊎ ((had p night i ≡ size p i) × (had_in_window p night i ≡ size p i))
        = λ i k e. if_true (told p night i)
        (λ t. inl t)
        (λ t. let carried : carried_of run i ≡ size p i = rw (h.ends i k ∙ t) at e in
        inr (omega (arith, h.counts i k), omega (arith, h.counts i k, h.in_window i k))) in
        record {
          essential = λ i k hi o. whole i k (floor_reached (facts_of p table) (state_of p run) (floor_holds night a) (settled_no_more night h) i k hi o);
          others = λ i k o b. whole i k (in_time night h i k o b);
          discarded = h.discards;
          ended = h.told_none;
          windows = h.in_window;
          no_more = λ i k. omega (arith, h.counts i k, h.no_more i k);
          speeds = h.speeds;
        }
