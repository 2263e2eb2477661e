-- The desk: it answers 29 exactly when no table whatever is accepted, what it draws up is accepted, and a planner who gets 29
-- is told the first times by which there is none.
use mathlib.Core.Path.{◌≡◌, refl, sym, ◌∙◌, ap, ap₂}
use mathlib.Core.Logic.{◌↔◌, ◌⊎◌, inl, inr, ⊎_elim}
use mathlib.Core.Bool.{Bool, true, false, not, cond, ◌&&◌, ◌||◌, true≢false, false≢true, and-false, and-true, or-true}
use mathlib.Core.List.{List, [], ◌∷◌, ◌++◌, append-nil}
use Prim.Native.Nat.{ℕ, zero, suc, ◌+◌, ◌*◌, ◌-◌, ◌≤◌, ◌<◌}
use native.Mathlib.Nat.{mul-add}
use native.Mathlib.Omega.{arith}
use borrow.Author.Tests.{le-leb, lt-leb, le-ltb, lt-ltb, ltb-true, eqb-true, eq-eqb, not-true, not-false}
use lib.Dec.{leb, ltb, eqb}
use lib.ListN.{length, drop, replicate, length-replicate}
use Rattle.std.specs.Prelude.{Result, Ok, Err}
use Rattle.base.specs.Sum.{sum, on}
use Rattle.base.specs.Fill.{filled}
use Rattle.base.specs.Below.{every, least, greatest}
use Rattle.base.proofs.SumLaws.{sum_mono, sum_add, sum_swap}
use Rattle.base.proofs.Below.{every_at, every_all, least_attained}
use Rattle.base.proofs.Logic.{both, by_order, if_less, if_true}
use Rattle.plan.specs.Edition.{places}
use Rattle.plan.specs.Refusal.{HasNumber, unsound, buffer_too_short, releases_differ, no_timetable}
use Rattle.plan.proofs.PresentInterval.{deadline_is_boundary, first_boundary}
use Rattle.plan.specs.Report.{Report, is_none, is_one_of, number_of, done_number, or_else, first, fault}
use Rattle.plan.specs.Rules.{hi, lo, no_plan, counted, release, size, deadline, is_hi, name_allowed, names_hold, names_differ, grades_hold, bounds_hold, rules_hold}
use Rattle.plan.specs.Boundaries.{insert, boundaries_to, boundary, intervals, first_release}
use Rattle.plan.specs.declared.kinds.Plan.{Plan}
use Rattle.plan.specs.declared.refusal.Reason.{Reason}
use Rattle.plan.specs.declared.refusal.Reason.TheVariants as reason
use Rattle.plan.proofs.Reasons.{number_one, number_some, never_done}
use Rattle.plan.proofs.Reports.{none_empty, none_first, none_plain, empty_none}
use Rattle.judge.specs.Verdict.{judged}
use Rattle.judge.specs.Slack.{through}
use Rattle.judge.proofs.FirstLocation.{search_first}
use Rattle.desk.specs.Timetable.{in_class, placing, turns_at, class_placed, all_room, timetable}
use Rattle.desk.specs.Pairs.{is_deadline, asked, carries, is_end, is_short, pair_at, pair_fault}
use Rattle.desk.specs.Desk.{one_release, jobs_fault, shortage_of, draw_fault, table_left}
use Rattle.desk.specs.Answers.{shortage_view, answer_view, drawn_number, TellsShortage, DrawsUp}
use Rattle.desk.specs.declared.answers.Shortage.{Shortage}
use Rattle.desk.specs.declared.answers.Shortage.TheVariants.{Unsound, ReleasesDiffer, Pair}
use Rattle.desk.proofs.Closed.{pair_carried, pairs_carried}
use Rattle.desk.proofs.Accepted.{drawn_accepted}
use Rattle.desk.proofs.Alone.{timetable_alone}
use Rattle.plan.proofs.Soundness.{rules_bounded}
use Rattle.hostmemory.specs.Memory.{pair_words, short_plan, plan_of}
use Rattle.gateway.specs.Calls.{draw_call, shortage_call}
use Rattle.promises.specs.Grounds.{IsTime, ClosedForm, OneRelease, SomeTable, DrawDecided, draw_short, draw_unsound, draw_releases, draw_none, drawn_up, FirstShort}
use Rattle.promises.proofs.Cases.{job, plan_with, table_of, capital_mirror, small_mirror, table_e, P5}
use Rattle.promises.proofs.FloorTail.{Facts, Good, before, tail, rises, tail_reached, floor_tail, class}
use Rattle.promises.proofs.CallAsSlot.{facts_of, good_plan}
use Rattle.promises.proofs.Demand2.{judge_is_exact}
use Rattle.promises.proofs.Exactly.{rules_exactly}
use Rattle.promises.proofs.JudgeExactly.{first_none, absent}

-- A table that is accepted carries what is asked by any two boundaries: up to the second at the normal rate, by rule 17, and
-- from there to the first at the floor, by rule 18.
module _ (p : Plan) (table : List ℕ) (accepted : judged p table ≡ []) where
  abbrev f : Facts
  f = facts_of p table

  good : Good f
  good = good_plan p table ((judge_is_exact p table).0 accepted).2.allotted

  -- What all jobs have before boundary k is at most the normal rate's capacity up to there.
  columns : (k : ℕ) → k ≤ intervals p → sum (λ j. sum (λ i. f.x i j) (counted p)) k ≤ p.n.0 * (boundary p k - boundary p 0)
  unfolding sum
  columns zero h = omega arith
  columns (suc k) h =
      let parts : (boundary p k - boundary p 0) + (boundary p (suc k) - boundary p k) ≡ boundary p (suc k) - boundary p 0
      = omega (arith, good.rise k h, rises f good 0 k (omega arith) (omega arith)) in
      omega (
        arith,
        columns k (omega arith),
        good.within k h,
        sym (ap (λ t. p.n.0 * t) parts) ∙ mul-add p.n.0 (boundary p k - boundary p 0) (boundary p (suc k) - boundary p k),
      )

  normal_carries : (k : ℕ) → k ≤ intervals p → sum (λ i. before f i k) (counted p) ≤ p.n.0 * (boundary p k - boundary p 0)
  normal_carries k h = rw (sum_swap f.x k (counted p)) (columns k h)

  -- The parts of what is asked: before boundary k, and of the HI jobs from there on.
  part : (m k i : ℕ) → m ≤ intervals p → k ≤ intervals p → i < counted p → (grade : Bool) → is_hi p i ≡ grade
      → on (is_hi p i && leb (deadline p i) (boundary p m)) (size p i) + on (not (is_hi p i) && leb (deadline p i) (boundary p k)) (size p i)
      ≤ before f i k + on (is_hi p i && leb (deadline p i) (boundary p m)) (tail f k i)
  part m k i h g b true e =
      if_less (boundary p m) (deadline p i)
      (λ l. rw (e, lt-leb (deadline p i) (boundary p m) l) (omega arith))
      (λ l. rw (e, le-leb (deadline p i) (boundary p m) l) (omega arith))
  part m k i h g b false e =
      if_less (boundary p k) (deadline p i)
      (λ l. rw (e, lt-leb (deadline p i) (boundary p k) l) (omega arith))
      (λ l. rw (e, le-leb (deadline p i) (boundary p k) l) (omega (arith, tail_reached f good i k b g l)))

  pub accepted_carries : (m k : ℕ) → m ≤ intervals p → k ≤ intervals p → asked p (boundary p m) (boundary p k) ≤ carries p (boundary p m) (boundary p k)
  accepted_carries m k h g =
      let floor = floor_tail f good ((judge_is_exact p table).0 accepted).2.floor k (boundary p m) g in
      let parts : asked p (boundary p m) (boundary p k) ≤ sum (λ i. before f i k) (counted p) + sum (λ i. on (class f (boundary p m) i) (tail f k i)) (counted p)
      = rw (
        ← (sum_add (λ i. on (is_hi p i && leb (deadline p i) (boundary p m)) (size p i)) (λ i. on (not (is_hi p i) && leb (deadline p i) (boundary p k)) (size p i)) (counted p)),
        ← (sum_add (λ i. before f i k) (λ i. on (class f (boundary p m) i) (tail f k i)) (counted p)),
      )
      (sum_mono _ _ (counted p) (λ i b. part m k i h g b (is_hi p i) refl)) in
      omega (arith, parts, floor, normal_carries k g)

-- So no pair is short of a plan for which some table is accepted.
pub no_pair_short : (p : Plan) (table : List ℕ) → judged p table ≡ [] → pair_fault p ≡ []
unfolding pair_fault
no_pair_short p table accepted =
    first_none _ (suc (intervals p)) (λ m h. first_none _ (suc (intervals p)) (λ k g. absent (is_end p false m && is_end p true k && is_short p m k) _ (holds m k h g)))
  where
    holds : (m k : ℕ) → m < suc (intervals p) → k < suc (intervals p) → (is_end p false m && is_end p true k && is_short p m k) ≡ false
    holds m k h g =
        rw (le-ltb (carries p (boundary p m) (boundary p k)) (asked p (boundary p m) (boundary p k)) (accepted_carries p table accepted m k (omega arith) (omega arith)))
        (and-false (is_end p false m && is_end p true k))

-- A test that is not true of all has a number at which it is false.
fails_somewhere : (test : ℕ → Bool) (n : ℕ) → every test n ≡ false → (k : ℕ) × (k < n) × (test k ≡ false)
unfolding every
fails_somewhere test zero e = absurd (true≢false e)
fails_somewhere test (suc n) e =
    if_true (test n)
    (λ holds. earlier (fails_somewhere test n (first_part holds)))
    (λ fails. (n, omega arith, fails))
  where
    earlier : (k : ℕ) × (k < n) × (test k ≡ false) → (k : ℕ) × (k < suc n) × (test k ≡ false)
    earlier w = (w.0, omega (arith, w.1), w.2)

    first_part : test n ≡ true → every test n ≡ false
    first_part holds = sym (and-true (every test n)) ∙ ap (λ b. every test n && b) (sym holds) ∙ e

-- A time of the closed form stands at a boundary that counts as an end of its class, and such a boundary is such a time.
module _ (p : Plan) (rules : rules_hold p ≡ true) where
  begins : boundary p 0 ≡ first_release p
  begins = let b = rules_bounded p rules in first_boundary p b.some b.windows

  time_at : (low : Bool) (t : ℕ) → IsTime p low t → (m : ℕ) × (m ≤ intervals p) × (boundary p m ≡ t) × (is_end p low m ≡ true)
  time_at low t =
      ⊎_elim
      (λ e. (0, omega arith, begins ∙ sym e, refl))
      (λ w.
      let g = deadline_is_boundary p w.0 w.1 in
      let due : (in_class p low w.0 && eqb (deadline p w.0) (boundary p g.0)) ≡ true = rw (w.2, eq-eqb (deadline p w.0) (boundary p g.0) (sym g.2)) refl in
      (g.0, g.1, g.2 ∙ w.3, is_end_lem g.0 w.0 w.1 due))
    where
      is_end_lem : (m i : ℕ) → i < counted p → (in_class p low i && eqb (deadline p i) (boundary p m)) ≡ true → is_end p low m ≡ true
      is_end_lem m i h due =
          if_true (every (λ i. not (in_class p low i && eqb (deadline p i) (boundary p m))) (counted p))
          (λ all. absurd (true≢false (sym (every_at _ (counted p) i all h) ∙ ap not due)))
          (λ some. rw some (or-true (eqb m 0)))

  end_time : (low : Bool) (m : ℕ) → is_end p low m ≡ true → IsTime p low (boundary p m)
  end_time low m e =
      if_true (eqb m 0)
      (λ zero. inl (ap (boundary p) (eqb-true m 0 zero) ∙ begins))
      (λ other. inr (found (fails_somewhere _ (counted p) (not-true _ (sym (ap (λ b. b || is_deadline p low (boundary p m)) other) ∙ e)))))
    where
      found : (i : ℕ) × (i < counted p) × (not (in_class p low i && eqb (deadline p i) (boundary p m)) ≡ false)
          → (i : ℕ) × (i < counted p) × (in_class p low i ≡ true) × (deadline p i ≡ boundary p m)
      found w =
          let parts = both (in_class p low w.0) (eqb (deadline p w.0) (boundary p m)) (not-false _ w.2) in
          (w.0, w.1, parts.0, eqb-true (deadline p w.0) (boundary p m) parts.1)

  -- The closed form says that no pair is short.
  pub closed_exactly : (pair_fault p ≡ []) ↔ ClosedForm p
  unfolding pair_fault
  closed_exactly = (
    λ none D E high low.
        let m = time_at false D high in
        let k = time_at true E low in
        rw (← m.2, ← k.2) (pairs_carried p none m.0 k.0 m.1 k.1 m.3 k.3),
    λ closed. first_none _ (suc (intervals p)) (λ m h. first_none _ (suc (intervals p)) (λ k g. absent (is_end p false m && is_end p true k && is_short p m k) _ (holds closed m k))),
  )
    where
      holds : ClosedForm p → (m k : ℕ) → (is_end p false m && is_end p true k && is_short p m k) ≡ false
      holds closed m k =
          if_true (is_end p false m && is_end p true k)
          (λ ends.
          let parts = both (is_end p false m) (is_end p true k) ends in
          rw (ends, le-ltb (carries p (boundary p m) (boundary p k)) (asked p (boundary p m) (boundary p k)) (closed _ _ (end_time false m parts.0) (end_time true k parts.1))) refl)
          (λ none. rw none refl)

-- The closed form decides: it holds exactly when some table whatever is accepted.
pub closed_form_decides : (p : Plan) → rules_hold p ≡ true → one_release p ≡ true → (ClosedForm p ↔ SomeTable p)
closed_form_decides p rules one = (
  λ closed. (
    timetable p (replicate places 0),
    drawn_accepted p rules one ((closed_exactly p rules).1 closed) (replicate places 0) (rw (length-replicate {A = ℕ} places 0) (omega arith)),
  ),
  λ w. (closed_exactly p rules).0 (no_pair_short p w.0 w.1),
)

-- The releases are all the first one exactly when they are all the same.
pub releases_exactly : (p : Plan) → (one_release p ≡ true) ↔ OneRelease p
unfolding one_release
releases_exactly p = (
  λ e i k h g.
      eqb-true (release p i) (first_release p) (every_at _ (counted p) i e h)
      ∙ sym (eqb-true (release p k) (first_release p) (every_at _ (counted p) k e g)),
  λ same. every_all _ (counted p) (λ i h.
      let w = least_attained (release p) (counted p) (omega arith) in
      eq-eqb (release p i) (first_release p) (same i w.0 h w.1 ∙ w.2)),
)

-- A first report that is not empty is that of a number before which all are empty.
found_at : (f : ℕ → Report) (n : ℕ) → is_none (first f n) ≡ false → (k : ℕ) × (k < n) × (first f n ≡ f k) × (is_none (f k) ≡ false) × ((j : ℕ) → j < k → f j ≡ [])
found_at f n some =
    ⊎_elim (λ none. absurd (true≢false (sym (ap is_none none.0) ∙ some))) (λ w. (w.0, w.1, w.4, w.2, w.3)) (search_first f n)

-- A report of a pair that is not empty names it, and more is asked than the link carries.
pair_is : (p : Plan) (m k : ℕ) → is_none (pair_at p m k) ≡ false
    → (pair_at p m k ≡ no_timetable ∷ boundary p m ∷ boundary p k ∷ asked p (boundary p m) (boundary p k) ∷ carries p (boundary p m) (boundary p k) ∷ [])
    × (is_end p false m ≡ true) × (is_end p true k ≡ true) × (carries p (boundary p m) (boundary p k) < asked p (boundary p m) (boundary p k))
pair_is p m k some =
    let test = not-false (is_end p false m && is_end p true k && is_short p m k) (sym (none_plain (is_end p false m && is_end p true k && is_short p m k) _ _) ∙ some) in
    let outer = both (is_end p false m && is_end p true k) (is_short p m k) test in
    let inner = both (is_end p false m) (is_end p true k) outer.0 in
    (rw test refl, inner.0, inner.1, ltb-true (carries p (boundary p m) (boundary p k)) (asked p (boundary p m) (boundary p k)) outer.1)

-- Where there is a fault, it is the first pair, with both sides of the inequality.
pub named_pair : (p : Plan) → is_none (pair_fault p) ≡ false
    → (D E : ℕ) × (pair_fault p ≡ no_timetable ∷ D ∷ E ∷ asked p D E ∷ carries p D E ∷ []) × FirstShort p D E
unfolding pair_fault
named_pair p some =
    let outer = found_at (λ m. first (pair_at p m) (suc (intervals p))) (suc (intervals p)) some in
    let m = outer.0 in
    let inner = found_at (pair_at p m) (suc (intervals p)) outer.3 in
    let k = inner.0 in
    let pair = pair_is p m k inner.3 in (
      boundary p m,
      boundary p k,
      outer.2 ∙ inner.2 ∙ pair.0,
      record {
        m = m;
        k = k;
        high = (omega (arith, outer.1), refl, pair.1);
        low = (omega (arith, inner.1), refl, pair.2);
        short = pair.3;
        before = λ a c h g order e e'.
            pair_carried p a c e e' (⊎_elim
            (λ less. none_empty _ (every_at _ (suc (intervals p)) c (sym (none_first (pair_at p a) (suc (intervals p))) ∙ empty_none _ (outer.4 a less)) (omega arith)))
            (λ v. ap (λ b. pair_at p b c) v.0 ∙ inner.4 c v.1) order);
      },
    )

-- The number of the desk has its ground.
draw_decided : (p : Plan) (table : List ℕ) → DrawDecided p table (number_of (draw_fault p table))
unfolding draw_fault shortage_of
draw_decided p table =
    if_less (length table) places
    (λ short. rw (lt-ltb (length table) places short) (draw_short short))
    (λ long. rw (le-ltb (length table) places long)
    (if_true (rules_hold p)
    (λ held. rw held (by_jobs long held))
    (λ broken. rw broken (draw_unsound long (λ sound. true≢false (sym ((rules_exactly p).1 sound) ∙ broken))))))
  where
    by_jobs : places ≤ length table → rules_hold p ≡ true → DrawDecided p table (number_of (jobs_fault p))
    by_jobs long held =
        if_true (one_release p)
        (λ one. rw one (by_pairs one))
        (λ differ. rw differ (draw_releases long ((rules_exactly p).0 held) (λ same. true≢false (sym ((releases_exactly p).1 same) ∙ differ))))
      where
        by_pairs : one_release p ≡ true → DrawDecided p table (number_of (pair_fault p))
        by_pairs one =
            if_true (is_none (pair_fault p))
            (λ e.
            let none = none_empty (pair_fault p) e in
            rw none (drawn_up long ((rules_exactly p).0 held) ((releases_exactly p).0 one) ((closed_form_decides p held one).0 ((closed_exactly p held).0 none))))
            (λ e.
            rw (named_pair p e).2
            (draw_none long ((rules_exactly p).0 held) ((releases_exactly p).0 one)
            (λ w. true≢false (sym (empty_none _ (no_pair_short p w.0 w.1)) ∙ e))))

-- No two numbers have their grounds.
draw_once : (p : Plan) (table : List ℕ) (a b : ℕ) → DrawDecided p table a → DrawDecided p table b → a ≡ b
draw_once p table a b (draw_short h) (draw_short g) = refl
draw_once p table a b (draw_short h) (draw_unsound g u) = absurd (omega arith)
draw_once p table a b (draw_short h) (draw_releases g s u) = absurd (omega arith)
draw_once p table a b (draw_short h) (draw_none g s o u) = absurd (omega arith)
draw_once p table a b (draw_short h) (drawn_up g s o t) = absurd (omega arith)
draw_once p table a b (draw_unsound h u) (draw_short g) = absurd (omega arith)
draw_once p table a b (draw_unsound h u) (draw_unsound g v) = refl
draw_once p table a b (draw_unsound h u) (draw_releases g s v) = absurd (u s)
draw_once p table a b (draw_unsound h u) (draw_none g s o v) = absurd (u s)
draw_once p table a b (draw_unsound h u) (drawn_up g s o t) = absurd (u s)
draw_once p table a b (draw_releases h s u) (draw_short g) = absurd (omega arith)
draw_once p table a b (draw_releases h s u) (draw_unsound g v) = absurd (v s)
draw_once p table a b (draw_releases h s u) (draw_releases g t v) = refl
draw_once p table a b (draw_releases h s u) (draw_none g t o v) = absurd (u o)
draw_once p table a b (draw_releases h s u) (drawn_up g t o v) = absurd (u o)
draw_once p table a b (draw_none h s o u) (draw_short g) = absurd (omega arith)
draw_once p table a b (draw_none h s o u) (draw_unsound g v) = absurd (v s)
draw_once p table a b (draw_none h s o u) (draw_releases g t v) = absurd (v o)
draw_once p table a b (draw_none h s o u) (draw_none g t q v) = refl
draw_once p table a b (draw_none h s o u) (drawn_up g t q v) = absurd (u v)
draw_once p table a b (drawn_up h s o t) (draw_short g) = absurd (omega arith)
draw_once p table a b (drawn_up h s o t) (draw_unsound g v) = absurd (v s)
draw_once p table a b (drawn_up h s o t) (draw_releases g u v) = absurd (v o)
draw_once p table a b (drawn_up h s o t) (draw_none g u q v) = absurd (v t)
draw_once p table a b (drawn_up h s o t) (drawn_up g u q v) = refl

-- Each number is answered exactly when its ground holds, 29 when no table whatever is accepted for sound jobs with one release.
pub draw_exactly : (p : Plan) (table : List ℕ) (number : ℕ) → (number_of (draw_fault p table) ≡ number) ↔ DrawDecided p table number
draw_exactly p table number = (
  λ e. rw e at (draw_decided p table),
  λ decided. draw_once p table (number_of (draw_fault p table)) number (draw_decided p table) decided,
)

-- The call that says why answers as the desk does with a table that is long enough.
pub shortage_as_drawn : (p : Plan) (table : List ℕ) → places ≤ length table → draw_fault p table ≡ shortage_of p
unfolding draw_fault
shortage_as_drawn p table long = rw (le-ltb (length table) places long) refl

-- What the desk draws up is accepted by the judge.
pub drawn_is_accepted : (p : Plan) (table : List ℕ) → draw_fault p table ≡ [] → judged p (table_left p table) ≡ []
unfolding draw_fault shortage_of table_left
drawn_is_accepted p table none =
    if_less (length table) places
    (λ short. absurd (false≢true (ap is_none (rw (lt-ltb (length table) places short) at none))))
    (λ long. when_long long (rw (le-ltb (length table) places long) at none))
  where
    when_long : places ≤ length table → or_else (fault (not (rules_hold p)) (unsound ∷ [])) (jobs_fault p) ≡ [] → judged p (table_left p table) ≡ []
    when_long long left =
        if_true (rules_hold p)
        (λ held. when_sound held (rw held at left))
        (λ broken. absurd (false≢true (ap is_none (rw broken at left))))
      where
        when_sound : rules_hold p ≡ true → jobs_fault p ≡ [] → judged p (table_left p table) ≡ []
        when_sound held rest =
            if_true (one_release p)
            (λ one.
            let pairs : pair_fault p ≡ [] = rw one at rest in
            rw (le-ltb (length table) places long, held, one, pairs) (drawn_accepted p held one pairs table long))
            (λ differ. absurd (false≢true (ap is_none (rw differ at rest))))

-- What the desk leaves: after 22 and 21 the table as it was, after 28 and 29 zeros in its own places, and otherwise the timetable, which does
-- not depend on what the table held. The places beyond the table's own stay in any case.
pub draw_leaves : (p : Plan) (table : List ℕ)
    → ((is_one_of (buffer_too_short ∷ unsound ∷ []) (number_of (draw_fault p table)) ≡ true) × (table_left p table ≡ table))
    ⊎ ((is_one_of (releases_differ ∷ no_timetable ∷ []) (number_of (draw_fault p table)) ≡ true) × (table_left p table ≡ replicate places 0 ++ drop places table))
    ⊎ ((number_of (draw_fault p table) ≡ done_number) × (front : List ℕ) × (length front ≡ places)
    × ((other : List ℕ) → places ≤ length other → table_left p other ≡ front ++ drop places other))
unfolding draw_fault shortage_of table_left
draw_leaves p table =
    if_less (length table) places
    (λ short. inl (rw (lt-ltb (length table) places short) (refl, refl)))
    (λ long. rw (le-ltb (length table) places long)
    (if_true (rules_hold p)
    (λ held. inr (if_true (one_release p)
    (λ one. if_true (is_none (pair_fault p))
    (λ e. inr (drawn held one (none_empty (pair_fault p) e)))
    (λ e. let w = named_pair p e in inl (rw (held, one, w.2) (refl, refl))))
    (λ differ. inl (rw (held, differ) (refl, refl)))))
    (λ broken. inl (rw broken (refl, refl)))))
  where
    drawn : (held : rules_hold p ≡ true) (one : one_release p ≡ true) (pairs : pair_fault p ≡ [])
        → (number_of (or_else (fault (not (rules_hold p)) (unsound ∷ [])) (jobs_fault p)) ≡ done_number) × (front : List ℕ) × (length front ≡ places)
        × ((other : List ℕ) → places ≤ length other → table_left p other ≡ front ++ drop places other)
    drawn held one pairs =
        let bounds = rules_bounded p held in
        let alone = timetable_alone p bounds.spans (omega (arith, bounds.few, bounds.count)) in
        (rw (held, one, pairs) refl, alone.0, alone.1, λ other long. rw (le-ltb (length other) places long, held, one, pairs) (alone.2 other))

-- There is one first pair at most.
pub one_pair : (p : Plan) (D E D' E' : ℕ) → FirstShort p D E → FirstShort p D' E' → (D ≡ D') × (E ≡ E')
one_pair p D E D' E' a b =
    by_order a.m b.m
    (λ e. by_order a.k b.k
    (λ q. (sym a.high.1 ∙ ap (boundary p) e ∙ b.high.1, sym a.low.1 ∙ ap (boundary p) q ∙ b.low.1))
    (λ less. absurd (earlier a b (inr (e, less))))
    (λ less. absurd (earlier b a (inr (sym e, less)))))
    (λ less. absurd (earlier a b (inl less)))
    (λ less. absurd (earlier b a (inl less)))
  where
    earlier : {D E D' E' : ℕ} (a : FirstShort p D E) (b : FirstShort p D' E') → (a.m < b.m) ⊎ ((a.m ≡ b.m) × (a.k < b.k)) → ⊥
    earlier a b order =
        let held = b.before a.m a.k a.high.0 a.low.0 order a.high.2 a.low.2 in
        let less = a.short in
        absurd (omega (arith, rw (a.high.1, a.low.1) at held, less))

-- Without a fault there is no short pair.
not_short_of : (p : Plan) (D E : ℕ) → FirstShort p D E → pair_fault p ≡ [] → ⊥
not_short_of p D E f none =
    let held = pairs_carried p none f.m f.k f.high.0 f.low.0 f.high.2 f.low.2 in
    absurd (omega (arith, rw (f.high.1, f.low.1) at held, f.short))

-- For sound jobs with one release: a pair of times by which more is asked than carried exists exactly with 29, and the call that says
-- why then names the first.
pub pair_with_29 : (p : Plan) (table : List ℕ) → places ≤ length table → rules_hold p ≡ true → one_release p ≡ true
    → ((number_of (draw_fault p table) ≡ no_timetable) ↔ ((D E : ℕ) × FirstShort p D E))
unfolding draw_fault shortage_of
pair_with_29 p table long held one = (
  λ is. if_true (is_none (pair_fault p))
      (λ e. let no : done_number ≡ no_timetable = rw (le-ltb (length table) places long, held, one, none_empty (pair_fault p) e) at is in absurd (omega (arith, no)))
      (λ e. let w = named_pair p e in (w.0, w.1, w.3)),
  λ w. rw (le-ltb (length table) places long, held, one) (if_true (is_none (pair_fault p))
      (λ e. absurd (not_short_of p w.0 w.1 w.2 (none_empty (pair_fault p) e)))
      (λ e. ap number_of (named_pair p e).2)),
)

pub first_is_named : (p : Plan) (D E : ℕ) → rules_hold p ≡ true → one_release p ≡ true → FirstShort p D E → shortage_of p ≡ no_timetable ∷ D ∷ E ∷ asked p D E ∷ carries p D E ∷ []
unfolding shortage_of
first_is_named p D E held one f =
    rw (held, one) (if_true (is_none (pair_fault p)) (λ e. absurd (not_short_of p D E f (none_empty (pair_fault p) e))) named)
  where
    named : is_none (pair_fault p) ≡ false → pair_fault p ≡ no_timetable ∷ D ∷ E ∷ asked p D E ∷ carries p D E ∷ []
    named e =
        let w = named_pair p e in
        let same = one_pair p w.0 w.1 D E w.3 f in
        w.2 ∙ ap₂ (λ a c. no_timetable ∷ a ∷ c ∷ asked p a c ∷ carries p a c ∷ []) same.0 same.1

-- The jobs of P5 give the rows of P5, whatever stood in the table, and the places beyond them stay.
P5_of_sevens : timetable (plan_with P5.jobs) (replicate places 7) ≡ table_of P5.rows
unfolding timetable class_placed turns_at placing all_room through filled boundaries_to insert table_of
P5_of_sevens = refl

P5_sound : (rules_hold (plan_with P5.jobs) ≡ true) × (one_release (plan_with P5.jobs) ≡ true) × (pair_fault (plan_with P5.jobs) ≡ [])
unfolding sum first every least greatest name_allowed names_hold names_differ grades_hold bounds_hold rules_hold insert boundaries_to one_release pair_fault
P5_sound = (refl, refl, refl)

pub P5_drawn_up : (table : List ℕ) → places ≤ length table → table_left (plan_with P5.jobs) table ≡ table_of P5.rows ++ drop places table
unfolding table_left
P5_drawn_up table long =
    let p = plan_with P5.jobs in
    let bounds = rules_bounded p P5_sound.0 in
    let alone = timetable_alone p bounds.spans (omega (arith, bounds.few, bounds.count)) in
    let sevens : drop {A = ℕ} places (replicate places 7) ≡ [] = refl in
    let front : alone.0 ≡ table_of P5.rows
    = sym (append-nil alone.0) ∙ ap (λ l. alone.0 ++ l) (sym sevens) ∙ sym (alone.2 (replicate places 7)) ∙ P5_of_sevens in
    rw (le-ltb (length table) places long, P5_sound.0, P5_sound.1, P5_sound.2) (alone.2 table ∙ ap (λ l. l ++ drop places table) front)

-- With 14 units in its last job in place of 10, 28 units are asked by 10 and 12, and the link carries 24.
pub P5_short : pair_fault (plan_with (job 1 hi 0 8 10 ∷ job 2 hi 0 4 16 ∷ job 3 lo 0 6 4 ∷ job 4 lo 0 14 12 ∷ [])) ≡ no_timetable ∷ 10 ∷ 12 ∷ 28 ∷ 24 ∷ []
unfolding pair_fault first sum every boundaries_to insert
P5_short = refl

-- The desk: 22 although rules 4 to 9 are broken; 21 although releases differ; 28 although too much is asked; 29; then it is done.
pub draw_order : (number_of (draw_fault no_plan []) ≡ buffer_too_short)
    × (number_of (draw_fault (plan_with (job capital_mirror lo 0 60 5 ∷ job small_mirror hi 1 0 10 ∷ [])) table_e) ≡ unsound)
    × (number_of (draw_fault (plan_with (job capital_mirror lo 0 60 5 ∷ job small_mirror hi 1 80 10 ∷ [])) table_e) ≡ releases_differ)
    × (number_of (draw_fault (plan_with (job capital_mirror lo 0 60 5 ∷ job small_mirror hi 0 80 10 ∷ [])) table_e) ≡ no_timetable)
    × (draw_fault (plan_with P5.jobs) table_e ≡ [])
unfolding table_of sum first every least greatest name_allowed names_hold names_differ grades_hold bounds_hold rules_hold insert boundaries_to one_release pair_fault shortage_of draw_fault
draw_order = (refl, refl, refl, refl, refl)

-- The desk is refused only by 22, 21, 28 and 29, and the call that says why only by 21, 28 and 29.
pub draw_numbers : (p : Plan) (table : List ℕ) → is_one_of (done_number ∷ buffer_too_short ∷ unsound ∷ releases_differ ∷ no_timetable ∷ []) (number_of (draw_fault p table)) ≡ true
draw_numbers p table = told (number_of (draw_fault p table)) (draw_decided p table)
  where
    told : (number : ℕ) → DrawDecided p table number → is_one_of (done_number ∷ buffer_too_short ∷ unsound ∷ releases_differ ∷ no_timetable ∷ []) number ≡ true
    told number (draw_short short) = refl
    told number (draw_unsound long sound) = refl
    told number (draw_releases long sound differ) = refl
    told number (draw_none long sound one none) = refl
    told number (drawn_up long sound one some) = refl

pub shortage_numbers : (p : Plan) → is_one_of (done_number ∷ unsound ∷ releases_differ ∷ no_timetable ∷ []) (number_of (shortage_of p)) ≡ true
shortage_numbers p = told (number_of (shortage_of p)) (rw (shortage_as_drawn p zeros long) at (draw_decided p zeros))
  where
    zeros : List ℕ
    zeros = replicate places 0

    long : places ≤ length zeros
    long = rw (length-replicate {A = ℕ} places 0) (omega arith)

    told : (number : ℕ) → DrawDecided p zeros number → is_one_of (done_number ∷ unsound ∷ releases_differ ∷ no_timetable ∷ []) number ≡ true
    told number (draw_short short) = absurd (omega (arith, long))
    told number (draw_unsound long sound) = refl
    told number (draw_releases long sound differ) = refl
    told number (draw_none long sound one none) = refl
    told number (drawn_up long sound one some) = refl

-- The same of the calls for hosts, which answer 22 for too few words too.
pub host_draw_numbers : (plan table : List ℕ) → is_one_of (done_number ∷ buffer_too_short ∷ unsound ∷ releases_differ ∷ no_timetable ∷ []) (draw_call plan table).number ≡ true
unfolding draw_call
host_draw_numbers plan table = if_true (short_plan plan) (λ short. rw short refl) (λ long. rw long (draw_numbers (plan_of plan) table))

pub host_shortage_numbers : (plan pair : List ℕ) → is_one_of (buffer_too_short ∷ done_number ∷ unsound ∷ releases_differ ∷ no_timetable ∷ []) (shortage_call plan pair).number ≡ true
unfolding shortage_call
host_shortage_numbers plan pair =
    if_true (short_plan plan || ltb (length pair) pair_words)
    (λ short. rw short refl)
    (λ long. rw long (ap (λ b. eqb (number_of (shortage_of (plan_of plan))) buffer_too_short || b) (shortage_numbers (plan_of plan)) ∙ or-true (eqb (number_of (shortage_of (plan_of plan))) buffer_too_short)))

-- The answer is told by its number, and every number of the desk is that of some answer.
drawn_one : (r s : Result Unit Reason) → drawn_number r ≡ drawn_number s → r ≡ s
drawn_one (Ok done) (Ok again) e = refl
drawn_one (Ok done) (Err k) e = absurd (never_done k (sym e))
drawn_one (Err j) (Ok done) e = absurd (never_done j e)
drawn_one (Err j) (Err k) e = ap Err (number_one j k e)

drawn_some : (n : ℕ) → is_one_of (done_number ∷ buffer_too_short ∷ unsound ∷ releases_differ ∷ no_timetable ∷ []) n ≡ true
    → (r : Result Unit Reason) × (drawn_number r ≡ n)
drawn_some n h = by (eqb n done_number) refl h
  where
    by : (b : Bool) → eqb n done_number ≡ b → (b || is_one_of (buffer_too_short ∷ unsound ∷ releases_differ ∷ no_timetable ∷ []) n) ≡ true
        → (r : Result Unit Reason) × (drawn_number r ≡ n)
    by true e h = (Ok tt, sym (eqb-true n done_number e))
    by false e h =
        let s = number_some (reason.BufferTooShort ∷ reason.Unsound ∷ reason.ReleasesDiffer ∷ reason.NoTimetable ∷ []) n h in
        (Err s.0, s.1)

-- One result meets each of the desk's promises.
pub one_drawing : (p : Plan) (table : List ℕ) (r s : Result Unit Reason) (left other : List ℕ) → DrawsUp p table r left → DrawsUp p table s other
    → (r ≡ s) × (left ≡ other)
one_drawing p table r s left other a b = (drawn_one r s (a.0 ∙ sym b.0), a.1 ∙ sym b.1)

pub some_drawing : (p : Plan) (table : List ℕ) → (r : Result Unit Reason) × (left : List ℕ) × DrawsUp p table r left
some_drawing p table =
    let r = drawn_some (number_of (draw_fault p table)) (draw_numbers p table) in
    (r.0, table_left p table, (r.1, refl))

-- A left inverse of the view of what is told of a shortage.
abbrev shortage_from : Report → Result Unit Shortage
shortage_from [] = Ok tt
shortage_from (number ∷ []) = Err (cond (eqb number unsound) Unsound ReleasesDiffer)
shortage_from (number ∷ D ∷ []) = Ok tt
shortage_from (number ∷ D ∷ E ∷ []) = Ok tt
shortage_from (number ∷ D ∷ E ∷ a ∷ []) = Ok tt
shortage_from (number ∷ D ∷ E ∷ a ∷ c ∷ rest) = Err (Pair (record { 0 = D }) (record { 0 = E }) (record { 0 = a }) (record { 0 = c }))

shortage_back : (r : Result Unit Shortage) → shortage_from (answer_view r) ≡ r
shortage_back (Ok done) = refl
shortage_back (Err Unsound) = refl
shortage_back (Err ReleasesDiffer) = refl
shortage_back (Err (Pair D E a c)) = refl

pub one_shortage : (p : Plan) (r s : Result Unit Shortage) → TellsShortage p r → TellsShortage p s → r ≡ s
one_shortage p r s a b = sym (shortage_back r) ∙ ap shortage_from (a ∙ sym b) ∙ shortage_back s

pub some_shortage : (p : Plan) → (r : Result Unit Shortage) × TellsShortage p r
unfolding shortage_of
some_shortage p =
    if_true (rules_hold p)
    (λ held. if_true (one_release p)
    (λ one. if_true (is_none (pair_fault p))
    (λ e. (Ok tt, rw (held, one) (sym (none_empty (pair_fault p) e))))
    (λ e.
    let w = named_pair p e in
    (Err (Pair (record { 0 = w.0 }) (record { 0 = w.1 }) (record { 0 = asked p w.0 w.1 }) (record { 0 = carries p w.0 w.1 })), rw (held, one) (sym w.2))))
    (λ differ. (Err ReleasesDiffer, rw (held, differ) refl)))
    (λ broken. (Err Unsound, rw broken refl))

-- And a shortage has one reason, by `one_reason`.
pub some_shortage_reason : (s : Shortage) → (r : Reason) × HasNumber (number_of (shortage_view s)) r
some_shortage_reason Unsound = (reason.Unsound, refl)
some_shortage_reason ReleasesDiffer = (reason.ReleasesDiffer, refl)
some_shortage_reason (Pair D E asked carries) = (reason.NoTimetable, refl)
