-- Each answer of writer, step, outcome and the word that a job has ended is given exactly when its ground holds and no ground
-- before it does (`Grounds` in specs states the grounds).
use mathlib.Core.Path.{◌≡◌, refl, sym, ◌∙◌, ap, ap₂, subst}
use mathlib.Core.Logic.{◌↔◌, ◌⊎◌, inl, inr, ⊎_elim}
use mathlib.Core.Bool.{Bool, true, false, not, ◌&&◌, ◌||◌, true≢false, or-true, and-false}
use mathlib.Core.List.{List, [], ◌∷◌}
use Prim.Native.Nat.{ℕ, ◌≤◌, ◌<◌}
use native.Mathlib.Omega.{arith}
use borrow.Author.Tests.{leb-true, ltb-true, eqb-true, eqb-false, not-true, le-leb, lt-leb, lt-ltb, le-ltb, eq-eqb, ne_eqb}
use lib.Dec.{leb, ltb, eqb}
use lib.ListN.{length}
use Rattle.base.specs.Below.{every}
use Rattle.base.proofs.Below.{every_at, every_all}
use Rattle.base.proofs.Logic.{both, and_left, and_right, if_true, if_less, if_same}
use Rattle.plan.specs.Edition.{name_bytes, most_jobs, most_rate, most_deadline, most_size, places, most_speeds}
use Rattle.plan.specs.Rules.{jobs_of, lo, hi, byte_of, counted, job_of, name, release, size, deadline, is_hi, name_allowed, grade_allowed, window_allowed, size_allowed, same_name, rates_hold, count_holds, names_hold, names_differ, grades_hold, bounds_hold, rules_hold}
use Rattle.plan.specs.Boundaries.{first_release, last_deadline}
use Rattle.plan.specs.Table.{sound}
use Rattle.plan.specs.Refusal.{clock_at_end, speed_above_normal, unsound, buffer_too_short, no_such_job, cannot_end, too_many_speeds}
use Rattle.plan.specs.Report.{Report, or_else, fault}
use Rattle.plan.specs.declared.kinds.Plan.{Plan}
use Rattle.plan.proofs.Soundness.{rules_parts, sound_parts}
use Rattle.plan.proofs.Stray.{no_stray_held, no_stray_told}
use Rattle.planwriter.specs.Writing as writing
use Rattle.planwriter.specs.Writing.{wrote, writer}
use Rattle.dispatch.specs.declared.Run.{Run}
use Rattle.dispatch.specs.Dues.{carried_of, ended_of}
use Rattle.dispatch.specs.Step as step
use Rattle.dispatch.specs.Step.{Ending, slot_sound, slot_fault, stepped, outcome, is_open, WordEffect, end_fault, told_ended}
use Rattle.dispatch.specs.Shift.{row_start, shift_fault, shifted}
use Rattle.dispatch.proofs.SlotLimits.{slot_answer}
use Rattle.dispatch.proofs.ShiftLimits.{shift_answer}
use Rattle.dispatch.proofs.WordLimits.{word_answer}
use Rattle.promises.specs.Grounds.{Rule4, Rule5, Rule6, Rule7, Rule8, Rule9, SoundPlan, SoundJobs, SoundRun, written_length, WriterDecided, table_short, plan_unsound, output_short, file_written, StepDecided, run_unsound, buffer_short, at_end_lem, too_fast, slot_done, ShiftDecided, shift_unsound, too_many, shift_short, shift_done, Asked, OutcomeDecided, not_asked, all_carried, told_of, dropped, late, waiting, EndDecided, word_unsound, no_such_job_lem, cannot_end_lem, word_done}
use Rattle.promises.proofs.Progress.{sound_after}
use Rattle.promises.proofs.SameSlot.{same_word}
use Rattle.promises.specs.Night.{EndCall, Call, word, answer_of, run_after, clock_at, Allowed}
use Rattle.plan.specs.Same.{Same}
use Rattle.judge.specs.Verdict.{judged}

-- A conjunction of tests decides the conjunction of what they decide.
and_exactly : {A B : Type 0} (a b : Bool) → ((a ≡ true) ↔ A) → ((b ≡ true) ↔ B) → ((a && b) ≡ true) ↔ (A × B)
and_exactly a b one two = (
  λ e. (one.0 (and_left a b e), two.0 (and_right a b e)),
  λ w. ap₂ ◌&&◌ (one.1 w.0) (two.1 w.1),
)

-- A disjunction of tests decides the disjunction of what they decide.
or_exactly : {A B : Type 0} (a b : Bool) → ((a ≡ true) ↔ A) → ((b ≡ true) ↔ B) → ((a || b) ≡ true) ↔ (A ⊎ B)
or_exactly a b one two = (
  λ e. if_true a (λ h. inl (one.0 h)) (λ h. inr (two.0 (rw h at e))),
  ⊎_elim (λ x. ap (λ t. t || b) (one.1 x)) (λ y. ap (λ t. a || t) (two.1 y) ∙ or-true a),
)

-- A test of every number below n decides what it decides of each.
every_exactly : (test : ℕ → Bool) (n : ℕ) {P : ℕ → Type 0} → ((k : ℕ) → (test k ≡ true) ↔ P k) → (every test n ≡ true) ↔ ((k : ℕ) → k < n → P k)
every_exactly test n each = (
  λ e k h. (each k).0 (every_at test n k e h),
  λ all. every_all test n (λ k h. (each k).1 (all k h)),
)

-- The tests of numbers.
leb_exactly : (x y : ℕ) → (leb x y ≡ true) ↔ (x ≤ y)
leb_exactly x y = (leb-true x y, le-leb x y)

ltb_exactly : (x y : ℕ) → (ltb x y ≡ true) ↔ (x < y)
ltb_exactly x y = (ltb-true x y, lt-ltb x y)

eqb_exactly : (x y : ℕ) → (eqb x y ≡ true) ↔ (x ≡ y)
eqb_exactly x y = (eqb-true x y, eq-eqb x y)

differ_exactly : (x y : ℕ) → (not (eqb x y) ≡ true) ↔ (x ≡ y → ⊥)
differ_exactly x y = (
  λ e. eqb-false x y (not-true (eqb x y) e),
  λ n. ap not (ne_eqb x y n),
)

-- Rules 4 to 9, one by one.
module _ (p : Plan) where
  rule_4 : (rates_hold p ≡ true) ↔ Rule4 p
  rule_4 =
      let one = and_exactly (leb 1 p.d.0) (ltb p.d.0 p.n.0) (leb_exactly 1 p.d.0) (ltb_exactly p.d.0 p.n.0) in
      let all = and_exactly (leb 1 p.d.0 && ltb p.d.0 p.n.0) (leb p.n.0 most_rate) one (leb_exactly p.n.0 most_rate) in
      (λ e. let w = all.0 e in (w.0.0, w.0.1, w.1), λ w. all.1 ((w.0, w.1), w.2))

  rule_5 : (count_holds (jobs_of p) ≡ true) ↔ Rule5 p
  rule_5 = and_exactly (leb 1 p.count) (leb p.count most_jobs) (leb_exactly 1 p.count) (leb_exactly p.count most_jobs)

  rule_6 : (names_hold (jobs_of p) ≡ true) ↔ Rule6 p
  unfolding names_hold name_allowed
  rule_6 =
      every_exactly (λ i. name_allowed (name p i)) (counted p)
      (λ i. every_exactly (λ k. leb 0x21 (byte_of (name p i) k) && leb (byte_of (name p i) k) 0x7E) name_bytes
      (λ k. and_exactly (leb 0x21 (byte_of (name p i) k)) (leb (byte_of (name p i) k) 0x7E) (leb_exactly 0x21 (byte_of (name p i) k)) (leb_exactly (byte_of (name p i) k) 0x7E)))

  rule_7 : (names_differ (jobs_of p) ≡ true) ↔ Rule7 p
  unfolding names_differ
  rule_7 =
      every_exactly (λ i. every (λ k. not (same_name (name p k) (name p i))) i) (counted p)
      (λ i. every_exactly (λ k. not (same_name (name p k) (name p i))) i (λ k. differ_exactly (name p k) (name p i)))

  rule_8 : (grades_hold (jobs_of p) ≡ true) ↔ Rule8 p
  unfolding grades_hold
  rule_8 =
      every_exactly (λ i. grade_allowed (job_of p i).grade) (counted p)
      (λ i. or_exactly (eqb (job_of p i).grade lo) (eqb (job_of p i).grade hi) (eqb_exactly (job_of p i).grade lo) (eqb_exactly (job_of p i).grade hi))

  rule_9 : (bounds_hold (jobs_of p) ≡ true) ↔ Rule9 p
  unfolding bounds_hold
  rule_9 =
      every_exactly (λ i. window_allowed (release p i) (deadline p i) && size_allowed (size p i)) (counted p)
      (λ i.
      let window = and_exactly (ltb (release p i) (deadline p i)) (leb (deadline p i) most_deadline) (ltb_exactly (release p i) (deadline p i)) (leb_exactly (deadline p i) most_deadline) in
      let units = and_exactly (leb 1 (size p i)) (leb (size p i) most_size) (leb_exactly 1 (size p i)) (leb_exactly (size p i) most_size) in
      let all = and_exactly (window_allowed (release p i) (deadline p i)) (size_allowed (size p i)) window units in
      (λ e. let w = all.0 e in (w.0.0, w.0.1, w.1.0, w.1.1), λ w. all.1 ((w.0, w.1), (w.2, w.3))))

-- Rules 4 to 9 hold exactly when the facts of `SoundJobs` do.
pub rules_exactly : (p : Plan) → (rules_hold p ≡ true) ↔ SoundJobs p
unfolding rules_hold
rules_exactly p = (
  λ e.
      let r = rules_parts p e in
      record {
        rates = (rule_4 p).0 r.rates;
        count = (rule_5 p).0 r.count;
        names = (rule_6 p).0 r.named;
        differ = (rule_7 p).0 r.differ;
        grades = (rule_8 p).0 r.grades;
        bounds = (rule_9 p).0 r.bounds;
      },
  λ f. rw ((rule_4 p).1 f.rates, (rule_5 p).1 f.count, (rule_6 p).1 f.names, (rule_7 p).1 f.differ, (rule_8 p).1 f.grades, (rule_9 p).1 f.bounds) refl,
)

-- A plan in hand is sound exactly when the facts of `SoundPlan` hold.
pub sound_exactly : (p : Plan) (table : List ℕ) → (sound p table ≡ true) ↔ SoundPlan p table
unfolding sound
sound_exactly p table = (
  λ e. let parts = sound_parts p table e in record { jobs = (rules_exactly p).0 parts.rules; clear = no_stray_held p table parts.clear },
  λ f. rw ((rules_exactly p).1 f.jobs) (no_stray_told p table f.clear),
)

-- A plan and a run are sound for a slot exactly when the facts of `SoundRun` hold.
module _ (p : Plan) (run : Run) where
  abbrev carried_test : Bool
  carried_test = every (λ i. leb (carried_of run i) (size p i)) (counted p)

  carried_exactly : (carried_test ≡ true) ↔ ((i : ℕ) → i < counted p → carried_of run i ≤ size p i)
  carried_exactly = every_exactly (λ i. leb (carried_of run i) (size p i)) (counted p) (λ i. leb_exactly (carried_of run i) (size p i))

  pub slot_sound_exactly : (slot_sound p run ≡ true) ↔ SoundRun p run
  unfolding slot_sound
  slot_sound_exactly =
      let begun = leb (first_release p) run.clock.0 in
      let not_over = leb run.clock.0 (last_deadline p) in (
        λ e.
            let l = jobs_of p in
            let s₁ = both (rates_hold p && count_holds l && grades_hold l && bounds_hold l && begun && not_over) carried_test e in
            let s₂ = both (rates_hold p && count_holds l && grades_hold l && bounds_hold l && begun) not_over s₁.0 in
            let s₃ = both (rates_hold p && count_holds l && grades_hold l && bounds_hold l) begun s₂.0 in
            let s₄ = both (rates_hold p && count_holds l && grades_hold l) (bounds_hold l) s₃.0 in
            let s₅ = both (rates_hold p && count_holds l) (grades_hold l) s₄.0 in
            let s₆ = both (rates_hold p) (count_holds l) s₅.0 in
            record {
              rates = (rule_4 p).0 s₆.0;
              count = (rule_5 p).0 s₆.1;
              grades = (rule_8 p).0 s₅.1;
              bounds = (rule_9 p).0 s₄.1;
              begun = leb-true (first_release p) run.clock.0 s₃.1;
              not_over = leb-true run.clock.0 (last_deadline p) s₂.1;
              carried = carried_exactly.0 s₁.1;
            },
        λ f.
            ap₂ ◌&&◌
            (ap₂ ◌&&◌
            (ap₂ ◌&&◌
            (ap₂ ◌&&◌ (ap₂ ◌&&◌ (ap₂ ◌&&◌ ((rule_4 p).1 f.rates) ((rule_5 p).1 f.count)) ((rule_8 p).1 f.grades)) ((rule_9 p).1 f.bounds))
            (le-leb (first_release p) run.clock.0 f.begun))
            (le-leb run.clock.0 (last_deadline p) f.not_over))
            (carried_exactly.1 f.carried),
      )

-- A test that decides a fact fails if the fact does not hold, and the fact does not hold if it fails.
fails : {A : Type 0} (t : Bool) → ((t ≡ true) ↔ A) → (A → ⊥) → t ≡ false
fails t is lack = if_true t (λ e. absurd (lack (is.0 e))) (λ e. e)

lacks : {A : Type 0} (t : Bool) → ((t ≡ true) ↔ A) → t ≡ false → A → ⊥
lacks t is e a = true≢false (sym (is.1 a) ∙ e)

-- If some answer is decided, and only the call's own answer can be, then exactly that one is.
exactly_decided : {A : Type 0} (Decided : A → Type 0) (mine : A) → ((a : A) → Decided a → mine ≡ a) → (a : A) × Decided a
    → (a : A) → (mine ≡ a) ↔ Decided a
exactly_decided Decided mine only some a = (
  λ e. subst Decided (sym (only some.0 some.1) ∙ e) some.1,
  only a,
)

-- The writer.
module _ (p : Plan) (table out : List ℕ) where
  only_written : (a : writing.Answer) → WriterDecided p table out a → (writer p table out).answer ≡ a
  unfolding writer
  only_written a (table_short l) = rw (lt-ltb (length table) places l) refl
  only_written a (plan_unsound long lack) =
      rw (le-ltb (length table) places long, fails (sound p table) (sound_exactly p table) lack) refl
  only_written a (output_short long f l) =
      rw (le-ltb (length table) places long, (sound_exactly p table).1 f, lt-ltb (length out) (written_length p table) l) refl
  only_written a (file_written long f l) =
      rw (le-ltb (length table) places long, (sound_exactly p table).1 f, le-ltb (length out) (written_length p table) l) refl

  some_written : (a : writing.Answer) × WriterDecided p table out a
  some_written =
      if_less (length table) places
      (λ l. (writing.refused buffer_too_short, table_short l))
      (λ long. if_true (sound p table)
      (λ e.
      let f = (sound_exactly p table).0 e in
      if_less (length out) (written_length p table)
      (λ l. (writing.refused buffer_too_short, output_short long f l))
      (λ l. (wrote (written_length p table), file_written long f l)))
      (λ e. (writing.refused unsound, plan_unsound long (lacks (sound p table) (sound_exactly p table) e))))

  -- The writer gives each answer exactly when `WriterDecided` says so.
  pub writer_exactly : (a : writing.Answer) → ((writer p table out).answer ≡ a) ↔ WriterDecided p table out a
  writer_exactly = exactly_decided (WriterDecided p table out) (writer p table out).answer only_written some_written

-- The step.
module _ (p : Plan) (table : List ℕ) (run : Run) (v : ℕ) (grants : List ℕ) where
  abbrev small : Bool
  small = ltb (length table) places || ltb (length grants) (counted p)

  small_exactly : (small ≡ true) ↔ ((length table < places) ⊎ (length grants < counted p))
  small_exactly =
      or_exactly (ltb (length table) places) (ltb (length grants) (counted p)) (ltb_exactly (length table) places) (ltb_exactly (length grants) (counted p))

  only_fault : (r : Report) → StepDecided p table run v grants r → slot_fault p table run v grants ≡ r
  unfolding slot_fault
  only_fault r (run_unsound lack) = rw (fails (slot_sound p run) (slot_sound_exactly p run) lack) refl
  only_fault r (buffer_short f l) = rw ((slot_sound_exactly p run).1 f, small_exactly.1 l) refl
  only_fault r (at_end_lem f room e) =
      rw (
        (slot_sound_exactly p run).1 f,
        le-ltb (length table) places room.0,
        le-ltb (length grants) (counted p) room.1,
        eq-eqb run.clock.0 (last_deadline p) e,
      ) refl
  only_fault r (too_fast f room e l) =
      rw (
        (slot_sound_exactly p run).1 f,
        le-ltb (length table) places room.0,
        le-ltb (length grants) (counted p) room.1,
        ne_eqb run.clock.0 (last_deadline p) e,
        lt-ltb p.n.0 v l,
      ) refl
  only_fault r (slot_done f room e l) =
      rw (
        (slot_sound_exactly p run).1 f,
        le-ltb (length table) places room.0,
        le-ltb (length grants) (counted p) room.1,
        ne_eqb run.clock.0 (last_deadline p) e,
        le-ltb p.n.0 v l,
      ) refl

  some_fault : (r : Report) × StepDecided p table run v grants r
  some_fault =
      if_true (slot_sound p run)
      (λ s.
      let f = (slot_sound_exactly p run).0 s in
      if_less (length table) places
      (λ l. (buffer_too_short ∷ [], buffer_short f (inl l)))
      (λ long. if_less (length grants) (counted p)
      (λ l. (buffer_too_short ∷ [], buffer_short f (inr l)))
      (λ wide. if_same run.clock.0 (last_deadline p)
      (λ e. (clock_at_end ∷ [], at_end_lem f (long, wide) e))
      (λ e. if_less p.n.0 v
      (λ l. (speed_above_normal ∷ [], too_fast f (long, wide) e l))
      (λ l. ([], slot_done f (long, wide) e l))))))
      (λ s. (unsound ∷ [], run_unsound (lacks (slot_sound p run) (slot_sound_exactly p run) s)))

  -- The step gives each answer exactly when `StepDecided` says so.
  pub step_exactly : (r : Report) → ((stepped p table run v grants).answer ≡ r) ↔ StepDecided p table run v grants r
  step_exactly =
      exactly_decided (StepDecided p table run v grants) (stepped p table run v grants).answer
      (λ r d. slot_answer p table run v grants ∙ only_fault r d) some_fault

-- The outcome.
module _ (p : Plan) (run : Run) (i : ℕ) where
  asked_exactly : ((slot_sound p run && ltb i p.count) ≡ true) ↔ Asked p run i
  asked_exactly = and_exactly (slot_sound p run) (ltb i p.count) (slot_sound_exactly p run) (ltb_exactly i p.count)

  -- The job is not discarded: it is HI, or the slow mark is clear.
  not_dropped : ((job_of p i).grade ≡ hi) ⊎ (run.slow ≡ false) → (not (is_hi p i) && run.slow) ≡ false
  not_dropped = ⊎_elim
      (λ e. rw (eq-eqb (job_of p i).grade hi e) refl)
      (λ e. rw e (and-false (not (is_hi p i))))

  only_ending : (e : Ending) → OutcomeDecided p run i e → outcome p run i ≡ e
  unfolding outcome
  only_ending e (not_asked lack) =
      rw (fails (slot_sound p run && ltb i p.count) asked_exactly (λ a. ⊎_elim (λ l. l a.0) (λ l. absurd (omega (arith, a.1))) lack)) refl
  only_ending e (all_carried a c) = rw (asked_exactly.1 a, eq-eqb (carried_of run i) (size p i) c) refl
  only_ending e (told_of a c m) = rw (asked_exactly.1 a, ne_eqb (carried_of run i) (size p i) c, m) refl
  only_ending e (dropped a c m g s) =
      rw (asked_exactly.1 a, ne_eqb (carried_of run i) (size p i) c, m, ne_eqb (job_of p i).grade hi (λ z. absurd (omega (arith, g, z))), s) refl
  only_ending e (late a c m k l) =
      rw (asked_exactly.1 a, ne_eqb (carried_of run i) (size p i) c, m, not_dropped k, le-leb (deadline p i) run.clock.0 l) refl
  only_ending e (waiting a c m k l) =
      rw (asked_exactly.1 a, ne_eqb (carried_of run i) (size p i) c, m, not_dropped k, lt-leb (deadline p i) run.clock.0 l) refl

  -- A job that is neither met nor ended nor discarded is missed or open.
  in_time : Asked p run i → (carried_of run i ≡ size p i → ⊥) → ended_of run i ≡ false → ((job_of p i).grade ≡ hi) ⊎ (run.slow ≡ false) → (e : Ending) × OutcomeDecided p run i e
  in_time a c m k =
      if_less run.clock.0 (deadline p i)
      (λ l. (step.still_open, waiting a c m k l))
      (λ l. (step.missed, late a c m k l))

  some_ending : (e : Ending) × OutcomeDecided p run i e
  some_ending =
      if_true (slot_sound p run && ltb i p.count)
      (λ s.
      let a = asked_exactly.0 s in
      if_same (carried_of run i) (size p i)
      (λ c. (step.met, all_carried a c))
      (λ c. if_true (ended_of run i)
      (λ m. (step.ended_early, told_of a c m))
      (λ m. ⊎_elim
      (λ g. if_true run.slow (λ l. (step.discarded, dropped a c m g l)) (λ l. in_time a c m (inr l)))
      (λ g. in_time a c m (inl g))
      (a.0.grades i (omega (arith, a.1, a.0.count))))))
      (λ s. (step.refused unsound, not_asked (which s)))
    where
      which : (slot_sound p run && ltb i p.count) ≡ false → (SoundRun p run → ⊥) ⊎ (p.count ≤ i)
      which s =
          if_less i p.count
          (λ l. inl (λ f. lacks (slot_sound p run && ltb i p.count) asked_exactly s (f, l)))
          (λ l. inr l)

  -- The outcome gives each answer exactly when `OutcomeDecided` says so.
  pub outcome_exactly : (e : Ending) → (outcome p run i ≡ e) ↔ OutcomeDecided p run i e
  outcome_exactly = exactly_decided (OutcomeDecided p run i) (outcome p run i) only_ending some_ending

-- The shift.
module _ (p : Plan) (table : List ℕ) (run : Run) (speeds rows numbers : List ℕ) where
  abbrev lacking : Bool
  lacking = ltb (length table) places || ltb (length rows) (row_start p (length speeds)) || ltb (length numbers) (length speeds)

  lacking_exactly : (lacking ≡ true) ↔ ((length table < places) ⊎ (length rows < row_start p (length speeds)) ⊎ (length numbers < length speeds))
  lacking_exactly =
      let first = or_exactly (ltb (length table) places) (ltb (length rows) (row_start p (length speeds)))
      (ltb_exactly (length table) places) (ltb_exactly (length rows) (row_start p (length speeds))) in
      let all = or_exactly (ltb (length table) places || ltb (length rows) (row_start p (length speeds))) (ltb (length numbers) (length speeds)) first (ltb_exactly (length numbers) (length speeds)) in (
        λ e. ⊎_elim (λ w. ⊎_elim inl (λ l. inr (inl l)) w) (λ l. inr (inr l)) (all.0 e),
        λ w. all.1 (⊎_elim (λ l. inl (inl l)) (λ v. ⊎_elim (λ l. inl (inr l)) inr v) w),
      )

  only_shift : (r : Report) → ShiftDecided p table run speeds rows numbers r → shift_fault p table run speeds rows numbers ≡ r
  unfolding shift_fault
  only_shift r (shift_unsound lack) = rw (fails (slot_sound p run) (slot_sound_exactly p run) lack) refl
  only_shift r (too_many f l) = rw ((slot_sound_exactly p run).1 f, lt-ltb most_speeds (length speeds) l) refl
  only_shift r (shift_short f few l) = rw ((slot_sound_exactly p run).1 f, le-ltb most_speeds (length speeds) few, lacking_exactly.1 l) refl
  only_shift r (shift_done f few room) =
      rw (
        (slot_sound_exactly p run).1 f,
        le-ltb most_speeds (length speeds) few,
        le-ltb (length table) places room.0,
        le-ltb (length rows) (row_start p (length speeds)) room.1,
        le-ltb (length numbers) (length speeds) room.2,
      ) refl

  some_shift_fault : (r : Report) × ShiftDecided p table run speeds rows numbers r
  some_shift_fault =
      if_true (slot_sound p run)
      (λ s.
      let f = (slot_sound_exactly p run).0 s in
      if_less most_speeds (length speeds)
      (λ l. (too_many_speeds ∷ [], too_many f l))
      (λ few. if_less (length table) places
      (λ l. (buffer_too_short ∷ [], shift_short f few (inl l)))
      (λ long. if_less (length rows) (row_start p (length speeds))
      (λ l. (buffer_too_short ∷ [], shift_short f few (inr (inl l))))
      (λ wide. if_less (length numbers) (length speeds)
      (λ l. (buffer_too_short ∷ [], shift_short f few (inr (inr l))))
      (λ told. ([], shift_done f few (long, wide, told)))))))
      (λ s. (unsound ∷ [], shift_unsound (lacks (slot_sound p run) (slot_sound_exactly p run) s)))

  -- The shift gives each answer exactly when `ShiftDecided` says so.
  pub shift_exactly : (r : Report) → ((shifted p table run speeds rows numbers).answer ≡ r) ↔ ShiftDecided p table run speeds rows numbers r
  shift_exactly =
      exactly_decided (ShiftDecided p table run speeds rows numbers) (shifted p table run speeds rows numbers).answer
      (λ r d. shift_answer p table run speeds rows numbers ∙ only_shift r d) some_shift_fault

-- The word that a job has ended.
module _ (p : Plan) (run : Run) (i : ℕ) where
  open_exactly : (e : Ending) → (is_open e ≡ true) ↔ (e ≡ step.still_open)
  open_exactly step.met = (λ h. absurd (true≢false (sym h)), λ h. absurd (true≢false (sym (ap is_open h))))
  open_exactly step.ended_early = (λ h. absurd (true≢false (sym h)), λ h. absurd (true≢false (sym (ap is_open h))))
  open_exactly step.discarded = (λ h. absurd (true≢false (sym h)), λ h. absurd (true≢false (sym (ap is_open h))))
  open_exactly step.missed = (λ h. absurd (true≢false (sym h)), λ h. absurd (true≢false (sym (ap is_open h))))
  open_exactly step.still_open = (λ h. refl, λ h. refl)
  open_exactly (step.refused number) = (λ h. absurd (true≢false (sym h)), λ h. absurd (true≢false (sym (ap is_open h))))

  closed : (outcome p run i ≡ step.still_open → ⊥) → is_open (outcome p run i) ≡ false
  closed n = fails (is_open (outcome p run i)) (open_exactly (outcome p run i)) n

  only_word : (r : Report) → EndDecided p run i r → end_fault p run i ≡ r
  unfolding end_fault
  only_word r (word_unsound lack) = rw (fails (slot_sound p run) (slot_sound_exactly p run) lack) refl
  only_word r (no_such_job_lem s l) = rw ((slot_sound_exactly p run).1 s, le-ltb i p.count l) refl
  only_word r (cannot_end_lem a why) =
      rw (
        (slot_sound_exactly p run).1 a.0,
        lt-ltb i p.count a.1,
        ⊎_elim
            (λ l. ap (λ b. b || not (is_open (outcome p run i))) (lt-ltb run.clock.0 (release p i) l))
            (λ n. ap (λ b. ltb run.clock.0 (release p i) || not b) (closed n) ∙ or-true (ltb run.clock.0 (release p i)))
            why,
      )
      refl
  only_word r (word_done a l e) =
      rw (
        (slot_sound_exactly p run).1 a.0,
        lt-ltb i p.count a.1,
        le-ltb run.clock.0 (release p i) l,
        (open_exactly (outcome p run i)).1 e,
      )
      refl

  some_word : (r : Report) × EndDecided p run i r
  some_word =
      if_true (slot_sound p run)
      (λ s. let sound_run = (slot_sound_exactly p run).0 s in
      if_less i p.count
      (λ l. if_less run.clock.0 (release p i)
      (λ early. (cannot_end ∷ [], cannot_end_lem (sound_run, l) (inl early)))
      (λ late. if_true (is_open (outcome p run i))
      (λ e. ([], word_done (sound_run, l) late ((open_exactly (outcome p run i)).0 e)))
      (λ e. (cannot_end ∷ [], cannot_end_lem (sound_run, l) (inr (lacks (is_open (outcome p run i)) (open_exactly (outcome p run i)) e))))))
      (λ l. (no_such_job ∷ [], no_such_job_lem sound_run l)))
      (λ s. (unsound ∷ [], word_unsound (lacks (slot_sound p run) (slot_sound_exactly p run) s)))

  -- The word gives each answer exactly when `EndDecided` says so.
  pub end_exactly : (r : Report) → ((told_ended p run i).answer ≡ r) ↔ EndDecided p run i r
  end_exactly = exactly_decided (EndDecided p run i) (told_ended p run i).answer (λ r d. word_answer p run i ∙ only_word r d) some_word

-- In an allowed night of an accepted plan, a word with that plan, or the same one, is refused exactly by 25, where no job has the
-- position, and by 26, before the release or if the outcome is not open: never by 21.
pub word_in_night : (p : Plan) (table : List ℕ) → judged p table ≡ [] → (night : List Call) → Allowed p table night
    → (w : EndCall) → Same p table w.plan table
    → answer_of (word w) (run_after p night)
    ≡ or_else (fault (not (ltb w.position p.count)) (no_such_job ∷ []))
    (fault (ltb (clock_at p night) (release p w.position) || not (is_open (outcome p (run_after p night) w.position))) (cannot_end ∷ []))
unfolding end_fault
word_in_night p table accepted night a w same =
    ap (λ (e : WordEffect). e.answer) (sym (same_word p table w.plan table same (run_after p night) w.position))
    ∙ word_answer p (run_after p night) w.position
    ∙ rw (sound_after p table accepted night a) refl
