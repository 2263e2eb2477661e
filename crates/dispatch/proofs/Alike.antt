-- What a slot's call and an outcome take from a plan: its rates, its count, and the grades, releases,
-- sizes and deadlines of its counted jobs. Plans that agree in these get the same from both.
use mathlib.Core.Path.{◌≡◌, refl, sym, ◌∙◌, ap, ap₂}
use mathlib.Core.Logic.{◌≢◌}
use mathlib.Core.Bool.{Bool, true, false, not, ◌&&◌, ◌||◌, cond}
use mathlib.Core.List.{List, [], ◌∷◌, ◌++◌}
use Prim.Native.Nat.{ℕ, suc, ◌+◌, ◌*◌, ◌-◌, ◌≤◌, ◌<◌, min}
use native.Mathlib.Omega.{arith}
use borrow.Author.Tests.{ltb-true, ltb-false, eqb-false, not-false, lt-ltb, le-ltb}
use lib.Dec.{leb, ltb, eqb}
use lib.ListN.{length, get_or, take, drop, replicate, length-take}
use lib.Seq.{get_or-take}
use Rattle.base.specs.Sum.{sum, on}
use Rattle.base.specs.Below.{every, least, greatest}
use Rattle.base.proofs.SumLaws.{sum_ext}
use Rattle.base.proofs.Below.{every_ext, least_ext, greatest_ext}
use Rattle.base.proofs.Logic.{and_left, and_right, if_true, if_less}
use Rattle.plan.specs.Edition.{most_jobs, most_intervals, places}
use Rattle.plan.specs.Rules.{jobs_of, counted, job_of, release, deadline, size, hi, is_hi, grade_allowed, window_allowed, size_allowed, grades_hold, bounds_hold}
use Rattle.plan.specs.Boundaries.{boundaries_to, boundaries, intervals, come, present, first_release, last_deadline}
use Rattle.plan.specs.Table.{allotment}
use Rattle.plan.specs.Refusal.{unsound, no_such_job, cannot_end}
use Rattle.plan.specs.Report.{Report, or_else, fault}
use Rattle.plan.specs.declared.kinds.Plan.{Plan}
use Rattle.plan.proofs.BoundaryOrder.{boundaries_ext}
use Rattle.plan.proofs.PresentInterval.{present_inside}
use Rattle.dispatch.specs.declared.Run.{Run}
use Rattle.dispatch.specs.Dues.{carried_of, ended_of, live, slow_at, slow_after, goal, due}
use Rattle.dispatch.specs.Order.{queue, order, serve}
use Rattle.dispatch.specs.Step.{Ending, is_open, WordEffect, end_by, slot_sound, refused_by, slot_fault, granted, advanced, slot_by, stepped, outcome, end_fault, told_ended}
use Rattle.dispatch.proofs.Queues.{queued, queue_ext, serve_ext, queued_both, queued_below}
use Rattle.dispatch.proofs.SlotSoundness.{SlotSound, slot_sound_lem}

-- If nothing is refused, plan and run are sound, the clock is not at the end, and the speed is not above the normal rate.
none_refused : (bad short over fast : Bool) → refused_by bad short over fast ≡ [] → (bad ≡ false) × (over ≡ false) × (fast ≡ false)
none_refused true short over fast e = let z : ◌≡◌ {A = ℕ} 0 1 = cc in absurd (omega arith)
none_refused false true over fast e = let z : ◌≡◌ {A = ℕ} 0 1 = cc in absurd (omega arith)
none_refused false false true fast e = let z : ◌≡◌ {A = ℕ} 0 1 = cc in absurd (omega arith)
none_refused false false false true e = let z : ◌≡◌ {A = ℕ} 0 1 = cc in absurd (omega arith)
none_refused false false false false e = (refl, refl, refl)

-- What the tests of a done call establish.
pub record Done (p : Plan) (table : List ℕ) (run : Run) (v : ℕ) (grants : List ℕ) : Type 0 where
  pub sound : SlotSound p run
  pub before_end : run.clock.0 < last_deadline p
  pub normal : v ≤ p.n.0

pub done : (p : Plan) (table : List ℕ) (run : Run) (v : ℕ) (grants : List ℕ) → slot_fault p table run v grants ≡ [] → Done p table run v grants
unfolding slot_fault
done p table run v grants e =
    let none = none_refused (not (slot_sound p run)) (ltb (length table) places || ltb (length grants) (counted p))
    (eqb run.clock.0 (last_deadline p)) (ltb p.n.0 v) e in
    let sound = slot_sound_lem p run (not-false (slot_sound p run) none.0) in
    record {
      sound = sound;
      before_end = early sound.not_over (eqb-false run.clock.0 (last_deadline p) none.1);
      normal = ltb-false p.n.0 v none.2;
    }
  where
    early : run.clock.0 ≤ last_deadline p → run.clock.0 ≢ last_deadline p → run.clock.0 < last_deadline p
    early h n = omega arith

-- Every job in a concatenation of two queues is below n.
two_below : (test other : ℕ → Bool) (by : ℕ → ℕ) (n k : ℕ) → queued k (queue test by n ++ queue other by n) ≡ true → k < n
two_below test other by n k e =
    let e' = sym (queued_both k (queue test by n) (queue other by n)) ∙ e in
    if_true (queued k (queue test by n)) (queued_below test by k n) (λ out. queued_below other by k n (rw out at e'))

-- An outcome that is not refused is a counted job's.
pub asked_counted : (p : Plan) (run : Run) (i : ℕ) → (slot_sound p run && ltb i p.count) ≡ true → i < counted p
asked_counted p run i e =
    let s = slot_sound_lem p run (and_left (slot_sound p run) (ltb i p.count) e) in
    omega (arith, s.rules.count, ltb-true i p.count (and_right (slot_sound p run) (ltb i p.count) e))

-- Two plans, each with its table, agree in all that a slot and an outcome take from them.
pub record Alike (p : Plan) (table : List ℕ) (q : Plan) (other : List ℕ) : Type 0 where
  pub n : p.n ≡ q.n
  pub d : p.d ≡ q.d
  pub count : p.count ≡ q.count
  pub grade : (i : ℕ) → i < counted p → (job_of p i).grade ≡ (job_of q i).grade
  pub release : (i : ℕ) → i < counted p → release p i ≡ release q i
  pub size : (i : ℕ) → i < counted p → size p i ≡ size q i
  pub deadline : (i : ℕ) → i < counted p → deadline p i ≡ deadline q i
  pub cells : take places table ≡ take places other

module _ (p : Plan) (table : List ℕ) (q : Plan) (other : List ℕ) (same : Alike p table q other) where
  pub counted_same : counted p ≡ counted q
  counted_same = ap (λ c. min c most_jobs) same.count

  pub hi_same : (i : ℕ) → i < counted p → is_hi p i ≡ is_hi q i
  hi_same i h = ap (λ g. eqb g hi) (same.grade i h)

  pub boundaries_same : boundaries p ≡ boundaries q
  boundaries_same = boundaries_ext p q (counted p) same.release same.deadline ∙ ap (boundaries_to q) counted_same

  pub present_same : (t : ℕ) → present p t ≡ present q t
  present_same t = ap (λ l. come t l - 1) boundaries_same

  pub first_same : first_release p ≡ first_release q
  first_same = least_ext (release p) (release q) (counted p) same.release ∙ ap (least (release q)) counted_same

  pub last_same : last_deadline p ≡ last_deadline q
  last_same = greatest_ext (deadline p) (deadline q) (counted p) same.deadline ∙ ap (greatest (deadline q)) counted_same

  pub grades_same : grades_hold (jobs_of p) ≡ grades_hold (jobs_of q)
  unfolding grades_hold
  grades_same =
      every_ext _ (λ i. grade_allowed (job_of q i).grade) (counted p) (λ i h. ap grade_allowed (same.grade i h))
      ∙ ap (every (λ i. grade_allowed (job_of q i).grade)) counted_same

  pub bounds_same : bounds_hold (jobs_of p) ≡ bounds_hold (jobs_of q)
  unfolding bounds_hold
  bounds_same =
      let test : Plan → ℕ → Bool = λ r i. window_allowed (release r i) (deadline r i) && size_allowed (size r i) in
      every_ext (test p) (test q) (counted p)
      (λ i h. ap₂ ◌&&◌ (ap₂ window_allowed (same.release i h) (same.deadline i h)) (ap size_allowed (same.size i h)))
      ∙ ap (every (test q)) counted_same

  pub slot_sound_same : (run : Run) → slot_sound p run ≡ slot_sound q run
  unfolding slot_sound
  slot_sound_same run =
      let carried : every (λ i. leb (carried_of run i) (size p i)) (counted p) ≡ every (λ i. leb (carried_of run i) (size q i)) (counted q)
      = every_ext _ _ (counted p) (λ i h. ap (leb (carried_of run i)) (same.size i h)) ∙ ap (every _) counted_same in
      rw (carried, grades_same, bounds_same, first_same, last_same, same.n, same.d, same.count) refl

  -- Both tables are long enough, or neither is.
  pub long_same : ltb (length table) places ≡ ltb (length other) places
  long_same =
      let lengths : min places (length table) ≡ min places (length other)
      = sym (length-take places table) ∙ ap length same.cells ∙ length-take places other in
      if_less (length table) places
      (λ l. lt-ltb (length table) places l ∙ sym (lt-ltb (length other) places (omega arith)))
      (λ l. le-ltb (length table) places l ∙ sym (le-ltb (length other) places (omega arith)))

  -- Their own places are equal.
  pub cell_same : (k : ℕ) → k < places → get_or table k 0 ≡ get_or other k 0
  cell_same k h = sym (get_or-take places table k 0 h) ∙ ap (λ c. get_or c k 0) same.cells ∙ get_or-take places other k 0 h

  fault_same : (run : Run) (v : ℕ) (grants : List ℕ) → slot_fault p table run v grants ≡ slot_fault q other run v grants
  unfolding slot_fault
  fault_same run v grants = rw (slot_sound_same run, long_same, last_same, counted_same, same.n) refl

  live_same : (run : Run) (i : ℕ) → i < counted p → live p run i ≡ live q run i
  live_same run i h = ap₂ (λ a b. not (ended_of run i) && (leb a run.clock.0 && ltb run.clock.0 b)) (same.release i h) (same.deadline i h)

  order_same : (run : Run) (slow : Bool) → order p run slow ≡ order q run slow
  unfolding order
  order_same run slow =
      ap₂ ◌++◌
      (queue_ext _ _ _ _ (counted p) (λ k h. ap₂ ◌&&◌ (live_same run k h) (hi_same k h)) same.deadline ∙ ap (queue _ _) counted_same)
      (queue_ext _ _ _ _ (counted p) (λ k h. ap₂ (λ a b. a && not b && not slow) (live_same run k h) (hi_same k h)) same.deadline
      ∙ ap (queue _ _) counted_same)

  order_below : (run : Run) (slow : Bool) (k : ℕ) → queued k (order p run slow) ≡ true → k < counted p
  unfolding order
  order_below run slow k e = two_below _ _ (deadline p) (counted p) k e

  -- In a done call, what is due depends only on the table's own places.
  due_same : (run : Run) (v : ℕ) (grants : List ℕ) → Done p table run v grants → (slow : Bool) (i : ℕ) → i < counted p
      → due p table run slow i ≡ due q other run slow i
  due_same run v grants d slow i h = ap (λ x. cond (ended_of run i) 0 (x - carried_of run i)) (goal_same slow)
    where
      t : ℕ
      t = run.clock.0

      here : present p t < intervals p
      here = (present_inside p d.sound.rules.some d.sound.rules.windows t d.sound.begun d.before_end).0

      allotted_same : sum (allotment most_intervals table i) (suc (present p t)) ≡ sum (allotment most_intervals other i) (suc (present q t))
      allotted_same =
          sum_ext _ _ (suc (present p t))
          (λ j l. cell_same (most_intervals * i + j) (omega (arith, here, d.sound.rules.spans, d.sound.rules.few)))
          ∙ ap (λ k. sum (allotment most_intervals other i) (suc k)) (present_same t)

      goal_same : (slow : Bool) → goal p table t slow i ≡ goal q other t slow i
      goal_same true = same.size i h
      goal_same false = ap₂ min (same.size i h) allotted_same

  -- So a done call is a slow slot for both, or for neither.
  pub slow_same : (run : Run) (v : ℕ) (grants : List ℕ) → Done p table run v grants → slow_at p table run v ≡ slow_at q other run v
  slow_same run v grants d =
      ap₂ (λ r s. ltb v (min r.0 s)) same.n
      (sum_ext _ _ (counted p) (λ k h. ap₂ on (live_same run k h) (due_same run v grants d false k h)) ∙ ap (sum _) counted_same)

  mark_same : (run : Run) (v : ℕ) (grants : List ℕ) → Done p table run v grants → slow_after p table run v ≡ slow_after q other run v
  mark_same run v grants d = ap (λ x. run.slow || x) (slow_same run v grants d)

  granted_same : (run : Run) (v : ℕ) (grants : List ℕ) → Done p table run v grants → granted p table run v grants ≡ granted q other run v grants
  unfolding granted
  granted_same run v grants d =
      let slow = slow_after p table run v in
      serve_ext _ (due q other run slow) v _ _
      (λ k s. due_same run v grants d slow k (order_below run slow k s))
      ∙ ap (λ s. serve (due q other run s) v (order p run s) (replicate (counted p) 0 ++ drop (counted p) grants)) (mark_same run v grants d)
      ∙ rw (order_same run (slow_after q other run v), counted_same) refl

  advanced_same : (run : Run) (v : ℕ) (grants : List ℕ) → Done p table run v grants → granted p table run v grants ≡ granted q other run v grants
      → advanced p table run v grants ≡ advanced q other run v grants
  unfolding advanced
  advanced_same run v grants d g = rw (g, mark_same run v grants d, counted_same, same.d) refl

  -- The answer, run and grants of a slot's call are the same.
  pub alike_slot : (run : Run) (v : ℕ) (grants : List ℕ) → stepped p table run v grants ≡ stepped q other run v grants
  unfolding stepped
  alike_slot run v grants =
      go (slot_fault p table run v grants) refl ∙ ap (λ r. slot_by r q other run v grants) (fault_same run v grants)
    where
      go : (r : Report) → slot_fault p table run v grants ≡ r → slot_by r p table run v grants ≡ slot_by r q other run v grants
      go [] e =
          let d = done p table run v grants e in
          let g = granted_same run v grants d in
          rw (advanced_same run v grants d g, g) refl
      go (number ∷ rest) e = refl

  -- So is the outcome of every job.
  pub alike_outcome : (run : Run) (i : ℕ) → outcome p run i ≡ outcome q run i
  unfolding outcome
  alike_outcome run i =
      if_true (slot_sound p run && ltb i p.count)
      (λ e.
      let here : i < counted p = asked_counted p run i e in
      rw (slot_sound_same run, same.count, same.size i here, hi_same i here, same.deadline i here) refl)
      (λ e. let e' : (slot_sound q run && ltb i q.count) ≡ false = rw (← (slot_sound_same run), ← same.count) e in rw (e, e') refl)

  -- And the effect of the word that a job has ended.
  pub alike_told : (run : Run) (i : ℕ) → told_ended p run i ≡ told_ended q run i
  unfolding end_fault told_ended
  alike_told run i =
      if_true (slot_sound p run && ltb i p.count)
      (λ e.
      let here : i < counted p = asked_counted p run i e in
      ap (λ o. told (slot_sound p run) (ltb i p.count) (ltb run.clock.0 (release p i)) o) (alike_outcome run i)
      ∙ rw (slot_sound_same run, same.count, same.release i here) refl)
      (λ e.
      if_true (slot_sound p run)
      (λ s. let none : ltb i p.count ≡ false = rw s at e in
      rw (← (slot_sound_same run), s, ← same.count, none) refl)
      (λ s. rw (← (slot_sound_same run), s) refl))
    where
      -- The effect by what is tested.
      told : Bool → Bool → Bool → Ending → WordEffect
      told sound counts early ending =
          end_by
          (or_else (fault (not sound) (unsound ∷ []))
          (or_else (fault (not counts) (no_such_job ∷ [])) (fault (early || not (is_open ending)) (cannot_end ∷ [])))) run i
