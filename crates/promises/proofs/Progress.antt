-- Progress: in an allowed night of an accepted plan a regular call is done until the clock
-- stands at the last deadline, so that enough of them bring every deadline.
use mathlib.Core.Path.{◌≡◌, refl, sym, ◌∙◌, ap, ap₂}
use mathlib.Core.Logic.{◌⊎◌, inl, inr, ⊎_elim}
use mathlib.Core.Bool.{Bool, true, false, ◌&&◌, true≢false}
use mathlib.Core.List.{List, [], ◌∷◌}
use Prim.Native.Nat.{ℕ, ◌+◌, ◌≤◌, ◌<◌, min}
use native.Mathlib.Omega.{arith}
use borrow.Author.Tests.{le-leb, le-ltb, ne_eqb}
use lib.ListN.{length, replicate, length-replicate}
use Rattle.base.specs.Sum.{on}
use Rattle.plan.specs.Edition.{places}
use Rattle.plan.specs.Rules.{jobs_of, counted, size, deadline, release, rates_hold, count_holds, grades_hold, bounds_hold}
use Rattle.plan.specs.Boundaries.{first_release, last_deadline}
use Rattle.plan.specs.Same.{Same}
use Rattle.plan.specs.declared.kinds.Plan.{Plan}
use Rattle.base.proofs.Below.{every_all, least_lower, greatest_upper}
use Rattle.base.proofs.Logic.{if_true, if_less}
use Rattle.judge.specs.Verdict.{judged}
use Rattle.plan.specs.Report.{Report}
use Rattle.dispatch.specs.declared.Run.{Run}
use Rattle.dispatch.specs.Dues.{carried_of}
use Rattle.dispatch.specs.Step.{started, slot_sound, slot_fault, advanced, slot_by, stepped}
use Rattle.promises.specs.Night.{SlotCall, Call, slot, word, is_done, slot_effect, answer_of, run_left, is_slot, AllowedCall, run_after, clock_at, told, Allowed, Regular, HasRegular, none_yet, then_refused, then_regular, slots, night_at, Between}
use Rattle.plan.proofs.Soundness.{Bounded, rules_parts, sound_parts, sound_bounded}
use Rattle.dispatch.proofs.Alike.{done}
use Rattle.promises.proofs.SameSlot.{same_slot, last_same}
use Rattle.promises.proofs.NightInvariant.{refused_keeps, refused_tells_none, carried_is_had, kept}
use Rattle.dispatch.proofs.SlotLimits.{slot_answer}
use Rattle.dispatch.proofs.WordLimits.{word_leaves}
use Rattle.promises.proofs.Demand2.{judge_is_exact}
use Rattle.promises.proofs.Strategy.{same_self}

-- What holds unless a job was told ended holds if it was not.
pub unless_told : {A : Type 0} {b : Bool} → b ≡ false → (b ≡ true) ⊎ A → A
unless_told e w = ⊎_elim (λ t. absurd (true≢false (sym t ∙ e))) (λ a. a) w

-- A slot moves the clock by one, and every other call leaves it.
pub clock_moves : (c : Call) (run : Run) → (run_left c run).clock.0 ≡ run.clock.0 + on (is_slot c run) 1
unfolding stepped advanced
clock_moves (slot c) run = go (slot_fault c.plan c.table run c.speed c.row)
  where
    go : (r : Report)
        → (slot_by r c.plan c.table run c.speed c.row).run.clock.0
        ≡ run.clock.0 + on (is_done (slot_by r c.plan c.table run c.speed c.row).answer) 1
    go [] = refl
    go (number ∷ rest) = omega arith
clock_moves (word w) run = omega (arith, ap (λ t. t.0) (word_leaves w.plan run w.position).0)

done_empty : (r : Report) → is_done r ≡ true → r ≡ []
done_empty [] e = refl
done_empty (number ∷ rest) e = absurd (true≢false (sym e))

-- After any night, allowed or not, the clock is the first release and the number of slots.
pub clock_counts_slots : (p : Plan) (night : List Call) → clock_at p night ≡ first_release p + slots p night
unfolding run_after started slots
clock_counts_slots p [] = omega arith
clock_counts_slots p (c ∷ earlier) = omega (arith, clock_counts_slots p earlier, clock_moves c (run_after p earlier))

module _ (p : Plan) (table : List ℕ) (accepted : judged p table ≡ []) where
  rules : Bounded p
  rules = sound_bounded p table ((judge_is_exact p table).0 accepted).1

  -- Rules 4, 5, 8 and 9, which a slot's call asks for.
  slot_rules : (rates_hold p && count_holds (jobs_of p) && grades_hold (jobs_of p) && bounds_hold (jobs_of p)) ≡ true
  slot_rules =
      let r = rules_parts p (sound_parts p table ((judge_is_exact p table).0 accepted).1).rules in
      ap₂ ◌&&◌ (ap₂ ◌&&◌ (ap₂ ◌&&◌ r.rates r.count) r.grades) r.bounds

  first_to_last : first_release p ≤ last_deadline p
  first_to_last =
      omega (
        arith,
        least_lower (release p) (counted p) 0 rules.some,
        rules.windows 0 rules.some,
        greatest_upper (deadline p) (counted p) 0 rules.some,
      )

  -- An allowed call does not move the clock past the last deadline.
  call_not_past : (c : Call) (run : Run) → AllowedCall p table c → run.clock.0 ≤ last_deadline p → (run_left c run).clock.0 ≤ last_deadline p
  call_not_past (slot c) run w before =
      let moves = clock_moves (slot c) run in
      if_true (is_done (slot_effect c run).answer)
      (λ e.
      let fault_free = sym (slot_answer c.plan c.table run c.speed c.row) ∙ done_empty _ e in
      omega (arith, (done c.plan c.table run c.speed c.row fault_free).before_end, rw e at moves, last_same p table c.plan c.table w.0))
      (λ e. omega (arith, rw e at moves, before))
  call_not_past (word w) run same before = omega (arith, clock_moves (word w) run, before)

  -- The clock of an allowed night is never past the last deadline.
  pub clock_not_past : (night : List Call) → Allowed p table night → clock_at p night ≤ last_deadline p
  unfolding run_after started Allowed
  clock_not_past [] a = first_to_last
  clock_not_past (c ∷ earlier) a =
      let before = clock_not_past earlier a.0 in
      ⊎_elim
      (λ e. rw (refused_keeps c (run_after p earlier) e, clock_at) before)
      (λ w. call_not_past c (run_after p earlier) w before)
      a.1

  -- The run of an allowed night is sound for a slot.
  pub sound_after : (night : List Call) → Allowed p table night → slot_sound p (run_after p night) ≡ true
  unfolding slot_sound
  sound_after night a =
      let w = (judge_is_exact p table).0 accepted in
      let run = run_after p night in
      ap₂ ◌&&◌
      (ap₂ ◌&&◌
      (ap₂ ◌&&◌ slot_rules (le-leb (first_release p) run.clock.0 (omega (arith, clock_counts_slots p night))))
      (le-leb run.clock.0 (last_deadline p) (clock_not_past night a)))
      (every_all _ (counted p)
      (λ i h. le-leb (carried_of run i) (size p i)
      (omega (arith, carried_is_had p table rules w.2.allotted night a i h, (kept p table rules w.2.allotted w.2.floor night a).no_more i h))))

  -- Before the last deadline the accepted plan is not refused, if speed and grant row are allowed.
  no_fault : (night : List Call) → Allowed p table night → (v : ℕ) (row : List ℕ) → v ≤ p.n.0 → counted p ≤ length row
      → clock_at p night < last_deadline p → slot_fault p table (run_after p night) v row ≡ []
  unfolding slot_fault
  no_fault night a v row normal room early =
      rw (
        sound_after night a,
        le-ltb (length table) places ((judge_is_exact p table).0 accepted).0,
        le-ltb (length row) (counted p) room,
        ne_eqb (run_after p night).clock.0 (last_deadline p) (λ e. absurd (omega arith)),
        le-ltb p.n.0 v normal,
      )
      refl

  -- In an allowed night a call with the accepted plan and table, or the same ones, a speed of at
  -- most n and a place for each job's grant is not refused before the last deadline.
  pub never_refused : (night : List Call) → Allowed p table night → (c : SlotCall) → Same p table c.plan c.table
      → c.speed ≤ p.n.0 → counted p ≤ length c.row → clock_at p night < last_deadline p → answer_of (slot c) (run_after p night) ≡ []
  never_refused night a c same normal room early =
      ap (λ s. s.answer) (sym (same_slot p table c.plan c.table same (run_after p night) c.speed c.row))
      ∙ slot_answer p table (run_after p night) c.speed c.row
      ∙ no_fault night a c.speed c.row normal room early

  -- A night of refused and regular calls is allowed.
  pub regular_allowed : (k : ℕ) (night : List Call) → HasRegular p table k night → Allowed p table night
  unfolding Allowed
  regular_allowed k night none_yet = tt
  regular_allowed k night (then_refused {k = m} {earlier = earlier} e h) = (regular_allowed m earlier h, inl e)
  regular_allowed k night (then_regular {k = m} {earlier = earlier} r h) = (regular_allowed m earlier h, inr (r.same, r.floor, r.normal))

  -- In such a night no job is told ended.
  pub regular_untold : (k : ℕ) (night : List Call) → HasRegular p table k night → (i : ℕ) → told p night i ≡ false
  unfolding told
  regular_untold k night none_yet i = refl
  regular_untold k night (then_refused {k = m} {c = c} {earlier = earlier} e h) i =
      rw (regular_untold m earlier h i, refused_tells_none c (run_after p earlier) e i) refl
  regular_untold k night (then_regular {k = m} {earlier = earlier} r h) i = rw (regular_untold m earlier h i) refl

  -- After refused calls and k regular ones the clock is the first release and k, up to the last
  -- deadline.
  pub clock_after_regular : (k : ℕ) (night : List Call) → HasRegular p table k night
      → clock_at p night ≡ min (first_release p + k) (last_deadline p)
  unfolding run_after started Allowed
  clock_after_regular k night none_yet = omega (arith, first_to_last)
  clock_after_regular k night (then_refused {k = m} {c = c} {earlier = earlier} e h) =
      rw (refused_keeps c (run_after p earlier) e, clock_at) (clock_after_regular m earlier h)
  clock_after_regular k night (then_regular {k = m} {c = c} {earlier = earlier} r h) =
      let allowed = regular_allowed m earlier h in
      let so_far = clock_after_regular m earlier h in
      let moves = clock_moves (slot c) (run_after p earlier) in
      if_less (clock_at p earlier) (last_deadline p)
      (λ early.
      let answer = never_refused earlier allowed c r.same r.normal r.room early in
      omega (arith, so_far, rw answer at moves))
      (λ late. omega (arith, so_far, moves, late, clock_not_past (slot c ∷ earlier) (allowed, inr (r.same, r.floor, r.normal))))

  -- Hence such a night has reached a job's deadline once k slots reach from the first release to it.
  pub deadline_reached : (k : ℕ) (night : List Call) → HasRegular p table k night → (i : ℕ) → i < counted p
      → deadline p i ≤ first_release p + k → deadline p i ≤ clock_at p night
  deadline_reached k night h i b long =
      omega (arith, clock_after_regular k night h, greatest_upper (deadline p) (counted p) i b)

  -- The calls of one plan at speeds from floor to normal are regular.
  pub night_regular : (speeds : List ℕ) → Between p.d.0 p.n.0 speeds → HasRegular p table (length speeds) (night_at p table speeds)
  night_regular [] b = none_yet
  night_regular (v ∷ speeds) b = then_regular (regular v b.0 b.1) (night_regular speeds b.2)
    where
      regular : (v : ℕ) → p.d.0 ≤ v → v ≤ p.n.0
          → Regular p table (record { plan = p; table = table; speed = v; row = replicate p.count 0 })
      regular v floor normal =
          record {
            same = same_self p table;
            floor = floor;
            normal = normal;
            room = omega (arith, length-replicate {A = ℕ} p.count 0);
          }
