-- Nights of plan E, computed: one with refused calls between its slots, one in which the LO job
-- is met, one in which it is discarded, and one in which it ends early.
use mathlib.Core.Path.{◌≡◌, refl}
use mathlib.Core.Logic.{◌⊎◌, inr}
use mathlib.Core.Bool.{false}
use mathlib.Core.List.{List, [], ◌∷◌}
use Prim.Native.Nat.{ℕ, zero, suc, ◌≤◌}
use native.Mathlib.Omega.{arith}
use lib.Dec.{lit<, lit≤}
use Rattle.base.specs.Sum.{sum}
use Rattle.base.specs.Below
use Rattle.plan.specs.Refusal.{clock_at_end, speed_above_normal, unsound, buffer_too_short, cannot_end}
use Rattle.plan.specs.Rules.{no_plan, grades_hold, bounds_hold}
use Rattle.plan.specs.Boundaries.{insert, boundaries_to, come}
use Rattle.plan.specs.declared.kinds.Plan.{Plan}
use Rattle.plan.specs.Report.{Report}
use Rattle.dispatch.specs.declared.Run.{Run}
use Rattle.dispatch.specs.Order
use Rattle.dispatch.specs.Step.{met, ended_early, discarded, end_fault, told_ended, started, slot_sound, slot_fault, granted, added, advanced, stepped, outcome}
use Rattle.promises.specs.Night.{SlotCall, Call, slot, word, is_done, answer_of, AllowedCall, run_after, clock_at, had, had_in_window, Allowed, Regular, HasRegular, none_yet, then_refused, then_regular, Kept, OutcomesKept, night_at}
use Rattle.promises.proofs.Cases.{table_of, plan_e, table_e}
use Rattle.promises.proofs.Demand2.{accepted_e}
use Rattle.promises.proofs.Demand3.{promise_kept, enough_calls_meet}
use Rattle.promises.proofs.Progress.{regular_allowed}
use Rattle.promises.proofs.OutcomesKept.{outcomes_kept}
use Rattle.promises.proofs.SameSlot.{else_e, else_table, same_e}
use Rattle.promises.proofs.Strategy.{same_self, night_allowed}

-- The answers of a night's calls, the latest first.
abbrev answers : Plan → List Call → List Report
answers p [] = []
answers p (c ∷ earlier) = answer_of c (run_after p earlier) ∷ answers p earlier

-- A slot's call with plan E at a speed.
abbrev slot_e : ℕ → SlotCall
slot_e v = record { plan = plan_e; table = table_e; speed = v; row = 0 ∷ 0 ∷ [] }

abbrev call_e : ℕ → Call
call_e v = slot (slot_e v)

-- Calls that are refused: an unsound plan, no room for grants, a table that is too short, a speed
-- above the normal rate.
abbrev unsound_call : Call
unsound_call = slot (record { plan = no_plan; table = table_e; speed = 1; row = 0 ∷ 0 ∷ [] })

abbrev without_room : Call
without_room = slot (record { plan = plan_e; table = table_e; speed = 1; row = 0 ∷ [] })

abbrev without_table : Call
without_table = slot (record { plan = plan_e; table = []; speed = 1; row = 0 ∷ 0 ∷ [] })

-- Plan E as another host holds it, at a speed.
abbrev else_slot : ℕ → SlotCall
else_slot v = record { plan = else_e; table = else_table; speed = v; row = 7 ∷ 7 ∷ 7 ∷ [] }

abbrev else_call : ℕ → Call
else_call v = slot (else_slot v)

-- Ten slots of plan E, at speeds 2 2 2 and then 1, with six refused calls before and between them;
-- two of the slots come from another host. The latest is first.
abbrev pub interrupted : List Call
interrupted =
    call_e 1 ∷ call_e 1 ∷ call_e 1 ∷ without_table ∷ else_call 1 ∷ call_e 1 ∷ call_e 1 ∷ without_room ∷ unsound_call
    ∷ call_e 1 ∷ call_e 2 ∷ call_e 3 ∷ else_call 2 ∷ unsound_call ∷ call_e 2 ∷ call_e 3 ∷ []

-- Which of its calls are refused, and by which number; one more call comes too late.
pub interrupted_answers : answers plan_e (call_e 1 ∷ interrupted)
    ≡ (clock_at_end ∷ []) ∷ [] ∷ [] ∷ [] ∷ (buffer_too_short ∷ []) ∷ [] ∷ [] ∷ [] ∷ (buffer_too_short ∷ []) ∷ (unsound ∷ []) ∷ [] ∷ []
    ∷ (speed_above_normal ∷ []) ∷ [] ∷ (unsound ∷ []) ∷ [] ∷ (speed_above_normal ∷ []) ∷ []
unfolding table_of sum Below.every Below.least Below.greatest grades_hold bounds_hold insert boundaries_to come run_after started slot_sound slot_fault granted Order.order Order.queue Order.enqueue Order.serve added advanced stepped
interrupted_answers = refl

-- A call with plan E, or with that of the other host, is regular at speeds from floor to normal.
mine : (v : ℕ) → 1 ≤ v → v ≤ 2 → Regular plan_e table_e (slot_e v)
mine v floor normal = record { same = same_self plan_e table_e; floor = floor; normal = normal; room = lit≤ tt }

theirs : (v : ℕ) → 1 ≤ v → v ≤ 2 → Regular plan_e table_e (else_slot v)
theirs v floor normal = record { same = same_e; floor = floor; normal = normal; room = lit≤ tt }

-- Ten of its calls are regular.
pub interrupted_regular : HasRegular plan_e table_e 10 interrupted
unfolding table_of sum Below.every Below.least Below.greatest grades_hold bounds_hold insert boundaries_to come run_after started slot_sound slot_fault granted Order.order Order.queue Order.enqueue Order.serve added advanced stepped
interrupted_regular =
    then_regular (mine 1 (lit≤ tt) (lit≤ tt)) (then_regular (mine 1 (lit≤ tt) (lit≤ tt)) (
    then_regular (mine 1 (lit≤ tt) (lit≤ tt)) (then_refused {c = without_table} refl (
    then_regular (theirs 1 (lit≤ tt) (lit≤ tt)) (then_regular (mine 1 (lit≤ tt) (lit≤ tt)) (
    then_regular (mine 1 (lit≤ tt) (lit≤ tt)) (then_refused {c = without_room} refl (then_refused {c = unsound_call} refl (
    then_regular (mine 1 (lit≤ tt) (lit≤ tt)) (then_regular (mine 2 (lit≤ tt) (lit≤ tt)) (
    then_refused {c = call_e 3} refl (then_regular (theirs 2 (lit≤ tt) (lit≤ tt)) (then_refused {c = unsound_call} refl (
    then_regular (mine 2 (lit≤ tt) (lit≤ tt)) (then_refused {c = call_e 3} refl (none_yet))))))))))))))))

-- So the night is allowed, and `mirror-A` has had its eight units inside its window.
pub interrupted_allowed : Allowed plan_e table_e interrupted
interrupted_allowed = regular_allowed plan_e table_e accepted_e 10 interrupted interrupted_regular

pub interrupted_meets : (had plan_e interrupted 1 ≡ 8) × (had_in_window plan_e interrupted 1 ≡ 8)
unfolding Below.least
interrupted_meets = enough_calls_meet plan_e table_e accepted_e 10 interrupted interrupted_regular 1 (lit< tt) refl (lit≤ tt)

-- So what is promised holds in it, of grants and of outcomes.
pub interrupted_kept : Kept plan_e interrupted × OutcomesKept plan_e interrupted
interrupted_kept = (
  promise_kept plan_e table_e accepted_e interrupted interrupted_allowed,
  outcomes_kept plan_e table_e accepted_e interrupted interrupted_allowed,
)

-- Its clock stands at the last deadline, and `mirror-A` has had its eight units and is met.
pub interrupted_ends : (clock_at plan_e interrupted ≡ 10) × (had plan_e interrupted 1 ≡ 8) × (outcome plan_e (run_after plan_e interrupted) 1 ≡ met)
unfolding table_of sum Below.every Below.least Below.greatest grades_hold bounds_hold insert boundaries_to come run_after started slot_sound slot_fault granted Order.order Order.queue Order.enqueue Order.serve added advanced stepped had outcome
interrupted_ends = (refl, refl, refl)

-- Five slots at the normal rate and five at the floor, the latest first: `Mirror-A`, the LO job, has
-- had its six units by its deadline 5 and is met; so is `mirror-A`.
abbrev pub slow_after_five : List Call
slow_after_five = night_at plan_e table_e (1 ∷ 1 ∷ 1 ∷ 1 ∷ 1 ∷ 2 ∷ 2 ∷ 2 ∷ 2 ∷ 2 ∷ [])

pub other_job_met : (had plan_e slow_after_five 0 ≡ 6) × (outcome plan_e (run_after plan_e slow_after_five) 0 ≡ met) × (had plan_e slow_after_five 1 ≡ 8)
    × (outcome plan_e (run_after plan_e slow_after_five) 1 ≡ met)
unfolding table_of sum Below.every Below.least Below.greatest grades_hold bounds_hold insert boundaries_to come run_after started slot_sound slot_fault granted Order.order Order.queue Order.enqueue Order.serve added advanced stepped had outcome
other_job_met = (refl, refl, refl, refl)

-- Three slots at the normal rate and seven at the floor: `Mirror-A` has had two units and is
-- discarded, and `mirror-A` is met.
abbrev pub slow_after_three : List Call
slow_after_three = night_at plan_e table_e (1 ∷ 1 ∷ 1 ∷ 1 ∷ 1 ∷ 1 ∷ 1 ∷ 2 ∷ 2 ∷ 2 ∷ [])

pub other_job_discarded : (had plan_e slow_after_three 0 ≡ 2) × (outcome plan_e (run_after plan_e slow_after_three) 0 ≡ discarded)
    × (had plan_e slow_after_three 1 ≡ 8) × (outcome plan_e (run_after plan_e slow_after_three) 1 ≡ met)
unfolding table_of sum Below.every Below.least Below.greatest grades_hold bounds_hold insert boundaries_to come run_after started slot_sound slot_fault granted Order.order Order.queue Order.enqueue Order.serve added advanced stepped had outcome
other_job_discarded = (refl, refl, refl, refl)

-- Both nights are allowed, so that what is promised of grants and of outcomes holds in them.
pub slow_nights_kept : Kept plan_e slow_after_five × OutcomesKept plan_e slow_after_five × Kept plan_e slow_after_three × OutcomesKept plan_e slow_after_three
slow_nights_kept =
    let five = night_allowed plan_e table_e (1 ∷ 1 ∷ 1 ∷ 1 ∷ 1 ∷ 2 ∷ 2 ∷ 2 ∷ 2 ∷ 2 ∷ []) (omega arith) in
    let three = night_allowed plan_e table_e (1 ∷ 1 ∷ 1 ∷ 1 ∷ 1 ∷ 1 ∷ 1 ∷ 2 ∷ 2 ∷ 2 ∷ []) (omega arith) in (
      promise_kept plan_e table_e accepted_e slow_after_five five,
      outcomes_kept plan_e table_e accepted_e slow_after_five five,
      promise_kept plan_e table_e accepted_e slow_after_three three,
      outcomes_kept plan_e table_e accepted_e slow_after_three three,
    )

-- After one slot the host tells that `Mirror-A` has ended; nine more slots at the normal rate follow.
abbrev word_e : Call
word_e = word (record { plan = plan_e; position = 0 })

abbrev pub ended_after_one : List Call
ended_after_one =
    call_e 2 ∷ call_e 2 ∷ call_e 2 ∷ call_e 2 ∷ call_e 2 ∷ call_e 2 ∷ call_e 2 ∷ call_e 2 ∷ call_e 2 ∷ word_e ∷ call_e 2 ∷ []

-- It keeps the two units that it had and is ended; `mirror-A` has had its eight units and is met. A second word, right after the first, is refused.
pub ended_job_keeps : (had plan_e ended_after_one 0 ≡ 2) × (outcome plan_e (run_after plan_e ended_after_one) 0 ≡ ended_early)
    × (had plan_e ended_after_one 1 ≡ 8) × (outcome plan_e (run_after plan_e ended_after_one) 1 ≡ met)
    × (answer_of word_e (run_after plan_e (word_e ∷ call_e 2 ∷ [])) ≡ cannot_end ∷ [])
unfolding table_of sum Below.every Below.least Below.greatest grades_hold bounds_hold insert boundaries_to come run_after started slot_sound slot_fault granted Order.order Order.queue Order.enqueue Order.serve added advanced stepped had outcome end_fault told_ended
ended_job_keeps = (refl, refl, refl, refl, refl)

-- The night is allowed, so that what is promised holds in it.
pub ended_night_kept : Kept plan_e ended_after_one × OutcomesKept plan_e ended_after_one
unfolding Allowed
ended_night_kept = (
  promise_kept plan_e table_e accepted_e ended_after_one allowed,
  outcomes_kept plan_e table_e accepted_e ended_after_one allowed,
)
  where
    one : (run : Run) → (is_done (answer_of (call_e 2) run) ≡ false) ⊎ AllowedCall plan_e table_e (call_e 2)
    one run = inr (same_self plan_e table_e, lit≤ tt, lit≤ tt)

    allowed : Allowed plan_e table_e ended_after_one
    allowed =
        (((((((((((tt, one _), inr (same_self plan_e table_e)), one _), one _), one _), one _), one _), one _), one _), one _), one _)

-- Some slots of plan E at the normal rate after some calls.
abbrev slots_e : ℕ → List Call → List Call
slots_e zero earlier = earlier
slots_e (suc k) earlier = call_e 2 ∷ slots_e k earlier

-- What becomes of the room that an ended job leaves. `Mirror-A` ends at clock 1: `mirror-A` has its four units of the interval from 1 to
-- 5 already at clock 3, gets nothing in the two slots until 5, though the link is free, and the other four at 5 and 6. No job is
-- handed out an allotment of a later interval.
pub room_stays_free : (had plan_e (slots_e 2 (word_e ∷ call_e 2 ∷ [])) 1 ≡ 4) × (had plan_e (slots_e 4 (word_e ∷ call_e 2 ∷ [])) 1 ≡ 4)
    × (had plan_e (slots_e 5 (word_e ∷ call_e 2 ∷ [])) 1 ≡ 6) × (had plan_e (slots_e 6 (word_e ∷ call_e 2 ∷ [])) 1 ≡ 8)
unfolding table_of sum Below.every Below.least Below.greatest grades_hold bounds_hold insert boundaries_to come run_after started slot_sound slot_fault granted Order.order Order.queue Order.enqueue Order.serve added advanced stepped had outcome end_fault told_ended
room_stays_free = (refl, refl, refl, refl)

-- If `mirror-A`, the HI job, ends at clock 1, `Mirror-A` is served in its place within the interval, and is met at clock 3, two slots
-- before it would be without the word; the link then stays free.
abbrev word_hi_e : Call
word_hi_e = word (record { plan = plan_e; position = 1 })

pub others_within_their_dues : (had plan_e (slots_e 2 (word_hi_e ∷ call_e 2 ∷ [])) 0 ≡ 6)
    × (outcome plan_e (run_after plan_e (slots_e 2 (word_hi_e ∷ call_e 2 ∷ []))) 0 ≡ met)
    × (had plan_e (slots_e 9 (word_hi_e ∷ call_e 2 ∷ [])) 1 ≡ 0)
    × (outcome plan_e (run_after plan_e (slots_e 9 (word_hi_e ∷ call_e 2 ∷ []))) 1 ≡ ended_early)
    × (had plan_e (slots_e 3 []) 0 ≡ 2) × (had plan_e (slots_e 5 []) 0 ≡ 6)
unfolding table_of sum Below.every Below.least Below.greatest grades_hold bounds_hold insert boundaries_to come run_after started slot_sound slot_fault granted Order.order Order.queue Order.enqueue Order.serve added advanced stepped had outcome end_fault told_ended
others_within_their_dues = (refl, refl, refl, refl, refl, refl)
