-- Slots' calls one after the other on one plan: what makes a call of a sound run refused or done, that it leaves the run
-- sound, and one more call of a shift.
use mathlib.Core.Path.{◌≡◌, refl, sym, ◌∙◌, ap, ap₂}
use mathlib.Core.Logic.{◌≢◌}
use mathlib.Core.Bool.{Bool, true, false, ◌&&◌, ◌||◌}
use mathlib.Core.List.{List, [], ◌∷◌, ◌++◌, append-nil}
use Prim.Native.Nat.{ℕ, suc, ◌+◌, ◌*◌, ◌-◌, ◌≤◌, ◌<◌, min}
use native.Mathlib.Nat.{mul-le-mul}
use native.Mathlib.Omega.{arith}
use borrow.Author.Tests.{le-leb, le-ltb, lt-ltb, eq-eqb, ne_eqb}
use lib.Dec.{leb, ltb, eqb}
use lib.ListN.{length, get_or, set, take, drop, length-append, length-take, length-drop, drop_of_length-le}
use lib.Seq.{drop-cons, take_all}
use Rattle.base.specs.Below.{every}
use Rattle.base.proofs.Below.{every_all}
use Rattle.base.proofs.Logic.{both}
use Rattle.plan.specs.Columns.{HasColumns}
use Rattle.plan.specs.Edition.{most_jobs, most_speeds, places}
use Rattle.plan.specs.Refusal.{clock_at_end, speed_above_normal, unsound, buffer_too_short, too_many_speeds}
use Rattle.plan.specs.Report.{Report, number_of}
use Rattle.plan.specs.Rules.{jobs_of, counted, size, rates_hold, count_holds, grades_hold, bounds_hold}
use Rattle.plan.specs.Boundaries.{first_release, last_deadline, present}
use Rattle.plan.specs.declared.columns.Columns.{Columns}
use Rattle.plan.specs.declared.kinds.Plan.{Plan}
use Rattle.plan.specs.declared.kinds.Slots.{Slots}
use Rattle.dispatch.specs.declared.Run.{Run}
use Rattle.dispatch.specs.Dues.{carried_of, slow_after}
use Rattle.dispatch.specs.Step.{SlotEffect, slot_sound, slot_fault, granted, advanced, slot_by, stepped}
use Rattle.dispatch.specs.Shift.{ShiftEffect, row_start, slot_at, slots_from, shift_fault, shift_by, shifted}
use Rattle.dispatch.specs.Inner.Columns.{plan_on}
use Rattle.dispatch.specs.Inner.Turns.{goal_in, Goals, KeepsGoals}
use Rattle.dispatch.proofs.Alike.{Alike, done, counted_same, slot_sound_same, long_same, alike_slot}
use Rattle.dispatch.proofs.ColumnPlan.{columns_alike}
use Rattle.dispatch.proofs.RowShares.{added_most, granted_rest, granted_length}
use Rattle.dispatch.proofs.Shares.{within_claim}
use Rattle.dispatch.proofs.Sharing.{sizes_are_goals}
use Rattle.dispatch.proofs.SlotOver.{claim_small}
use Rattle.dispatch.proofs.SlotSoundness.{slot_sound_lem}

module _ (p : Plan) (table : List ℕ) (run : Run) (v : ℕ) (grants : List ℕ) where
  -- With a sound run and buffers that are long enough, a slot's call is refused by 19 at the end, by 20 above the normal
  -- rate, and by nothing else.
  module _ (sound : slot_sound p run ≡ true) (long : places ≤ length table) (room : counted p ≤ length grants) where
    pub late_fault : run.clock.0 ≡ last_deadline p → slot_fault p table run v grants ≡ clock_at_end ∷ []
    unfolding slot_fault
    late_fault e =
        rw (sound, le-ltb (length table) places long, le-ltb (length grants) (counted p) room, eq-eqb run.clock.0 (last_deadline p) e) refl

    pub fast_fault : run.clock.0 ≢ last_deadline p → p.n.0 < v → slot_fault p table run v grants ≡ speed_above_normal ∷ []
    unfolding slot_fault
    fast_fault e h =
        rw (
          sound,
          le-ltb (length table) places long,
          le-ltb (length grants) (counted p) room,
          ne_eqb run.clock.0 (last_deadline p) e,
          lt-ltb p.n.0 v h,
        )
        refl

    pub no_fault : run.clock.0 ≢ last_deadline p → v ≤ p.n.0 → slot_fault p table run v grants ≡ []
    unfolding slot_fault
    no_fault e h =
        rw (
          sound,
          le-ltb (length table) places long,
          le-ltb (length grants) (counted p) room,
          ne_eqb run.clock.0 (last_deadline p) e,
          le-ltb p.n.0 v h,
        )
        refl

  -- A slot leaves a sound run sound.
  sound_advanced : slot_sound p run ≡ true → run.clock.0 < last_deadline p → slot_sound p (advanced p table run v grants) ≡ true
  unfolding slot_sound advanced
  sound_advanced e early =
      let l = jobs_of p in
      let rules = rates_hold p && count_holds l && grades_hold l && bounds_hold l in
      let from = leb (first_release p) run.clock.0 in
      let to = leb run.clock.0 (last_deadline p) in
      let within = every (λ i. leb (carried_of run i) (size p i)) (counted p) in
      let s = slot_sound_lem p run e in
      ap₂ ◌&&◌
      (ap₂ ◌&&◌
      (ap₂ ◌&&◌ (both rules from (both (rules && from) to (both (rules && from && to) within e).0).0).0
      (le-leb (first_release p) (run.clock.0 + 1) (omega (arith, s.begun))))
      (le-leb (run.clock.0 + 1) (last_deadline p) (omega arith)))
      (every_all _ (counted p)
      (λ k h.
      le-leb _ (size p k)
      (omega (
        arith,
        added_most (counted p) run.carried (granted p table run v grants) k,
        within_claim p table run v grants k h,
        claim_small p table run (slow_after p table run v) k,
        s.carried k h,
      ))))

  pub sound_stays : slot_sound p run ≡ true → slot_sound p (stepped p table run v grants).run ≡ true
  unfolding stepped
  sound_stays e = by (slot_fault p table run v grants) refl
    where
      by : (r : Report) → slot_fault p table run v grants ≡ r → slot_sound p (slot_by r p table run v grants).run ≡ true
      by [] f = sound_advanced e (done p table run v grants f).before_end
      by (number ∷ rest) f = e

  -- A slot leaves a row as long as it was.
  pub row_long : counted p ≤ length grants → length (stepped p table run v grants).grants ≡ length grants
  unfolding stepped
  row_long room = by (slot_fault p table run v grants)
    where
      by : (r : Report) → length (slot_by r p table run v grants).grants ≡ length grants
      by [] = granted_length p table run v grants room
      by (number ∷ rest) = refl

  -- It leaves what follows the counted jobs in a row.
  pub row_beyond : (k : ℕ) → counted p ≤ k → get_or (stepped p table run v grants).grants k 0 ≡ get_or grants k 0
  unfolding stepped
  row_beyond k h = by (slot_fault p table run v grants)
    where
      by : (r : Report) → get_or (slot_by r p table run v grants).grants k 0 ≡ get_or grants k 0
      by [] = granted_rest p table run v grants k h
      by (number ∷ rest) = refl

-- One more call of a shift.
one_more : (p : Plan) (table speeds : List ℕ) (k : ℕ) (run : Run) (rows numbers : List ℕ) → k < length speeds
    → {slot : SlotEffect} → slot ≡ slot_at p table k (get_or speeds k 0) run rows
    → slots_from p table (suc k) (drop (suc k) speeds) slot.run (take (row_start p k) rows ++ slot.grants) (set numbers k (number_of slot.answer))
    ≡ slots_from p table k (drop k speeds) run rows numbers
unfolding slots_from
one_more p table speeds k run rows numbers h {slot} e =
    ap (λ s. slots_from p table (suc k) (drop (suc k) speeds) s.run (take (row_start p k) rows ++ s.grants) (set numbers k (number_of s.answer))) e
    ∙ ap (λ l. slots_from p table k l run rows numbers) (sym (drop-cons speeds k 0 h))

-- The part of some rows that is lent from a place to their end is all that follows the place; and what is put back there
-- follows what is before it.
module _ (rows : List ℕ) (at all : ℕ) (long : length rows ≡ all) (inside : at ≤ all) where
  part_lent : take (all - at) (drop at rows) ≡ drop at rows
  part_lent = take_all (all - at) (drop at rows) (rw length-drop (omega arith))

  put_back : (part : List ℕ) → take at rows ++ (part ++ drop (all - at) (drop at rows)) ≡ take at rows ++ part
  put_back part =
      ap (λ d. take at rows ++ (part ++ d)) (drop_of_length-le (drop at rows) {i = all - at} (rw length-drop (omega arith)))
      ∙ ap (λ l. take at rows ++ l) (append-nil part)

  pub put_back_long : (part : List ℕ) → length part ≡ length (take (all - at) (drop at rows))
      → length (take at rows ++ (part ++ drop (all - at) (drop at rows))) ≡ all
  put_back_long part e =
      ap length (put_back part) ∙ length-append (take at rows) part
      ∙ ap₂ ◌+◌ (length-take at rows) (e ∙ ap length part_lent ∙ length-drop at rows) ∙ omega (arith, long, inside)

-- The places of some rows have room in 64 bits.
pub few_places : (k jobs : ℕ) → k ≤ most_speeds → jobs ≤ most_jobs → k * jobs ≤ most_speeds * most_jobs
few_places k jobs few many = mul-le-mul {n₁ = k} {m₁ = jobs} {n₂ = most_speeds} {m₂ = most_jobs} few many

-- A call of a shift, made on the rows that are lent from its own row on.
pub call_made : (p : Plan) (table speeds : List ℕ) (k : ℕ) (run next : Run) (rows numbers part : List ℕ) (answer : Report) (number jobs all : ℕ)
    → k < length speeds → jobs ≡ counted p → length rows ≡ all → k * jobs ≤ all
    → record { answer = answer; run = next; grants = part } ≡ stepped p table run (get_or speeds k 0) (take (all - k * jobs) (drop (k * jobs) rows))
    → number ≡ number_of answer
    → slots_from p table (k + 1) (drop (k + 1) speeds) next (take (k * jobs) rows ++ (part ++ drop (all - k * jobs) (drop (k * jobs) rows))) (set numbers k number)
    ≡ slots_from p table k (drop k speeds) run rows numbers
call_made p table speeds k run next rows numbers part answer number jobs all h counts long inside slot is =
    let after : k + 1 ≡ suc k = omega arith in
    ap (λ m. slots_from p table m (drop m speeds) next (take (k * jobs) rows ++ (part ++ drop (all - k * jobs) (drop (k * jobs) rows))) (set numbers k number)) after
    ∙ ap₂ (λ r x. slots_from p table (suc k) (drop (suc k) speeds) next r (set numbers k x)) (put_back rows (k * jobs) all long inside part) is
    ∙ ap (λ n. slots_from p table (suc k) (drop (suc k) speeds) next (take (k * n) rows ++ part) (set numbers k (number_of answer))) counts
    ∙ one_more p table speeds k run rows numbers h
    (slot ∙ ap (stepped p table run (get_or speeds k 0)) (part_lent rows (k * jobs) all long inside ∙ ap (λ n. drop (k * n) rows) counts))

-- After the last call of a shift.
pub no_more_speeds : (p : Plan) (table speeds : List ℕ) (k : ℕ) (run : Run) (rows numbers : List ℕ) → length speeds ≤ k
    → slots_from p table k (drop k speeds) run rows numbers ≡ record { answer = []; run = run; rows = rows; numbers = numbers }
unfolding slots_from
no_more_speeds p table speeds k run rows numbers h = ap (λ l. slots_from p table k l run rows numbers) (drop_of_length-le speeds h)

-- The goals that a shift keeps are those of a slot, for the intervals begun, or none under the slow mark.
pub kept_are_goals : (cols : Columns) (table goals : List ℕ) (clock : Slots) (slow : Bool) (spans : ℕ)
    → (slow ≡ true → spans ≡ 0) → (slow ≡ false → spans ≡ suc (present (plan_on cols) clock.0))
    → KeepsGoals (min cols.count most_jobs) spans cols.sizes table goals
    → Goals cols table clock slow (goal_in true spans goals table)
kept_are_goals cols table goals clock slow spans none begun kept k l =
    kept k l ∙ ap (λ w. goal_in w spans cols.sizes table k) (by slow none begun)
    ∙ sizes_are_goals cols table clock slow spans begun k l
  where
    by : (s : Bool) → (s ≡ true → spans ≡ 0) → (s ≡ false → spans ≡ suc (present (plan_on cols) clock.0)) → eqb spans 0 ≡ s
    by true a b = eq-eqb spans 0 (a refl)
    by false a b = ne_eqb spans 0 (λ e. absurd (omega (arith, b refl)))

-- Plans that agree in what a slot takes from them get the same from a shift.
module _ (p : Plan) (table : List ℕ) (q : Plan) (other : List ℕ) (same : Alike p table q other) where
  alike_slots : (k : ℕ) (speeds : List ℕ) (run : Run) (rows numbers : List ℕ)
      → slots_from p table k speeds run rows numbers ≡ slots_from q other k speeds run rows numbers
  unfolding slots_from
  alike_slots k [] run rows numbers = refl
  alike_slots k (v ∷ speeds) run rows numbers =
      let slot_same : slot_at p table k v run rows ≡ slot_at q other k v run rows
      = alike_slot p table q other same run v (drop (row_start p k) rows)
      ∙ ap (λ n. stepped q other run v (drop (k * n) rows)) (counted_same p table q other same) in
      alike_slots (suc k) speeds (slot_at p table k v run rows).run (take (row_start p k) rows ++ (slot_at p table k v run rows).grants)
      (set numbers k (number_of (slot_at p table k v run rows).answer))
      ∙ ap₂ (λ slot n. slots_from q other (suc k) speeds slot.run (take (k * n) rows ++ slot.grants) (set numbers k (number_of slot.answer)))
      slot_same (counted_same p table q other same)

  pub alike_shift : (run : Run) (speeds rows numbers : List ℕ) → shifted p table run speeds rows numbers ≡ shifted q other run speeds rows numbers
  unfolding shifted shift_fault
  alike_shift run speeds rows numbers =
      let faults : shift_fault p table run speeds rows numbers ≡ shift_fault q other run speeds rows numbers
      = rw (slot_sound_same p table q other same run, long_same p table q other same, counted_same p table q other same) refl in
      by (shift_fault p table run speeds rows numbers) ∙ ap (λ r. shift_by r q other run speeds rows numbers) faults
    where
      by : (r : Report) → shift_by r p table run speeds rows numbers ≡ shift_by r q other run speeds rows numbers
      by [] = alike_slots 0 speeds run rows numbers
      by (number ∷ rest) = refl

-- The effect of a shift for the plan made from columns is that for every plan that has them.
pub shifts_for_all : (cols : Columns) (table : List ℕ) (run : Run) (speeds rows numbers : List ℕ) {e : ShiftEffect}
    → e ≡ shifted (plan_on cols) table run speeds rows numbers → (p : Plan) → HasColumns p cols → e ≡ shifted p table run speeds rows numbers
shifts_for_all cols table run speeds rows numbers is p has =
    is ∙ sym (alike_shift p table (plan_on cols) table (columns_alike cols p table has) run speeds rows numbers)

module _ (p : Plan) (table : List ℕ) (run : Run) (speeds rows numbers : List ℕ) where
  -- A refused shift leaves all as it was.
  pub shift_refused : {number : ℕ} → shift_fault p table run speeds rows numbers ≡ number ∷ []
      → record { answer = number ∷ []; run = run; rows = rows; numbers = numbers } ≡ shifted p table run speeds rows numbers
  unfolding shifted
  shift_refused e = ap (λ r. shift_by r p table run speeds rows numbers) (sym e)

  -- A plan and a run that are not sound are refused with 21.
  pub unsound_shift : slot_sound p run ≡ false
      → record { answer = unsound ∷ []; run = run; rows = rows; numbers = numbers } ≡ shifted p table run speeds rows numbers
  unfolding shift_fault
  unsound_shift bad = shift_refused (rw bad refl)

  module _ (sound : slot_sound p run ≡ true) where
    pub many_fault : most_speeds < length speeds → shift_fault p table run speeds rows numbers ≡ too_many_speeds ∷ []
    unfolding shift_fault
    many_fault h = rw (sound, lt-ltb most_speeds (length speeds) h) refl

    module _ (few : length speeds ≤ most_speeds) where
      pub short_fault : (ltb (length table) places || ltb (length rows) (row_start p (length speeds)) || ltb (length numbers) (length speeds)) ≡ true
          → shift_fault p table run speeds rows numbers ≡ buffer_too_short ∷ []
      unfolding shift_fault
      short_fault short = rw (sound, le-ltb most_speeds (length speeds) few, short) refl

      pub shift_done : (ltb (length table) places || ltb (length rows) (row_start p (length speeds)) || ltb (length numbers) (length speeds)) ≡ false
          → slots_from p table 0 speeds run rows numbers ≡ shifted p table run speeds rows numbers
      unfolding shifted shift_fault
      shift_done long =
          let none : shift_fault p table run speeds rows numbers ≡ [] = rw (sound, le-ltb most_speeds (length speeds) few, long) refl in
          ap (λ r. shift_by r p table run speeds rows numbers) (sym none)
