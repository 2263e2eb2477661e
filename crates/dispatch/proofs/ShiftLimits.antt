-- What a shift does and never does, for every plan, table, run, speeds and buffers.
use mathlib.Core.Path.{◌≡◌, refl, sym, ◌∙◌, ap, ap₂, subst}
use mathlib.Core.Bool.{Bool, true, false, not, ◌||◌}
use mathlib.Core.List.{List, [], ◌∷◌, ◌++◌, append_assoc}
use Prim.Native.Nat.{ℕ, suc, ◌+◌, ◌*◌, ◌-◌, ◌≤◌, ◌<◌}
use native.Mathlib.Nat.{add-mul, mul-le-mul, suc-mul, add-zero, zero-add}
use native.Mathlib.Omega.{arith}
use borrow.Author.Tests.{not-false, ltb-false, le-ltb}
use lib.Dec.{ltb}
use lib.ListN.{length, get_or, set, take, drop, length-append, length-drop, length-set, take-append-drop, get_or-append}
use lib.Seq.{length-take-le, drop-drop, take-add, take_at, drop_at, take-set-le, drop-set-add, get_or-append-add, get_or-take, get_or-drop, get_or-set_same, get_or-set_other}
use Rattle.plan.specs.Edition.{most_speeds, places}
use Rattle.plan.specs.Refusal.{clock_at_end, speed_above_normal, unsound, buffer_too_short, too_many_speeds}
use Rattle.plan.specs.Report.{Report, or_else, fault, done_number, number_of, is_one_of}
use Rattle.plan.specs.Rules.{counted}
use Rattle.plan.specs.Boundaries.{last_deadline}
use Rattle.base.proofs.Logic.{neither, if_same, if_less}
use Rattle.plan.specs.declared.kinds.Plan.{Plan}
use Rattle.dispatch.specs.declared.Run.{Run}
use Rattle.dispatch.specs.Step.{SlotEffect, slot_sound, stepped}
use Rattle.dispatch.specs.Shift.{ShiftEffect, row_start, slot_at, slots_from, shift_fault, shift_by, shifted}
use Rattle.dispatch.proofs.SlotLimits.{slot_answer}
use Rattle.dispatch.proofs.SlotsInTurn.{row_long, row_beyond, sound_stays, late_fault, fast_fault, no_fault}

module _ (p : Plan) (table : List ℕ) where
  -- What every slot's call keeps of a run, slots in turn keep.
  slots_keep : (P : Run → Type 0) → ((run : Run) (v : ℕ) (grants : List ℕ) → P run → P (stepped p table run v grants).run)
      → (k : ℕ) (speeds : List ℕ) (run : Run) (rows numbers : List ℕ) → P run → P (slots_from p table k speeds run rows numbers).run
  unfolding slots_from
  slots_keep P keeps k [] run rows numbers h = h
  slots_keep P keeps k (v ∷ speeds) run rows numbers h =
      slots_keep P keeps (suc k) speeds (slot_at p table k v run rows).run (take (row_start p k) rows ++ (slot_at p table k v run rows).grants)
      (set numbers k (number_of (slot_at p table k v run rows).answer)) (keeps run v (drop (row_start p k) rows) h)

  -- So a shift keeps it.
  pub shift_keeps : (P : Run → Type 0) → ((run : Run) (v : ℕ) (grants : List ℕ) → P run → P (stepped p table run v grants).run)
      → (run : Run) (speeds rows numbers : List ℕ) → P run → P (shifted p table run speeds rows numbers).run
  unfolding shifted
  shift_keeps P keeps run speeds rows numbers h = by (shift_fault p table run speeds rows numbers)
    where
      by : (r : Report) → P (shift_by r p table run speeds rows numbers).run
      by [] = slots_keep P keeps 0 speeds run rows numbers h
      by (number ∷ rest) = h

  slots_answer : (k : ℕ) (speeds : List ℕ) (run : Run) (rows numbers : List ℕ) → (slots_from p table k speeds run rows numbers).answer ≡ []
  unfolding slots_from
  slots_answer k [] run rows numbers = refl
  slots_answer k (v ∷ speeds) run rows numbers =
      slots_answer (suc k) speeds (slot_at p table k v run rows).run (take (row_start p k) rows ++ (slot_at p table k v run rows).grants)
      (set numbers k (number_of (slot_at p table k v run rows).answer))

  module _ (run : Run) (speeds rows numbers : List ℕ) where
    -- The answer is the refusal found.
    pub shift_answer : (shifted p table run speeds rows numbers).answer ≡ shift_fault p table run speeds rows numbers
    unfolding shifted
    shift_answer = by (shift_fault p table run speeds rows numbers)
      where
        by : (r : Report) → (shift_by r p table run speeds rows numbers).answer ≡ r
        by [] = slots_answer 0 speeds run rows numbers
        by (number ∷ rest) = refl

    -- A refused shift changes nothing.
    pub refused_shift_changes_nothing : (number : ℕ) (rest : Report) → (shifted p table run speeds rows numbers).answer ≡ number ∷ rest
        → shifted p table run speeds rows numbers ≡ record { answer = number ∷ rest; run = run; rows = rows; numbers = numbers }
    unfolding shifted
    refused_shift_changes_nothing number rest e = ap (λ r. shift_by r p table run speeds rows numbers) (sym shift_answer ∙ e)

    -- So the run is the one that went in, whatever is told of the run beside a refusal.
    pub refused_shift_run : {number : ℕ} {next : Run} {rows_left numbers_left : List ℕ}
        → record { answer = number ∷ []; run = next; rows = rows_left; numbers = numbers_left } ≡ shifted p table run speeds rows numbers
        → record { answer = number ∷ []; run = run; rows = rows_left; numbers = numbers_left } ≡ shifted p table run speeds rows numbers
    refused_shift_run {number} {next} {rows_left} {numbers_left} e =
        let same : next ≡ run
        = ap (λ (s : ShiftEffect). s.run) e
        ∙ ap (λ (s : ShiftEffect). s.run) (refused_shift_changes_nothing number [] (sym (ap (λ (s : ShiftEffect). s.answer) e))) in
        subst (λ r. record { answer = number ∷ []; run = r; rows = rows_left; numbers = numbers_left } ≡ shifted p table run speeds rows numbers) same e

-- The rows of a shift: where row k lies, and that no row is longer or shorter than the jobs.
pub row_fits : (k n jobs long : ℕ) → (k + suc n) * jobs ≤ long → k * jobs + jobs ≤ long
row_fits k n jobs long h =
    let up : suc k * jobs ≤ (k + suc n) * jobs = mul-le-mul {n₁ = suc k} {m₁ = jobs} {n₂ = k + suc n} {m₂ = jobs} (omega arith) (omega arith) in
    omega (arith, suc-mul k jobs)

module _ (p : Plan) (table : List ℕ) where
  -- The rows after the call numbered k.
  abbrev rows_after : (k v : ℕ) (run : Run) (rows : List ℕ) → List ℕ
  rows_after k v run rows = take (row_start p k) rows ++ (slot_at p table k v run rows).grants

  abbrev numbers_after : (k v : ℕ) (run : Run) (rows numbers : List ℕ) → List ℕ
  numbers_after k v run rows numbers = set numbers k (number_of (slot_at p table k v run rows).answer)

  module _ (k v : ℕ) (run : Run) (rows : List ℕ) (fits : row_start p k + counted p ≤ length rows) where
    lent : counted p ≤ length (drop (row_start p k) rows)
    lent = rw length-drop (omega arith)

    front : length (take (row_start p k) rows) ≡ row_start p k
    front = length-take-le (row_start p k) rows (omega arith)

    -- They are as long as before.
    pub after_long : length (rows_after k v run rows) ≡ length rows
    after_long =
        length-append (take (row_start p k) rows) (slot_at p table k v run rows).grants
        ∙ ap₂ ◌+◌ front (row_long p table run v (drop (row_start p k) rows) lent ∙ length-drop (row_start p k) rows) ∙ omega arith

    -- What comes before row k stays.
    after_before : (j : ℕ) → j < row_start p k → get_or (rows_after k v run rows) j 0 ≡ get_or rows j 0
    after_before j h =
        get_or-append (take (row_start p k) rows) (slot_at p table k v run rows).grants 0 j (rw front h) ∙ get_or-take (row_start p k) rows j 0 h

    -- Row k holds the grants.
    after_here : (i : ℕ) → get_or (rows_after k v run rows) (row_start p k + i) 0 ≡ get_or (slot_at p table k v run rows).grants i 0
    after_here i =
        ap (λ m. get_or (rows_after k v run rows) (m + i) 0) (sym front)
        ∙ get_or-append-add (take (row_start p k) rows) (slot_at p table k v run rows).grants i 0

    -- What comes after it stays.
    after_beyond : (j : ℕ) → row_start p k + counted p ≤ j → get_or (rows_after k v run rows) j 0 ≡ get_or rows j 0
    after_beyond j h =
        let at : row_start p k + (j - row_start p k) ≡ j = omega arith in
        ap (λ m. get_or (rows_after k v run rows) m 0) (sym at) ∙ after_here (j - row_start p k)
        ∙ row_beyond p table run v (drop (row_start p k) rows) (j - row_start p k) (omega arith)
        ∙ get_or-drop (row_start p k) rows (j - row_start p k) 0 ∙ ap (λ m. get_or rows m 0) at

  -- Slots in turn, from the one numbered k on, leave the numbers and rows before it and after the last, and as long as they were.
  numbers_long : (k : ℕ) (speeds : List ℕ) (run : Run) (rows numbers : List ℕ) → length (slots_from p table k speeds run rows numbers).numbers ≡ length numbers
  unfolding slots_from
  numbers_long k [] run rows numbers = refl
  numbers_long k (v ∷ speeds) run rows numbers =
      numbers_long (suc k) speeds (slot_at p table k v run rows).run (rows_after k v run rows) (numbers_after k v run rows numbers) ∙ length-set numbers k _

  pub numbers_before : (k : ℕ) (speeds : List ℕ) (run : Run) (rows numbers : List ℕ) (j : ℕ) → j < k
      → get_or (slots_from p table k speeds run rows numbers).numbers j 0 ≡ get_or numbers j 0
  unfolding slots_from
  numbers_before k [] run rows numbers j h = refl
  numbers_before k (v ∷ speeds) run rows numbers j h =
      numbers_before (suc k) speeds (slot_at p table k v run rows).run (rows_after k v run rows) (numbers_after k v run rows numbers) j (omega arith)
      ∙ get_or-set_other numbers k j _ 0 (λ e. absurd (omega arith))

  numbers_beyond : (k : ℕ) (speeds : List ℕ) (run : Run) (rows numbers : List ℕ) (j : ℕ) → k + length speeds ≤ j
      → get_or (slots_from p table k speeds run rows numbers).numbers j 0 ≡ get_or numbers j 0
  unfolding slots_from
  numbers_beyond k [] run rows numbers j h = refl
  numbers_beyond k (v ∷ speeds) run rows numbers j h =
      numbers_beyond (suc k) speeds (slot_at p table k v run rows).run (rows_after k v run rows) (numbers_after k v run rows numbers) j (omega arith)
      ∙ get_or-set_other numbers k j _ 0 (λ e. absurd (omega arith))

  -- The rows that are still to be written have their places.
  pub next_fits : (k n long : ℕ) → (k + suc n) * counted p ≤ long → (suc k + n) * counted p ≤ long
  next_fits k n long h = let e : suc k + n ≡ k + suc n = omega arith in rw e h

  rows_long : (k : ℕ) (speeds : List ℕ) (run : Run) (rows numbers : List ℕ) → row_start p (k + length speeds) ≤ length rows
      → length (slots_from p table k speeds run rows numbers).rows ≡ length rows
  unfolding slots_from
  rows_long k [] run rows numbers h = refl
  rows_long k (v ∷ speeds) run rows numbers h =
      let here = after_long k v run rows (row_fits k (length speeds) (counted p) (length rows) h) in
      rows_long (suc k) speeds (slot_at p table k v run rows).run (rows_after k v run rows) (numbers_after k v run rows numbers)
      (rw here (next_fits k (length speeds) (length rows) h)) ∙ here

  pub rows_before : (k : ℕ) (speeds : List ℕ) (run : Run) (rows numbers : List ℕ) → row_start p (k + length speeds) ≤ length rows
      → (j : ℕ) → j < row_start p k → get_or (slots_from p table k speeds run rows numbers).rows j 0 ≡ get_or rows j 0
  unfolding slots_from
  rows_before k [] run rows numbers h j l = refl
  rows_before k (v ∷ speeds) run rows numbers h j l =
      let fits = row_fits k (length speeds) (counted p) (length rows) h in
      rows_before (suc k) speeds (slot_at p table k v run rows).run (rows_after k v run rows) (numbers_after k v run rows numbers)
      (rw (after_long k v run rows fits) (next_fits k (length speeds) (length rows) h)) j (omega (arith, suc-mul k (counted p)))
      ∙ after_before k v run rows fits j l

  rows_beyond : (k : ℕ) (speeds : List ℕ) (run : Run) (rows numbers : List ℕ) → row_start p (k + length speeds) ≤ length rows
      → (j : ℕ) → row_start p (k + length speeds) ≤ j → get_or (slots_from p table k speeds run rows numbers).rows j 0 ≡ get_or rows j 0
  unfolding slots_from
  rows_beyond k [] run rows numbers h j l = refl
  rows_beyond k (v ∷ speeds) run rows numbers h j l =
      let fits = row_fits k (length speeds) (counted p) (length rows) h in
      rows_beyond (suc k) speeds (slot_at p table k v run rows).run (rows_after k v run rows) (numbers_after k v run rows numbers)
      (rw (after_long k v run rows fits) (next_fits k (length speeds) (length rows) h)) j (next_fits k (length speeds) j l)
      ∙ after_beyond k v run rows fits j (row_fits k (length speeds) (counted p) j l)

  -- The first of them: its number and its row.
  pub number_here : (k v : ℕ) (speeds : List ℕ) (run : Run) (rows numbers : List ℕ) → k < length numbers
      → get_or (slots_from p table k (v ∷ speeds) run rows numbers).numbers k 0 ≡ number_of (slot_at p table k v run rows).answer
  unfolding slots_from
  number_here k v speeds run rows numbers h =
      numbers_before (suc k) speeds (slot_at p table k v run rows).run (rows_after k v run rows) (numbers_after k v run rows numbers) k (omega arith)
      ∙ get_or-set_same numbers k _ 0 h

  pub row_here : (k v : ℕ) (speeds : List ℕ) (run : Run) (rows numbers : List ℕ) → row_start p (k + suc (length speeds)) ≤ length rows
      → (i : ℕ) → i < counted p → get_or (slots_from p table k (v ∷ speeds) run rows numbers).rows (row_start p k + i) 0 ≡ get_or (slot_at p table k v run rows).grants i 0
  unfolding slots_from
  row_here k v speeds run rows numbers h i l =
      let fits = row_fits k (length speeds) (counted p) (length rows) h in
      rows_before (suc k) speeds (slot_at p table k v run rows).run (rows_after k v run rows) (numbers_after k v run rows numbers)
      (rw (after_long k v run rows fits) (next_fits k (length speeds) (length rows) h)) (row_start p k + i) (omega (arith, suc-mul k (counted p)))
      ∙ after_here k v run rows fits i

  -- A call of a sound run with buffers that are long enough has number 0, 19 or 20.
  one_number : (run : Run) (v : ℕ) (grants : List ℕ) → slot_sound p run ≡ true → places ≤ length table → counted p ≤ length grants
      → is_one_of (done_number ∷ clock_at_end ∷ speed_above_normal ∷ []) (number_of (stepped p table run v grants).answer) ≡ true
  one_number run v grants sound long room =
      ap (λ r. is_one_of (done_number ∷ clock_at_end ∷ speed_above_normal ∷ []) (number_of r)) (slot_answer p table run v grants)
      ∙ if_same run.clock.0 (last_deadline p)
      (λ e. ap numbered (late_fault p table run v grants sound long room e))
      (λ e. if_less p.n.0 v
      (λ h. ap numbered (fast_fault p table run v grants sound long room e h))
      (λ h. ap numbered (no_fault p table run v grants sound long room e h)))
    where
      numbered : Report → Bool
      numbered r = is_one_of (done_number ∷ clock_at_end ∷ speed_above_normal ∷ []) (number_of r)

  numbers_in_turn : (k : ℕ) (speeds : List ℕ) (run : Run) (rows numbers : List ℕ) → slot_sound p run ≡ true → places ≤ length table
      → row_start p (k + length speeds) ≤ length rows → k + length speeds ≤ length numbers → (j : ℕ) → k ≤ j → j < k + length speeds
      → is_one_of (done_number ∷ clock_at_end ∷ speed_above_normal ∷ []) (get_or (slots_from p table k speeds run rows numbers).numbers j 0) ≡ true
  unfolding slots_from
  numbers_in_turn k [] run rows numbers sound long room told j l h = absurd (omega arith)
  numbers_in_turn k (v ∷ speeds) run rows numbers sound long room told j l h =
      let fits = row_fits k (length speeds) (counted p) (length rows) room in
      if_same j k
      (λ e. ap (λ m. is_one_of (done_number ∷ clock_at_end ∷ speed_above_normal ∷ []) (get_or (slots_from p table k (v ∷ speeds) run rows numbers).numbers m 0)) e
      ∙ ap (is_one_of (done_number ∷ clock_at_end ∷ speed_above_normal ∷ [])) (number_here k v speeds run rows numbers (omega arith))
      ∙ one_number run v (drop (row_start p k) rows) sound long (lent k v run rows fits))
      (λ e. numbers_in_turn (suc k) speeds (slot_at p table k v run rows).run (rows_after k v run rows) (numbers_after k v run rows numbers)
      (sound_stays p table run v (drop (row_start p k) rows) sound) long
      (rw (after_long k v run rows fits) (next_fits k (length speeds) (length rows) room)) (rw length-set (omega arith)) j (omega (arith, e)) (omega arith))

-- What a shift that is done shows: its checks passed, and it is the slots in turn.
pub record ShiftDone (p : Plan) (table : List ℕ) (run : Run) (speeds rows numbers : List ℕ) : Type 0 where
  pub sound : slot_sound p run ≡ true
  pub few : length speeds ≤ most_speeds
  pub table_long : places ≤ length table
  pub rows_lent : row_start p (length speeds) ≤ length rows
  pub numbers_lent : length speeds ≤ length numbers
  pub is : shifted p table run speeds rows numbers ≡ slots_from p table 0 speeds run rows numbers

none_refused : (bad many short : Bool)
    → or_else (fault bad (unsound ∷ [])) (or_else (fault many (too_many_speeds ∷ [])) (fault short (buffer_too_short ∷ []))) ≡ []
    → (bad ≡ false) × (many ≡ false) × (short ≡ false)
none_refused true many short e = let z : ◌≡◌ {A = ℕ} 0 1 = cc in absurd (omega arith)
none_refused false true short e = let z : ◌≡◌ {A = ℕ} 0 1 = cc in absurd (omega arith)
none_refused false false true e = let z : ◌≡◌ {A = ℕ} 0 1 = cc in absurd (omega arith)
none_refused false false false e = (refl, refl, refl)

module _ (p : Plan) (table : List ℕ) (run : Run) (speeds rows numbers : List ℕ) where
  pub when_done : (shifted p table run speeds rows numbers).answer ≡ [] → ShiftDone p table run speeds rows numbers
  unfolding shift_fault shifted
  when_done e =
      let none : shift_fault p table run speeds rows numbers ≡ [] = sym (shift_answer p table run speeds rows numbers) ∙ e in
      let tests = none_refused (not (slot_sound p run)) (ltb most_speeds (length speeds))
      (ltb (length table) places || ltb (length rows) (row_start p (length speeds)) || ltb (length numbers) (length speeds)) none in
      let last = neither (ltb (length table) places || ltb (length rows) (row_start p (length speeds))) (ltb (length numbers) (length speeds)) tests.2 in
      let first = neither (ltb (length table) places) (ltb (length rows) (row_start p (length speeds))) last.0 in
      record {
        sound = not-false (slot_sound p run) tests.0;
        few = ltb-false most_speeds (length speeds) tests.1;
        table_long = ltb-false (length table) places first.0;
        rows_lent = ltb-false (length rows) (row_start p (length speeds)) first.1;
        numbers_lent = ltb-false (length numbers) (length speeds) last.1;
        is = ap (λ r. shift_by r p table run speeds rows numbers) none;
      }

  -- A shift whose checks pass is done.
  pub done_when : slot_sound p run ≡ true → length speeds ≤ most_speeds → places ≤ length table → row_start p (length speeds) ≤ length rows → length speeds ≤ length numbers
      → (shifted p table run speeds rows numbers).answer ≡ []
  unfolding shift_fault
  done_when sound few long lent told =
      shift_answer p table run speeds rows numbers
      ∙ rw (
        sound,
        le-ltb most_speeds (length speeds) few,
        le-ltb (length table) places long,
        le-ltb (length rows) (row_start p (length speeds)) lent,
        le-ltb (length numbers) (length speeds) told,
      )
      refl

  module _ (done : ShiftDone p table run speeds rows numbers) where
    all_lent : row_start p (0 + length speeds) ≤ length rows
    all_lent = rw (zero-add (length speeds)) done.rows_lent

    -- The number of each speed is 0, 19 or 20.
    pub only_three_numbers : (k : ℕ) → k < length speeds
        → is_one_of (done_number ∷ clock_at_end ∷ speed_above_normal ∷ []) (get_or (shifted p table run speeds rows numbers).numbers k 0) ≡ true
    only_three_numbers k h =
        ap (λ s. is_one_of (done_number ∷ clock_at_end ∷ speed_above_normal ∷ []) (get_or s.numbers k 0)) done.is
        ∙ numbers_in_turn p table 0 speeds run rows numbers done.sound done.table_long all_lent (omega (arith, done.numbers_lent)) k (omega arith) (omega arith)

    -- Places past the last row and the last number stay, and both buffers are as long as they were.
    pub rows_past_stay : (j : ℕ) → row_start p (length speeds) ≤ j → get_or (shifted p table run speeds rows numbers).rows j 0 ≡ get_or rows j 0
    rows_past_stay j h = ap (λ s. get_or s.rows j 0) done.is ∙ rows_beyond p table 0 speeds run rows numbers all_lent j (rw (zero-add (length speeds)) h)

    pub numbers_past_stay : (j : ℕ) → length speeds ≤ j → get_or (shifted p table run speeds rows numbers).numbers j 0 ≡ get_or numbers j 0
    numbers_past_stay j h = ap (λ s. get_or s.numbers j 0) done.is ∙ numbers_beyond p table 0 speeds run rows numbers j (omega arith)

    pub rows_as_long : length (shifted p table run speeds rows numbers).rows ≡ length rows
    rows_as_long = ap (λ s. length s.rows) done.is ∙ rows_long p table 0 speeds run rows numbers all_lent

    pub numbers_as_long : length (shifted p table run speeds rows numbers).numbers ≡ length numbers
    numbers_as_long = ap (λ s. length s.numbers) done.is ∙ numbers_long p table 0 speeds run rows numbers

-- Two shifts in a row.
module _ (p : Plan) (table : List ℕ) where
  -- The calls at two lists of speeds are those at the first and then those at the second.
  slots_append : (k : ℕ) (speeds others : List ℕ) (run : Run) (rows numbers : List ℕ)
      → slots_from p table k (speeds ++ others) run rows numbers
      ≡ slots_from p table (k + length speeds) others (slots_from p table k speeds run rows numbers).run (slots_from p table k speeds run rows numbers).rows
      (slots_from p table k speeds run rows numbers).numbers
  unfolding slots_from
  slots_append k [] others run rows numbers = ap (λ m. slots_from p table m others run rows numbers) (sym (add-zero k))
  slots_append k (v ∷ speeds) others run rows numbers =
      let after = slots_from p table (suc k) speeds (slot_at p table k v run rows).run (rows_after p table k v run rows) (numbers_after p table k v run rows numbers) in
      let at : suc k + length speeds ≡ k + suc (length speeds) = omega arith in
      slots_append (suc k) speeds others (slot_at p table k v run rows).run (rows_after p table k v run rows) (numbers_after p table k v run rows numbers)
      ∙ ap (λ m. slots_from p table m others after.run after.rows after.numbers) at

  -- What slots in turn on the rest of rows and numbers leave, put after what comes before the rest.
  abbrev pub put_after : (m : ℕ) (rows numbers : List ℕ) → ShiftEffect → ShiftEffect
  put_after m rows numbers s =
      record { answer = s.answer; run = s.run; rows = take (row_start p m) rows ++ s.rows; numbers = take m numbers ++ s.numbers }

  -- Slots in turn from the one numbered m + k on are those from k on over the rest of rows and numbers.
  slots_on_the_rest : (m k : ℕ) (speeds : List ℕ) (run : Run) (rows numbers : List ℕ) → row_start p (m + k) ≤ length rows → m ≤ length numbers
      → row_start p (m + k + length speeds) ≤ length rows
      → slots_from p table (m + k) speeds run rows numbers
      ≡ put_after m rows numbers (slots_from p table k speeds run (drop (row_start p m) rows) (drop m numbers))
  unfolding slots_from
  slots_on_the_rest m k [] run rows numbers h told room =
      λ i. record { answer = []; run = run; rows = sym (take-append-drop (row_start p m) rows) i; numbers = sym (take-append-drop m numbers) i }
  slots_on_the_rest m k (v ∷ speeds) run rows numbers h told room =
      let next_rows = take (row_start p (m + k)) rows ++ (slot_at p table (m + k) v run rows).grants in
      let next_numbers = set numbers (m + k) (number_of (slot_at p table (m + k) v run rows).answer) in
      let parted : next_rows ≡ before ++ written
      = ap₂ (λ l s. l ++ s.grants) (ap (λ n. take n rows) far ∙ take-add (row_start p m) (row_start p k) rows) slot_is
      ∙ append_assoc before (take (row_start p k) rest) slot.grants in
      let numbered : next_numbers ≡ set numbers (m + k) number = ap (λ s. set numbers (m + k) (number_of s.answer)) slot_is in
      let as_long : length next_rows ≡ length rows = after_long p table (m + k) v run rows (row_fits (m + k) (length speeds) (counted p) (length rows) room) in
      let after : suc (m + k) ≡ m + suc k = omega arith in
      let next_start : row_start p (suc (m + k)) ≤ length rows
      = omega (arith, suc-mul (m + k) (counted p), row_fits (m + k) (length speeds) (counted p) (length rows) room) in
      ap (λ n. slots_from p table n speeds (slot_at p table (m + k) v run rows).run next_rows next_numbers) after
      ∙ slots_on_the_rest m (suc k) speeds (slot_at p table (m + k) v run rows).run next_rows next_numbers
      (rw (as_long, ← after) next_start) (rw length-set told) (rw (as_long, ← after) (next_fits p table (m + k) (length speeds) (length rows) room))
      ∙ (λ i. put_after m (parted i) (numbered i)
      (slots_from p table (suc k) speeds (slot_is i).run (drop (row_start p m) (parted i)) (drop m (numbered i))))
      ∙ (λ i. record {
        answer = (left i).answer;
        run = (left i).run;
        rows = take_at before written (row_start p m) long i ++ (left i).rows;
        numbers = take-set-le m numbers (m + k) number (omega arith) i ++ (left i).numbers;
      })
    where
      far : row_start p (m + k) ≡ row_start p m + row_start p k
      far = add-mul m k (counted p)

      before : List ℕ
      before = take (row_start p m) rows

      rest : List ℕ
      rest = drop (row_start p m) rows

      slot : SlotEffect
      slot = slot_at p table k v run rest

      slot_is : slot_at p table (m + k) v run rows ≡ slot
      slot_is = ap (stepped p table run v) (ap (λ n. drop n rows) far ∙ sym (drop-drop (row_start p k) (row_start p m) rows))

      long : length before ≡ row_start p m
      long = length-take-le (row_start p m) rows (omega (arith, far))

      written : List ℕ
      written = take (row_start p k) rest ++ slot.grants

      number : ℕ
      number = number_of slot.answer

      -- What the rest of the calls leaves, on what follows the first m rows and numbers.
      left : slots_from p table (suc k) speeds slot.run (drop (row_start p m) (before ++ written)) (drop m (set numbers (m + k) number))
          ≡ slots_from p table (suc k) speeds slot.run written (set (drop m numbers) k number)
      left = ap₂ (slots_from p table (suc k) speeds slot.run) (drop_at before written (row_start p m) long) (drop-set-add m numbers k number)

  -- A done shift of two lists is a shift of the first, and then one of the second over the rest of rows and numbers.
  module _ (run : Run) (speeds others rows numbers : List ℕ) (done : (shifted p table run (speeds ++ others) rows numbers).answer ≡ []) where
    abbrev pub first : ShiftEffect
    first = shifted p table run speeds rows numbers

    abbrev pub second : ShiftEffect
    second = shifted p table first.run others (drop (row_start p (length speeds)) first.rows) (drop (length speeds) first.numbers)

    whole : ShiftDone p table run (speeds ++ others) rows numbers
    whole = when_done p table run (speeds ++ others) rows numbers done

    both_long : length (speeds ++ others) ≡ length speeds + length others
    both_long = length-append speeds others

    both_rows : row_start p (length speeds) + row_start p (length others) ≤ length rows
    both_rows = omega (arith, whole.rows_lent, ap (row_start p) both_long, add-mul (length speeds) (length others) (counted p))

    pub first_done : first.answer ≡ []
    first_done =
        done_when p table run speeds rows numbers whole.sound (omega (arith, whole.few, both_long)) whole.table_long
        (omega (arith, both_rows)) (omega (arith, whole.numbers_lent, both_long))

    first_whole : ShiftDone p table run speeds rows numbers
    first_whole = when_done p table run speeds rows numbers first_done

    pub second_done : second.answer ≡ []
    second_done =
        done_when p table first.run others (drop (row_start p (length speeds)) first.rows) (drop (length speeds) first.numbers)
        (shift_keeps p table (λ r. slot_sound p r ≡ true) (λ r v grants. sound_stays p table r v grants) run speeds rows numbers whole.sound)
        (omega (arith, whole.few, both_long)) whole.table_long
        (rw length-drop (omega (arith, both_rows, rows_as_long p table run speeds rows numbers first_whole)))
        (rw length-drop (omega (arith, whole.numbers_lent, both_long, numbers_as_long p table run speeds rows numbers first_whole)))

    pub two_shifts : shifted p table run (speeds ++ others) rows numbers ≡ put_after (length speeds) first.rows first.numbers second
    two_shifts =
        let m = length speeds in
        let now = rows_as_long p table run speeds rows numbers first_whole in
        let after = when_done p table first.run others (drop (row_start p m) first.rows) (drop m first.numbers) second_done in
        let none : m + 0 ≡ m = add-zero m in
        whole.is ∙ slots_append 0 speeds others run rows numbers
        ∙ ap₂ (λ n s. slots_from p table n others s.run s.rows s.numbers) (zero-add m ∙ sym none) (sym first_whole.is)
        ∙ slots_on_the_rest m 0 others first.run first.rows first.numbers (rw (none, now) (omega (arith, both_rows)))
        (omega (arith, numbers_as_long p table run speeds rows numbers first_whole, first_whole.numbers_lent))
        (rw (none, now) (omega (arith, both_rows, add-mul m (length others) (counted p))))
        ∙ ap (put_after m first.rows first.numbers) (sym after.is)
