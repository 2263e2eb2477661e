-- What placing the units of one job does: its row in one formula, and the rooms after it.
use mathlib.Core.Path.{◌≡◌, refl, sym, ◌∙◌, ap, ap₂}
use mathlib.Core.Logic.{◌≢◌}
use mathlib.Core.Bool.{Bool}
use Prim.Native.Nat.{ℕ, zero, suc, ◌+◌, ◌*◌, ◌-◌, ◌≤◌, ◌<◌, min}
use native.Mathlib.Omega.{arith}
use lib.ListN.{length, get_or, length-set}
use lib.Seq.{get_or-set_same, get_or-set_other}
use Rattle.base.specs.Sum.{sum}
use Rattle.base.proofs.SumLaws.{sum_ext, sum_split}
use Rattle.base.proofs.Logic.{by_order, below-or-last}
use Rattle.plan.specs.Edition.{most_jobs, most_intervals, places}
use Rattle.judge.specs.Constraints.{units}
use Rattle.judge.specs.Slack.{through}
use Rattle.desk.specs.Timetable.{turn, Draft, Placing, placed_at, placing}
use Rattle.desk.proofs.Sums.{turn_below, turn_twice, sum_turned}

-- A draft has a room for each interval and all places of a table.
pub record Whole (draft : Draft) : Type 0 where
  pub rooms : length draft.rooms ≡ most_intervals
  pub table : places ≤ length draft.table

-- The room of interval j.
abbrev pub room : Draft → ℕ → ℕ
room draft j = get_or draft.rooms j 0

-- Places of different jobs, or of different intervals, differ.
other_place : (i j k l : ℕ) → j < most_intervals → l < most_intervals → (i ≡ k → j ≢ l) → most_intervals * i + j ≢ most_intervals * k + l
other_place i j k l h g differ e =
    by_order i k
    (λ s. absurd (differ s (omega (arith, s, e))))
    (λ m. absurd (omega (arith, e)))
    (λ m. absurd (omega (arith, e)))

module _ (back : Bool) (m i amount : ℕ) (draft : Draft) (span : m ≤ most_intervals) (known : i < most_jobs) (whole : Whole draft) where
  -- The room of the first k intervals in their turns.
  abbrev before : ℕ → ℕ
  before k = sum (λ q. room draft (turn back m q)) k

  -- What is placed into interval j: as much as its room allows of what those before it leave.
  abbrev pub poured : ℕ → ℕ
  poured j = min (room draft j) (amount - before (turn back m j))

  abbrev steps : ℕ → Placing
  steps k = through (λ q. placed_at i (turn back m q)) k (record { draft = draft; rest = amount })

  -- After k turns.
  record Sofar (k : ℕ) : Type 0 where
    rest : (steps k).rest ≡ amount - before k
    kept : Whole (steps k).draft
    done : (j : ℕ) → j < m → turn back m j < k → (room (steps k).draft j ≡ room draft j - poured j) × (units (steps k).draft.table i j ≡ poured j)
    left : (j : ℕ) → (j < m → k ≤ turn back m j) → j < most_intervals → (room (steps k).draft j ≡ room draft j) × (units (steps k).draft.table i j ≡ units draft.table i j)
    others : (l j : ℕ) → l ≢ i → j < most_intervals → units (steps k).draft.table l j ≡ units draft.table l j

  sofar : (k : ℕ) → k ≤ m → Sofar k
  unfolding through sum
  sofar zero h = record {
    rest = omega arith;
    kept = whole;
    done = λ j b t. absurd (omega arith);
    left = λ j b t. (refl, refl);
    others = λ l j n b. refl;
  }
  sofar (suc k) h =
      let was = sofar k (omega arith) in
      let at = turn back m k in
      let here : at < m = turn_below back m k (omega arith) in
      let twice : turn back m at ≡ k = turn_twice back m k (omega arith) in
      let same = was.left at (λ b. omega (arith, twice)) (omega arith) in
      let before_at : before (turn back m at) ≡ before k = ap before twice in
      let fits : min (room (steps k).draft at) (steps k).rest ≡ poured at = ap₂ min same.0 (was.rest ∙ ap (λ q. amount - before q) (sym twice)) in
      record {
        rest = rw (fits, was.rest) (omega (arith, before_at));
        kept = record { rooms = rw length-set was.kept.rooms; table = rw length-set was.kept.table };
        done = λ j b t.
            below-or-last (turn back m j) k t
            (λ l.
            let apart : j ≢ at = λ e. absurd (omega (arith, twice, ap (turn back m) e)) in (
              get_or-set_other (steps k).draft.rooms at j _ 0 apart ∙ (was.done j b l).0,
              get_or-set_other (steps k).draft.table (most_intervals * i + at) (most_intervals * i + j) _ 0 (other_place i j i at (omega arith) (omega arith) (λ e. apart)) ∙ (was.done j b l).1,
            ))
            (λ q.
            let is : j ≡ at = sym (turn_twice back m j b) ∙ ap (turn back m) q in
            rw is (
              get_or-set_same (steps k).draft.rooms at _ 0 (omega (arith, was.kept.rooms)) ∙ ap₂ ◌-◌ same.0 fits,
              get_or-set_same (steps k).draft.table (most_intervals * i + at) _ 0 (omega (arith, was.kept.table)) ∙ fits,
            ));
        left = λ j b t.
            let apart : j ≢ at = λ e. absurd (omega (arith, twice, ap (turn back m) e, b (omega (arith, e)))) in
            let old = was.left j (λ c. omega (arith, b c)) t in (
              get_or-set_other (steps k).draft.rooms at j _ 0 apart ∙ old.0,
              get_or-set_other (steps k).draft.table (most_intervals * i + at) (most_intervals * i + j) _ 0 (other_place i j i at t (omega arith) (λ e. apart)) ∙ old.1,
            );
        others = λ l j n b.
            get_or-set_other (steps k).draft.table (most_intervals * i + at) (most_intervals * l + j) _ 0 (other_place l j i at b (omega arith) (λ e. absurd (n e)))
            ∙ was.others l j n b;
      }

  -- The row of the job after all turns.
  abbrev pub after : Draft
  after = (placing back m i amount draft).draft

  all : Sofar m
  all = sofar m (omega arith)

  -- What is placed and before: together the room of as many intervals as there were turns, or all units.
  poured_before : (k : ℕ) → sum (λ q. min (room draft (turn back m q)) (amount - before q)) k ≡ min amount (before k)
  unfolding sum
  poured_before zero = omega arith
  poured_before (suc k) = omega (arith, poured_before k)

  before_grows : (j k : ℕ) → j ≤ k → before j ≤ before k
  before_grows j k h =
      let e : k ≡ j + (k - j) = omega arith in
      omega (arith, ap before e, sum_split (λ q. room draft (turn back m q)) j (k - j))

  -- All that the laws of a class need of one job's turn.
  pub placing_whole : Whole after
  unfolding placing
  placing_whole = all.kept

  pub placing_others : (l j : ℕ) → l ≢ i → j < most_intervals → units after.table l j ≡ units draft.table l j
  unfolding placing
  placing_others = all.others

  pub placing_room : (j : ℕ) → j < m → room after j + units after.table i j ≡ room draft j
  unfolding placing
  placing_room j h =
      let at = all.done j h (turn_below back m j h) in
      omega (arith, at.0, at.1)

  pub placing_past : (j : ℕ) → m ≤ j → j < most_intervals → (room after j ≡ room draft j) × (units after.table i j ≡ units draft.table i j)
  unfolding placing
  placing_past j h b = all.left j (λ c. absurd (omega arith)) b

  -- The units are all placed if they fit.
  pub placing_all : amount ≤ sum (room draft) m → sum (units after.table i) m ≡ amount
  unfolding placing
  placing_all fits =
      sym (sum_turned back (units after.table i) m)
      ∙ sum_ext _ _ m (λ q b.
      (all.done (turn back m q) (turn_below back m q b) (rw (turn_twice back m q b) b)).1
      ∙ ap (λ k. min (room draft (turn back m q)) (amount - before k)) (turn_twice back m q b))
      ∙ poured_before m
      ∙ omega (arith, sum_turned back (room draft) m)

  -- An interval that has room left is the last in turn that gets units.
  pub placing_stops : (j k : ℕ) → j < m → k < m → turn back m k < turn back m j → units after.table i k < room draft k → units after.table i j ≡ 0
  unfolding placing sum
  placing_stops j k h b later less =
      let at_k = (all.done k b (turn_below back m k b)).1 in
      let at_j = (all.done j h (turn_below back m j h)).1 in
      let next : before (suc (turn back m k)) ≡ before (turn back m k) + room draft k = ap (λ q. before (turn back m k) + room draft q) (turn_twice back m k b) in
      omega (arith, at_k, at_j, next, before_grows (suc (turn back m k)) (turn back m j) later)
