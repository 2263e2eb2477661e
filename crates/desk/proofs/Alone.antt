-- The timetable does not depend on what the lent table held, and leaves the places beyond the table's own as they were.
use mathlib.Core.Path.{◌≡◌, refl}
use mathlib.Core.Bool.{Bool, true, false, ◌&&◌}
use mathlib.Core.List.{List, [], ◌++◌}
use Prim.Native.Nat.{ℕ, zero, suc, ◌+◌, ◌*◌, ◌≤◌, ◌<◌}
use native.Mathlib.Omega.{arith}
use lib.Dec.{eqb}
use lib.ListN.{length, drop, replicate, length-set, length-replicate}
use lib.Seq.{set-append_left}
use Rattle.base.proofs.Logic.{if_true}
use Rattle.plan.specs.Edition.{most_jobs, most_intervals, places}
use Rattle.plan.specs.Rules.{counted, deadline}
use Rattle.plan.specs.Boundaries.{boundary, intervals}
use Rattle.plan.specs.declared.kinds.Plan.{Plan}
use Rattle.judge.specs.Slack.{through}
use Rattle.desk.specs.Timetable.{in_class, turn, Draft, Placing, placed_at, placing, job_turn, turns_at, class_placed, all_room, timetable}
use Rattle.desk.proofs.Sums.{turn_below}

-- Steps that keep a relation keep it one after the other.
through_keeps : {A B : Type 0} (R : A → B → Type 0) (f : ℕ → A → A) (g : ℕ → B → B) (n : ℕ) (a : A) (b : B)
    → ((k : ℕ) (x : A) (y : B) → k < n → R x y → R (f k x) (g k y)) → R a b → R (through f n a) (through g n b)
unfolding through
through_keeps R f g zero a b keeps r = r
through_keeps R f g (suc n) a b keeps r = keeps n _ _ (omega arith) (through_keeps R f g n a b (λ k x y h. keeps k x y (omega arith)) r)

-- Two drafts with the same rooms, the first of which has more places beyond the table's own.
pub record Longer (rest : List ℕ) (d e : Draft) : Type 0 where
  pub rooms : d.rooms ≡ e.rooms
  pub table : d.table ≡ e.table ++ rest
  pub own : length e.table ≡ places

abbrev LongerPlacing : List ℕ → Placing → Placing → Type 0
LongerPlacing rest s t = Longer rest s.draft t.draft × (s.rest ≡ t.rest)

placed_longer : (rest : List ℕ) (i j : ℕ) (s t : Placing) → i < most_jobs → j < most_intervals → LongerPlacing rest s t → LongerPlacing rest (placed_at i j s) (placed_at i j t)
placed_longer rest i j s t h b w =
    rw (w.0.rooms, w.1, w.0.table) (
      record {
        rooms = refl;
        table = set-append_left t.draft.table rest (most_intervals * i + j) _ (omega (arith, w.0.own));
        own = rw length-set w.0.own;
      },
      refl,
    )

placing_longer : (rest : List ℕ) (back : Bool) (m i amount : ℕ) (d e : Draft) → m ≤ most_intervals → i < most_jobs → Longer rest d e
    → Longer rest (placing back m i amount d).draft (placing back m i amount e).draft
unfolding placing
placing_longer rest back m i amount d e h b w =
    (through_keeps (LongerPlacing rest) _ _ m (record { draft = d; rest = amount }) (record { draft = e; rest = amount })
    (λ k s t l r. placed_longer rest i (turn back m k) s t b (omega (arith, turn_below back m k l)) r) (w, refl)).0

module _ (p : Plan) (few : intervals p ≤ most_intervals) (fewer : counted p ≤ most_jobs) (rest : List ℕ) (back : Bool) where
  job_longer : (m i : ℕ) (d e : Draft) → m ≤ intervals p → i < counted p → Longer rest d e → Longer rest (job_turn p back m i d) (job_turn p back m i e)
  job_longer m i d e h b w =
      if_true (in_class p back i && eqb (deadline p i) (boundary p m))
      (λ due. rw due (placing_longer rest back m i _ d e (omega (arith, few)) (omega (arith, fewer)) w))
      (λ none. rw none w)

  class_longer : (d e : Draft) → Longer rest d e → Longer rest (class_placed p back d) (class_placed p back e)
  unfolding class_placed turns_at
  class_longer d e w =
      through_keeps (Longer rest) _ _ (intervals p) d e
      (λ k x y h r. through_keeps (Longer rest) _ _ (counted p) x y
      (λ q s t b u. job_longer (suc (turn back (intervals p) k)) (turn back (counted p) q) s t (turn_below back (intervals p) k h) (turn_below back (counted p) q b) u) r) w

-- The same of both classes, with any numbers in the table's own places.
both_longer : (p : Plan) → intervals p ≤ most_intervals → counted p ≤ most_jobs → (rest front : List ℕ) → length front ≡ places
    → Longer rest (class_placed p false (class_placed p true (record { rooms = all_room p; table = front ++ rest })))
    (class_placed p false (class_placed p true (record { rooms = all_room p; table = front })))
both_longer p few fewer rest front own =
    class_longer p few fewer rest false _ _ (class_longer p few fewer rest true _ _ (record { rooms = refl; table = refl; own = own }))

-- The table's own places get the same whatever the lent table held, and the places beyond them stay.
pub timetable_alone : (p : Plan) → intervals p ≤ most_intervals → counted p ≤ most_jobs
    → (front : List ℕ) × (length front ≡ places) × ((table : List ℕ) → timetable p table ≡ front ++ drop places table)
unfolding timetable
timetable_alone p few fewer =
    let zeros : List ℕ = replicate places 0 in
    let same : (rest : List ℕ) → Longer rest (class_placed p false (class_placed p true (record { rooms = all_room p; table = zeros ++ rest }))) (class_placed p false (class_placed p true (record { rooms = all_room p; table = zeros })))
    = λ rest. both_longer p few fewer rest zeros (length-replicate {A = ℕ} places 0) in
    ((class_placed p false (class_placed p true (record { rooms = all_room p; table = zeros }))).table, (same []).own, λ table. (same (drop places table)).table)
