-- What the desk keeps while it places one job after the other, for jobs and intervals given as functions: no room is
-- passed over. Where the LO jobs leave room in an interval, a LO job due after its start has nothing before it; where the LO jobs and
-- the HI jobs due by a HI job's deadline leave room in one, that job has nothing after it.
use mathlib.Core.Path.{◌≡◌, refl, sym, ◌∙◌, ap}
use mathlib.Core.Logic.{◌≢◌}
use mathlib.Core.Bool.{Bool, true, false, not, ◌&&◌, true≢false}
use Prim.Native.Nat.{ℕ, zero, suc, ◌+◌, ◌≤◌, ◌<◌}
use native.Mathlib.Omega.{arith}
use borrow.Author.Tests.{le-leb, lt-leb}
use lib.Dec.{leb}
use Rattle.base.specs.Sum.{sum, on}
use Rattle.base.proofs.SumLaws.{sum_ext, sum_mono, sum_none, sum_add, sum_raised}
use Rattle.base.proofs.Choice.{on_mono, on_none}
use Rattle.base.proofs.Logic.{if_same, if_less, if_true, and_left}

-- N jobs with deadlines, sizes and grades; K intervals with their boundaries and capacities.
pub record Ground : Type 0 where
  pub N : ℕ
  pub K : ℕ
  pub dl : ℕ → ℕ
  pub size : ℕ → ℕ
  pub hi : ℕ → Bool
  pub b : ℕ → ℕ
  pub cap : ℕ → ℕ

-- The boundaries rise, and every deadline is at or before the last.
pub record Good (g : Ground) : Type 0 where
  pub rise : (j : ℕ) → j < g.K → g.b j < g.b (suc j)
  pub last : (i : ℕ) → i < g.N → g.dl i ≤ g.b g.K

-- A draft: the room of each interval, and the units of each job in each interval.
pub record State : Type 0 where
  pub room : ℕ → ℕ
  pub x : ℕ → ℕ → ℕ

-- The units of the LO jobs in an interval, of the HI jobs due by D, and of all jobs.
abbrev pub lo_load : Ground → State → ℕ → ℕ
lo_load g s j = sum (λ i. on (not (g.hi i)) (s.x i j)) g.N

abbrev pub hi_load : Ground → State → ℕ → ℕ → ℕ
hi_load g s D j = sum (λ i. on (g.hi i && leb (g.dl i) D) (s.x i j)) g.N

abbrev pub all_load : Ground → State → ℕ → ℕ
all_load g s j = sum (λ i. s.x i j) g.N

-- What is kept.
pub record Kept (g : Ground) (s : State) : Type 0 where
  pub room : (j : ℕ) → j < g.K → s.room j + all_load g s j ≡ g.cap j
  pub late : (i j : ℕ) → i < g.N → j < g.K → g.dl i ≤ g.b j → s.x i j ≡ 0
  pub lo_skip : (i j k : ℕ) → i < g.N → g.hi i ≡ false → j < k → k < g.K → g.b k < g.dl i → lo_load g s k < g.cap k → s.x i j ≡ 0
  pub hi_skip : (i j k : ℕ) → i < g.N → g.hi i ≡ true → k < j → j < g.K → lo_load g s k + hi_load g s (g.dl i) k < g.cap k → s.x i j ≡ 0

-- The turn of job i, due at boundary m: its row was empty, and is poured from the back or from the front.
pub record Turned (g : Ground) (back : Bool) (m i : ℕ) (s t : State) : Type 0 where
  pub known : i < g.N
  pub there : m ≤ g.K
  pub due : g.dl i ≡ g.b m
  pub was : (j : ℕ) → j < g.K → s.x i j ≡ 0
  pub others : (l j : ℕ) → l ≢ i → j < g.K → t.x l j ≡ s.x l j
  pub room : (j : ℕ) → j < g.K → t.room j + t.x i j ≡ s.room j
  pub past : (j : ℕ) → m ≤ j → j < g.K → t.x i j ≡ 0
  pub stops_back : back ≡ true → (j k : ℕ) → j < k → k < m → t.x i k < s.room k → t.x i j ≡ 0
  pub stops_front : back ≡ false → (j k : ℕ) → k < j → j < m → t.x i k < s.room k → t.x i j ≡ 0

module _ (g : Ground) (good : Good g) where
  pub rises : (j k : ℕ) → j ≤ k → k ≤ g.K → g.b j ≤ g.b k
  rises j zero h e = let q : j ≡ 0 = omega arith in rw q (omega arith)
  rises j (suc k) h e =
      if_same j (suc k)
      (λ q. rw q (omega arith))
      (λ q. omega (arith, rises j k (omega arith) (omega arith), good.rise k (omega arith)))

  -- An index whose boundary is before another's is smaller.
  pub earlier : (j k : ℕ) → j ≤ g.K → g.b j < g.b k → j < k
  earlier j k h less = if_less j k (λ l. l) (λ more. absurd (omega (arith, rises k j more h)))

  -- All load is that of the LO jobs and of the HI jobs due by D, if later HI jobs have nothing there.
  pub load_parts : (s : State) (D j : ℕ) → ((i : ℕ) → i < g.N → g.hi i ≡ true → D < g.dl i → s.x i j ≡ 0)
      → all_load g s j ≡ lo_load g s j + hi_load g s D j
  load_parts s D j none =
      sum_ext _ _ g.N (λ i h. part i h (g.hi i) refl)
      ∙ sum_add (λ i. on (not (g.hi i)) (s.x i j)) (λ i. on (g.hi i && leb (g.dl i) D) (s.x i j)) g.N
    where
      part : (i : ℕ) → i < g.N → (grade : Bool) → g.hi i ≡ grade → s.x i j ≡ on (not (g.hi i)) (s.x i j) + on (g.hi i && leb (g.dl i) D) (s.x i j)
      part i h false e = rw e (omega arith)
      part i h true e =
          if_less D (g.dl i)
          (λ l. rw (e, none i h e l, lt-leb (g.dl i) D l) (omega arith))
          (λ l. rw (e, le-leb (g.dl i) D l) (omega arith))

  module _ (back : Bool) (m i : ℕ) (s t : State) (turned : Turned g back m i s t) where
    -- No job has less than before.
    grows : (l j : ℕ) → j < g.K → s.x l j ≤ t.x l j
    grows l j h = if_same l i (λ e. rw e (omega (arith, turned.was j h))) (λ n. omega (arith, turned.others l j n h))

    lo_grows : (j : ℕ) → j < g.K → lo_load g s j ≤ lo_load g t j
    lo_grows j h = sum_mono _ _ g.N (λ l b. on_mono (not (g.hi l)) (s.x l j) (t.x l j) (λ c. grows l j h))

    hi_grows : (D j : ℕ) → j < g.K → hi_load g s D j ≤ hi_load g t D j
    hi_grows D j h = sum_mono _ _ g.N (λ l b. on_mono (g.hi l && leb (g.dl l) D) (s.x l j) (t.x l j) (λ c. grows l j h))

    load_grows : (j : ℕ) → j < g.K → all_load g t j ≡ all_load g s j + t.x i j
    load_grows j h =
        sum_raised (λ l. s.x l j) (λ l. t.x l j) g.N i (t.x i j) turned.known
        (λ l b n. turned.others l j n h) (omega (arith, turned.was j h))

    room_kept : Kept g s → (j : ℕ) → j < g.K → t.room j + all_load g t j ≡ g.cap j
    room_kept kept j h = omega (arith, kept.room j h, turned.room j h, load_grows j h)

    late_kept : Kept g s → (l j : ℕ) → l < g.N → j < g.K → g.dl l ≤ g.b j → t.x l j ≡ 0
    late_kept kept l j b h e =
        if_same l i
        (λ q. rw q (turned.past j
        (if_less j m (λ less. absurd (omega (arith, turned.due, rw q at e, rises (suc j) m less turned.there, good.rise j h))) (λ more. more)) h))
        (λ n. turned.others l j n h ∙ kept.late l j b h e)

    -- The turn of a LO job, while no HI job has anything.
    pub kept_lo : Kept g s → back ≡ true → g.hi i ≡ false → ((l j : ℕ) → l < g.N → g.hi l ≡ true → j < g.K → s.x l j ≡ 0) → Kept g t
    kept_lo kept is lo none = record {
      room = room_kept kept;
      late = late_kept kept;
      lo_skip = λ l j k b e less h before more.
          if_same l i
          (λ q. rw q (turned.stops_back is j k less (earlier k m (omega arith) (omega (arith, turned.due, rw q at before)))
          (omega (arith, turned.room k h, room_kept kept k h, load_parts t 0 k (λ a c d f. none_yet a k c d h), more, hi_none k h))))
          (λ n. turned.others l j n (omega arith) ∙ kept.lo_skip l j k b e less h before (omega (arith, lo_grows k h)));
      hi_skip = λ l j k b e less h more. none_yet l j b e h;
    }
      where
        none_yet : (l j : ℕ) → l < g.N → g.hi l ≡ true → j < g.K → t.x l j ≡ 0
        none_yet l j b e h = turned.others l j (λ q. absurd (true≢false (sym e ∙ ap g.hi q ∙ lo))) h ∙ none l j b e h

        hi_none : (k : ℕ) → k < g.K → hi_load g t 0 k ≡ 0
        hi_none k h =
            sum_none _ g.N
            (λ l b. on_none (g.hi l && leb (g.dl l) 0) (t.x l k) (λ c. none_yet l k b (and_left (g.hi l) (leb (g.dl l) 0) c) h))

    -- The turn of a HI job, while no later HI job has anything.
    pub kept_hi : Kept g s → back ≡ false → g.hi i ≡ true → ((l j : ℕ) → l < g.N → g.hi l ≡ true → g.dl i < g.dl l → j < g.K → s.x l j ≡ 0) → Kept g t
    kept_hi kept is hi none = record {
      room = room_kept kept;
      late = late_kept kept;
      lo_skip = λ l j k b e less h before more.
          turned.others l j (lo_other l e) (omega arith) ∙ kept.lo_skip l j k b e less h before (omega (arith, lo_same k h));
      hi_skip = λ l j k b e less h more.
          if_same l i
          (λ q. rw q (if_less j m
          (λ inside. turned.stops_front is j k less inside
          (omega (arith, turned.room k (omega arith), room_kept kept k (omega arith), load_parts t (g.dl i) k (λ a c d f. none_yet a k c d f (omega arith)), rw q at more)))
          (λ beyond. turned.past j beyond h)))
          (λ n. turned.others l j n h ∙ kept.hi_skip l j k b e less h (omega (arith, lo_same k (omega arith), hi_grows (g.dl l) k (omega arith))));
    }
      where
        lo_other : (l : ℕ) → g.hi l ≡ false → l ≢ i
        lo_other l e q = true≢false (sym hi ∙ ap g.hi (sym q) ∙ e)

        lo_same : (j : ℕ) → j < g.K → lo_load g t j ≡ lo_load g s j
        lo_same j h = sum_ext _ _ g.N (λ l b. if_true (g.hi l) (λ e. rw e refl) (λ e. ap (on (not (g.hi l))) (turned.others l j (lo_other l e) h)))

        none_yet : (l j : ℕ) → l < g.N → g.hi l ≡ true → g.dl i < g.dl l → j < g.K → t.x l j ≡ 0
        none_yet l j b e f h = turned.others l j (λ q. absurd (omega (arith, ap g.dl q))) h ∙ none l j b e f h
