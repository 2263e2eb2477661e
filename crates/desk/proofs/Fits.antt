-- If the closed form holds, each job fits when its turn comes, and in the end the floor rule holds.
use mathlib.Core.Path.{◌≡◌, refl, sym, ◌∙◌, ap}
use mathlib.Core.Logic.{◌⊎◌, inl, inr, ⊎_elim}
use mathlib.Core.Bool.{Bool, true, false, not, ◌&&◌}
use Prim.Native.Nat.{ℕ, zero, suc, ◌+◌, ◌*◌, ◌-◌, ◌≤◌, ◌<◌}
use native.Mathlib.Nat.{mul-le-mul_left, mul-zero}
use native.Mathlib.Omega.{arith}
use borrow.Author.Tests.{le-leb, lt-leb, leb-true}
use lib.Dec.{leb}
use Rattle.base.specs.Sum.{sum, on}
use Rattle.base.proofs.SumLaws.{sum_ext, sum_mono, sum_none, sum_add, sum_split, sum_swap, sum_room}
use Rattle.base.proofs.Choice.{on_mono, on_none, on_sum, on_less}
use Rattle.base.proofs.Logic.{if_same, if_less, if_true, and_left, both, below-or-last}
use Rattle.desk.proofs.Kept.{Ground, Good, State, lo_load, hi_load, Kept, rises, load_parts}

-- Two numbers under a condition are at most a third, if their sum is.
on_two : (c : Bool) (x y z : ℕ) → x + y ≤ z → on c x + on c y ≤ on c z
on_two true x y z h = h
on_two false x y z h = omega arith

-- What is due by a time is due by a later one.
on_wider : (h : Bool) (t D E x : ℕ) → D ≤ E → on (h && leb t D) x ≤ on (h && leb t E) x
on_wider false t D E x l = omega arith
on_wider true t D E x l = if_less D t (λ m. rw (lt-leb t D m) (omega arith)) (λ m. rw (le-leb t D m, le-leb t E (omega arith)) (omega arith))

-- The capacity of the first k intervals.
abbrev pub cap_to : Ground → ℕ → ℕ
cap_to g k = sum g.cap k

-- The sizes of the LO jobs due by a time, and of the HI jobs.
abbrev pub lo_sizes : Ground → ℕ → ℕ
lo_sizes g E = sum (λ i. on (not (g.hi i) && leb (g.dl i) E) (g.size i)) g.N

abbrev pub hi_sizes : Ground → ℕ → ℕ
hi_sizes g D = sum (λ i. on (g.hi i && leb (g.dl i) D) (g.size i)) g.N

-- The closed form, over all boundaries.
abbrev pub Enough : Ground → ℕ → Type 0
Enough g d = (m k : ℕ) → m ≤ g.K → k ≤ g.K → hi_sizes g (g.b m) + lo_sizes g (g.b k) ≤ cap_to g k + d * (g.b m - g.b k)

-- No job has more units than its size.
abbrev pub Within : Ground → State → Type 0
Within g s = (i : ℕ) → i < g.N → sum (s.x i) g.K ≤ g.size i

module _ (g : Ground) (good : Good g) (s : State) (kept : Kept g s) (within : Within g s) where
  -- The units of a job before interval k, of all LO jobs, and of the HI jobs due by D.
  abbrev row_to : ℕ → ℕ → ℕ
  row_to k i = sum (s.x i) k

  abbrev lo_to : ℕ → ℕ
  lo_to k = sum (lo_load g s) k

  abbrev hi_to : ℕ → ℕ → ℕ
  hi_to D k = sum (hi_load g s D) k

  row_grows : (i k : ℕ) → k ≤ g.K → row_to k i ≤ row_to g.K i
  row_grows i k h =
      let e : g.K ≡ k + (g.K - k) = omega arith in
      omega (arith, ap (sum (s.x i)) e, sum_split (s.x i) k (g.K - k))

  lo_rows : (k : ℕ) → lo_to k ≡ sum (λ i. on (not (g.hi i)) (row_to k i)) g.N
  lo_rows k =
      sym (sum_swap (λ i j. on (not (g.hi i)) (s.x i j)) k g.N)
      ∙ sum_ext _ _ g.N (λ i h. on_sum (not (g.hi i)) (s.x i) k)

  hi_rows : (D k : ℕ) → hi_to D k ≡ sum (λ i. on (g.hi i && leb (g.dl i) D) (row_to k i)) g.N
  hi_rows D k =
      sym (sum_swap (λ i j. on (g.hi i && leb (g.dl i) D) (s.x i j)) k g.N)
      ∙ sum_ext _ _ g.N (λ i h. on_sum (g.hi i && leb (g.dl i) D) (s.x i) k)

  -- What the LO jobs due by boundary k have.
  abbrev lo_placed : ℕ → ℕ
  lo_placed k = sum (λ i. on (not (g.hi i) && leb (g.dl i) (g.b k)) (row_to g.K i)) g.N

  -- An interval k from m on such that the LO jobs fill all between them, and have before k no more than those due by k.
  pub record Stretch (m : ℕ) : Type 0 where
    pub k : ℕ
    pub from : m ≤ k
    pub to : k ≤ g.K
    pub filled : cap_to g k + lo_to m ≤ cap_to g m + lo_placed k

  -- Where the LO jobs leave room in interval k, or k is the last boundary, they have before it no more than those due by then.
  ends_at : (k : ℕ) → k ≤ g.K → (k < g.K → lo_load g s k < g.cap k) → lo_to k ≤ lo_placed k
  ends_at k h more = rw (lo_rows k) (sum_mono _ _ g.N (λ i b. if_true (g.hi i) (λ e. rw e (omega arith)) (λ e. row i b e)))
    where
      row : (i : ℕ) → i < g.N → g.hi i ≡ false → on (not (g.hi i)) (row_to k i) ≤ on (not (g.hi i) && leb (g.dl i) (g.b k)) (row_to g.K i)
      row i b e =
          if_less (g.b k) (g.dl i)
          (λ l.
          let inside : k < g.K = if_same k g.K (λ q. absurd (omega (arith, good.last i b, ap g.b q))) (λ q. omega arith) in
          let none : row_to k i ≡ 0 = sum_none (s.x i) k (λ j c. kept.lo_skip i j k b e c inside l (more inside)) in
          rw (e, none) (omega arith))
          (λ l. rw (e, le-leb (g.dl i) (g.b k) l) (row_grows i k h))

  stretch_from : (n m : ℕ) → m + n ≡ g.K → Stretch m
  unfolding sum
  stretch_from zero m h =
      record { k = m; from = omega arith; to = omega arith; filled = omega (arith, ends_at m (omega arith) (λ l. absurd (omega arith))) }
  stretch_from (suc n) m h =
      if_less (lo_load g s m) (g.cap m)
      (λ l. record { k = m; from = omega arith; to = omega arith; filled = omega (arith, ends_at m (omega arith) (λ c. l)) })
      (λ l. longer (stretch_from n (suc m) (omega arith)) l)
    where
      longer : Stretch (suc m) → g.cap m ≤ lo_load g s m → Stretch m
      longer w l = record { k = w.k; from = omega (arith, w.from); to = w.to; filled = omega (arith, w.filled) }

  pub stretch : (m : ℕ) → m ≤ g.K → Stretch m
  stretch m h = stretch_from (g.K - m) m (omega arith)

  -- The rooms of the first m intervals are what all jobs leave of their capacity.
  rooms_left : (D m : ℕ) → m ≤ g.K → ((i j : ℕ) → i < g.N → g.hi i ≡ true → D < g.dl i → j < g.K → s.x i j ≡ 0)
      → sum s.room m + (lo_to m + hi_to D m) ≡ cap_to g m
  rooms_left D m h none =
      ap (λ r. sum s.room m + r) (sym (sum_add (lo_load g s) (hi_load g s D) m))
      ∙ sym (sum_add s.room (λ j. lo_load g s j + hi_load g s D j) m)
      ∙ sum_ext _ _ m (λ j b.
      ap (λ r. s.room j + r) (sym (load_parts g good s D j (λ i c e f. none i j c e f (omega arith)))) ∙ kept.room j (omega arith))

  placed_within : (k : ℕ) → lo_placed k ≤ lo_sizes g (g.b k)
  placed_within k = sum_mono _ _ g.N (λ i h. on_mono (not (g.hi i) && leb (g.dl i) (g.b k)) _ _ (λ c. within i h))

  module _ (d : ℕ) (enough : Enough g d) where
    -- What the closed form says where D is not after E.
    enough_before : (m k : ℕ) → m ≤ k → k ≤ g.K → hi_sizes g (g.b m) + lo_sizes g (g.b k) ≤ cap_to g k
    enough_before m k h e =
        let none : g.b m - g.b k ≡ 0 = omega (arith, rises g good m k h e) in
        omega (arith, enough m k (omega arith) e, ap (λ q. d * q) none ∙ mul-zero d)

    module _ (i m : ℕ) (known : i < g.N) (there : m ≤ g.K) (due : g.dl i ≡ g.b m) (empty : (j : ℕ) → j < g.K → s.x i j ≡ 0) where
      -- The row of the job is empty, up to any interval.
      no_row : (k : ℕ) → k ≤ g.K → row_to k i ≡ 0
      no_row k h = sum_none (s.x i) k (λ j b. empty j (omega arith))

      -- A LO job fits when its turn comes, if no HI job has anything.
      pub fits_lo : g.hi i ≡ false → ((l j : ℕ) → l < g.N → g.hi l ≡ true → j < g.K → s.x l j ≡ 0) → g.size i ≤ sum s.room m
      fits_lo lo none =
          let w = stretch m there in
          let k = w.k in
          let more : lo_placed k + g.size i ≤ lo_sizes g (g.b k)
          = sum_room _ _ g.N i (g.size i) known
          (λ l b. on_mono (not (g.hi l) && leb (g.dl l) (g.b k)) _ _ (λ c. within l b))
          (rw (lo, le-leb (g.dl i) (g.b k) (omega (arith, due, rises g good m k w.from w.to))) (omega (arith, no_row g.K (omega arith)))) in
          let no_hi : hi_to 0 m ≡ 0
          = hi_rows 0 m ∙ sum_none _ g.N (λ l b. on_none (g.hi l && leb (g.dl l) 0) (row_to m l)
          (λ c. sum_none (s.x l) m (λ j e. none l j b (and_left (g.hi l) (leb (g.dl l) 0) c) (omega arith)))) in
          omega (arith, w.filled, more, enough_before k k (omega arith) w.to, rooms_left 0 m there (λ l j b e f h. none l j b e h), no_hi)

      -- A HI job fits when its turn comes, if no later HI job has anything.
      pub fits_hi : g.hi i ≡ true → ((l j : ℕ) → l < g.N → g.hi l ≡ true → g.dl i < g.dl l → j < g.K → s.x l j ≡ 0) → g.size i ≤ sum s.room m
      fits_hi hi none =
          let w = stretch m there in
          let k = w.k in
          let more : hi_to (g.b m) m + g.size i ≤ hi_sizes g (g.b m)
          = rw (hi_rows (g.b m) m)
          (sum_room _ _ g.N i (g.size i) known
          (λ l b. on_mono (g.hi l && leb (g.dl l) (g.b m)) _ _ (λ c. omega (arith, row_grows l m there, within l b)))
          (rw (hi, le-leb (g.dl i) (g.b m) (omega (arith, due))) (omega (arith, no_row m there)))) in
          omega (arith, w.filled, more, enough_before m k w.from w.to, placed_within k, rooms_left (g.b m) m there (λ l j b e f h. none l j b e (omega (arith, due)) h))

  -- Whether the jobs due by D fill each of the first l intervals, or leave room in one.
  filled_or_not : (D l : ℕ) → ((j : ℕ) → j < l → g.cap j ≤ lo_load g s j + hi_load g s D j) ⊎ ((j : ℕ) × (j < l) × (lo_load g s j + hi_load g s D j < g.cap j))
  filled_or_not D zero = inl (λ j h. absurd (omega arith))
  filled_or_not D (suc l) =
      if_less (lo_load g s l + hi_load g s D l) (g.cap l)
      (λ more. inr (l, omega arith, more))
      (λ less. ⊎_elim (λ all. inl (λ j h. below-or-last j l h (all j) (λ e. rw e less))) (λ w. inr (w.0, omega (arith, w.1), w.2)) (filled_or_not D l))

  -- The units of job i from interval l on that end by D.
  abbrev pub between : ℕ → ℕ → ℕ → ℕ
  between l D i = sum (λ j. on (leb l j && leb (g.b (suc j)) D) (s.x i j)) g.K

  between_rest : (l D i : ℕ) → l ≤ g.K → between l D i + row_to l i ≤ row_to g.K i
  between_rest l D i h =
      let e : g.K ≡ l + (g.K - l) = omega arith in
      let term : ℕ → ℕ = λ j. on (leb l j && leb (g.b (suc j)) D) (s.x i j) in
      let low : sum term l ≡ 0 = sum_none term l (λ j b. rw (lt-leb l j b) refl) in
      let high : sum (λ j. term (l + j)) (g.K - l) ≤ sum (λ j. s.x i (l + j)) (g.K - l) = sum_mono _ _ (g.K - l) (λ j b. on_less (leb l (l + j) && leb (g.b (suc (l + j))) D) (s.x i (l + j))) in
      omega (arith, ap (sum term) e, sum_split term l (g.K - l), low, high, ap (sum (s.x i)) e, sum_split (s.x i) l (g.K - l))

  -- The floor rule holds, from each interval to each later boundary.
  pub floor_held : (d : ℕ) → Enough g d → (l m : ℕ) → l < m → m ≤ g.K
      → sum (λ i. on (g.hi i && leb (g.dl i) (g.b m)) (between l (g.b m) i)) g.N ≤ d * (g.b m - g.b l)
  floor_held d enough l m h there = ⊎_elim when_filled when_open (filled_or_not (g.b m) l)
    where
      when_filled : ((j : ℕ) → j < l → g.cap j ≤ lo_load g s j + hi_load g s (g.b m) j) → sum (λ i. on (g.hi i && leb (g.dl i) (g.b m)) (between l (g.b m) i)) g.N ≤ d * (g.b m - g.b l)
      when_filled all =
          let w = stretch l (omega arith) in
          let k = w.k in
          let full : cap_to g l ≤ lo_to l + hi_to (g.b m) l = rw (← (sum_add (lo_load g s) (hi_load g s (g.b m)) l)) (sum_mono _ _ l all) in
          let parts : sum (λ i. on (g.hi i && leb (g.dl i) (g.b m)) (between l (g.b m) i)) g.N + hi_to (g.b m) l ≤ hi_sizes g (g.b m)
          = rw (hi_rows (g.b m) l, ← (sum_add (λ i. on (g.hi i && leb (g.dl i) (g.b m)) (between l (g.b m) i)) (λ i. on (g.hi i && leb (g.dl i) (g.b m)) (row_to l i)) g.N))
          (sum_mono _ _ g.N (λ i b. on_two (g.hi i && leb (g.dl i) (g.b m)) _ _ _ (omega (arith, between_rest l (g.b m) i (omega arith), within i b)))) in
          let later : g.b m - g.b k ≤ g.b m - g.b l = omega (arith, rises g good l k w.from w.to) in
          omega (arith, w.filled, full, parts, placed_within k, enough m k there w.to, mul-le-mul_left d later)

      when_open : (j : ℕ) × (j < l) × (lo_load g s j + hi_load g s (g.b m) j < g.cap j) → sum (λ i. on (g.hi i && leb (g.dl i) (g.b m)) (between l (g.b m) i)) g.N ≤ d * (g.b m - g.b l)
      when_open w =
          let none : sum (λ i. on (g.hi i && leb (g.dl i) (g.b m)) (between l (g.b m) i)) g.N ≡ 0
          = sum_none _ g.N (λ i b. on_none (g.hi i && leb (g.dl i) (g.b m)) (between l (g.b m) i) (λ c.
          let due = leb-true (g.dl i) (g.b m) (both (g.hi i) (leb (g.dl i) (g.b m)) c).1 in
          let fewer : hi_load g s (g.dl i) w.0 ≤ hi_load g s (g.b m) w.0
          = sum_mono _ _ g.N (λ a e. on_wider (g.hi a) (g.dl a) (g.dl i) (g.b m) (s.x a w.0) due) in
          sum_none _ g.K (λ j e. on_none (leb l j && leb (g.b (suc j)) (g.b m)) (s.x i j) (λ f.
          kept.hi_skip i j w.0 b (both (g.hi i) (leb (g.dl i) (g.b m)) c).0
          (omega (arith, w.1, leb-true l j (both (leb l j) (leb (g.b (suc j)) (g.b m)) f).0)) e
          (omega (arith, w.2, fewer)))))) in
          omega (arith, none)
