-- What every slot preserves, for a plan given as functions: no job above its size; the floor
-- guarantee; and, while no slot was slow, the plan's pace.
use mathlib.Core.Path.{◌≡◌, sym, ◌∙◌, ap}
use mathlib.Core.Bool.{Bool, true, false, not, ◌&&◌, ◌||◌, or-true}
use Prim.Native.Nat.{ℕ, suc, ◌+◌, ◌*◌, ◌-◌, ◌≤◌, ◌<◌, min}
use native.Mathlib.Nat.{mul-zero, mul-le-mul_left, le_trans}
use native.Mathlib.Omega.{arith}
use borrow.Author.Tests.{lt-ltb, le-ltb, le-leb, lt-leb, ltb-false}
use lib.Dec.{leb, ltb}
use Rattle.base.proofs.Choice.{on_parts, on_mono}
use Rattle.base.specs.Sum.{sum, on}
use Rattle.base.proofs.SumLaws.{sum_ext, sum_mono, sum_none, sum_add, term_le}
use Rattle.base.proofs.Logic.{both, if_less, neither}
use Rattle.promises.proofs.FloorTail.{Facts, Good, GoodFloor, class, before, tail, rises, rises_strictly, before_le, tail_reached, floor_tail}

-- The state of a run: the clock, the slow mark, and the units carried for each job.
pub record State : Type 0 where
  pub t : ℕ
  pub slow : Bool
  pub carried : ℕ → ℕ

-- Job i is in its window at time t.
abbrev pub in_its_window : Facts → ℕ → ℕ → Bool
in_its_window f t i = leb (f.rel i) t && ltb t (f.dl i)

-- The goal of job i in interval l: its size under the slow mark, otherwise its allotments up
-- to and including l but at most its size.
abbrev pub goal : Facts → ℕ → Bool → ℕ → ℕ
goal f l true i = f.size i
goal f l false i = min (f.size i) (before f i (suc l))

-- The claim of job i on a slot in interval l, by the slow mark.
abbrev pub claim : Facts → State → ℕ → Bool → ℕ → ℕ
claim f s l slow i = on (in_its_window f s.t i && (f.hi i || not slow)) (goal f l slow i - s.carried i)

-- A slot in interval l at speed v: the next state, and the grants, which are at most the claims and
-- serve the HI jobs with earlier deadlines first.
pub record Slot (f : Facts) (s s' : State) (l v : ℕ) (g : ℕ → ℕ) : Type 0 where
  pub inside : (l < f.K) × (f.b l ≤ s.t) × (s.t < f.b (suc l))
  pub mark : s'.slow ≡ (s.slow || ltb v (min f.n (sum (claim f s l false) f.N)))
  pub clock : s'.t ≡ suc s.t
  pub adds : (i : ℕ) → i < f.N → s'.carried i ≡ s.carried i + g i
  pub within : (i : ℕ) → i < f.N → g i ≤ claim f s l s'.slow i
  pub first : (D : ℕ) → sum (λ i. on (class f D i) (g i)) f.N ≡ min v (sum (λ i. on (class f D i) (claim f s l s'.slow i)) f.N)
  pub all : sum g f.N ≡ min v (sum (claim f s l s'.slow) f.N)

-- No job has more carried than its size.
abbrev pub NoMore : Facts → State → Type 0
NoMore f s = (i : ℕ) → i < f.N → s.carried i ≤ f.size i

-- The floor guarantee: for every time D, what the HI jobs with deadline at most D still lack
-- is at most the floor's capacity until D.
abbrev pub FloorHolds : Facts → State → Type 0
FloorHolds f s = (D : ℕ) → sum (λ i. on (class f D i) (f.size i - s.carried i)) f.N ≤ f.d * (D - s.t)

-- The plan's pace in interval l: each job has at least its allotments before l, and what it lacks of those
-- up to its end is, over all jobs, at most the normal rate's capacity until then.
pub record OnPace (f : Facts) (s : State) (l : ℕ) : Type 0 where
  pub inside : (l < f.K) × (f.b l ≤ s.t) × (s.t ≤ f.b (suc l))
  pub least : (i : ℕ) → i < f.N → before f i l ≤ s.carried i
  pub rest : sum (λ i. before f i (suc l) - s.carried i) f.N ≤ f.n * (f.b (suc l) - s.t)

-- One slot less costs at most d units of capacity.
one_less : (d D t : ℕ) → d * (D - t) ≤ d * (D - suc t) + d
one_less d D t =
    if_less t D
    (λ h. let e : D - t ≡ suc (D - suc t) = omega arith in omega (arith, ap (λ m. d * m) e))
    (λ h. let e : D - t ≡ 0 = omega arith in omega (arith, ap (λ m. d * m) e))

-- A claim is at most what is left of the size.
claim_left : (f : Facts) (s : State) (l : ℕ) (slow : Bool) (i : ℕ) → claim f s l slow i ≤ f.size i - s.carried i
claim_left f s l slow i = go (in_its_window f s.t i && (f.hi i || not slow)) slow
  where
    go : (a b : Bool) → on a (goal f l b i - s.carried i) ≤ f.size i - s.carried i
    go true true = omega arith
    go true false = omega arith
    go false b = omega arith

-- A slot preserves that no job has more than its size.
pub keeps_no_more : (f : Facts) (s s' : State) (l v : ℕ) (g : ℕ → ℕ) → Slot f s s' l v g → NoMore f s → NoMore f s'
keeps_no_more f s s' l v g slot h i e = rw (slot.adds i e) (omega (arith, slot.within i e, claim_left f s l s'.slow i, h i e))

module _ (f : Facts) (good : Good f) (s s' : State) (l v : ℕ) (g : ℕ → ℕ) (slot : Slot f s s' l v g) where
  -- A job not yet released has no allotments up to and including this interval.
  not_begun : (i : ℕ) → i < f.N → s.t < f.rel i → before f i (suc l) ≡ 0
  not_begun i e m = sum_none (f.x i) (suc l) (λ j h. good.early i j e (omega (arith, slot.inside.0)) (starts_later j h))
    where
      starts_later : (j : ℕ) → j < suc l → f.b j < f.rel i
      starts_later j h = omega (arith, rises f good j l (omega arith) (omega (arith, slot.inside.0)), slot.inside.1)

  -- After its claim, a HI job lacks at most what the plan leaves for later intervals.
  claim_leaves : NoMore f s → FloorHolds f s → (i : ℕ) → i < f.N → f.hi i ≡ true
      → f.size i - s.carried i - claim f s l s'.slow i ≤ tail f (suc l) i
  claim_leaves no_more floor i e h =
      if_less s.t (f.rel i)
      (λ m. omega (arith, not_begun i e m))
      (λ m. if_less s.t (f.dl i)
      (λ o. rw (le-leb (f.rel i) s.t m, lt-ltb s.t (f.dl i) o, h) (served s'.slow))
      (λ o. omega (arith, reached o)))
    where
      served : (slow : Bool) → f.size i - s.carried i - (goal f l slow i - s.carried i) ≤ tail f (suc l) i
      served true = omega (arith, no_more i e)
      served false = omega (arith, before_le f good i (suc l) e slot.inside.0)

      reached : f.dl i ≤ s.t → f.size i - s.carried i ≡ 0
      reached o =
          let term = term_le (λ k. on (class f s.t k) (f.size k - s.carried k)) f.N i e in
          let no_time : s.t - s.t ≡ 0 = omega arith in
          let nothing : f.d * (s.t - s.t) ≡ 0 = ap (λ m. f.d * m) no_time ∙ mul-zero f.d in
          omega (arith, rw (h, le-leb (f.dl i) s.t o) at term, floor s.t)

  -- A slot at the floor or above preserves the floor guarantee, under
  -- either mark and from any run within its sizes.
  pub keeps_floor : GoodFloor f → f.d ≤ v → NoMore f s → FloorHolds f s → FloorHolds f s'
  keeps_floor good-floor floor-speed no_more floor D =
      rw slot.clock
      (omega (arith, given, claimed, slot.first D, floor D, later, one_less f.d D s.t))
    where
      c : ℕ → Bool
      c = class f D

      claims : ℕ → ℕ
      claims = claim f s l s'.slow

      left : ℕ → ℕ
      left i = f.size i - s.carried i

      -- What is left after the slot, and what it gave, add up to what was left before.
      given : sum (λ i. on (c i) (f.size i - s'.carried i)) f.N + sum (λ i. on (c i) (g i)) f.N ≡ sum (λ i. on (c i) (left i)) f.N
      given =
          sym (sum_add _ _ f.N)
          ∙ sum_ext _ _ f.N
          (λ i e. on_parts (c i) (left i) (f.size i - s'.carried i) (g i)
          (rw (slot.adds i e) (omega (arith, slot.within i e, claim_left f s l s'.slow i, no_more i e))))

      -- The same for the claims.
      claimed : sum (λ i. on (c i) (left i - claims i)) f.N + sum (λ i. on (c i) (claims i)) f.N ≡ sum (λ i. on (c i) (left i)) f.N
      claimed =
          sym (sum_add _ _ f.N)
          ∙ sum_ext _ _ f.N (λ i e. on_parts (c i) (left i) (left i - claims i) (claims i) (omega (arith, claim_left f s l s'.slow i)))

      -- What the claims leave is at most the floor's capacity from the next slot on.
      later : sum (λ i. on (c i) (left i - claims i)) f.N ≤ f.d * (D - suc s.t)
      later =
          le_trans
          (sum_mono _ _ f.N (λ i e. on_mono (c i) _ _ (λ q. claim_leaves no_more floor i e (both (f.hi i) (leb (f.dl i) D) q).0)))
          (le_trans (floor_tail f good good-floor (suc l) D slot.inside.0) (mul-le-mul_left f.d sooner))
        where
          sooner : D - f.b (suc l) ≤ D - suc s.t
          sooner = omega (arith, slot.inside.2)

  -- While the mark is clear, every job claims its allotments up to the
  -- end of the interval, less what is carried.
  claim_is_rest : OnPace f s l → s'.slow ≡ false → (i : ℕ) → i < f.N → claim f s l s'.slow i ≡ before f i (suc l) - s.carried i
  unfolding sum
  claim_is_rest pace clear i e =
      rw clear
      (if_less s.t (f.rel i)
      (λ m. rw (lt-leb (f.rel i) s.t m) (omega (arith, not_begun i e m)))
      (λ m. if_less s.t (f.dl i)
      (λ o. rw (le-leb (f.rel i) s.t m, lt-ltb s.t (f.dl i) o, or-true (f.hi i))
      (omega (arith, before_le f good i (suc l) e slot.inside.0)))
      (λ o. rw (le-leb (f.rel i) s.t m, le-ltb s.t (f.dl i) o)
      (omega (arith, good.late i l e slot.inside.0 (omega (arith, slot.inside.2)), pace.least i e)))))

  -- A slot that is not slow preserves the pace: it is at the normal rate, or it carries all that is due.
  pub keeps_pace : OnPace f s l → s'.slow ≡ false → OnPace f s' l
  keeps_pace pace clear =
      record {
        inside = (slot.inside.0, rw slot.clock (omega (arith, slot.inside.1)), rw slot.clock slot.inside.2);
        least = λ i e. rw (slot.adds i e) (omega (arith, pace.least i e));
        rest = rw slot.clock (omega (arith, given, claimed, slot.all, pace.rest, enough, dues, one_less f.n (f.b (suc l)) s.t));
      }
    where
      claimed : sum (claim f s l s'.slow) f.N ≡ sum (λ i. before f i (suc l) - s.carried i) f.N
      claimed = sum_ext _ _ f.N (claim_is_rest pace clear)

      lesser : ℕ
      lesser = min f.n (sum (claim f s l false) f.N)

      enough : lesser ≤ v
      enough = ltb-false v lesser (neither s.slow (ltb v lesser) (sym slot.mark ∙ clear)).1

      dues : sum (claim f s l false) f.N ≡ sum (λ i. before f i (suc l) - s.carried i) f.N
      dues = ap (λ b. sum (claim f s l b) f.N) (sym clear) ∙ claimed

      given : sum (λ i. before f i (suc l) - s'.carried i) f.N + sum g f.N ≡ sum (λ i. before f i (suc l) - s.carried i) f.N
      given =
          sym (sum_add _ _ f.N)
          ∙ sum_ext _ _ f.N
          (λ i e. rw (slot.adds i e) (omega (arith, slot.within i e, claim_is_rest pace clear i e)))

-- A state with the same clock and no less carried keeps the floor guarantee and the pace: less is left to carry.
module _ (f : Facts) (s s' : State) (clock : s'.t ≡ s.t) (more : (i : ℕ) → i < f.N → s.carried i ≤ s'.carried i) where
  pub more_keeps_floor : FloorHolds f s → FloorHolds f s'
  more_keeps_floor floor D =
      rw clock
      (le_trans
      (sum_mono _ _ f.N (λ i h. on_mono (class f D i) (f.size i - s'.carried i) (f.size i - s.carried i) (λ q. omega (arith, more i h))))
      (floor D))

  pub more_keeps_pace : (l : ℕ) → OnPace f s l → OnPace f s' l
  more_keeps_pace l pace =
      record {
        inside = (pace.inside.0, rw clock pace.inside.1, rw clock pace.inside.2);
        least = λ i h. omega (arith, pace.least i h, more i h);
        rest =
            rw clock
            (le_trans
            (sum_mono (λ i. before f i (suc l) - s'.carried i) (λ i. before f i (suc l) - s.carried i) f.N (λ i h. omega (arith, more i h)))
            pace.rest);
      }

-- By the floor guarantee, every HI job whose deadline the clock has reached has its size.
pub floor_reached : (f : Facts) (s : State) → FloorHolds f s → NoMore f s → (i : ℕ) → i < f.N → f.hi i ≡ true → f.dl i ≤ s.t → s.carried i ≡ f.size i
floor_reached f s floor no_more i h is-hi o =
    let no_time : f.dl i - s.t ≡ 0 = omega arith in
    let nothing : f.d * (f.dl i - s.t) ≡ 0 = ap (λ m. f.d * m) no_time ∙ mul-zero f.d in
    let term = term_le (λ k. on (class f (f.dl i) k) (f.size k - s.carried k)) f.N i h in
    omega (arith, rw (is-hi, le-leb (f.dl i) (f.dl i) (omega arith)) at term, floor (f.dl i), no_more i h)

module _ (f : Facts) (good : Good f) (s : State) where
  -- On pace at the end of an interval, every job has at least its allotments up to then.
  all_there : (l : ℕ) → OnPace f s l → s.t ≡ f.b (suc l) → (i : ℕ) → i < f.N → before f i (suc l) ≤ s.carried i
  all_there l pace e i h =
      let no_time : f.b (suc l) - s.t ≡ 0 = omega arith in
      let nothing : f.n * (f.b (suc l) - s.t) ≡ 0 = ap (λ m. f.n * m) no_time ∙ mul-zero f.n in
      omega (arith, pace.rest, term_le (λ k. before f k (suc l) - s.carried k) f.N i h)

  -- The pace then continues in the next interval.
  advance : (l : ℕ) → OnPace f s l → s.t ≡ f.b (suc l) → suc l < f.K → OnPace f s (suc l)
  unfolding sum
  advance l pace e more =
      record {
        inside = (more, omega arith, omega (arith, good.rise (suc l) more));
        least = λ i h. omega (arith, all_there l pace e i h);
        rest =
            rw e
            (le_trans
            (sum_mono (λ i. before f i (suc (suc l)) - s.carried i) (λ i. f.x i (suc l)) f.N (λ i h. omega (arith, all_there l pace e i h)))
            (good.within (suc l) more));
      }

  -- A run on pace in some interval is on pace in the interval of its clock.
  pub on_pace_here : (l here : ℕ) → OnPace f s l → here < f.K → f.b here ≤ s.t → s.t < f.b (suc here) → OnPace f s here
  on_pace_here l here pace k from to =
      if_less s.t (f.b (suc l))
      (λ m. let is : here ≡ l = omega (arith, not_below m, not_above m) in rw is pace)
      (λ m. let at : s.t ≡ f.b (suc l) = omega (arith, pace.inside.2) in
      let is : here ≡ suc l = omega (arith, above at, not_far at) in
      rw is (advance l pace at (omega (arith, above at))))
    where
      not_below : s.t < f.b (suc l) → l ≤ here
      not_below m =
          if_less here l
          (λ o. absurd (omega (arith, rises f good (suc here) l o (omega (arith, pace.inside.0)), pace.inside.1)))
          (λ o. o)

      not_above : s.t < f.b (suc l) → here ≤ l
      not_above m = if_less l here (λ o. absurd (omega (arith, rises f good (suc l) here o (omega arith)))) (λ o. o)

      above : s.t ≡ f.b (suc l) → suc l ≤ here
      above at =
          if_less here (suc l)
          (λ o. absurd (omega (arith, rises f good (suc here) (suc l) o pace.inside.0)))
          (λ o. o)

      not_far : s.t ≡ f.b (suc l) → here ≤ suc l
      not_far at = if_less (suc l) here (λ o. absurd (omega (arith, rises_strictly f good (suc l) here o (omega arith)))) (λ o. o)

  -- On pace, every job whose deadline the clock has reached has its size.
  pub on_pace_reached : (l : ℕ) → OnPace f s l → NoMore f s → (i : ℕ) → i < f.N → f.dl i ≤ s.t → s.carried i ≡ f.size i
  on_pace_reached l pace no_more i h o =
      if_less l (good.ends i h).0
      (λ m.
      let late : f.b (suc l) ≤ f.dl i = omega (arith, rises f good (suc l) (good.ends i h).0 m (good.ends i h).1, (good.ends i h).2) in
      let at : s.t ≡ f.b (suc l) = omega (arith, pace.inside.2) in
      omega (arith, all_there l pace at i h, tail_reached f good i (suc l) h pace.inside.0 (omega arith), no_more i h))
      (λ m.
      let early : f.dl i ≤ f.b l
      = omega (arith, rises f good (good.ends i h).0 l m (omega (arith, pace.inside.0)), (good.ends i h).2) in
      omega (arith, pace.least i h, tail_reached f good i l h (omega (arith, pace.inside.0)) early, no_more i h))

  -- A run begins with the floor guarantee, and on pace.
  pub begins_with_floor : GoodFloor f → s.t ≡ f.b 0 → ((i : ℕ) → i < f.N → s.carried i ≡ 0) → FloorHolds f s
  unfolding sum
  begins_with_floor good-floor at none D =
      rw (
        at,
        sum_ext (λ i. on (class f D i) (f.size i - s.carried i)) (λ i. on (class f D i) (tail f 0 i)) f.N
            (λ i h. ap (λ c. on (class f D i) (f.size i - c)) (none i h)),
      )
      (floor_tail f good good-floor 0 D (omega arith))

  pub begins_on_pace : s.t ≡ f.b 0 → ((i : ℕ) → i < f.N → s.carried i ≡ 0) → 0 < f.K → OnPace f s 0
  unfolding sum
  begins_on_pace at none k =
      record {
        inside = (k, omega arith, omega (arith, good.rise 0 k));
        least = λ i h. omega arith;
        rest =
            rw (at, sum_ext (λ i. before f i 1 - s.carried i) (λ i. f.x i 0) f.N (λ i h. omega (arith, none i h)))
            (good.within 0 k);
      }
