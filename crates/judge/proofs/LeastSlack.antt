-- The least slack, defined independently of the order of visiting: by lower slack, then lower
-- interval, then earlier deadline; and how one more pair updates it.
use mathlib.Core.Path.{◌≡◌, refl, sym, ◌∙◌, ap, ap₂, subst}
use mathlib.Core.Bool.{Bool, true, false, cond, ◌&&◌, ◌||◌, true≢false}
use mathlib.Core.List.{List}
use mathlib.Core.Logic.{◌⊎◌, inl, inr, ⊎_elim}
use Prim.Native.Nat.{ℕ, zero, suc, ◌≤◌, ◌<◌}
use native.Mathlib.Omega.{arith}
use borrow.Author.Tests.{ltb-true, ltb-false}
use lib.Dec.{ltb}
use lib.IntN.{ℤ}
use lib.Signed.{lt_z, le_z}
use Rattle.plan.specs.Boundaries.{boundary, intervals}
use Rattle.plan.specs.declared.kinds.Plan.{Plan}
use Rattle.base.proofs.Logic.{both, below-or-last}
use Rattle.judge.specs.Verdict.{is_hi_deadline, is_pair}
use Rattle.judge.specs.Slack.{Figure, none_essential, least, refused, slack_of, lesser, taken, through, least_slack}
use Rattle.judge.specs.Inner.Columns.{sooner}
use Rattle.judge.proofs.Signed.{not_below_self, at_most_self, below_not, at_most_not, not_below_two, same_both}
use Rattle.judge.proofs.HiDeadlinesSuffice.{boundary_less}
use Rattle.judge.specs.Slack.{Covered, LeastAmong, NoLater, Reached}

no_later_self : (s : ℤ) (i D : ℕ) → NoLater s i D s i D
no_later_self s i D = record { slack = not_below_self s; interval = λ e. omega arith; deadline = λ e q. omega arith }

no_later_two : (s t u : ℤ) (i l j D E F : ℕ) → NoLater s i D t l E → NoLater t l E u j F → NoLater s i D u j F
no_later_two s t u i l j D E F a b =
    record {
      slack = not_below_two s t u a.slack b.slack;
      interval = λ e. omega (arith, a.interval (first e), b.interval (sym (first e) ∙ e));
      deadline = λ e q. later e q (a.interval (first e)) (b.interval (sym (first e) ∙ e));
    }
  where
    first : s ≡ u → s ≡ t
    first e = same_both s t (subst (λ x. lt_z x t ≡ false) (sym e) b.slack) a.slack

    later : s ≡ u → i ≡ j → i ≤ l → l ≤ j → D ≤ F
    later e q x y =
        let same : i ≡ l = omega arith in
        let then : l ≡ j = omega arith in
        omega (arith, a.deadline (first e) same, b.deadline (sym (first e) ∙ e) then)

-- A strictly lower slack comes first in this order, whatever its
-- interval; and the order is antisymmetric.
lower_first : (s t : ℤ) (i l D E : ℕ) → lt_z s t ≡ true → NoLater s i D t l E
lower_first s t i l D E h =
    record { slack = below_not s t h; interval = λ e. absurd (differ e); deadline = λ e q. absurd (differ e) }
  where
    differ : s ≡ t → ⊥
    differ e = true≢false (sym h ∙ ap (λ x. lt_z x t) e ∙ not_below_self t)

no_later_both : (s t : ℤ) (i l D E : ℕ) → NoLater s i D t l E → NoLater t l E s i D → least s i D ≡ least t l E
no_later_both s t i l D E a b =
    let slack : s ≡ t = same_both s t b.slack a.slack in
    let interval : i ≡ l = omega (arith, a.interval slack, b.interval (sym slack)) in
    let deadline : D ≡ E = omega (arith, a.deadline slack interval, b.deadline (sym slack) (sym interval)) in
    cc

-- Of no pairs it is `none_essential`; equivalent sets of pairs have the same.
pub among_none : (p : Plan) (table : List ℕ) (In : ℕ → ℕ → Type 0) → ((l k : ℕ) → In l k → ⊥) → LeastAmong p table In none_essential
among_none p table In none = record { covers = none; reached = tt }

pub among_same : (p : Plan) (table : List ℕ) (In Out : ℕ → ℕ → Type 0) (f : Figure) → ((l k : ℕ) → In l k → Out l k)
    → ((l k : ℕ) → Out l k → In l k) → LeastAmong p table In f → LeastAmong p table Out f
among_same p table In Out f into from so =
    record { covers = λ l k h. so.covers l k (from l k h); reached = go f so.reached }
  where
    go : (f : Figure) → Reached p table In f → Reached p table Out f
    go none_essential h = tt
    go (least s i D) h = (h.0, into i h.0 h.1, h.2, h.3)
    go (refused report) h = absurd h

-- It is unique.
pub among_one : (p : Plan) (table : List ℕ) (In : ℕ → ℕ → Type 0) (f g : Figure) → LeastAmong p table In f → LeastAmong p table In g → f ≡ g
among_one p table In f g a b = go f g a.covers a.reached b.covers b.reached
  where
    go : (f g : Figure) → ((l k : ℕ) → In l k → Covered p table f l k) → Reached p table In f
        → ((l k : ℕ) → In l k → Covered p table g l k) → Reached p table In g → f ≡ g
    go none_essential none_essential a x b y = refl
    go none_essential (least t l E) a x b y = absurd (a l y.0 y.1)
    go (least s i D) none_essential a x b y = absurd (b i x.0 x.1)
    go (least s i D) (least t l E) a x b y =
        no_later_both s t i l D E
        (rw (y.2, y.3) (a l y.0 y.1))
        (rw (x.2, x.3) (b i x.0 x.1))
    go none_essential (refused report) a x b y = absurd y
    go (least s i D) (refused report) a x b y = absurd y
    go (refused report) g a x b y = absurd x

-- One more pair: interval l and boundary k.
module _ (p : Plan) (table : List ℕ) (In Out : ℕ → ℕ → Type 0) (l k : ℕ)
    (into : (i j : ℕ) → In i j → Out i j) (here : Out l k)
    (from : (i j : ℕ) → Out i j → In i j ⊎ ((i ≡ l) × (j ≡ k))) where
  -- If there was no pair before, it is the least.
  among_first : LeastAmong p table In none_essential → LeastAmong p table Out (least (slack_of p table l (boundary p k)) l (boundary p k))
  among_first so =
      record { covers = λ i j h. go i j (from i j h); reached = (k, here, refl, refl) }
    where
      go : (i j : ℕ) → In i j ⊎ ((i ≡ l) × (j ≡ k))
          → NoLater (slack_of p table l (boundary p k)) l (boundary p k) (slack_of p table i (boundary p j)) i (boundary p j)
      go i j (inl h) = absurd (so.covers i j h)
      go i j (inr e) = rw (e.0, e.1) (no_later_self (slack_of p table l (boundary p k)) l (boundary p k))

  -- It replaces the least so far by a test that implies, when true, that it is no later,
  -- and, when false, that the other is no later.
  among_tested : (s : ℤ) (i D : ℕ) (test : Bool)
      → (test ≡ true → NoLater (slack_of p table l (boundary p k)) l (boundary p k) s i D)
      → (test ≡ false → NoLater s i D (slack_of p table l (boundary p k)) l (boundary p k))
      → LeastAmong p table In (least s i D)
      → LeastAmong p table Out (cond test (least (slack_of p table l (boundary p k)) l (boundary p k)) (least s i D))
  among_tested s i D true new old so =
      record { covers = λ a b h. go a b (from a b h); reached = (k, here, refl, refl) }
    where
      go : (a b : ℕ) → In a b ⊎ ((a ≡ l) × (b ≡ k))
          → NoLater (slack_of p table l (boundary p k)) l (boundary p k) (slack_of p table a (boundary p b)) a (boundary p b)
      go a b (inl h) = no_later_two _ s _ l i a _ D _ (new refl) (so.covers a b h)
      go a b (inr e) = rw (e.0, e.1) (no_later_self (slack_of p table l (boundary p k)) l (boundary p k))
  among_tested s i D false new old so =
      let r = so.reached in
      record { covers = λ a b h. go a b (from a b h); reached = (r.0, into i r.0 r.1, r.2, r.3) }
    where
      go : (a b : ℕ) → In a b ⊎ ((a ≡ l) × (b ≡ k)) → NoLater s i D (slack_of p table a (boundary p b)) a (boundary p b)
      go a b (inl h) = so.covers a b h
      go a b (inr e) = rw (e.0, e.1) (old refl)

  -- `lesser` updates the least if each pair so far has a lower interval, or
  -- the same interval and a deadline no later.
  pub lesser_among : (f : Figure) → ((i j : ℕ) → In i j → (i ≤ l) × (i ≡ l → boundary p j ≤ boundary p k)) → LeastAmong p table In f
      → LeastAmong p table Out (lesser f (slack_of p table l (boundary p k)) l (boundary p k))
  lesser_among none_essential before so = among_first so
  lesser_among (refused report) before so = absurd so.reached
  lesser_among (least s i D) before so =
      let t = slack_of p table l (boundary p k) in
      let r = so.reached in
      let early = before i r.0 r.1 in
      among_tested s i D (lt_z t s)
      (λ h. lower_first t s l i (boundary p k) D h)
      (λ h. record { slack = h; interval = λ e. early.0; deadline = λ e q. omega (arith, r.3, early.1 q) })
      so

  -- `sooner` updates the least if each pair so far has a deadline no later.
  pub sooner_among : (f : Figure) → ((i j : ℕ) → In i j → boundary p j ≤ boundary p k) → LeastAmong p table In f
      → LeastAmong p table Out (sooner f (slack_of p table l (boundary p k)) l (boundary p k))
  sooner_among none_essential before so = among_first so
  sooner_among (refused report) before so = absurd so.reached
  sooner_among (least s i D) before so =
      let t = slack_of p table l (boundary p k) in
      let r = so.reached in
      among_tested s i D (lt_z t s || le_z t s && ltb l i) (new t (lt_z t s) refl (le_z t s) refl) (old t (lt_z t s) refl (omega (arith, r.3, before i r.0 r.1))) so
    where
      new : (t : ℤ) (a : Bool) → lt_z t s ≡ a → (b : Bool) → le_z t s ≡ b → (a || b && ltb l i) ≡ true → NoLater t l (boundary p k) s i D
      new t true x b y h = lower_first t s l i (boundary p k) D x
      new t false x true y h =
          let less : l < i = ltb-true l i h in
          record { slack = at_most_not t s y; interval = λ e. omega arith; deadline = λ e q. absurd (omega arith) }
      new t false x false y h = absurd (true≢false (sym h))

      old : (t : ℤ) (a : Bool) → lt_z t s ≡ a → D ≤ boundary p k → (a || le_z t s && ltb l i) ≡ false → NoLater s i D t l (boundary p k)
      old t true x d h = absurd (true≢false h)
      old t false x d h =
          record {
            slack = x;
            interval = λ e. ltb-false l i (sym (ap (λ b. b && ltb l i) (ap (λ z. le_z z s) (sym e) ∙ at_most_self s)) ∙ h);
            deadline = λ e q. d;
          }

-- All pairs of the floor rule; and the pairs of the first l intervals, with those
-- of interval l and the first m boundaries.
abbrev pub Pairs : Plan → ℕ → ℕ → Type 0
Pairs p i k = (is_pair p i k ≡ true) × (k ≤ intervals p)

abbrev Rows : Plan → ℕ → ℕ → ℕ → ℕ → Type 0
Rows p l m i k = (is_pair p i k ≡ true) × (k ≤ intervals p) × ((i < l) ⊎ ((i ≡ l) × (k < m)))

module _ (p : Plan) (table : List ℕ) where
  -- Visiting one boundary of an interval, then m boundaries of it, then all of the first n intervals.
  row_next : (l m : ℕ) (f : Figure) → m ≤ intervals p → LeastAmong p table (Rows p l m) f → LeastAmong p table (Rows p l (suc m)) (taken p table l m f)
  row_next l m f h so = go (is_pair p l m) refl
    where
      into : (i k : ℕ) → Rows p l m i k → Rows p l (suc m) i k
      into i k (e, b, inl q) = (e, b, inl q)
      into i k (e, b, inr q) = (e, b, inr (q.0, omega (arith, q.1)))

      from : (i k : ℕ) → Rows p l (suc m) i k → Rows p l m i k ⊎ ((i ≡ l) × (k ≡ m))
      from i k (e, b, inl q) = inl (e, b, inl q)
      from i k (e, b, inr q) = below-or-last k m q.1 (λ c. inl (e, b, inr (q.0, c))) (λ c. inr (q.0, c))

      before : (i k : ℕ) → Rows p l m i k → (i ≤ l) × (i ≡ l → boundary p k ≤ boundary p m)
      before i k (e, b, inl q) = (omega arith, λ c. absurd (omega arith))
      before i k (e, b, inr q) = (omega (arith, q.0), λ c. omega (arith, boundary_less p k m q.1 h))

      go : (t : Bool) → is_pair p l m ≡ t
          → LeastAmong p table (Rows p l (suc m)) (cond t (lesser f (slack_of p table l (boundary p m)) l (boundary p m)) f)
      go true e = lesser_among p table (Rows p l m) (Rows p l (suc m)) l m into (e, h, inr (refl, omega arith)) from f before so
      go false e =
          among_same p table (Rows p l m) (Rows p l (suc m)) f into
          (λ i k q. ⊎_elim (λ c. c) (λ (c : (i ≡ l) × (k ≡ m)). absurd (true≢false (sym q.0 ∙ ap₂ (is_pair p) c.0 c.1 ∙ e))) (from i k q))
          so

  row_whole : (l m : ℕ) (f : Figure) → m ≤ suc (intervals p) → LeastAmong p table (Rows p l 0) f
      → LeastAmong p table (Rows p l m) (through (taken p table l) m f)
  unfolding through
  row_whole l zero f h so = so
  row_whole l (suc m) f h so = row_next l m _ (omega arith) (row_whole l m f (omega arith) so)

  rows_whole : (n : ℕ) → LeastAmong p table (Rows p n 0) (through (λ l. through (taken p table l) (suc (intervals p))) n none_essential)
  unfolding through
  rows_whole zero = among_none p table (Rows p 0 0) none
    where
      none : (l k : ℕ) → Rows p 0 0 l k → ⊥
      none l k (e, b, inl q) = omega arith
      none l k (e, b, inr q) = omega (arith, q.1)
  rows_whole (suc n) =
      among_same p table (Rows p n (suc (intervals p))) (Rows p (suc n) 0) _ into from
      (row_whole n (suc (intervals p)) _ (omega arith) (rows_whole n))
    where
      into : (i k : ℕ) → Rows p n (suc (intervals p)) i k → Rows p (suc n) 0 i k
      into i k (e, b, inl q) = (e, b, inl (omega arith))
      into i k (e, b, inr q) = (e, b, inl (omega (arith, q.0)))

      from : (i k : ℕ) → Rows p (suc n) 0 i k → Rows p n (suc (intervals p)) i k
      from i k (e, b, inl q) = below-or-last i n q (λ c. (e, b, inl c)) (λ c. (e, b, inr (c, omega arith)))
      from i k (e, b, inr q) = absurd (omega (arith, q.1))

  -- `least_slack` is the least slack of all pairs, with the first pair that has it.
  pub first_of_all : LeastAmong p table (Pairs p) (least_slack p table)
  unfolding least_slack
  first_of_all =
      among_same p table (Rows p (intervals p) 0) (Pairs p) _ (λ i k h. (h.0, h.1))
      (λ i k h. (h.0, h.1, inl (omega (arith, ltb-true i k (both (ltb i k) (is_hi_deadline p (boundary p k)) h.0).0))))
      (rows_whole (intervals p))
