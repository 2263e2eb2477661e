-- What the rules and the soundness of a plan in hand say, part by part.
use mathlib.Core.Path.{◌≡◌}
use mathlib.Core.Bool.{true, ◌&&◌}
use mathlib.Core.List.{List}
use Prim.Native.Nat.{ℕ, zero, suc, ◌≤◌, ◌<◌}
use native.Mathlib.Omega.{arith}
use borrow.Author.Tests.{leb-true, ltb-true}
use lib.Dec.{leb, ltb}
use lib.ListN.{take}
use Rattle.base.specs.Below.{greatest}
use Rattle.base.proofs.Logic.{both}
use Rattle.base.proofs.Below.{every_at}
use Rattle.plan.specs.Edition.{most_jobs, most_intervals, most_rate, most_deadline, most_size, places}
use Rattle.plan.specs.Rules.{jobs_of, counted, release, size, deadline, window_allowed, size_allowed, rates_hold, count_holds, names_hold, names_differ, grades_hold, bounds_hold, jobs_hold, rules_hold}
use Rattle.plan.specs.Boundaries.{intervals, last_deadline}
use Rattle.plan.specs.Table.{sound, no_stray}
use Rattle.plan.specs.declared.kinds.Plan.{Plan}
use Rattle.plan.proofs.BoundaryOrder.{boundaries_few}

-- Rules 4 to 9, one by one.
pub record Rules (p : Plan) : Type 0 where
  pub rates : rates_hold p ≡ true
  pub count : count_holds (jobs_of p) ≡ true
  pub named : names_hold (jobs_of p) ≡ true
  pub differ : names_differ (jobs_of p) ≡ true
  pub grades : grades_hold (jobs_of p) ≡ true
  pub bounds : bounds_hold (jobs_of p) ≡ true

pub rules_parts : (p : Plan) → rules_hold p ≡ true → Rules p
unfolding rules_hold
rules_parts p e =
    let l = jobs_of p in
    let s₀ = both (rates_hold p) (jobs_hold l) e in
    let s₁ = both (count_holds l && names_hold l && names_differ l && grades_hold l) (bounds_hold l) s₀.1 in
    let s₂ = both (count_holds l && names_hold l && names_differ l) (grades_hold l) s₁.0 in
    let s₃ = both (count_holds l && names_hold l) (names_differ l) s₂.0 in
    let s₄ = both (count_holds l) (names_hold l) s₃.0 in
    record { rates = s₀.0; count = s₄.0; named = s₄.1; differ = s₃.1; grades = s₂.1; bounds = s₁.1 }

-- A sound plan meets the rules, and its table has no stray units.
pub record Sound (p : Plan) (table : List ℕ) : Type 0 where
  pub rules : rules_hold p ≡ true
  pub clear : no_stray most_intervals (counted p) (intervals p) 0 (take places table) ≡ true

pub sound_parts : (p : Plan) (table : List ℕ) → sound p table ≡ true → Sound p table
unfolding sound
sound_parts p table e =
    let s = both (rules_hold p) (no_stray most_intervals (counted p) (intervals p) 0 (take places table)) e in
    record { rules = s.0; clear = s.1 }

-- Rule 9 for one job.
pub job_bounds : (p : Plan) → bounds_hold (jobs_of p) ≡ true → (i : ℕ) → i < counted p
    → (window_allowed (release p i) (deadline p i) && size_allowed (size p i)) ≡ true
unfolding bounds_hold
job_bounds p e i h = every_at (λ k. window_allowed (release p k) (deadline p k) && size_allowed (size p k)) (counted p) i e h

-- The greatest of some numbers is at most any bound of all of them.
greatest_bound : (f : ℕ → ℕ) (b n : ℕ) → ((k : ℕ) → k < n → f k ≤ b) → greatest f n ≤ b
unfolding greatest
greatest_bound f b zero h = omega arith
greatest_bound f b (suc n) h = omega (arith, greatest_bound f b n (λ k l. h k (omega arith)), h n (omega arith))

-- Rules 4, 5 and 9 as facts about numbers.
pub record Bounded (p : Plan) : Type 0 where
  pub rates : p.d.0 < p.n.0
  pub rate : p.n.0 ≤ most_rate
  pub some : 0 < counted p
  pub few : p.count ≤ most_jobs
  pub count : counted p ≡ p.count
  pub windows : (i : ℕ) → i < counted p → release p i < deadline p i
  pub deadlines : (i : ℕ) → i < counted p → deadline p i ≤ most_deadline
  pub sizes : (i : ℕ) → i < counted p → size p i ≤ most_size
  pub spans : intervals p ≤ most_intervals
  pub last : last_deadline p ≤ most_deadline

pub bounded : (p : Plan) → rates_hold p ≡ true → count_holds (jobs_of p) ≡ true → bounds_hold (jobs_of p) ≡ true → Bounded p
bounded p r c b =
    let speeds = both (leb 1 p.d.0 && ltb p.d.0 p.n.0) (leb p.n.0 most_rate) r in
    let number = both (leb 1 p.count) (leb p.count most_jobs) c in
    let one = leb-true 1 p.count number.0 in
    let most = leb-true p.count most_jobs number.1 in
    let job : (i : ℕ) → i < counted p → (window_allowed (release p i) (deadline p i) ≡ true) × (size_allowed (size p i) ≡ true)
    = λ i h. both (window_allowed (release p i) (deadline p i)) (size_allowed (size p i)) (job_bounds p b i h) in
    let window : (i : ℕ) → i < counted p → (ltb (release p i) (deadline p i) ≡ true) × (leb (deadline p i) most_deadline ≡ true)
    = λ i h. both (ltb (release p i) (deadline p i)) (leb (deadline p i) most_deadline) (job i h).0 in
    let deadlines : (i : ℕ) → i < counted p → deadline p i ≤ most_deadline
    = λ i h. leb-true (deadline p i) most_deadline (window i h).1 in
    record {
      rates = ltb-true p.d.0 p.n.0 (both (leb 1 p.d.0) (ltb p.d.0 p.n.0) speeds.0).1;
      rate = leb-true p.n.0 most_rate speeds.1;
      some = omega arith;
      few = most;
      count = omega arith;
      windows = λ i h. ltb-true (release p i) (deadline p i) (window i h).0;
      deadlines = deadlines;
      sizes = λ i h. leb-true (size p i) most_size (both (leb 1 (size p i)) (leb (size p i) most_size) (job i h).1).1;
      spans = omega (arith, boundaries_few p (counted p));
      last = greatest_bound (deadline p) most_deadline (counted p) deadlines;
    }

pub rules_bounded : (p : Plan) → rules_hold p ≡ true → Bounded p
rules_bounded p e = let r = rules_parts p e in bounded p r.rates r.count r.bounds

pub sound_bounded : (p : Plan) (table : List ℕ) → sound p table ≡ true → Bounded p
sound_bounded p table e = rules_bounded p (sound_parts p table e).rules
