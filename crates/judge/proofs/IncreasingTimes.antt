-- Laws of strictly increasing times: their order, and how many of them are at or before a time.
use mathlib.Core.Path.{◌≡◌, sym, ◌∙◌, ap}
use mathlib.Core.List.{List, ◌∷◌}
use Prim.Native.Nat.{ℕ, zero, suc, ◌+◌, ◌<◌}
use native.Mathlib.Decide.{dec_lt}
use native.Mathlib.Omega.{arith}
use borrow.Author.Tests.{lt-ltb, le-ltb, le-leb, lt-leb}
use lib.Dec.{leb, ltb, leb-suc-suc}
use lib.ListN.{length, get_or}
use Rattle.base.specs.Sum.{on}
use Rattle.plan.specs.Boundaries.{Rising, come}
use Rattle.plan.proofs.PresentInterval.{rising_all, come_none}

-- An earlier index has a lesser time.
pub rising_less : (low j k : ℕ) (l : List ℕ) → Rising low l → j < k → k < length l → get_or l j 0 < get_or l k 0
rising_less low zero (suc k) (x ∷ l) r h e = rising_all (suc x) k l r.1 (omega arith)
rising_less low (suc j) (suc k) (x ∷ l) r h e = rising_less (suc x) j k l r.1 (omega arith) (omega arith)
rising_less low zero zero l r h e = elim h [ ]
rising_less low zero (suc k) mathlib.Core.List.[] r h e = elim e [ ]
rising_less low (suc j) zero l r h e = elim h [ ]
rising_less low (suc j) (suc k) mathlib.Core.List.[] r h e = elim e [ ]

-- Time j + 1 is at most time m exactly if j < m.
pub ends_by : (low j m : ℕ) (l : List ℕ) → Rising low l → suc j < length l → m < length l
    → leb (get_or l (suc j) 0) (get_or l m 0) ≡ ltb j m
ends_by low j m l r h e = go (dec_lt j m) (dec_lt (suc j) m)
  where
    go : Dec (j < m) → Dec (suc j < m) → leb (get_or l (suc j) 0) (get_or l m 0) ≡ ltb j m
    go (no p) d = lt-leb _ _ (rising_less low m (suc j) l r (omega arith) h) ∙ sym (le-ltb j m (omega arith))
    go (yes p) (yes q) = le-leb (get_or l (suc j) 0) (get_or l m 0) (omega (arith, rising_less low (suc j) m l r q e)) ∙ sym (lt-ltb j m p)
    go (yes p) (no q) =
        let same : suc j ≡ m = omega arith in
        le-leb (get_or l (suc j) 0) (get_or l m 0) (omega (arith, ap (λ k. get_or l k 0) same)) ∙ sym (lt-ltb j m p)

-- Of strictly increasing times, time k is at or before t
-- exactly if k is below the number of such times.
pub come_first : (t low k : ℕ) (l : List ℕ) → Rising low l → k < length l → leb (get_or l k 0) t ≡ ltb k (come t l)
unfolding come
come_first t low k (x ∷ l) r h = go k h (dec_lt t x) (λ j b. come_first t (suc x) j l r.1 b)
  where
    go : (k : ℕ) → k < suc (length l) → Dec (t < x) → ((j : ℕ) → j < length l → leb (get_or l j 0) t ≡ ltb j (come t l))
        → leb (get_or (x ∷ l) k 0) t ≡ ltb k (on (leb x t) 1 + come t l)
    go k b (yes p) rest =
        let above : t < get_or (x ∷ l) k 0 = omega (arith, rising_all x k (x ∷ l) (omega arith, r.1) b) in
        let none : on (leb x t) 1 + come t l ≡ 0 = rw (lt-leb x t p) (omega (arith, come_none t (suc x) l r.1 (omega arith))) in
        lt-leb (get_or (x ∷ l) k 0) t above ∙ sym (ap (ltb k) none ∙ le-ltb k 0 (omega arith))
    go zero b (no p) rest =
        let some : on (leb x t) 1 + come t l ≡ suc (come t l) = rw (le-leb x t (omega arith)) (omega arith) in
        le-leb x t (omega arith) ∙ sym (ap (ltb 0) some ∙ lt-ltb 0 (suc (come t l)) (omega arith))
    go (suc k) b (no p) rest =
        let some : on (leb x t) 1 + come t l ≡ suc (come t l) = rw (le-leb x t (omega arith)) (omega arith) in
        rest k (omega arith) ∙ sym (ap (ltb (suc k)) some ∙ leb-suc-suc (suc k) (come t l))
come_first t low k mathlib.Core.List.[] r h = elim h [ ]
