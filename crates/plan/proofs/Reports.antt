-- Laws of reports: what a first report implies for the tests before it.
use mathlib.Core.Path.{◌≡◌, refl, sym, ◌∙◌, ap, ap₂}
use mathlib.Core.Bool.{Bool, true, false, not, ◌&&◌, true≢false, false≢true}
use mathlib.Core.List.{[], ◌∷◌}
use Prim.Native.Nat.{ℕ, zero, suc, ◌+◌, ◌<◌}
use native.Mathlib.Numerals.{add-one}
use native.Mathlib.Omega.{arith}
use borrow.Author.Tests.{not-true, not-false}
use Rattle.base.proofs.Logic.{below-or-last}
use Rattle.base.specs.Below.{every}
use Rattle.base.proofs.Below.{every_next, every_ext}
use Rattle.plan.specs.Report.{Report, or_else, fault, is_none, first}

-- A report is empty exactly if `is_none` holds.
pub none_empty : (a : Report) → is_none a ≡ true → a ≡ []
none_empty [] h = refl
none_empty (number ∷ places) h = absurd (false≢true h)

pub empty_none : (a : Report) → a ≡ [] → is_none a ≡ true
empty_none a h = ap is_none h

-- Laws of `or_else`: it is the first report if nonempty, the second if the first is empty; if it is
-- empty, so is the first; and it is associative.
pub or_some : (a b : Report) → is_none a ≡ false → or_else a b ≡ a
or_some [] b h = absurd (true≢false h)
or_some (number ∷ places) b h = refl

pub or_none : (a b : Report) → a ≡ [] → or_else a b ≡ b
or_none a b h = ap (λ r. or_else r b) h

pub or_empty : (a b : Report) → or_else a b ≡ [] → a ≡ []
or_empty [] b h = refl
or_empty (number ∷ places) b h = h

pub or_assoc : (a b c : Report) → or_else (or_else a b) c ≡ or_else a (or_else b c)
or_assoc [] b c = refl
or_assoc (number ∷ places) b c = refl

-- A report as code tests it: a nonempty one is the answer, an empty one passes to the next; and
-- `or_else` is empty exactly if both reports are.
pub stops : (v a b : Report) (t : Bool) → v ≡ a → t ≡ is_none v → not t ≡ true → v ≡ or_else a b
stops v a b t e n h = e ∙ sym (or_some a b (ap is_none (sym e) ∙ sym n ∙ not-true t h))

pub passes : (v a : Report) (t : Bool) → v ≡ a → t ≡ is_none v → not t ≡ false → a ≡ []
passes v a t e n h = sym e ∙ none_empty v (sym n ∙ not-false t h)

pub none_or : (a b : Report) → is_none (or_else a b) ≡ (is_none a && is_none b)
none_or [] b = refl
none_or (number ∷ places) b = refl

-- The report of a fault is empty exactly if the fault is absent.
pub none_fault : (t : Bool) (number : ℕ) (places : Report) → is_none (fault (not t) (number ∷ places)) ≡ t
none_fault true number places = refl
none_fault false number places = refl

pub none_plain : (t : Bool) (number : ℕ) (places : Report) → is_none (fault t (number ∷ places)) ≡ not t
none_plain true number places = refl
none_plain false number places = refl

pub fault_none : (t : Bool) (number : ℕ) (places : Report) → is_none (fault t (number ∷ places)) ≡ true → t ≡ false
fault_none true number places h = sym h
fault_none false number places h = refl

-- The loop's start and step: a search of no numbers is empty, and so is one of
-- k + 1 if those of the first k and of k are.
pub first_start : (f : ℕ → Report) → first f 0 ≡ []
unfolding first
first_start f = refl

pub first_next : (f : ℕ → Report) (k : ℕ) → first f k ≡ [] → f k ≡ [] → first f (k + 1) ≡ []
unfolding first
first_next f k h e = rw (add-one, h, e) refl

-- A first report is empty exactly if every report below n is.
pub none_first : (f : ℕ → Report) (n : ℕ) → is_none (first f n) ≡ every (λ k. is_none (f k)) n
unfolding first every
none_first f zero = refl
none_first f (suc n) = none_or (first f n) (f n) ∙ ap (λ b. b && is_none (f n)) (none_first f n)

-- A first report of faults is empty exactly if every test holds.
pub none_faults : (test : ℕ → Bool) (number : ℕ) (places : ℕ → Report) (n : ℕ)
    → is_none (first (λ k. fault (not (test k)) (number ∷ places k)) n) ≡ every test n
none_faults test number places n =
    none_first (λ k. fault (not (test k)) (number ∷ places k)) n
    ∙ every_ext _ _ n (λ k l. none_fault (test k) number (places k))

pub faults_none : (test : ℕ → Bool) (number : ℕ) (places : ℕ → Report) (n : ℕ) → every test n ≡ true
    → first (λ k. fault (not (test k)) (number ∷ places k)) n ≡ []
faults_none test number places n h = none_empty _ (none_faults test number places n ∙ h)

-- A test that holds everywhere below n but not everywhere below n + 1 fails at n.
pub last_fails : (test : ℕ → Bool) (n : ℕ) → every test n ≡ true → every test (n + 1) ≡ false → test n ≡ false
last_fails test n h e = sym (ap (λ b. b && test n) h) ∙ every_next test n refl refl ∙ e

-- The first report is that of the first number with a nonempty report.
pub first_found : (f : ℕ → Report) (k n : ℕ) → first f k ≡ [] → k < n → is_none (f k) ≡ false → first f n ≡ f k
unfolding first
first_found f k (suc n) h l e =
    below-or-last k n l
    (λ m. or_some (first f n) (f n) (ap is_none (first_found f k n h m e) ∙ e) ∙ first_found f k n h m e)
    (λ q. ap (λ m. or_else (first f m) (f m)) (sym q) ∙ or_none (first f k) (f k) h)
first_found f k zero h l e = elim l [ ]

pub found_here : (f : ℕ → Report) (k n number : ℕ) (places : Report) → first f k ≡ [] → k < n → f k ≡ number ∷ places
    → number ∷ places ≡ first f n
found_here f k n number places h l e = sym (first_found f k n h l (ap is_none e) ∙ e)

-- Functions that agree below n have the same first report.
pub first_ext : (f g : ℕ → Report) (n : ℕ) → ((k : ℕ) → k < n → f k ≡ g k) → first f n ≡ first g n
unfolding first
first_ext f g zero h = refl
first_ext f g (suc n) h = ap₂ or_else (first_ext f g n (λ k l. h k (omega arith))) (h n (omega arith))
