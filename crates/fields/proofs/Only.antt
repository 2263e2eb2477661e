-- What is known of a parser's refusals: of every one, and in particular which numbers it can have.
use mathlib.Core.Path.{◌≡◌}
use mathlib.Core.Bool.{Bool, true, false, cond}
use mathlib.Core.List.{List}
use Prim.Native.Nat.{ℕ}
use Rattle.plan.specs.Refusal.{Refusal, refusal_at}
use Rattle.plan.specs.Report.{is_one_of}
use Rattle.fields.specs.Parsers.{Parsed, got, no, Parser, onward, test}

-- If a parser refuses, it is with such a refusal. Composition and tests preserve this.
abbrev pub Refuses : {A : Type 0} → (such : Refusal → Type 0) → Parsed A → Type 0
Refuses such (got a next) = Unit {0}
Refuses such (no k) = such k

module _ (such : Refusal → Type 0) where
  pub refuses_onward : {A B : Type 0} (s : Parsed A) (rest : A → Parser B) (file : List ℕ) → Refuses such s
      → ((a : A) (next : ℕ) → Refuses such (rest a file next)) → Refuses such (onward s rest file)
  refuses_onward (got a next) rest file h r = r a next
  refuses_onward (no k) rest file h r = h

  pub refuses_cond : {A : Type 0} (b : Bool) (k : Refusal) (a : A) (next : ℕ) → such k → Refuses such (cond b (got a next) (no k))
  refuses_cond true k a next h = tt
  refuses_cond false k a next h = h

  pub refuses_test : (b : Bool) (number from : ℕ) (file : List ℕ) (at : ℕ) → such (refusal_at number from) → Refuses such (test b number from file at)
  refuses_test true number from file at h = tt
  refuses_test false number from file at h = h

-- A refusal has one of the listed numbers.
abbrev pub among : List ℕ → Refusal → Type 0
among numbers k = is_one_of numbers k.number ≡ true

-- A parser's result is refused only by the listed numbers.
abbrev pub Only : {A : Type 0} → List ℕ → Parsed A → Type 0
Only numbers s = Refuses (among numbers) s

pub only_onward : {A B : Type 0} (numbers : List ℕ) (s : Parsed A) (rest : A → Parser B) (file : List ℕ) → Only numbers s
    → ((a : A) (next : ℕ) → Only numbers (rest a file next)) → Only numbers (onward s rest file)
only_onward numbers = refuses_onward (among numbers)

pub only_cond : {A : Type 0} (numbers : List ℕ) (b : Bool) (number offset : ℕ) (a : A) (next : ℕ) → is_one_of numbers number ≡ true
    → Only numbers (cond b (got a next) (no (refusal_at number offset)))
only_cond numbers b number offset = refuses_cond (among numbers) b (refusal_at number offset)

pub only_test : (numbers : List ℕ) (b : Bool) (number from : ℕ) (file : List ℕ) (at : ℕ) → is_one_of numbers number ≡ true → Only numbers (test b number from file at)
only_test numbers = refuses_test (among numbers)
