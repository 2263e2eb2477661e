-- Laws of parser steps: fields, tests, and refusals that are passed on.
use mathlib.Core.Path.{◌≡◌, refl, sym, ◌∙◌}
use mathlib.Core.Bool.{Bool, true, false, not, cond}
use mathlib.Core.List.{List}
use Prim.Native.Nat.{ℕ, ◌+◌, ◌≤◌, ◌<◌}
use native.Mathlib.Omega.{arith}
use borrow.Author.Tests.{le-leb, lt-leb, leb-true, leb-false, not-true, not-false}
use lib.Dec.{leb}
use lib.ListN.{length, take, drop}
use Rattle.plan.specs.Refusal.{Refusal, refusal_at, wrong_extent}
use Rattle.fields.specs.Bytes.{value}
use Rattle.fields.specs.Parsers.{Parsed, got, no, Parser, onward, test, field, checked}

-- A field inside the file is read, and one that the file cuts short is refused.
pub field_whole : (w : ℕ) (file : List ℕ) (at : ℕ) {v : ℕ} → at + w ≤ length file → v ≡ value 0 (take w (drop at file))
    → ◌≡◌ {A = Parsed ℕ} (got v (at + w)) (field w file at)
unfolding field
field_whole w file at h e = rw (le-leb (at + w) (length file) h, e)

pub field_cut : (w : ℕ) (file : List ℕ) (at : ℕ) → length file < at + w → ◌≡◌ {A = Parsed ℕ} (no (refusal_at wrong_extent at)) (field w file at)
unfolding field
field_cut w file at h = rw (lt-leb (at + w) (length file) h)

-- The value of a test t, after a branch on its negation.
pub failed : {r t : Bool} → r ≡ t → not r ≡ true → t ≡ false
failed {r} e h = sym e ∙ not-true r h

pub held : {r t : Bool} → r ≡ t → not r ≡ false → t ≡ true
held {r} e h = sym e ∙ not-false r h

-- If a sequence of parsers succeeds, so does its first step, and the rest from the next offset on.
pub record Through {A B : Type 0} (s : Parsed A) (rest : A → Parser B) (file : List ℕ) (b : B) (end : ℕ) : Type 0 where
  pub value : A
  pub next : ℕ
  pub is : s ≡ got value next
  pub on : rest value file next ≡ got b end

pub through : {A B : Type 0} (s : Parsed A) {rest : A → Parser B} {file : List ℕ} {b : B} {end : ℕ} → onward s rest file ≡ got b end
    → Through s rest file b end
through (got a next) e = record { value = a; next = next; is = refl; on = e }
through (no k) e = absurd (let z : ◌≡◌ {A = ℕ} 0 1 = cc in omega arith)

-- If a test followed by a parser succeeds, the test is true and has consumed no bytes.
pub record Past {B : Type 0} (b : Bool) (rest : Unit {0} → Parser B) (file : List ℕ) (at : ℕ) (x : B) (end : ℕ) : Type 0 where
  pub is : b ≡ true
  pub on : rest tt file at ≡ got x end

pub past : {B : Type 0} (b : Bool) (number from : ℕ) (file : List ℕ) (at : ℕ) {rest : Unit {0} → Parser B} {x : B} {end : ℕ}
    → onward (test b number from file at) rest file ≡ got x end → Past b rest file at x end
past true number from file at e = record { is = refl; on = e }
past false number from file at e = absurd (let z : ◌≡◌ {A = ℕ} 0 1 = cc in omega arith)

-- If a test succeeds, it is true and has consumed no bytes.
pub test_is : (b : Bool) (number from : ℕ) (file : List ℕ) (at : ℕ) {u : Unit {0}} {next : ℕ} → test b number from file at ≡ got u next → (b ≡ true) × (at ≡ next)
test_is true number from file at e = (refl, cc)
test_is false number from file at e = absurd (let z : ◌≡◌ {A = ℕ} 0 1 = cc in omega arith)

-- `got` is injective in its value and in its next offset.
pub same_value : {A : Type 0} {a b : A} {m n : ℕ} → ◌≡◌ {A = Parsed A} (got a m) (got b n) → a ≡ b
same_value e = cc

pub same_next : {A : Type 0} {a b : A} {m n : ℕ} → ◌≡◌ {A = Parsed A} (got a m) (got b n) → m ≡ n
same_next e = cc

-- `no` is injective.
pub same_refusal : {A : Type 0} {j k : Refusal} → ◌≡◌ {A = Parsed A} (no j) (no k) → j ≡ k
same_refusal e = cc

-- If a `checked` field is read, the field is read and its value passes the test.
pub checked_is : (w : ℕ) (ok : ℕ → Bool) (number : ℕ) (file : List ℕ) (at : ℕ) {x end : ℕ} → checked w ok number file at ≡ got x end
    → (field w file at ≡ got x end) × (ok x ≡ true)
checked_is w ok number file at e =
    let t = through (field w file at) e in
    let u = past (ok t.value) number at file t.next t.on in
    let v = same_value u.on in
    (t.is ∙ u.on, rw v at u.is)

-- A field of w bytes that is read ends at offset at + w, inside the file,
-- and has the value of its bytes.
pub field_extent : (w : ℕ) (file : List ℕ) (at : ℕ) {v next : ℕ} → field w file at ≡ got v next
    → (next ≡ at + w) × (at + w ≤ length file) × (v ≡ value 0 (take w (drop at file)))
unfolding field
field_extent w file at e = by (leb (at + w) (length file)) refl e
  where
    by : (t : Bool) → leb (at + w) (length file) ≡ t → {v next : ℕ}
        → cond t (got (value 0 (take w (drop at file))) (at + w)) (no (refusal_at wrong_extent at)) ≡ got v next
        → (next ≡ at + w) × (at + w ≤ length file) × (v ≡ value 0 (take w (drop at file)))
    by true h e = (sym (same_next e), leb-true (at + w) (length file) h, sym (same_value e))
    by false h e = absurd (let z : ◌≡◌ {A = ℕ} 0 1 = cc in omega arith)

-- A field that is refused is refused by 2, at its first byte, and the file ends inside it.
pub field_refused_at : (w : ℕ) (file : List ℕ) (at : ℕ) {k : Refusal} → field w file at ≡ no k → (k ≡ refusal_at wrong_extent at) × (length file < at + w)
unfolding field
field_refused_at w file at e = by (leb (at + w) (length file)) refl e
  where
    by : (t : Bool) → leb (at + w) (length file) ≡ t → {k : Refusal}
        → cond t (got (value 0 (take w (drop at file))) (at + w)) (no (refusal_at wrong_extent at)) ≡ no k
        → (k ≡ refusal_at wrong_extent at) × (length file < at + w)
    by true h e = absurd (let z : ◌≡◌ {A = ℕ} 0 1 = cc in omega arith)
    by false h e = (sym (same_refusal e), leb-false (at + w) (length file) h)
