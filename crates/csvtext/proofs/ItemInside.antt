-- An item that is read ends inside the text.
use mathlib.Core.Path.{◌≡◌, refl, sym}
use mathlib.Core.Bool.{Bool, true, false, true≢false, cond}
use mathlib.Core.List.{List, [], ◌∷◌}
use Prim.Native.Nat.{ℕ, ◌+◌, ◌≤◌}
use native.Mathlib.Omega.{arith}
use lib.Dec.{eqb}
use lib.ListN.{length, drop, length-drop}
use Rattle.base.proofs.Logic.{both}
use Rattle.plan.specs.Edition.{name_bytes}
use Rattle.plan.specs.Refusal.{refusal_at, wrong_line}
use Rattle.fields.specs.Parsers.{Parsed, got, no}
use Rattle.fields.proofs.ParserLaws.{through, past, same_next}
use Rattle.csvtext.specs.Grammar.{comma, field, begins}
use Rattle.csvtext.specs.Items.{exactly, standing, item, name_item, grade_item}

-- What begins with some bytes has at least as many.
begins_long : (with l : List ℕ) → begins with l ≡ true → length with ≤ length l
unfolding begins
begins_long [] l e = omega arith
begins_long (w ∷ with) [] e = absurd (true≢false (sym e))
begins_long (w ∷ with) (b ∷ l) e = omega (arith, begins_long with l (both (eqb w b) (begins with l) e).1)

module _ (text : List ℕ) where
  exactly_inside : (bytes : List ℕ) (number from at : ℕ) {x : Unit {0}} {next : ℕ} → 1 ≤ length bytes → exactly bytes number from text at ≡ got x next
      → next ≤ length text
  unfolding exactly
  exactly_inside bytes number from at {x} {next} some e = by (begins bytes (drop at text)) (begins_long bytes (drop at text)) e
    where
      by : (b : Bool) → (b ≡ true → length bytes ≤ length (drop at text))
          → ◌≡◌ {A = Parsed (Unit {0})} (cond b (got tt (at + length bytes)) (no (refusal_at number from))) (got x next) → next ≤ length text
      by true h e = omega (arith, same_next e, h refl, length-drop at text, some)
      by false h e = absurd (let z : ◌≡◌ {A = ℕ} 0 1 = cc in omega arith)

  item_inside : (ends : List ℕ) (from at : ℕ) {l : List ℕ} {next : ℕ} → 1 ≤ length ends → item ends from text at ≡ got l next → next ≤ length text
  unfolding item
  item_inside ends from at some e =
      let t = through (standing from at (field (drop at text))) e in
      let u = through (exactly ends wrong_line from text t.next) t.on in
      omega (arith, exactly_inside ends wrong_line from t.next some u.is, same_next u.on)

  pub name_inside : (from at : ℕ) {x next : ℕ} → name_item from text at ≡ got x next → next ≤ length text
  unfolding name_item
  name_inside from at e =
      let t = through (item (comma ∷ []) from text at) e in
      let p = past (eqb (length t.value) name_bytes) wrong_line from text t.next t.on in
      omega (arith, item_inside (comma ∷ []) from at (omega arith) t.is, same_next p.on)

  pub grade_inside : (from at : ℕ) {x next : ℕ} → grade_item from text at ≡ got x next → next ≤ length text
  unfolding grade_item
  grade_inside from at e =
      let t = through (item (comma ∷ []) from text at) e in
      omega (arith, item_inside (comma ∷ []) from at (omega arith) t.is, same_next t.on)
