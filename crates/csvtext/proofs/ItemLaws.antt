-- Laws of items: bytes that must stand at an offset, and a field with what ends it, by what the code knows of the field.
use Rattle.std.proofs.Common.{◌≡◌, Bool, true, false, not, cond, ◌&&◌, ℕ, ◌+◌, ◌-◌, List, [], ◌∷◌, length, take, drop, refl, sym, ◌∙◌, ap, arith}
use Prim.Native.Nat.{min}
use lib.Dec.{eqb}
use lib.ListN.{drop_of_length-le, length-drop}
use lib.Seq.{take_all}
use borrow.Author.Tests.{eq-eqb, ne_eqb}
use Rattle.std.specs.Prelude.{Option, Some, None, Result, Ok, Err}
use Rattle.std.specs.Cmp.Lexicographic.{pointwise}
use Rattle.base.proofs.Logic.{if_less, if_same}
use Rattle.plan.specs.Edition.{name_bytes}
use Rattle.plan.specs.Refusal.{refusal_at, wrong_line, number_of, refusal_view}
use Rattle.plan.specs.declared.refusal.Refusal.{Refusal}
use Rattle.fields.specs.Bytes.{value}
use Rattle.fields.specs.Parsers.{Parsed, got, no, onward, test}
use Rattle.fields.specs.declared.field.Parsed as code
use Rattle.fields.proofs.ByteLaws.{Octets}
use Rattle.fields.proofs.ParserLaws.{through, same_value}
use Rattle.csvtext.specs.Grammar.{comma, Found, found, broken, field, begins}
use Rattle.csvtext.specs.Decimals.{is_decimal, number_in}
use Rattle.csvtext.specs.Items.{exactly, standing, item, name_item, grade_named, grade_item, number_item}
use Rattle.fields.specs.Answers.{passed_view}
use Rattle.csvtext.specs.Answers.{ReadsExactly}
use Rattle.csvtext.specs.declared.field.Seen.{Seen}
use Rattle.csvtext.specs.Inner.Seen.{nothing, with_bytes, seen_at}
use Rattle.csvtext.specs.Inner.Parts.{item_seen, grade_seen}
use Rattle.csvtext.proofs.SeenLaws.{seen_length, seen_name, seen_number, seen_decimal, seen_grade, Small, field_small}

-- The library's test for bytes at the front of a slice. A slice from an offset past the end is empty, as from the end on.
begins_is : (with bytes : List ℕ) → pointwise eqb with (take (length with) bytes) ≡ begins with bytes
unfolding begins
begins_is [] bytes = refl
begins_is (w ∷ with) [] = refl
begins_is (w ∷ with) (b ∷ bytes) = ap (λ r. eqb w b && r) (begins_is with bytes)

pub begins_rest : (with bytes : List ℕ) (at from : ℕ) → from ≡ min at (length bytes)
    → pointwise eqb with (take (length with) (take (length bytes - from) (drop from bytes))) ≡ begins with (drop at bytes)
begins_rest with bytes at from e =
    ap (λ l. pointwise eqb with (take (length with) l)) (take_all (length bytes - from) (drop from bytes) (simp length-drop (omega arith)) ∙ same)
    ∙ begins_is with (drop at bytes)
  where
    same : drop from bytes ≡ drop at bytes
    same =
        if_less at (length bytes) (λ h. ap (λ k. drop k bytes) (omega arith))
        (λ h. drop_of_length-le bytes (omega arith) ∙ sym (drop_of_length-le bytes h))

-- At a refusal, what `read_exactly` answers is what `exactly` gives.
pub exactly_read : (bytes : List ℕ) (text : List ℕ) (at : ℕ) (wrong : Refusal) (r : Result ℕ Refusal) → ReadsExactly text at bytes wrong r
    → passed_view r ≡ exactly bytes (number_of wrong.reason) wrong.offset text at
unfolding exactly
exactly_read bytes text at wrong r e = rw e (by (begins bytes (drop at text)))
  where
    by : (b : Bool) → passed_view (cond b (Ok (at + length bytes)) (Err wrong)) ≡ cond {A = Parsed (Unit {0})} b (got tt (at + length bytes)) (no (refusal_view wrong))
    by true = refl
    by false = refl

-- An item by what is known of its field: refused without one, and where the field is not ended.
abbrev pub item_known : (ends : List ℕ) (from : ℕ) (text : List ℕ) → Option (code.Parsed Seen) → Parsed Seen
item_known ends from text None = no (refusal_at wrong_line from)
item_known ends from text (Some p) = cond (begins ends (drop p.next text)) (got p.value (p.next + length ends)) (no (refusal_at wrong_line from))

pub item_is : (ends : List ℕ) (from : ℕ) (text : List ℕ) (at : ℕ) → item_seen (item ends from text at) ≡ item_known ends from text (seen_at at nothing (field (drop at text)))
unfolding item exactly
item_is ends from text at = by (field (drop at text))
  where
    by : (f : Found)
        → item_seen
        (onward (standing from at f)
        (λ l file p. onward (cond {A = Parsed (Unit {0})} (begins ends (drop p file)) (got tt (p + length ends)) (no (refusal_at wrong_line from))) (λ _ _ q. got l q) file) text)
        ≡ item_known ends from text (seen_at at nothing f)
    by broken = refl
    by (found l used) = on (begins ends (drop (at + used) text))
      where
        on : (b : Bool)
            → item_seen (onward (cond {A = Parsed (Unit {0})} b (got tt (at + used + length ends)) (no (refusal_at wrong_line from))) (λ _ _ q. got l q) text)
            ≡ cond b (got (with_bytes nothing l) (at + used + length ends)) (no (refusal_at wrong_line from))
        on true = refl
        on false = refl

-- The bytes of an item that was read are bytes.
standing_small : (from at : ℕ) (f : Found) → Small f → {l : List ℕ} {next : ℕ} → standing from at f ≡ got l next → Octets l
standing_small from at (found l used) h e = rw (same_value e) at h
standing_small from at broken h e = absurd (let z : ◌≡◌ {A = ℕ} 0 1 = cc in omega arith)

pub item_small : (ends : List ℕ) (from : ℕ) (text : List ℕ) (at : ℕ) {l : List ℕ} {next : ℕ} → item ends from text at ≡ got l next → Octets l
unfolding item
item_small ends from text at e =
    let t = through (standing from at (field (drop at text))) e in
    let u = through (exactly ends wrong_line from text t.next) t.on in
    rw (same_value u.on) at (standing_small from at (field (drop at text)) (field_small (drop at text)) t.is)

-- A name, a grade and a number by what is known of the item.
abbrev pub name_known : (from : ℕ) → Parsed Seen → Parsed ℕ
name_known from (got s next) = cond (eqb s.length name_bytes) (got s.name next) (no (refusal_at wrong_line from))
name_known from (no refusal) = no refusal

abbrev pub grade_known : Parsed Seen → Parsed ℕ
grade_known (got s next) = got (grade_seen s) next
grade_known (no refusal) = no refusal

abbrev pub number_known : (from : ℕ) → Parsed Seen → Parsed ℕ
number_known from (got s next) = cond (s.decimal && not (eqb s.length 0)) (got s.number next) (no (refusal_at wrong_line from))
number_known from (no refusal) = no refusal

pub name_is : (from : ℕ) (text : List ℕ) (at : ℕ) → name_item from text at ≡ name_known from (item_seen (item (comma ∷ []) from text at))
unfolding name_item
name_is from text at = by (item (comma ∷ []) from text at) (λ l next e. item_small (comma ∷ []) from text at e)
  where
    by : (p : Parsed (List ℕ)) → ((l : List ℕ) (next : ℕ) → p ≡ got l next → Octets l)
        → onward p (λ l file q. onward (test (eqb (length l) name_bytes) wrong_line from file q) (λ _ _ r. got (value 0 l) r) file) text ≡ name_known from (item_seen p)
    by (no k) octets = refl
    by (got l next) octets =
        let s = with_bytes nothing l in
        let long = seen_length l in
        if_same (length l) name_bytes
        (λ e. rw (eq-eqb (length l) name_bytes e, eq-eqb s.length name_bytes (omega arith))
        (ap (λ v. got v next) (sym (seen_name l (omega arith) (octets l next refl)))))
        (λ n. rw (ne_eqb (length l) name_bytes n, ne_eqb s.length name_bytes (λ e. n (omega arith))) refl)

pub grade_is : (from : ℕ) (text : List ℕ) (at : ℕ) → grade_item from text at ≡ grade_known (item_seen (item (comma ∷ []) from text at))
unfolding grade_item
grade_is from text at = by (item (comma ∷ []) from text at)
  where
    by : (p : Parsed (List ℕ)) → onward p (λ l _ q. got (grade_named l) q) text ≡ grade_known (item_seen p)
    by (no k) = refl
    by (got l next) = ap (λ v. got v next) (sym (seen_grade l))

pub number_is : (ends : List ℕ) (from : ℕ) (text : List ℕ) (at : ℕ) → number_item ends from text at ≡ number_known from (item_seen (item ends from text at))
unfolding number_item
number_is ends from text at = by (item ends from text at)
  where
    by : (p : Parsed (List ℕ))
        → onward p (λ l file q. onward (test (is_decimal l) wrong_line from file q) (λ _ _ r. got (number_in l) r) file) text ≡ number_known from (item_seen p)
    by (no k) = refl
    by (got l next) = rw (seen_decimal l, seen_number l) (on (is_decimal l))
      where
        on : (b : Bool)
            → onward (test b wrong_line from text next) (λ _ _ r. got (number_in l) r) text ≡ cond b (got (number_in l) next) (no (refusal_at wrong_line from))
        on true = refl
        on false = refl
