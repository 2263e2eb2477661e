-- A format's round trip, composed from its fields. A law says of a parser and of what is written that a
-- good value is read where the file has its bytes, and that where a value is read it is good and the
-- file has its bytes. The laws below build that of a record from those of its fields and tests.
use mathlib.Core.Path.{◌≡◌, refl, sym, ◌∙◌, ap}
use mathlib.Core.Bool.{Bool, true}
use mathlib.Core.List.{List, [], ◌++◌, append-nil}
use Prim.Native.Nat.{ℕ, ◌+◌, ◌≤◌, ◌<◌, ◌^◌}
use native.Mathlib.Nat.{add-zero}
use native.Mathlib.Omega.{arith}
use borrow.Author.Tests.{eq-eqb}
use lib.ListN.{length}
use Rattle.fields.specs.Bytes.{bytes}
use Rattle.fields.specs.Parsers.{got, Parser, onward, done, test, field, checked, record_length, is_version, opening}
use Rattle.fields.proofs.ByteLaws.{Octets, length_bytes}
use Rattle.fields.proofs.ParserLaws.{through, past, same_value, same_next}
use Rattle.fields.proofs.OpeningLaws.{length_right, length_is, version_right, extent_right, opening_right, OpeningRead}
use Rattle.fields.proofs.BytesAt.{Stands, stands_none, stands_then, stands_first, stands_rest, stands_at, stands_as, field_back, field_again}

pub record Law (file : List ℕ) {A : Type 0} (read : Parser A) (write : A → List ℕ) (Good : A → Type 0) : Type 0 where
  pub back : (a : A) (at : ℕ) {next : ℕ} → Good a → Stands file at (write a) next → read file at ≡ got a next
  pub again : Octets file → (at : ℕ) {a : A} {next : ℕ} → read file at ≡ got a next → Stands file at (write a) next × Good a

module _ (file : List ℕ) where
  -- A field of w bytes holds the numbers below 256^w.
  pub field_law : (w : ℕ) → 1 ≤ w → Law file (field w) (bytes w) (λ x. x < 256 ^ w)
  field_law w some =
      record { back = λ x at small s. field_back w x file at some small s; again = λ octets at e. field_again w file at octets e }

  -- A length byte is written as it must be read.
  pub length_law : (long : ℕ) → long < 256 ^ 1 → Law file (record_length long) (λ _. bytes 1 long) (λ _. Unit {0})
  length_law long small =
      record {
        back = λ u at good s. sym (length_right long file at (field_back 1 long file at (omega arith) small s) (eq-eqb long long refl));
        again = λ octets at e. ((field_again 1 file at octets (length_is long file at e)).0, tt);
      }

-- A value that is given, of which nothing is written.
pub done_law : (file : List ℕ) {A : Type 0} (a : A) → Law file (done a) (λ _. []) (λ b. b ≡ a)
done_law file a =
    record {
      back = λ b at is s. ap (λ c. got c at) (sym is) ∙ ap (got b) (sym (s.ends ∙ add-zero at));
      again = λ octets at e. (stands_at (stands_none file at) (same_next e), sym (same_value e));
    }

module _ {file : List ℕ} {B : Type 0} {rest : Parser B} {write : B → List ℕ} {Good : B → Type 0} where
  -- A test before a parser.
  pub test_law : (ok : Bool) (number from : ℕ) → Law file rest write Good
      → Law file (λ file at. onward (test ok number from file at) (λ _. rest) file) write (λ b. (ok ≡ true) × Good b)
  test_law ok number from law =
      record {
        back = λ b at good s. rw good.0 (law.back b at good.1 s);
        again = λ octets at e. let p = past ok number from file at e in let l = law.again octets at p.on in (l.0, (p.is, l.1));
      }

-- A parser that is told where it begins.
pub here_law : {file : List ℕ} {B : Type 0} {rest : ℕ → Parser B} {write : B → List ℕ} {Good : B → Type 0} → ((from : ℕ) → Law file (rest from) write Good)
    → Law file (λ file at. rest at file at) write Good
here_law law = record { back = λ b at good s. (law at).back b at good s; again = λ octets at e. (law at).again octets at e }

-- A parser, then the one that its value gives. The first value is a part of the second.
module _ {file : List ℕ} {A B : Type 0} {read : Parser A} {write : A → List ℕ} {Good : A → Type 0} {rest : A → Parser B}
    {writes : A → B → List ℕ} {Goods : A → B → Type 0} where
  pub then_law : (part : B → A) → Law file read write Good → ((a : A) → Law file (rest a) (writes a) (Goods a))
      → ((a : A) (b : B) → Good a → Goods a b → part b ≡ a)
      → Law file (λ file at. onward (read file at) rest file) (λ b. write (part b) ++ writes (part b) b) (λ b. Good (part b) × Goods (part b) b)
  then_law part first second kept =
      record {
        back = λ b at good s.
            let a = part b in
            rw (first.back a at good.0 (stands_first (write a) (writes a b) s))
            ((second a).back b (at + length (write a)) good.1 (stands_rest (write a) (writes a b) s));
        again = λ octets at {a = b} e.
            let t = through (read file at) e in
            let f = first.again octets at t.is in
            let g = (second t.value).again octets t.next t.on in
            rw (kept t.value b f.1 g.1) (stands_then f.0 g.0, (f.1, g.1));
      }

-- The same parser with equal bytes and with a condition that holds of the same values.
pub law_as : {file : List ℕ} {A : Type 0} {read : Parser A} {write write' : A → List ℕ} {Good Good' : A → Type 0} → Law file read write Good
    → ((a : A) → Good' a → Good a) → ((a : A) → Good a → Good' a) → ((a : A) → write a ≡ write' a) → Law file read write' Good'
law_as law from to same =
    record {
      back = λ a at good s. law.back a at (from a good) (stands_as s (sym (same a)));
      again = λ octets at {a} e. let l = law.again octets at e in (stands_as l.0 (same a), to a l.1);
    }

-- A field of w bytes whose value passes a test.
pub checked_law : (file : List ℕ) (w : ℕ) → 1 ≤ w → (ok : ℕ → Bool) (number : ℕ)
    → Law file (checked w ok number) (bytes w) (λ x. (x < 256 ^ w) × (ok x ≡ true))
checked_law file w some ok number =
    law_as
    (here_law (λ from. then_law (λ x. x) (field_law file w some) (λ x. test_law (ok x) number from (done_law file x)) (λ a b first good. good.1)))
    (λ x good. (good.0, (good.1, refl))) (λ x good. (good.0, good.1.0)) (λ x. append-nil (bytes w x))

-- A known version, then a length field that counts the bytes after it, are read where the file has
-- their bytes; and where an opening is read, the file has them.
pub opening_back : (newest v follows : ℕ) (file : List ℕ) → is_version newest v ≡ true → v < 256 ^ 1 → follows < 256 ^ 4
    → Stands file 0 (bytes 1 v ++ bytes 4 follows) 5 → 5 + follows ≡ length file → opening newest true file 0 ≡ got v 5
opening_back newest v follows file known small fits s counts =
    let a = bytes 1 v in
    let b = bytes 4 follows in
    let one : 0 + length a ≡ 1 = ap (λ k. 0 + k) (length_bytes 1 v) in
    let byte = field_back 1 v file 0 (omega arith) small (stands_at (stands_first a b s) one) in
    let four = field_back 4 follows file 1 (omega arith) fits (rw one at (stands_rest a b s)) in
    sym (opening_right newest true file (sym (version_right newest file 0 byte known))
    (sym (extent_right true file 1 four (eq-eqb (5 + follows) (length file) counts))))

pub opening_again : (file : List ℕ) → Octets file → {newest v next : ℕ} (o : OpeningRead newest file v next)
    → Stands file 0 (bytes 1 v ++ bytes 4 o.says) 5
opening_again file octets o =
    stands_then (field_again 1 file 0 octets o.byte).0 (field_again 4 file 1 octets o.length_field).0
