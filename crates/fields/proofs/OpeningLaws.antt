-- Laws of the opening, of a record's length byte and of the end: the first fault decides, and what is
-- known where each is read.
use mathlib.Core.Path.{◌≡◌, refl, ◌∙◌, ap}
use mathlib.Core.Bool.{Bool, true, false, not, ◌&&◌, ◌||◌}
use mathlib.Core.List.{List}
use Prim.Native.Nat.{ℕ, ◌+◌, ◌-◌, ◌≤◌}
use native.Mathlib.Omega.{arith}
use borrow.Author.Tests.{leb-true, eqb-true, eqb-false, eq-eqb, ne_eqb, not-true, not-false}
use lib.Dec.{leb, eqb}
use lib.ListN.{length}
use Rattle.base.proofs.Logic.{both}
use Rattle.plan.specs.Refusal.{Refusal, refusal_at, wrong_version, wrong_extent, wrong_record_length}
use Rattle.fields.specs.Parsers.{Parsed, got, no, field, checked, record_length, refused_as, is_version, version, extent, opening, ended}
use Rattle.fields.proofs.ParserLaws.{through, test_is, checked_is, same_value, same_next, field_extent, field_refused_at}

-- The version byte: no byte, a byte that is no version, a version.
module _ (newest : ℕ) (file : List ℕ) (at : ℕ) where
  pub version_none : {k : Refusal} → field 1 file at ≡ no k → ◌≡◌ {A = Parsed ℕ} (no (refusal_at wrong_version at)) (version newest file at)
  unfolding version
  version_none e = rw (e, (field_refused_at 1 file at e).0)

  module _ {v next : ℕ} (e : field 1 file at ≡ got v next) where
    pub version_other : is_version newest v ≡ false → ◌≡◌ {A = Parsed ℕ} (no (refusal_at wrong_version at)) (version newest file at)
    unfolding version
    version_other t = rw (e, t)

    pub version_right : is_version newest v ≡ true → ◌≡◌ {A = Parsed ℕ} (got v next) (version newest file at)
    unfolding version
    version_right t = rw (e, t)

  -- Where a version is read, the byte is one.
  pub version_is : {v next : ℕ} → version newest file at ≡ got v next → (field 1 file at ≡ got v next) × (is_version newest v ≡ true)
  unfolding version
  version_is e = checked_is 1 (is_version newest) wrong_version file at (by (checked 1 (is_version newest) wrong_version file at) e)
    where
      by : (s : Parsed ℕ) {v next : ℕ} → refused_as wrong_version s ≡ got v next → s ≡ got v next
      by (got v next) e = e
      by (no k) e = absurd (let z : ◌≡◌ {A = ℕ} 0 1 = cc in omega arith)

-- The length field: cut short, wrong, right.
module _ (compared : Bool) (file : List ℕ) (at : ℕ) where
  pub extent_cut : {k : Refusal} → field 4 file at ≡ no k → ◌≡◌ {A = Parsed (Unit {0})} (no k) (extent compared file at)
  unfolding extent
  extent_cut e = rw e

  module _ {says next : ℕ} (e : field 4 file at ≡ got says next) where
    pub extent_wrong : (not compared || eqb (next + says) (length file)) ≡ false
        → ◌≡◌ {A = Parsed (Unit {0})} (no (refusal_at wrong_extent at)) (extent compared file at)
    unfolding extent
    extent_wrong t = rw (e, t)

    pub extent_right : (not compared || eqb (next + says) (length file)) ≡ true
        → ◌≡◌ {A = Parsed (Unit {0})} (got tt next) (extent compared file at)
    unfolding extent
    extent_right t = rw (e, t)

-- The length field as the code compares it: with the number of bytes after it.
pub extent_failed : (compared : Bool) (next says long : ℕ) → next ≤ long → (compared && not (eqb says (long - next))) ≡ true
    → (not compared || eqb (next + says) long) ≡ false
extent_failed true next says long h t = ne_eqb (next + says) long (λ e. eqb-false says (long - next) (not-true (eqb says (long - next)) t) (omega (arith, e)))
extent_failed false next says long h t = absurd (let z : ◌≡◌ {A = ℕ} 0 1 = cc in omega arith)

pub extent_held : (compared : Bool) (next says long : ℕ) → next ≤ long → (compared && not (eqb says (long - next))) ≡ false
    → (not compared || eqb (next + says) long) ≡ true
extent_held true next says long h t =
    eq-eqb (next + says) long (omega (arith, eqb-true says (long - next) (not-false (eqb says (long - next)) t)))
extent_held false next says long h t = refl

-- Where a length field that is compared is read, it counts the bytes after it.
pub extent_is : (file : List ℕ) (at : ℕ) {u : Unit {0}} {next : ℕ} → extent true file at ≡ got u next
    → (says : ℕ) × (field 4 file at ≡ got says next) × (next + says ≡ length file)
unfolding extent
extent_is file at e =
    let t = through (field 4 file at) e in
    let p = test_is (eqb (t.next + t.value) (length file)) wrong_extent at file t.next t.on in
    (t.value, rw p.1 at t.is, rw p.1 at (eqb-true (t.next + t.value) (length file) p.0))

-- The opening: refused by its version, refused by its length field, read.
module _ (newest : ℕ) (compared : Bool) (file : List ℕ) where
  pub opening_unversioned : {k : Refusal} → version newest file 0 ≡ no k → ◌≡◌ {A = Parsed ℕ} (no k) (opening newest compared file 0)
  unfolding opening
  opening_unversioned e = rw e

  module _ {v at : ℕ} (e : version newest file 0 ≡ got v at) where
    pub opening_unmeasured : {k : Refusal} → extent compared file at ≡ no k → ◌≡◌ {A = Parsed ℕ} (no k) (opening newest compared file 0)
    unfolding opening
    opening_unmeasured f = rw (e, f)

    pub opening_right : {u : Unit {0}} {next : ℕ} → extent compared file at ≡ got u next
        → ◌≡◌ {A = Parsed ℕ} (got v next) (opening newest compared file 0)
    unfolding opening
    opening_right f = rw (e, f)

-- A version that is read is not newer than the newest one.
pub opening_version : (newest : ℕ) (compared : Bool) (file : List ℕ) {v next : ℕ} → opening newest compared file 0 ≡ got v next → v ≤ newest
unfolding opening
opening_version newest compared file e =
    let t = through (version newest file 0) e in
    let u = through (extent compared file t.next) t.on in
    let known = (version_is newest file 0 t.is).1 in
    omega (arith, same_value u.on, leb-true t.value newest (both (leb 1 t.value) (leb t.value newest) known).1)

-- What is known where an opening with a compared length field is read.
pub record OpeningRead (newest : ℕ) (file : List ℕ) (v next : ℕ) : Type 0 where
  pub says : ℕ
  pub byte : field 1 file 0 ≡ got v 1
  pub known : is_version newest v ≡ true
  pub length_field : field 4 file 1 ≡ got says 5
  pub end : next ≡ 5
  pub counts : 5 + says ≡ length file

at_places : {newest : ℕ} {file : List ℕ} {v at says n : ℕ} → field 1 file 0 ≡ got v at → is_version newest v ≡ true → field 4 file at ≡ got says n
    → n + says ≡ length file → at ≡ 1 → n ≡ 5 → OpeningRead newest file v n
at_places {says = says} e known f counts one five =
    record { says = says; byte = rw one at e; known = known; length_field = rw (one, five) at f; end = five; counts = rw five at counts }

moved : {newest : ℕ} {file : List ℕ} {v w m n : ℕ} → OpeningRead newest file v m → v ≡ w → m ≡ n → OpeningRead newest file w n
moved r p q = rw q at (rw p at r)

pub opening_read : (newest : ℕ) (file : List ℕ) {v next : ℕ} → opening newest true file 0 ≡ got v next → OpeningRead newest file v next
unfolding opening
opening_read newest file {v} {next} e =
    let t = through (version newest file 0) e in
    let i = version_is newest file 0 t.is in
    let one : t.next ≡ 1 = (field_extent 1 file 0 i.0).0 in
    let u = through (extent true file t.next) t.on in
    let x = extent_is file t.next u.is in
    let five : u.next ≡ 5 = (field_extent 4 file t.next x.1).0 ∙ ap (λ k. k + 4) one in
    moved (at_places i.0 i.1 x.1 x.2 one five) (same_value u.on) (same_next u.on)

-- The length byte of a record: cut short, another one, right.
module _ (long : ℕ) (file : List ℕ) (at : ℕ) where
  pub length_cut : {k : Refusal} → field 1 file at ≡ no k → ◌≡◌ {A = Parsed (Unit {0})} (no k) (record_length long file at)
  unfolding record_length
  length_cut e = rw e

  module _ {says next : ℕ} (e : field 1 file at ≡ got says next) where
    pub length_other : eqb says long ≡ false → ◌≡◌ {A = Parsed (Unit {0})} (no (refusal_at wrong_record_length at)) (record_length long file at)
    unfolding record_length
    length_other t = rw (e, t)

    pub length_right : eqb says long ≡ true → ◌≡◌ {A = Parsed (Unit {0})} (got tt next) (record_length long file at)
    unfolding record_length
    length_right t = rw (e, t)

  -- Where it is read, the byte is the length.
  pub length_is : {u : Unit {0}} {next : ℕ} → record_length long file at ≡ got u next → field 1 file at ≡ got long next
  unfolding record_length
  length_is e =
      let t = through (field 1 file at) e in
      let p = test_is (eqb t.value long) wrong_record_length at file t.next t.on in
      rw (eqb-true t.value long p.0, p.1) at t.is

-- At the end of the file `ended` succeeds, and nowhere else.
module _ (file : List ℕ) (at : ℕ) where
  pub ended_back : at ≡ length file → ended file at ≡ got tt at
  unfolding ended
  ended_back e = rw (eq-eqb at (length file) e)

  pub ended_at : {u : Unit {0}} {end : ℕ} → ended file at ≡ got u end → at ≡ length file
  unfolding ended
  ended_at e = eqb-true at (length file) (test_is (eqb at (length file)) wrong_extent at file at e).0
