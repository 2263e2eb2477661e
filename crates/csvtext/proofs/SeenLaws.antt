-- Laws of what is known of the bytes that a field stands for: their length, the number of a name, the
-- number in decimal, and whether it is one.
use mathlib.Core.Path.{◌≡◌, refl, sym, ◌∙◌, ap}
use mathlib.Core.Bool.{Bool, true, false, true≢false, not, cond, ◌&&◌, and-true, and-false}
use mathlib.Core.List.{List, [], ◌∷◌}
use Prim.Native.Nat.{ℕ, zero, suc, ◌+◌, ◌*◌, ◌-◌, ◌%◌, ◌^◌, ◌≤◌, ◌<◌, min}
use native.Mathlib.Nat.{pow-suc, pow-le-pow_right, mod-eq_of_lt}
use native.Mathlib.Omega.{arith}
use borrow.Author.Tests.{leb-true, le-leb, lt-leb, eq-eqb, ne_eqb, eqb-true, eqb-false}
use lib.Arith.{digits_lt}
use lib.Dec.{leb, eqb, lit<}
use lib.ListN.{length}
use Rattle.base.proofs.Logic.{by_order, if_same, if_less, and_left}
use Rattle.text.specs.Text.{digit}
use Rattle.fields.specs.Bytes.{value}
use Rattle.fields.proofs.ByteLaws.{Octets}
use Rattle.csvtext.specs.Grammar.{comma, quote, carriage_return, line_feed, is_plain, is_quotable, Found, found, broken, more, past, plain, quoted, field, begins}
use Rattle.csvtext.specs.Decimals.{is_digit, are_digits, is_decimal, decimal_from, most_number}
use Rattle.csvtext.specs.Items.{grade_named}
use Rattle.csvtext.specs.declared.field.Seen.{Seen}
use Rattle.csvtext.specs.Inner.Seen.{longest, nothing, with_byte, with_bytes}
use Rattle.csvtext.specs.Inner.Parts.{grade_seen}

regroup : (a b c : Bool) → (((a && b) && true) && c) ≡ (a && (b && c))
regroup true true c = refl
regroup true false c = refl
regroup false b c = refl

-- The length, told up to `longest`.
length_on : (l : List ℕ) (s : Seen) → s.length ≤ longest → (with_bytes s l).length ≡ min (s.length + length l) longest
unfolding with_bytes with_byte
length_on [] s h = omega arith
length_on (b ∷ l) s h = length_on l (with_byte s b) (omega arith) ∙ omega arith

pub seen_length : (l : List ℕ) → (with_bytes nothing l).length ≡ min (length l) longest
seen_length l = length_on l nothing (omega arith) ∙ omega arith

-- The number of at most eight bytes.
name_on : (l : List ℕ) (s : Seen) (k : ℕ) → s.name < 256 ^ k → k + length l ≤ 8 → Octets l → (with_bytes s l).name ≡ value s.name l
unfolding with_bytes with_byte value
name_on [] s k h fits octets = refl
name_on (b ∷ l) s k h fits octets =
    let few : 256 ^ k ≤ 256 ^ 7 = pow-le-pow_right {n = 256} (lit< tt) {i = k} {j = 7} (omega arith) in
    let low : s.name % 0x0100_0000_0000_0000 ≡ s.name = mod-eq_of_lt (omega arith) in
    let next : s.name * 256 + b < 256 ^ suc k = rw (pow-suc 256 k) (digits_lt h (octets 0)) in
    name_on l (with_byte s b) (suc k) (rw low next) (omega arith) (λ j. octets (suc j)) ∙ ap (λ x. value (x * 256 + b) l) low

pub seen_name : (l : List ℕ) → length l ≤ 8 → Octets l → (with_bytes nothing l).name ≡ value 0 l
seen_name l h octets = name_on l nothing 0 (omega arith) (omega arith) octets

-- The number in decimal, told up to `most_number`.
number_on : (l : List ℕ) (s : Seen) (x : ℕ) → s.number ≡ min x most_number → (with_bytes s l).number ≡ min (decimal_from x l) most_number
unfolding with_bytes with_byte decimal_from
number_on [] s x e = e
number_on (b ∷ l) s x e = number_on l (with_byte s b) (x * 10 + (b - digit 0)) (omega arith)

pub seen_number : (l : List ℕ) → (with_bytes nothing l).number ≡ min (decimal_from 0 l) most_number
seen_number l = number_on l nothing 0 refl

-- What is no decimal once is none with more bytes.
no_decimal : (l : List ℕ) (s : Seen) → s.decimal ≡ false → (with_bytes s l).decimal ≡ false
unfolding with_bytes with_byte
no_decimal [] s e = e
no_decimal (b ∷ l) s e = no_decimal l (with_byte s b) (rw e refl)

-- After a byte, and where the number so far is not 0, digits alone may follow.
digits_on : (l : List ℕ) (s : Seen) → 1 ≤ s.length → 1 ≤ s.number → (with_bytes s l).decimal ≡ (s.decimal && are_digits l)
unfolding with_bytes with_byte are_digits
digits_on [] s h k = sym (and-true s.decimal)
digits_on (b ∷ l) s h k =
    digits_on l (with_byte s b) (omega arith) (omega arith)
    ∙ rw (ne_eqb s.number 0 (λ e. omega arith), ne_eqb s.length 0 (λ e. omega arith)) (regroup s.decimal (is_digit b) (are_digits l))

-- A 0 alone may stand first.
zero_on : (b : ℕ) (l : List ℕ) (s : Seen) → 1 ≤ s.length → s.number ≡ 0 → (with_bytes s (b ∷ l)).decimal ≡ false
unfolding with_bytes with_byte
zero_on b l s h k =
    no_decimal l (with_byte s b) (rw (k, ne_eqb s.length 0 (λ e. omega arith)) (and-false (s.decimal && is_digit b)))

-- Bytes are a decimal if no byte was wrong, and there is one.
pub seen_decimal : (l : List ℕ) → ((with_bytes nothing l).decimal && not (eqb (with_bytes nothing l).length 0)) ≡ is_decimal l
unfolding with_bytes with_byte is_decimal are_digits
seen_decimal [] = refl
seen_decimal (b ∷ []) = and-true (is_digit b && true) ∙ and-true (is_digit b)
seen_decimal (b ∷ c ∷ l) =
    let s = with_byte nothing b in
    let some : eqb (with_bytes s (c ∷ l)).length 0 ≡ false = ne_eqb (with_bytes s (c ∷ l)).length 0 (λ e. omega (arith, seen_length (b ∷ c ∷ l))) in
    rw some (and-true (with_bytes s (c ∷ l)).decimal ∙ by (is_digit b) refl (eqb b (digit 0)) refl)
  where
    by : (d : Bool) → is_digit b ≡ d → (z : Bool) → eqb b (digit 0) ≡ z
        → (with_bytes (with_byte nothing b) (c ∷ l)).decimal ≡ (not (eqb b (digit 0)) && are_digits (b ∷ c ∷ l))
    by false d z e =
        no_decimal (c ∷ l) (with_byte nothing b) (rw d refl) ∙ sym (rw d (and-false (not (eqb b (digit 0)))))
    by true d true e =
        zero_on c l (with_byte nothing b) (omega arith) (omega (arith, eqb-true b (digit 0) e)) ∙ rw e refl
    by true d false e =
        digits_on (c ∷ l) (with_byte nothing b) (omega arith)
        (by_order b (digit 0) (λ h. absurd (eqb-false b (digit 0) e h))
        (λ h. omega (arith, leb-true (digit 0) b (and_left (leb (digit 0) b) (leb b (digit 9)) d))) (λ h. omega arith))
        ∙ rw (d, e) refl

-- The grade that the bytes name.
same_byte : (a b : ℕ) → (eqb a b && true) ≡ eqb b a
same_byte a b = and-true (eqb a b) ∙ if_same a b (λ e. eq-eqb a b e ∙ sym (eq-eqb b a (sym e))) (λ n. ne_eqb a b n ∙ sym (ne_eqb b a (λ e. n (sym e))))

pub seen_grade : (l : List ℕ) → grade_seen (with_bytes nothing l) ≡ grade_named l
unfolding with_bytes with_byte begins
seen_grade [] = refl
seen_grade (b ∷ []) =
    let e : 0 % 0x0100_0000_0000_0000 * 256 + b ≡ b = omega arith in
    rw (e, same_byte 72 b, same_byte 76 b) refl
seen_grade (b ∷ c ∷ l) =
    let long : eqb (with_bytes nothing (b ∷ c ∷ l)).length 1 ≡ false
    = ne_eqb (with_bytes nothing (b ∷ c ∷ l)).length 1 (λ e. omega (arith, seen_length (b ∷ c ∷ l))) in
    let other : eqb 1 (length (b ∷ c ∷ l)) ≡ false = ne_eqb 1 (length (b ∷ c ∷ l)) (λ e. omega arith) in
    rw (long, other) refl

-- All elements of a field's bytes are bytes.
abbrev pub Small : Found → Type 0
Small (found l used) = Octets l
Small broken = Unit {0}

octets_cons : (b : ℕ) (l : List ℕ) → b < 256 → Octets l → Octets (b ∷ l)
octets_cons b l h o zero = h
octets_cons b l h o (suc k) = o k

octets_none : Octets []
octets_none k = lit< tt

more_small : (b : ℕ) (f : Found) → b < 256 → Small f → Small (more b f)
more_small b (found l used) h o = octets_cons b l h o
more_small b broken h o = tt

past_small : (f : Found) → Small f → Small (past f)
past_small (found l used) o = o
past_small broken o = tt

-- No byte of a field is above 0x7E.
quotable_byte : (b : ℕ) → is_quotable b ≡ true → b < 256
quotable_byte b e = if_less b 256 (λ h. h) (λ h. absurd (true≢false (sym e ∙ large h)))
  where
    large : 256 ≤ b → is_quotable b ≡ false
    large h =
        rw (
          le-leb 0x20 b (omega arith),
          lt-leb b 0x7E (omega arith),
          ne_eqb b comma (λ e. omega arith),
          ne_eqb b carriage_return (λ e. omega arith),
          ne_eqb b line_feed (λ e. omega arith),
        ) refl

plain_byte : (b : ℕ) → is_plain b ≡ true → b < 256
plain_byte b e = quotable_byte b (rw e refl)

plain_small : (l : List ℕ) → Small (plain l)
unfolding plain
plain_small [] = octets_none
plain_small (b ∷ l) = by (is_plain b) refl (plain_small l)
  where
    by : (t : Bool) → is_plain b ≡ t → Small (plain l) → Small (cond t (more b (plain l)) (found [] 0))
    by true e h = more_small b (plain l) (plain_byte b e) h
    by false e h = octets_none

quoted_small : (closed : Bool) (l : List ℕ) → Small (quoted closed l)
unfolding quoted
quoted_small false [] = tt
quoted_small true [] = octets_none
quoted_small false (b ∷ l) = by (eqb b quote) (is_quotable b) refl (quoted_small true l) (quoted_small false l)
  where
    by : (q t : Bool) → is_quotable b ≡ t → Small (quoted true l) → Small (quoted false l)
        → Small (cond q (past (quoted true l)) (cond t (more b (quoted false l)) broken))
    by true t e h k = past_small (quoted true l) h
    by false true e h k = more_small b (quoted false l) (quotable_byte b e) k
    by false false e h k = tt
quoted_small true (b ∷ l) = by (eqb b quote) (quoted_small false l)
  where
    by : (q : Bool) → Small (quoted false l) → Small (cond q (more quote (quoted false l)) (found [] 0))
    by true h = more_small quote (quoted false l) (lit< tt) h
    by false h = octets_none

pub field_small : (l : List ℕ) → Small (field l)
unfolding field
field_small [] = octets_none
field_small (b ∷ l) = by (eqb b quote)
  where
    by : (q : Bool) → Small (cond q (past (quoted false l)) (plain (b ∷ l)))
    by true = past_small (quoted false l) (quoted_small false l)
    by false = plain_small (b ∷ l)
