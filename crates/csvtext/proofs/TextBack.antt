-- Numbers in decimal and names, as `text` has them, are printable and are read from a field again; and what
-- ends a field.
use mathlib.Core.Path.{◌≡◌, refl, sym, ◌∙◌, ap}
use mathlib.Core.Bool.{Bool, true, false, true≢false, not, ◌&&◌}
use mathlib.Core.List.{List, [], ◌∷◌, ◌++◌}
use Prim.Native.Nat.{ℕ, zero, suc, ◌+◌, ◌*◌, ◌/◌, ◌%◌, ◌^◌, ◌≤◌, ◌<◌}
use native.Mathlib.Nat.{zero-add, pow-suc, div-one, mod-eq_of_lt, div-add-mod', div-div-eq-div-mul, div-lt_iff_lt-mul}
use native.Mathlib.Omega.{arith}
use borrow.Author.Tests.{le-leb, leb-true, eq-eqb, ne_eqb}
use lib.Dec.{leb, eqb}
use Rattle.base.proofs.Logic.{if_less, both}
use Rattle.base.proofs.Below.{every_at}
use Rattle.plan.specs.Edition.{name_bytes}
use Rattle.plan.specs.Rules.{byte_of, name_allowed}
use Rattle.fields.specs.Bytes.{value}
use Rattle.text.specs.Text.{digit, digits, decimal, name_text}
use Rattle.text.proofs.Decimal.{digits_one, digits_more, shorter, few_digits}
use Rattle.csvtext.specs.Grammar.{comma, carriage_return, line_feed, found, plain, quoted, field, begins}
use Rattle.csvtext.specs.Decimals.{is_digit, are_digits, is_decimal, decimal_from, most_number, number_in}

-- A byte from 0x20 to 0x7E, and bytes that are all so.
unfoldable pub inside : ℕ → Bool
inside b = leb 0x20 b && leb b 0x7E

unfoldable pub printable : List ℕ → Bool
printable [] = true
printable (b ∷ l) = inside b && printable l

inside_is : (b : ℕ) → 0x20 ≤ b → b ≤ 0x7E → inside b ≡ true
unfolding inside
inside_is b h k = rw (le-leb 0x20 b h, le-leb b 0x7E k) refl

-- What follows a field: bytes that belong to none.
pub record Ends (rest : List ℕ) : Type 0 where
  pub plainly : plain rest ≡ found [] 0
  pub quotedly : quoted true rest ≡ found [] 0
  pub empty : field rest ≡ found [] 0

pub comma_ends : (rest : List ℕ) → Ends (comma ∷ rest)
unfolding plain quoted field
comma_ends rest = record { plainly = refl; quotedly = refl; empty = refl }

pub line_ends : (rest : List ℕ) → Ends (carriage_return ∷ line_feed ∷ rest)
unfolding plain quoted field
line_ends rest = record { plainly = refl; quotedly = refl; empty = refl }

-- Bytes begin with themselves.
pub begins_self : (l rest : List ℕ) → begins l (l ++ rest) ≡ true
unfolding begins
begins_self [] rest = refl
begins_self (b ∷ l) rest = rw (eq-eqb b b refl, begins_self l rest) refl

-- Digits are printable.
digit_is : (d : ℕ) → d < 10 → is_digit (digit d) ≡ true
digit_is d h = rw (le-leb (digit 0) (digit d) (omega arith), le-leb (digit d) (digit 9) (omega arith)) refl

digits_printable : (l : List ℕ) → are_digits l ≡ true → printable l ≡ true
unfolding are_digits printable
digits_printable [] h = refl
digits_printable (b ∷ l) h =
    let p = both (is_digit b) (are_digits l) h in
    let s = both (leb (digit 0) b) (leb b (digit 9)) p.0 in
    let low = leb-true (digit 0) b s.0 in
    let high = leb-true b (digit 9) s.1 in
    rw (inside_is b (omega (arith, low)) (omega (arith, high)), digits_printable l p.1) refl

digits_cons : (d : ℕ) (l : List ℕ) → d < 10 → are_digits l ≡ true → are_digits (digit d ∷ l) ≡ true
unfolding are_digits
digits_cons d l h k = rw (digit_is d h, k) refl

-- Digits of which the first is not 0.
unfoldable leads : List ℕ → Bool
leads [] = false
leads (b ∷ l) = not (eqb b (digit 0)) && are_digits (b ∷ l)

leads_decimal : (l : List ℕ) → leads l ≡ true → is_decimal l ≡ true
unfolding leads is_decimal are_digits
leads_decimal [] h = h
leads_decimal (b ∷ []) h = (both (is_digit b) true (both (not (eqb b (digit 0))) (is_digit b && true) h).1).0
leads_decimal (b ∷ c ∷ l) h = h

leads_digits : (l : List ℕ) → leads l ≡ true → are_digits l ≡ true
unfolding leads
leads_digits [] h = absurd (true≢false (sym h))
leads_digits (b ∷ l) h = (both (not (eqb b (digit 0))) (are_digits (b ∷ l)) h).1

leads_cons : (d : ℕ) (l : List ℕ) → 1 ≤ d → d < 10 → are_digits l ≡ true → leads (digit d ∷ l) ≡ true
unfolding leads
leads_cons d l o h k = rw (ne_eqb (digit d) (digit 0) (λ e. omega arith), digits_cons d l h k) refl

digits_lead : (most n : ℕ) (tail : List ℕ) → 1 ≤ n → n < 10 ^ suc most → are_digits tail ≡ true → leads (digits (suc most) n tail) ≡ true
digits_lead zero n tail o h t = rw (digits_one 0 n tail h) (leads_cons n tail o h t)
digits_lead (suc most) n tail o h t =
    if_less n 10
    (λ l. rw (digits_one (suc most) n tail l) (leads_cons n tail o l t))
    (λ l. rw (digits_more (suc most) n tail l)
    (digits_lead most (n / 10) (digit (n % 10) ∷ tail) (omega arith) (shorter (suc most) n h) (digits_cons (n % 10) tail (omega arith) t)))

-- A number in decimal is a decimal.
record Written (n : ℕ) : Type 0 where
  is : is_decimal (decimal n) ≡ true
  all : are_digits (decimal n) ≡ true

written : (n : ℕ) → Written n
unfolding are_digits is_decimal
written n =
    if_less n 10
    (λ l. let e = digits_one n n [] l in record { is = rw e (digit_is n l); all = rw e (digits_cons n [] l refl) })
    (λ l. let h = digits_lead n n [] (omega arith) (few_digits n) refl in record { is = leads_decimal (decimal n) h; all = leads_digits (decimal n) h })

pub decimal_back : (n : ℕ) → is_decimal (decimal n) ≡ true
decimal_back n = (written n).is

pub decimal_printable : (n : ℕ) → printable (decimal n) ≡ true
decimal_printable n = digits_printable (decimal n) (written n).all

-- The number that it stands for.
digits_value : (most n : ℕ) (tail : List ℕ) → n < 10 ^ suc most → decimal_from 0 (digits (suc most) n tail) ≡ decimal_from n tail
unfolding decimal_from
digits_value zero n tail h = rw (digits_one 0 n tail h) (ap (λ v. decimal_from v tail) (omega arith))
digits_value (suc most) n tail h =
    if_less n 10
    (λ l. rw (digits_one (suc most) n tail l) (ap (λ v. decimal_from v tail) (omega arith)))
    (λ l. rw (digits_more (suc most) n tail l)
    (digits_value most (n / 10) (digit (n % 10) ∷ tail) (shorter (suc most) n h) ∙ ap (λ v. decimal_from v tail) (omega arith)))

pub number_back : (n : ℕ) → n ≤ most_number → number_in (decimal n) ≡ n
unfolding decimal_from
number_back n h = let e : decimal_from 0 (decimal n) ≡ n = digits_value n n [] (few_digits n) in omega (arith, e)

-- A name that rule 6 allows is printable.
pub name_printable : (x : ℕ) → name_allowed x ≡ true → printable (name_text x) ≡ true
unfolding printable name_allowed
name_printable x h =
    let one : (k : ℕ) → k < name_bytes → inside (byte_of x k) ≡ true
    = λ k l.
    let s = both (leb 0x21 (byte_of x k)) (leb (byte_of x k) 0x7E) (every_at (λ k. leb 0x21 (byte_of x k) && leb (byte_of x k) 0x7E) name_bytes k h l) in
    let low = leb-true 0x21 (byte_of x k) s.0 in
    inside_is (byte_of x k) (omega (arith, low)) (leb-true (byte_of x k) 0x7E s.1) in
    rw (one 7 (omega arith), one 6 (omega arith), one 5 (omega arith), one 4 (omega arith), one 3 (omega arith), one 2 (omega arith), one 1 (omega arith), one 0 (omega arith)) refl

-- The eight bytes of a name are its number.
byte_on : (x k : ℕ) → x / 256 ^ suc k * 256 + byte_of x k ≡ x / 256 ^ k
byte_on x k = rw (pow-suc 256 k, ← (div-div-eq-div-mul x (256 ^ k) 256)) (div-add-mod' (x / 256 ^ k) 256)

byte_next : {a : ℕ} (x k : ℕ) → a ≡ x / 256 ^ suc k → a * 256 + byte_of x k ≡ x / 256 ^ k
byte_next x k e = rw e (byte_on x k)

pub name_back : (x : ℕ) → x < 256 ^ 8 → value 0 (name_text x) ≡ x
unfolding value
name_back x h =
    let top : byte_of x 7 ≡ x / 256 ^ 7 = mod-eq_of_lt ((div-lt_iff_lt-mul {k = 256 ^ 7} {x = x} {y = 256} (omega arith)).1 h) in
    let first : 0 * 256 + byte_of x 7 ≡ x / 256 ^ 7 = zero-add (byte_of x 7) ∙ top in
    let v = byte_next x 1 (byte_next x 2 (byte_next x 3 (byte_next x 4 (byte_next x 5 (byte_next x 6 first))))) in
    byte_next x 0 v ∙ div-one x
