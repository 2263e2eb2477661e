-- Laws of fields as the code reads them, one byte a turn: what is left to read, added to what is known,
-- gives the whole field.
use mathlib.Core.Path.{◌≡◌, refl, sym, ◌∙◌, ap}
use mathlib.Core.Bool.{Bool, true, false, true≢false, not, cond, ◌&&◌, ◌||◌}
use mathlib.Core.List.{List, [], ◌∷◌}
use Prim.Native.Nat.{ℕ, suc, ◌+◌, ◌≤◌, ◌<◌}
use native.Mathlib.Nat.{add-zero}
use native.Mathlib.Numerals.{add-one}
use native.Mathlib.Omega.{arith}
use borrow.Author.Tests.{eqb-true, not-true, not-false}
use lib.Dec.{eqb}
use lib.ListN.{length, get_or, drop, drop_of_length-le}
use lib.Seq.{drop-cons}
use Rattle.std.specs.Prelude.{None}
use Rattle.base.proofs.Logic.{neither}
use Rattle.csvtext.specs.Grammar.{quote, is_plain, is_quotable, Found, found, broken, more, past, plain, quoted, field}
use Rattle.csvtext.specs.declared.field.Seen.{Seen}
use Rattle.csvtext.specs.Inner.Seen.{with_byte, with_bytes, known, seen_at}

-- A byte that stands for itself is known and passed; one that stands for nothing is passed.
seen_more : (i : ℕ) (s : Seen) (b : ℕ) (f : Found) → seen_at i s (more b f) ≡ seen_at (suc i) (with_byte s b) f
unfolding with_bytes
seen_more i s b (found l used) = ap (known (with_bytes (with_byte s b) l)) (omega arith)
seen_more i s b broken = refl

seen_past : (i : ℕ) (s : Seen) (f : Found) → seen_at i s (past f) ≡ seen_at (suc i) s f
seen_past i s (found l used) = ap (known (with_bytes s l)) (omega arith)
seen_past i s broken = refl

-- A field that ends here.
seen_none : (i : ℕ) (s : Seen) → seen_at i s (found [] 0) ≡ known s i
unfolding with_bytes
seen_none i s = ap (known s) (add-zero i)

-- In quotes: another byte after a quote ends the field.
ends_at : (i : ℕ) (s : Seen) (closed : Bool) (b : ℕ) (l : List ℕ) → (closed && not (eqb b quote)) ≡ true
    → seen_at i s (quoted closed (b ∷ l)) ≡ known s i
unfolding quoted
ends_at i s true b l t = rw (not-true (eqb b quote) t) (seen_none i s)
ends_at i s false b l t = absurd (true≢false (sym t))

-- A byte that is neither a quote nor allowed there breaks it.
breaks_at : (closed : Bool) (b : ℕ) (l : List ℕ) → (closed && not (eqb b quote)) ≡ false → (eqb b quote || is_quotable b) ≡ false
    → quoted closed (b ∷ l) ≡ broken
unfolding quoted
breaks_at true b l t u = absurd (true≢false (sym (not-false (eqb b quote) t) ∙ (neither (eqb b quote) (is_quotable b) u).0))
breaks_at false b l t u = rw ((neither (eqb b quote) (is_quotable b) u).1, (neither (eqb b quote) (is_quotable b) u).0)

-- Any other byte goes on: a quote after a quote and a byte that is no quote stand for themselves.
goes_on : (i : ℕ) (s : Seen) (closed : Bool) (b : ℕ) (l : List ℕ) → (closed && not (eqb b quote)) ≡ false
    → (eqb b quote || is_quotable b) ≡ true
    → seen_at i s (quoted closed (b ∷ l))
    ≡ seen_at (suc i) (cond (closed || not (eqb b quote)) (with_byte s b) s) (quoted (eqb b quote && not closed) l)
unfolding quoted
goes_on i s true b l t u =
    let q : eqb b quote ≡ true = not-false (eqb b quote) t in
    let e : b ≡ quote = eqb-true b quote q in
    rw (q, e) (seen_more i s quote (quoted false l))
goes_on i s false b l t u = by (eqb b quote) refl u
  where
    by : (q : Bool) → eqb b quote ≡ q → (q || is_quotable b) ≡ true
        → seen_at i s (cond q (past (quoted true l)) (cond (is_quotable b) (more b (quoted false l)) broken))
        ≡ seen_at (suc i) (cond (not q) (with_byte s b) s) (quoted (q && true) l)
    by true e u = seen_past i s (quoted true l)
    by false e u = rw u (seen_more i s b (quoted false l))

module _ (text : List ℕ) (i : ℕ) (s : Seen) where
  -- At the end of the text: a plain field ends there, one in quotes if they are closed.
  module _ (over : length text ≤ i) where
    pub plain_over : seen_at i s (plain (drop i text)) ≡ known s i
    unfolding plain
    plain_over = rw (drop_of_length-le text over) (seen_none i s)

    pub quoted_over : (closed : Bool) → seen_at i s (quoted closed (drop i text)) ≡ cond closed (known s i) None
    unfolding quoted
    quoted_over true = rw (drop_of_length-le text over) (seen_none i s)
    quoted_over false = rw (drop_of_length-le text over) refl

    pub field_over : seen_at i s (field (drop i text)) ≡ known s i
    unfolding field
    field_over = rw (drop_of_length-le text over) (seen_none i s)

  -- At a byte.
  module _ (h : i < length text) where
    pub plain_ends : is_plain (get_or text i 0) ≡ false → seen_at i s (plain (drop i text)) ≡ known s i
    unfolding plain
    plain_ends t = rw (drop-cons text i 0 h, t) (seen_none i s)

    pub plain_next : is_plain (get_or text i 0) ≡ true
        → seen_at i s (plain (drop i text)) ≡ seen_at (i + 1) (with_byte s (get_or text i 0)) (plain (drop (i + 1) text))
    unfolding plain
    plain_next t = rw (add-one, drop-cons text i 0 h, t) (seen_more i s (get_or text i 0) (plain (drop (suc i) text)))

    pub field_quoted : eqb (get_or text i 0) quote ≡ true
        → seen_at i s (field (drop i text)) ≡ seen_at (i + 1) s (quoted false (drop (i + 1) text))
    unfolding field
    field_quoted t = rw (add-one, drop-cons text i 0 h, t) (seen_past i s (quoted false (drop (suc i) text)))

    pub field_plain : eqb (get_or text i 0) quote ≡ false → seen_at i s (field (drop i text)) ≡ seen_at i s (plain (drop i text))
    unfolding field
    field_plain t = rw (drop-cons text i 0 h, t) refl

    pub quoted_ends : (closed : Bool) → (closed && not (eqb (get_or text i 0) quote)) ≡ true
        → seen_at i s (quoted closed (drop i text)) ≡ known s i
    quoted_ends closed t = rw (drop-cons text i 0 h) (ends_at i s closed (get_or text i 0) (drop (suc i) text) t)

    pub quoted_breaks : (closed : Bool) → (closed && not (eqb (get_or text i 0) quote)) ≡ false
        → (eqb (get_or text i 0) quote || is_quotable (get_or text i 0)) ≡ false → seen_at i s (quoted closed (drop i text)) ≡ None
    quoted_breaks closed t u = rw (drop-cons text i 0 h) (ap (seen_at i s) (breaks_at closed (get_or text i 0) (drop (suc i) text) t u))

    pub quoted_next : (closed : Bool) → (closed && not (eqb (get_or text i 0) quote)) ≡ false
        → (eqb (get_or text i 0) quote || is_quotable (get_or text i 0)) ≡ true
        → seen_at i s (quoted closed (drop i text))
        ≡ seen_at (i + 1) (cond (closed || not (eqb (get_or text i 0) quote)) (with_byte s (get_or text i 0)) s)
        (quoted (eqb (get_or text i 0) quote && not closed) (drop (i + 1) text))
    quoted_next closed t u = rw (add-one, drop-cons text i 0 h) (goes_on i s closed (get_or text i 0) (drop (suc i) text) t u)
