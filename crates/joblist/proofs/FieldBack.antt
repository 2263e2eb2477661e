-- What the export writes into a field, the import reads from it: any printable bytes, and grades.
use mathlib.Core.Path.{◌≡◌, refl, sym, ◌∙◌}
use mathlib.Core.Logic.{◌↔◌, ◌⊎◌, inl, inr}
use mathlib.Core.Bool.{Bool, true, false, true≢false, not, cond, ◌&&◌, ◌||◌}
use mathlib.Core.List.{List, [], ◌∷◌, ◌++◌, append_assoc}
use Prim.Native.Nat.{ℕ, zero, suc, ◌<◌}
use native.Mathlib.Omega.{arith}
use borrow.Author.Tests.{leb-true, eqb-true, eq-eqb, ne_eqb}
use lib.Dec.{leb, eqb}
use lib.ListN.{length, get_or}
use Rattle.base.proofs.Logic.{if_true, both, neither}
use Rattle.plan.specs.Rules.{lo, hi, name_allowed, grade_allowed}
use Rattle.text.specs.Text.{decimal, name_text}
use Rattle.csvtext.specs.Grammar.{comma, quote, carriage_return, line_feed, is_plain, is_quotable, found, plain, quoted, field, begins}
use Rattle.csvtext.specs.Items.{grade_named}
use Rattle.csvtext.proofs.TextBack.{inside, printable, Ends, name_printable}
use Rattle.joblist.specs.Export.{needs_quotes, doubled, field_text, Special, InQuotes, grade_text}
use Rattle.joblist.proofs.ExportLaws.{field_plain, field_quoted, number_plain, grade_plain}

-- A byte that needs no quotes is plain, and any other one but a quote may stand in quotes.
plain_byte : (b : ℕ) → inside b ≡ true → eqb b quote ≡ false → eqb b comma ≡ false → is_plain b ≡ true
unfolding inside
plain_byte b h q c = let s = both (leb 0x20 b) (leb b 0x7E) h in rw (s.0, s.1, q, c) refl

quotable_byte : (b : ℕ) → inside b ≡ true → eqb b quote ≡ false → is_quotable b ≡ true
unfolding inside
quotable_byte b h q = let s = both (leb 0x20 b) (leb b 0x7E) h in rw (s.0, s.1, q) (go (eqb b comma))
  where
    go : (t : Bool) → (not t || t || eqb b carriage_return || eqb b line_feed) ≡ true
    go true = refl
    go false = refl

-- A byte of a field that needs no quotes.
record Unquoted (b : ℕ) (l : List ℕ) : Type 0 where
  quoteless : eqb b quote ≡ false
  commaless : eqb b comma ≡ false
  rest : needs_quotes l ≡ false

unquoted : (b : ℕ) (l : List ℕ) → needs_quotes (b ∷ l) ≡ false → Unquoted b l
unfolding needs_quotes
unquoted b l e =
    let s₁ = neither (eqb b quote || eqb b comma || eqb b carriage_return || eqb b line_feed) (needs_quotes l) e in
    let s₂ = neither (eqb b quote || eqb b comma || eqb b carriage_return) (eqb b line_feed) s₁.0 in
    let s₃ = neither (eqb b quote || eqb b comma) (eqb b carriage_return) s₂.0 in
    let s₄ = neither (eqb b quote) (eqb b comma) s₃.0 in
    record { quoteless = s₄.0; commaless = s₄.1; rest = s₁.1 }

-- A field without quotes.
plain_back : (l rest : List ℕ) → printable l ≡ true → needs_quotes l ≡ false → plain rest ≡ found [] 0 → plain (l ++ rest) ≡ found l (length l)
unfolding plain printable
plain_back [] rest h n e = e
plain_back (b ∷ l) rest h n e =
    let p = both (inside b) (printable l) h in
    let u = unquoted b l n in
    rw (plain_byte b p.0 u.quoteless u.commaless, plain_back l rest p.1 u.rest e) refl

-- A field in quotes, after its first one.
quoted_back : (l rest : List ℕ) → printable l ≡ true → quoted true rest ≡ found [] 0
    → quoted false (doubled l ++ (quote ∷ rest)) ≡ found l (length (doubled l ++ (quote ∷ [])))
unfolding quoted doubled printable
quoted_back [] rest h e = rw e refl
quoted_back (b ∷ l) rest h e =
    let p = both (inside b) (printable l) h in
    let again = quoted_back l rest p.1 e in
    if_true (eqb b quote)
    (λ q. let same = eqb-true b quote q in rw (same, again) refl)
    (λ q. rw (q, quotable_byte b p.0 q, again, q) refl)

-- A field as the export writes it.
in_quotes_lem : (l rest : List ℕ) → printable l ≡ true → Ends rest
    → field ((quote ∷ doubled l ++ (quote ∷ [])) ++ rest) ≡ found l (length (quote ∷ doubled l ++ (quote ∷ [])))
unfolding field
in_quotes_lem l rest h e = rw (append_assoc (doubled l) (quote ∷ []) rest, quoted_back l rest h e.quotedly) refl

without_quotes : (l rest : List ℕ) → printable l ≡ true → needs_quotes l ≡ false → Ends rest → field (l ++ rest) ≡ found l (length l)
unfolding field
without_quotes [] rest h n e = e.empty
without_quotes (b ∷ l) rest h n e = rw (unquoted b l n).quoteless (plain_back (b ∷ l) rest h n e.plainly)

pub field_back : (l rest : List ℕ) → printable l ≡ true → Ends rest → field (field_text l ++ rest) ≡ found l (length (field_text l))
field_back l rest h e =
    if_true (needs_quotes l)
    (λ n. rw (field_quoted l n) (in_quotes_lem l rest h e))
    (λ n. rw (field_plain l n) (without_quotes l rest h n e))

-- The letter of a grade that rule 8 allows.
pub grade_back : (g : ℕ) → grade_allowed g ≡ true → grade_named (grade_text g) ≡ g
unfolding begins
grade_back g h =
    if_true (eqb g hi)
    (λ e. rw e (sym (eqb-true g hi e)))
    (λ e. if_true (eqb g lo) (λ z. rw e (sym (eqb-true g lo z))) (λ z. absurd (true≢false (sym (rw (z, e) at h)))))

pub grade_printable : (g : ℕ) → printable (grade_text g) ≡ true
unfolding printable inside
grade_printable g = go (eqb g hi)
  where
    go : (t : Bool) → printable (cond t (72 ∷ []) (76 ∷ [])) ≡ true
    go true = refl
    go false = refl

needs_special : (l : List ℕ) → printable l ≡ true → needs_quotes l ≡ true → Special l
unfolding printable needs_quotes inside
needs_special [] h n = absurd (true≢false (sym n))
needs_special (b ∷ l) h n =
    let p = both (leb 0x20 b && leb b 0x7E) (printable l) h in
    let low = leb-true 0x20 b (both (leb 0x20 b) (leb b 0x7E) p.0).0 in
    if_true (eqb b quote) (λ q. (0, omega arith, inl (eqb-true b quote q)))
    (λ q. if_true (eqb b comma) (λ c. (0, omega arith, inr (eqb-true b comma c)))
    (λ c.
    let rest : needs_quotes l ≡ true
    = rw (q, c, ne_eqb b carriage_return (λ e. omega (arith, low)), ne_eqb b line_feed (λ e. omega (arith, low))) at n in
    let s = needs_special l p.1 rest in
    (suc s.0, omega (arith, s.1), s.2)))

-- Bytes that begin with a quote have one.
begins_special : (l : List ℕ) → InQuotes l → Special l
begins_special [] q = absurd (let z : ◌≡◌ {A = ℕ} 0 1 = cc q.1 in omega arith)
begins_special (b ∷ l) q = (0, omega arith, inl (cc q.1))

special_needs : (l : List ℕ) → Special l → needs_quotes l ≡ true
special_needs l s = if_true (needs_quotes l) (λ n. n) (λ n. absurd (none l s.0 n s.1 s.2))
  where
    none : (l : List ℕ) (k : ℕ) → needs_quotes l ≡ false → k < length l → (get_or l k 0 ≡ quote) ⊎ (get_or l k 0 ≡ comma) → ⊥
    none [] k n h t = omega arith
    none (b ∷ l) zero n h (inl q) = true≢false (sym (eq-eqb b quote q) ∙ (unquoted b l n).quoteless)
    none (b ∷ l) zero n h (inr c) = true≢false (sym (eq-eqb b comma c) ∙ (unquoted b l n).commaless)
    none (b ∷ l) (suc k) n h t = none l k (unquoted b l n).rest (omega arith) t

-- A field of printable bytes is written in quotes exactly when one of them is a quote or a comma.
written_quoted : (l : List ℕ) → printable l ≡ true → InQuotes (field_text l) ↔ Special l
unfolding field_text
written_quoted l h = (quotes_special, special_quotes)
  where
    quotes_special : InQuotes (field_text l) → Special l
    quotes_special q =
        if_true (needs_quotes l) (needs_special l h)
        (λ e. begins_special l (rw e at q))

    special_quotes : Special l → InQuotes (field_text l)
    special_quotes s = rw (special_needs l s) (doubled l ++ (quote ∷ []), refl)

-- A name that rule 6 allows is written in quotes exactly when one of its bytes is a quote or a comma; a grade and a number never are.
pub name_quoted_exactly : (x : ℕ) → name_allowed x ≡ true → InQuotes (field_text (name_text x)) ↔ Special (name_text x)
name_quoted_exactly x h = written_quoted (name_text x) (name_printable x h)

pub number_unquoted : (n : ℕ) → field_text (decimal n) ≡ decimal n
number_unquoted n = field_plain (decimal n) (number_plain n)

pub grade_unquoted : (grade : ℕ) → field_text (grade_text grade) ≡ grade_text grade
grade_unquoted = grade_plain
