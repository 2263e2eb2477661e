-- Laws of filled rows.
use mathlib.Core.Path.{◌≡◌, refl, sym, ◌∙◌, ap₂}
use mathlib.Core.List.{List}
use Prim.Native.Nat.{ℕ, zero, suc, ◌+◌, ◌≤◌, ◌<◌}
use native.Mathlib.Numerals.{add-one}
use native.Mathlib.Omega.{arith}
use lib.ListN.{length, get_or, set, length-set}
use lib.Seq.{get_or-set_same, get_or-set_other, ext_get_or}
use Rattle.base.specs.Fill.{filled}
use Rattle.base.proofs.Logic.{if_less, below-or-last}

-- Filling a row entry by entry, as a loop does.
pub filled_start : (f : ℕ → ℕ) (l : List ℕ) → filled f 0 l ≡ l
unfolding filled
filled_start f l = refl

pub filled_next : (f : ℕ → ℕ) (n : ℕ) (l : List ℕ) {row : List ℕ} {x : ℕ} → row ≡ filled f n l → x ≡ f n → set row n x ≡ filled f (n + 1) l
unfolding filled
filled_next f n l e q = rw (add-one, e, q) refl

pub filled_length : (f : ℕ → ℕ) (n : ℕ) (l : List ℕ) → length (filled f n l) ≡ length l
unfolding filled
filled_length f zero l = refl
filled_length f (suc n) l = rw (length-set, filled_length f n l) refl

pub filled_ext : (f g : ℕ → ℕ) (n : ℕ) (l : List ℕ) → ((k : ℕ) → k < n → f k ≡ g k) → filled f n l ≡ filled g n l
unfolding filled
filled_ext f g zero l h = refl
filled_ext f g (suc n) l h = ap₂ (λ row x. set row n x) (filled_ext f g n l (λ k b. h k (omega arith))) (h n (omega arith))

-- The entries of a filled row: f below n, and unchanged from n on.
pub filled_at : (f : ℕ → ℕ) (n : ℕ) (l : List ℕ) (k : ℕ) → k < length l → k < n → get_or (filled f n l) k 0 ≡ f k
unfolding filled
filled_at f (suc n) l k inside below =
    below-or-last k n below
    (λ p. get_or-set_other (filled f n l) n k (f n) 0 (omega arith) ∙ filled_at f n l k inside p)
    (λ q. rw q (get_or-set_same (filled f n l) n (f n) 0 (rw (filled_length f n l) (omega arith))))
filled_at f zero l k inside below = elim below [ ]

pub filled_rest : (f : ℕ → ℕ) (n : ℕ) (l : List ℕ) (k : ℕ) → n ≤ k → get_or (filled f n l) k 0 ≡ get_or l k 0
unfolding filled
filled_rest f zero l k h = refl
filled_rest f (suc n) l k h = get_or-set_other (filled f n l) n k (f n) 0 (omega arith) ∙ filled_rest f n l k (omega arith)

-- A row of the same length that agrees with f below n and with l from n on is the filled row.
pub is_filled : (f : ℕ → ℕ) (n : ℕ) (l row : List ℕ) → length row ≡ length l
    → ((k : ℕ) → k < length l → k < n → get_or row k 0 ≡ f k) → ((k : ℕ) → n ≤ k → get_or row k 0 ≡ get_or l k 0)
    → filled f n l ≡ row
is_filled f n l row long front rest =
    ext_get_or 0 (filled f n l) row (filled_length f n l ∙ sym long)
    (λ k h.
    let inside : k < length l = rw (filled_length f n l) at h in
    if_less k n
    (λ below. filled_at f n l k inside below ∙ sym (front k inside below))
    (λ behind. filled_rest f n l k behind ∙ sym (rest k behind)))
