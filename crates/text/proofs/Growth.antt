-- Laws of a growing line: copying a text appends it, and
-- appending two pieces appends their concatenation.
use mathlib.Core.Path.{◌≡◌, refl, sym, ◌∙◌, ap}
use mathlib.Core.List.{List, [], ◌++◌, append_assoc, append-nil}
use Prim.Native.Nat.{ℕ, ◌+◌, ◌≤◌}
use native.Mathlib.Omega.{arith}
use lib.ListN.{length, take, drop, length-append}
use lib.Seq.{paste, take-paste, length-paste, take-length}
use borrow.Author.Tests.{le-leb}
use Rattle.text.specs.Append.{end_after, appended, Adds}
use Rattle.text.specs.Inner.Growth.{Grown}

-- Copying a text to the line's end appends it.
pub grown_by_text : (l : List ℕ) (at : ℕ) (t : List ℕ) → at + length t ≤ length l
    → Grown l (paste l at t (length t)) at (at + length t) t
grown_by_text l at t h =
    record {
      end = refl;
      room = length-paste l at t (length t) h (omega arith);
      bytes = take-paste l at t (length t) (omega arith) (omega arith) ∙ ap (λ s. take at l ++ s) (take-length t);
    }

-- Appending the empty piece changes nothing.
pub grown_by_none : (l : List ℕ) (at : ℕ) → Grown l l at at []
grown_by_none l at = record { end = omega arith; room = refl; bytes = sym (append-nil (take at l)) }

-- Appending two pieces appends their concatenation.
pub grown_twice : {l m n : List ℕ} {at next end : ℕ} {s t : List ℕ} → Grown l m at next s → Grown m n next end t → Grown l n at end (s ++ t)
grown_twice {l} {m} {n} {at} {next} {end} {s} {t} g h =
    record {
      end = omega (arith, length-append s t);
      room = h.room ∙ g.room;
      bytes = h.bytes ∙ ap (λ u. u ++ t) g.bytes ∙ append_assoc (take at l) s t;
    }

-- Equal pieces are interchangeable.
pub grown_same : {l m : List ℕ} {at next : ℕ} {s t : List ℕ} → s ≡ t → Grown l m at next s → Grown l m at next t
grown_same e g = rw e at g

-- What a call that appends leaves, for an equal piece.
pub adds_same : (l : List ℕ) (at : ℕ) {m : List ℕ} {r : ℕ} {s t : List ℕ} → s ≡ t → Adds l at s r m → Adds l at t r m
adds_same l at e a = rw e at a

-- With room for the piece it is copied to the line's end, and the line has grown by it.
pub adds_pasted : (l : List ℕ) (at : ℕ) (t : List ℕ) {m : List ℕ} {r : ℕ} → at + length t ≤ length l → Adds l at t r m → m ≡ paste l at t (length t)
unfolding appended
adds_pasted l at t h a =
    (rw (le-leb (at + length t) (length l) h) at a.1) ∙ ap (λ s. take at l ++ s ++ drop (at + length t) l) (sym (take-length t))

pub adds_grown : {l m t : List ℕ} {at r : ℕ} → at + length t ≤ length l → Adds l at t r m → Grown l m at r t
unfolding end_after
adds_grown {l} {m} {t} {at} {r} h a =
    let end : r ≡ at + length t = rw (le-leb (at + length t) (length l) h) at a.0 in
    rw (end, adds_pasted l at t h a) (grown_by_text l at t h)
