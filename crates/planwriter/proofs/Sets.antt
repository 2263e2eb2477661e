-- Laws of `sets`, which stores a list of values at successive indices.
use mathlib.Core.Path.{◌≡◌, refl, sym, ◌∙◌, ap}
use mathlib.Core.List.{List, [], ◌∷◌, ◌++◌}
use Prim.Native.Nat.{ℕ, suc, ◌+◌}
use native.Mathlib.Nat.{add-zero, add-suc}
use native.Mathlib.Omega.{arith}
use lib.ListN.{length, set, length-append}
use lib.Seq.{sets, length-sets}
use Rattle.base.proofs.Stores.{set_sets, sets_append}

-- `out` is `first` with the bytes `bs` stored from offset `at` on, and they end at offset `next`.
pub record Put (first : List ℕ) (at : ℕ) (bs out : List ℕ) (next : ℕ) : Type 0 where
  pub stands : out ≡ sets first at bs
  pub ends : next ≡ at + length bs

pub put_start : (first : List ℕ) (at : ℕ) → Put first at [] first at
put_start first at = record { stands = refl; ends = sym (add-zero at) }

module _ {first : List ℕ} {at : ℕ} {bs out : List ℕ} {next : ℕ} (so : Put first at bs out next) where
  pub put_length : length out ≡ length first
  put_length = ap length so.stands ∙ length-sets first at bs

  pub put_on : (b : List ℕ) {after : List ℕ} {then : ℕ} → then ≡ next + length b → after ≡ sets out next b → Put first at (bs ++ b) after then
  put_on b e h =
      record {
        stands = h ∙ rw (so.stands, so.ends) (sets_append bs b first at);
        ends = rw (length-append bs b) (omega (arith, e, so.ends));
      }

-- Storing a byte just before stored bytes extends them by one.
pub put_turn : (first out tail : List ℕ) (at k b : ℕ) → out ≡ sets first (at + suc k) tail → set out (at + k) b ≡ sets first (at + k) (b ∷ tail)
put_turn first out tail at k b e =
    rw e (set_sets tail first (at + suc k) (at + k) b (omega arith) ∙ ap (λ j. sets (set first (at + k) b) j tail) (add-suc at k))
