-- Bytes at an offset of a file: a field is read where the file has its written bytes,
-- and where a field is read the file has them.
use mathlib.Core.Path.{◌≡◌, refl, sym, ◌∙◌, ap}
use mathlib.Core.List.{List, [], ◌∷◌, ◌++◌, append_assoc}
use Prim.Native.Nat.{ℕ, zero, suc, ◌+◌, ◌-◌, ◌≤◌, ◌<◌, ◌^◌}
use native.Mathlib.Nat.{add-zero}
use native.Mathlib.Omega.{arith}
use lib.Dec.{lit<}
use lib.ListN.{length, take, drop, length-append, length-drop, take-append-drop}
use lib.Seq.{take_at, drop_at, drop-drop, get_or-drop, length-take-le}
use Rattle.fields.specs.Bytes.{bytes, value}
use Rattle.fields.specs.Parsers.{got, field}
use Rattle.fields.proofs.ByteLaws.{Octets, length_bytes, value_bytes, value_below, bytes_value}
use Rattle.fields.proofs.ParserLaws.{field_whole, field_extent}

-- The file has the bytes `bs` at offset `at`, and they end at offset `next`.
pub record Stands (file : List ℕ) (at : ℕ) (bs : List ℕ) (next : ℕ) : Type 0 where
  pub is : drop at file ≡ bs ++ drop next file
  pub ends : next ≡ at + length bs

-- A file has the empty list of bytes at every offset.
pub stands_none : (file : List ℕ) (at : ℕ) → Stands file at [] at
stands_none file at = record { is = refl; ends = sym (add-zero at) }

-- Bytes at an offset, and bytes at the offset where they end,
-- are a concatenation at the first offset.
pub stands_then : {file : List ℕ} {at next end : ℕ} {a b : List ℕ} → Stands file at a next → Stands file next b end → Stands file at (a ++ b) end
stands_then {file} {end = end} {a = a} {b = b} s t =
    record {
      is = s.is ∙ ap (λ l. a ++ l) t.is ∙ sym (append_assoc a b (drop end file));
      ends = rw (length-append a b) (omega (arith, s.ends, t.ends));
    }

-- The second part of a concatenation is at the offset where the first ends.
pub stands_rest : {file : List ℕ} {at end : ℕ} (a b : List ℕ) → Stands file at (a ++ b) end → Stands file (at + length a) b end
stands_rest {file} {at} {end} a b s =
    record {
      is = sym (drop-drop (length a) at file) ∙ ap (drop (length a)) (s.is ∙ append_assoc a b (drop end file))
          ∙ drop_at a (b ++ drop end file) (length a) refl;
      ends = s.ends ∙ rw (length-append a b) (omega arith);
    }

-- The first part of a concatenation is at the offset of the whole.
pub stands_first : {file : List ℕ} {at end : ℕ} (a b : List ℕ) → Stands file at (a ++ b) end → Stands file at a (at + length a)
stands_first {file} {at} {end} a b s =
    record {
      is = s.is ∙ append_assoc a b (drop end file) ∙ ap (λ l. a ++ l) (sym (stands_rest a b s).is);
      ends = refl;
    }

-- The end offset may be replaced by an equal number.
pub stands_at : {file : List ℕ} {at next end : ℕ} {bs : List ℕ} → Stands file at bs next → next ≡ end → Stands file at bs end
stands_at s e = rw e at s

-- The bytes may be replaced by equal bytes.
pub stands_as : {file : List ℕ} {at next : ℕ} {a b : List ℕ} → Stands file at a next → a ≡ b → Stands file at b next
stands_as s e = rw e at s

-- A suffix of a list of bytes is a list of bytes.
pub octets_drop : (n : ℕ) (l : List ℕ) → Octets l → Octets (drop n l)
octets_drop n l h k = rw (get_or-drop n l k 0) (h (n + k))

-- A prefix of a list of bytes is a list of bytes.
pub octets_take : (n : ℕ) (l : List ℕ) → Octets l → Octets (take n l)
octets_take zero l h k = lit< tt
octets_take (suc n) [] h k = lit< tt
octets_take (suc n) (x ∷ l) h zero = h 0
octets_take (suc n) (x ∷ l) h (suc k) = octets_take n l (λ j. h (suc j)) k

-- A number that fits its width is read where the file has its bytes.
pub field_back : (w x : ℕ) (file : List ℕ) (at : ℕ) {next : ℕ} → 1 ≤ w → x < 256 ^ w → Stands file at (bytes w x) next → field w file at ≡ got x next
field_back w x file at {next} some small s =
    let n = length_bytes w x in
    let long : length file - at ≡ w + length (drop next file)
    = sym (length-drop at file) ∙ ap length s.is ∙ length-append (bytes w x) (drop next file) ∙ ap (λ k. k + length (drop next file)) n in
    let front : take w (drop at file) ≡ bytes w x = ap (take w) s.is ∙ take_at (bytes w x) (drop next file) w n in
    sym (field_whole w file at (omega (arith, long)) (sym (ap (value 0) front ∙ value_bytes w x small)))
    ∙ ap (got x) (sym (s.ends ∙ ap (λ k. at + k) n))

-- Where a field is read, the file has the bytes of its value, which fits its width.
pub field_again : (w : ℕ) (file : List ℕ) (at : ℕ) {x next : ℕ} → Octets file → field w file at ≡ got x next
    → Stands file at (bytes w x) next × (x < 256 ^ w)
field_again w file at {x} {next} octets e =
    let f = field_extent w file at e in
    let l = take w (drop at file) in
    let n : length l ≡ w = length-take-le w (drop at file) (rw (length-drop at file) (omega (arith, f.1))) in
    let o = octets_take w (drop at file) (octets_drop at file octets) in
    let is : bytes w x ≡ l = ap (bytes w) f.2 ∙ ap (λ k. bytes k (value 0 l)) (sym n) ∙ bytes_value l o in (
      record {
        is = sym (take-append-drop w (drop at file)) ∙ ap (λ r. l ++ r) (drop-drop w at file) ∙ ap (λ r. r ++ drop (at + w) file) (sym is)
            ∙ ap (λ k. bytes w x ++ drop k file) (sym f.0);
        ends = f.0 ∙ ap (λ k. at + k) (sym (length_bytes w x));
      },
      rw f.2 (rw n at (value_below l o)),
    )
