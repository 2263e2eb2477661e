-- The size of a plan file lies between the number of its opening bytes read and the largest file.
use mathlib.Core.Path.{◌≡◌, refl, sym, ◌∙◌, ap}
use mathlib.Core.List.{List}
use Prim.Native.Nat.{ℕ, ◌≤◌, ◌<◌}
use native.Mathlib.Decide.{dec_lt}
use native.Mathlib.Omega.{arith}
use borrow.Author.Tests.{lt-ltb}
use lib.ListN.{length, take}
use lib.Seq.{take-take, length-take-le}
use Rattle.planfields.specs.Layout.{opening_bytes, largest_file, file_bytes}
use Rattle.planfile.proofs.FileSize.{file_fits}
use Rattle.program.proofs.FileExtent.{opening_tells_the_length}

pub size_fits : (l : List ℕ) (first size : ℕ) → first ≡ length l → first ≤ opening_bytes → size ≡ file_bytes l
    → (first ≤ size) × (size ≤ largest_file)
size_fits l first size e h s =
    let f = file_fits l (omega arith) in
    (omega (arith, f.0), omega (arith, f.1))

-- Fewer bytes than the opening has are the whole file.
short_file : (l : List ℕ) → length l < opening_bytes → file_bytes l ≡ length l
unfolding file_bytes
short_file l h = rw (lt-ltb (length l) opening_bytes h) refl

-- All bytes that were read of a file lie within it: its length is known from those that were read
-- first, and the second read leaves these as they are.
pub size_known : (l m : List ℕ) (first end : ℕ) → first ≤ opening_bytes → first ≤ length l → first ≤ end → end ≤ file_bytes (take first l)
    → take first m ≡ take first l → end ≤ file_bytes (take end m)
size_known l m first end h fits rise within same = go (dec_lt first opening_bytes)
  where
    read : length (take first l) ≡ first
    read = length-take-le first l fits

    go : Dec (first < opening_bytes) → end ≤ file_bytes (take end m)
    go (yes p) =
        let size = short_file (take first l) (omega (arith, read)) ∙ read in
        let none : end ≡ first = omega (arith, size) in
        rw (none, same, size) (omega arith)
    go (no p) =
        let e : first ≡ opening_bytes = omega arith in
        let size : file_bytes (take end m) ≡ file_bytes (take first l)
        = sym (opening_tells_the_length (take end m))
        ∙ ap file_bytes (take-take opening_bytes end m (omega arith) ∙ ap (λ k. take k m) (sym e) ∙ same) in
        omega (arith, size)
