-- The plan file includes all of the input's first five bytes that
-- were read, and is at most the largest file.
use mathlib.Core.List.{List}
use Prim.Native.Nat.{ℕ, ◌≤◌, ◌<◌}
use native.Mathlib.Decide.{dec_lt}
use native.Mathlib.Omega.{arith}
use borrow.Author.Tests.{lt-ltb, le-ltb}
use lib.ListN.{length}
use Rattle.planfields.specs.Layout.{opening_bytes, largest_file, file_bytes}

pub file_fits : (l : List ℕ) → length l ≤ opening_bytes → (length l ≤ file_bytes l) × (file_bytes l ≤ largest_file)
unfolding file_bytes
file_fits l h = go (dec_lt (length l) opening_bytes)
  where
    go : Dec (length l < opening_bytes) → (length l ≤ file_bytes l) × (file_bytes l ≤ largest_file)
    go (yes p) = rw (lt-ltb (length l) opening_bytes p) (omega arith, omega arith)
    go (no p) = let q : opening_bytes ≤ length l = omega arith in rw (le-ltb (length l) opening_bytes q) (omega arith, omega arith)
