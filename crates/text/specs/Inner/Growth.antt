-- For the contracts of internal functions; no promise rests on this file. How a line grows by a
-- piece.
use Rattle.std.specs.Prelude.{◌≡◌, List, ◌++◌, ℕ, ◌+◌, length, take}

-- A piece is appended: `before` holds a line in its first `at` bytes, `after`
-- that line and the piece in its first `next`.
pub record Grown (before after : List ℕ) (at next : ℕ) (piece : List ℕ) : Type 0 where
  pub end : next ≡ at + length piece
  pub room : length after ≡ length before
  pub bytes : take next after ≡ take at before ++ piece
