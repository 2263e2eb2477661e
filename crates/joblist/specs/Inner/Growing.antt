-- No promise rests on this file: it is here for the contracts of inner functions.
-- How a text that is being made grows by a piece.
use Rattle.std.specs.Prelude.{List, ℕ, ◌+◌, ◌≤◌, length}
use Rattle.text.specs.Inner.Growth.{Grown}
use Rattle.joblist.specs.declared.export.Draft.{Draft}

-- Where there is room for the piece, it is appended.
pub record Grows (before : Draft) (piece : List ℕ) (after : Draft) : Type 0 where
  pub grown : before.length + length piece ≤ length before.bytes → Grown before.bytes after.bytes before.length after.length piece
