-- Lines that grow in a buffer, and the contracts of the calls that append to them.
use Rattle.std.specs.Prelude.{◌≡◌, Bool, cond, List, ◌++◌, ℕ, ◌+◌, leb, length, take, drop}
use Rattle.plan.specs.Kinds.{Bytes, Offset}

-- Whether a buffer has room for a piece after its first `at` bytes.
abbrev pub has_room : (line : Bytes) (at : Offset) (piece : Bytes) → Bool
has_room line at piece = leb (at + length piece) (length line)

-- Where the line ends once the piece is appended, if there is room for it.
unfoldable pub end_after : (line : Bytes) (at : Offset) (piece : Bytes) → Offset
end_after line at piece = cond (has_room line at piece) (at + length piece) at

-- The buffer then: its first `at` bytes, the piece, and what followed.
unfoldable pub appended : (line : Bytes) (at : Offset) (piece : Bytes) → Bytes
appended line at piece = cond (has_room line at piece) (take at line ++ piece ++ drop (at + length piece) line) line

-- The contract of a call that appends a piece: where the line ends, and the buffer at exit.
abbrev pub Adds : (line : Bytes) (at : Offset) (piece : Bytes) (r : ℕ) (left : List ℕ) → Type 0
Adds line at piece r left = (r ≡ end_after line at piece) × (left ≡ appended line at piece)
