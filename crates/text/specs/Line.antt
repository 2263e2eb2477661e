-- A line that grows in a buffer of n bytes.
use Rattle.std.specs.Prelude.{◌≡◌, Bool, cond, List, ◌++◌, ℕ, ◌+◌, leb, length}
use Rattle.plan.specs.Kinds.{Bytes}

-- The line with a piece appended, if the buffer has room for it; otherwise the line as it was.
abbrev pub pushed : (n : ℕ) (line piece : Bytes) → Bytes
pushed n line piece = cond (leb (length line + length piece) n) (line ++ piece) line

-- The contract of a call that appends a piece to a line: the line at exit.
abbrev pub Pushes : (n : ℕ) (line piece left : Bytes) → Type 0
Pushes n line piece left = left ≡ pushed n line piece
