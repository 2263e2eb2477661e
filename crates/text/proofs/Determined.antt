-- The contracts of the calls that append to a line determine where the line ends and the buffer, or the line that
-- grows, and can be met for every input.
use mathlib.Core.Path.{◌≡◌, refl, sym, ◌∙◌}
use mathlib.Core.List.{List}
use Prim.Native.Nat.{ℕ}
use Rattle.plan.specs.Kinds.{Bytes, Offset}
use Rattle.plan.specs.declared.kinds.Name.{Name}
use Rattle.text.specs.Text.{decimal, name_text}
use Rattle.text.specs.Append.{end_after, appended, Adds}
use Rattle.text.specs.Line.{pushed, Pushes}

-- `text::append::add`.
pub one_piece : (line : Bytes) (at : Offset) (piece : Bytes) (r s : ℕ) (left other : List ℕ) → Adds line at piece r left
    → Adds line at piece s other → (r ≡ s) × (left ≡ other)
one_piece line at piece r s left other d e = (d.0 ∙ sym e.0, d.1 ∙ sym e.1)

pub some_piece : (line : Bytes) (at : Offset) (piece : Bytes) → (r : ℕ) × (left : List ℕ) × Adds line at piece r left
some_piece line at piece = (end_after line at piece, appended line at piece, (refl, refl))

-- `text::append::add_number`.
pub one_number_piece : (line : Bytes) (at : Offset) (number r s : ℕ) (left other : List ℕ) → Adds line at (decimal number) r left
    → Adds line at (decimal number) s other → (r ≡ s) × (left ≡ other)
one_number_piece line at number = one_piece line at (decimal number)

pub some_number_piece : (line : Bytes) (at : Offset) (number : ℕ) → (r : ℕ) × (left : List ℕ) × Adds line at (decimal number) r left
some_number_piece line at number = some_piece line at (decimal number)

-- `text::append::add_name`.
pub one_name_piece : (line : Bytes) (at : Offset) (name : Name) (r s : ℕ) (left other : List ℕ) → Adds line at (name_text name.0) r left
    → Adds line at (name_text name.0) s other → (r ≡ s) × (left ≡ other)
one_name_piece line at name = one_piece line at (name_text name.0)

pub some_name_piece : (line : Bytes) (at : Offset) (name : Name) → (r : ℕ) × (left : List ℕ) × Adds line at (name_text name.0) r left
some_name_piece line at name = some_piece line at (name_text name.0)

-- `text::line::Line::push`.
pub one_push : (n : ℕ) (line piece left other : Bytes) → Pushes n line piece left → Pushes n line piece other → left ≡ other
one_push n line piece left other d e = d ∙ sym e

pub some_push : (n : ℕ) (line piece : Bytes) → (left : Bytes) × Pushes n line piece left
some_push n line piece = (pushed n line piece, refl)

-- `text::line::Line::push_number`.
pub one_number_push : (n : ℕ) (line : Bytes) (number : ℕ) (left other : Bytes) → Pushes n line (decimal number) left
    → Pushes n line (decimal number) other → left ≡ other
one_number_push n line number = one_push n line (decimal number)

pub some_number_push : (n : ℕ) (line : Bytes) (number : ℕ) → (left : Bytes) × Pushes n line (decimal number) left
some_number_push n line number = some_push n line (decimal number)

-- `text::line::Line::push_name`.
pub one_name_push : (n : ℕ) (line : Bytes) (name : Name) (left other : Bytes) → Pushes n line (name_text name.0) left
    → Pushes n line (name_text name.0) other → left ≡ other
one_name_push n line name = one_push n line (name_text name.0)

pub some_name_push : (n : ℕ) (line : Bytes) (name : Name) → (left : Bytes) × Pushes n line (name_text name.0) left
some_name_push n line name = some_push n line (name_text name.0)
