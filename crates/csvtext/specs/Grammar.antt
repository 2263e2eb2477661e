-- Comma-separated text by RFC 4180: what a field is made of, and the bytes that it stands for.
use Rattle.std.specs.Prelude.{Bool, true, false, not, cond, ◌&&◌, ◌||◌, List, [], ◌∷◌, ℕ, suc, leb, eqb}
use Rattle.plan.specs.Kinds.{Bytes}

-- The bytes that the grammar names.
abbrev pub comma : ℕ
comma = 44

abbrev pub quote : ℕ
quote = 34

abbrev pub carriage_return : ℕ
carriage_return = 13

abbrev pub line_feed : ℕ
line_feed = 10

-- What ends a line.
abbrev pub line_end : Bytes
line_end = carriage_return ∷ line_feed ∷ []

-- A byte of a field without quotes (TEXTDATA): from 0x20 to 0x7E, but no quote and no comma.
abbrev pub is_plain : ℕ → Bool
is_plain b = leb 0x20 b && leb b 0x7E && not (eqb b quote) && not (eqb b comma)

-- A byte of a field in quotes, beside a doubled quote: one of the above, a comma, CR or LF.
abbrev pub is_quotable : ℕ → Bool
is_quotable b = is_plain b || eqb b comma || eqb b carriage_return || eqb b line_feed

-- A field at the front of some bytes: the bytes that it stands for, and how many bytes it takes up; or
-- the grammar has no field there.
pub data Found : Type 0 where
  found : (stands : List ℕ) (used : ℕ) → Found
  broken : Found

-- The field with one byte more at its front, which stands for itself; and with one that stands for
-- nothing.
abbrev pub more : ℕ → Found → Found
more b (found l used) = found (b ∷ l) (suc used)
more b broken = broken

abbrev pub past : Found → Found
past (found l used) = found l (suc used)
past broken = broken

-- A field without quotes: all plain bytes up to the first other one.
unfoldable pub plain : List ℕ → Found
plain [] = found [] 0
plain (b ∷ l) = cond (is_plain b) (more b (plain l)) (found [] 0)

-- A field in quotes, after its first quote. `closed` says that a quote stands before these bytes, which
-- ends the field unless another quote follows: two of them stand for one.
unfoldable pub quoted : (closed : Bool) → List ℕ → Found
quoted false [] = broken
quoted false (b ∷ l) = cond (eqb b quote) (past (quoted true l)) (cond (is_quotable b) (more b (quoted false l)) broken)
quoted true [] = found [] 0
quoted true (b ∷ l) = cond (eqb b quote) (more quote (quoted false l)) (found [] 0)

-- A field: in quotes if its first byte is a quote.
unfoldable pub field : List ℕ → Found
field [] = found [] 0
field (b ∷ l) = cond (eqb b quote) (past (quoted false l)) (plain (b ∷ l))

-- Some bytes begin with given ones.
unfoldable pub begins : (with bytes : List ℕ) → Bool
begins [] l = true
begins (w ∷ with) [] = false
begins (w ∷ with) (b ∷ l) = eqb w b && begins with l
