-- Parsers for the parts of every file format: fields, a record's length byte, the opening, the end.
-- The first refusal ends the reading, and says at which field.
use Rattle.std.specs.Prelude.{Bool, true, false, not, cond, ◌&&◌, ◌||◌, List, ℕ, ◌+◌, leb, eqb, length, take, drop}
use Rattle.plan.specs.Kinds.{Number, Offset}
use Rattle.plan.specs.Refusal.{Refusal, refusal_at, wrong_version, wrong_extent, wrong_record_length}
use Rattle.fields.specs.Bytes.{value}

-- The result of a parser: a value and the offset of the next field, or a refusal.
pub data Parsed (A : Type 0) : Type 0 where
  got : A → ℕ → Parsed A
  no : Refusal → Parsed A

-- A parser reads from a file at an offset.
abbrev pub Parser : Type 0 → Type 0
Parser A = List ℕ → ℕ → Parsed A

-- Continues with the value at the next offset, or passes the refusal on.
abbrev pub onward : {A B : Type 0} → Parsed A → (A → Parser B) → List ℕ → Parsed B
onward (got a next) rest file = rest a file next
onward (no refusal) rest file = no refusal

infixl 10 ◌>>=◌ ◌>>◌
-- A parser, then the parser that its value gives.
abbrev pub ◌>>=◌ : {A B : Type 0} → Parser A → (A → Parser B) → Parser B
◌>>=◌ read rest file at = onward (read file at) rest file

-- A parser, then another one, which does not use the value.
abbrev pub ◌>>◌ : {A B : Type 0} → Parser A → Parser B → Parser B
◌>>◌ read rest file at = onward (read file at) (λ _. rest) file

-- Gives a value and consumes no bytes.
abbrev pub done : {A : Type 0} → A → Parser A
done a file at = got a at

-- The offset at which the next field begins; consumes no bytes.
abbrev pub here : Parser ℕ
here file at = got at at

-- The number of bytes of the file; consumes none of them.
abbrev pub file_length : Parser ℕ
file_length file at = got (length file) at

-- Whether the file ends here; consumes no bytes.
abbrev pub at_end : Parser Bool
at_end file at = got (leb (length file) at) at

-- Consumes no bytes, and refuses with the number, at the field that begins at `from`, if the test is
-- false.
abbrev pub test : (ok : Bool) (number : Number) (from : Offset) → Parser (Unit {0})
test true number from file at = got tt at
test false number from file at = no (refusal_at number from)

-- A field of w bytes, highest first; if the file is shorter than `at` + w, it is refused at its first
-- byte, whatever its bytes are.
unfoldable pub field : ℕ → Parser ℕ
field w file at = cond (leb (at + w) (length file)) (got (value 0 (take w (drop at file))) (at + w)) (no (refusal_at wrong_extent at))

-- A field of w bytes whose value must pass a test; otherwise it is refused with the number, at its first
-- byte.
abbrev pub checked : (w : ℕ) (ok : ℕ → Bool) (number : Number) → Parser ℕ
checked w ok number = do
  from ← here
  x ← field w
  test (ok x) number from
  done x

-- The length byte of a record, which must be `long`.
unfoldable pub record_length : (long : ℕ) → Parser (Unit {0})
record_length long = do
  from ← here
  x ← field 1
  test (eqb x long) wrong_record_length from

-- The same result, but a refusal has this number, at the same offset.
abbrev pub refused_as : {A : Type 0} → Number → Parsed A → Parsed A
refused_as number (got a next) = got a next
refused_as number (no refusal) = no (refusal_at number refusal.offset)

-- A version from 1 to the newest one.
abbrev pub is_version : (newest v : ℕ) → Bool
is_version newest v = leb 1 v && leb v newest

-- The version byte, from 1 to the newest version; no byte at the offset has the same refusal as a byte
-- that is no version.
unfoldable pub version : (newest : ℕ) → Parser ℕ
version newest file at = refused_as wrong_version (checked 1 (is_version newest) wrong_version file at)

-- The length field, four bytes; if it is compared, its value must be the number of bytes after it.
unfoldable pub extent : (compared : Bool) → Parser (Unit {0})
extent compared = do
  from ← here
  says ← field 4
  next ← here
  end ← file_length
  test (not compared || eqb (next + says) end) wrong_extent from

-- The opening of a file: its version, which it gives, and the length field.
unfoldable pub opening : (newest : ℕ) (compared : Bool) → Parser ℕ
opening newest compared = do
  v ← version newest
  extent compared
  done v

-- The end of the file: the offset must be the file's length; otherwise it is refused at the offset, which is
-- the first byte that is left if it is inside the file.
unfoldable pub ended : Parser (Unit {0})
ended = do
  from ← here
  end ← file_length
  test (eqb from end) wrong_extent from
