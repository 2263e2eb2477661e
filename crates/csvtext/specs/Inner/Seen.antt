-- No promise rests on this file: it is here for the contracts of inner functions.
-- What the code knows of the bytes that a field stands for, byte by byte.
use Rattle.std.specs.Prelude.{true, not, ◌&&◌, ◌||◌, List, [], ◌∷◌, ℕ, ◌+◌, ◌*◌, ◌-◌, ◌%◌, min, eqb, Option, Some, None}
use Rattle.plan.specs.Edition.{name_bytes}
use Rattle.text.specs.Text.{digit}
use Rattle.fields.specs.declared.field.Parsed.{Parsed}
use Rattle.csvtext.specs.declared.field.Seen.{Seen}
use Rattle.csvtext.specs.Grammar.{Found, found, broken}
use Rattle.csvtext.specs.Decimals.{is_digit, most_number}

-- The lengths of fields are told apart up to this one: a name has eight bytes, a grade one and a number at
-- least one, so nothing asks for more.
abbrev pub longest : ℕ
longest = name_bytes + 1

-- What is known of no bytes.
abbrev pub nothing : Seen
nothing = record { length = 0; name = 0; decimal = true; number = 0 }

-- What is known after one byte more.
unfoldable pub with_byte : Seen → ℕ → Seen
with_byte s b =
    record {
      length = min (s.length + 1) longest;
      name = s.name % 0x0100_0000_0000_0000 * 256 + b;
      decimal = (s.decimal && is_digit b) && (eqb s.length 0 || not (eqb s.number 0));
      number = min (s.number * 10 + (b - digit 0)) most_number;
    }

-- What is known after some bytes more.
unfoldable pub with_bytes : Seen → List ℕ → Seen
with_bytes s [] = s
with_bytes s (b ∷ l) = with_bytes (with_byte s b) l

-- What is known of a field that ends at an offset.
abbrev pub known : Seen → ℕ → Option (Parsed Seen)
known s next = Some (record { value = s; next = next })

-- The field of a grammar as the code tells it, for a field that goes on at an offset after bytes of which
-- this is known.
abbrev pub seen_at : (at : ℕ) (s : Seen) → Found → Option (Parsed Seen)
seen_at at s (found l used) = known (with_bytes s l) (at + used)
seen_at at s broken = None
