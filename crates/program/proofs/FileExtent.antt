-- How far a plan file reaches in an input.
use mathlib.Core.Path.{◌≡◌, refl, sym, ◌∙◌, ap}
use mathlib.Core.Bool.{true}
use mathlib.Core.List.{[], ◌∷◌, ◌++◌}
use Prim.Native.Nat.{ℕ, ◌+◌, ◌≤◌}
use native.Mathlib.Omega.{arith}
use borrow.Author.Tests.{le-ltb}
use lib.ListN.{length, take, drop, replicate, length-replicate}
use lib.Seq.{take-append-le}
use Rattle.plan.specs.Kinds.{Bytes}
use Rattle.plan.specs.Edition.{places}
use Rattle.plan.specs.Versions.{newest_version}
use Rattle.fields.specs.Bytes.{value}
use Rattle.fields.specs.Parsers.{Parsed, got, no}
use Rattle.planfields.specs.Records.{head}
use Rattle.planfields.specs.Layout.{opening_bytes, length_said, file_bytes}
use Rattle.fields.proofs.ParserLaws.{through, field_extent}
use Rattle.fields.proofs.OpeningLaws.{opening_read}
use Rattle.planfile.specs.Reader.{Contents, preamble, plan_file, read_file, leaves}
use Rattle.program.specs.Turns.{read_in}
use Rattle.planfile.proofs.Offsets.{head_read}
use Rattle.planfile.proofs.WholeFile.{reader_long}

-- The length of a plan file is known from the opening of the input.
pub opening_tells_the_length : (l : Bytes) → file_bytes (take opening_bytes l) ≡ file_bytes l
unfolding file_bytes
opening_tells_the_length [] = refl
opening_tells_the_length (a ∷ []) = refl
opening_tells_the_length (a ∷ b ∷ []) = refl
opening_tells_the_length (a ∷ b ∷ c ∷ []) = refl
opening_tells_the_length (a ∷ b ∷ c ∷ d ∷ []) = refl
opening_tells_the_length (a ∷ b ∷ c ∷ d ∷ e ∷ l) = rw (le-ltb (length (a ∷ b ∷ c ∷ d ∷ e ∷ l)) opening_bytes (omega arith)) refl

-- What follows the opening changes nothing.
pub same_opening : (file rest : Bytes) → opening_bytes ≤ length file → file_bytes (file ++ rest) ≡ file_bytes file
same_opening file rest h =
    sym (opening_tells_the_length (file ++ rest)) ∙ ap file_bytes (take-append-le opening_bytes file rest h) ∙ opening_tells_the_length file

-- The length field of a file with an opening.
said_is_value : (file : Bytes) → opening_bytes ≤ length file → value 0 (take 4 (drop 1 file)) ≡ length_said file
unfolding value
said_is_value [] h = absurd (omega arith)
said_is_value (a ∷ []) h = absurd (omega arith)
said_is_value (a ∷ b ∷ []) h = absurd (omega arith)
said_is_value (a ∷ b ∷ c ∷ []) h = absurd (omega arith)
said_is_value (a ∷ b ∷ c ∷ d ∷ []) h = absurd (omega arith)
said_is_value (a ∷ b ∷ c ∷ d ∷ e ∷ l) h = omega arith

-- A file that is read is as long as its length field says.
read_is_whole : (file : Bytes) {held : Contents} {end : ℕ} → read_file file ≡ got held end
    → (opening_bytes ≤ length file) × (opening_bytes + length_said file ≡ length file)
unfolding plan_file preamble
read_is_whole file e =
    let t = through (preamble file 0) e in
    let h = head_read file (through (head true file 0) t.is).is in
    let o = opening_read newest_version file h.opened in
    let f = field_extent 4 file 1 o.length_field in
    let some : opening_bytes ≤ length file = omega (arith, f.1) in
    (some, omega (arith, o.counts, f.2, said_is_value file some))

-- The same by what the reader answers.
pub accepted_is_whole : (file : Bytes) → (read_in file).answer ≡ []
    → (opening_bytes ≤ length file) × (opening_bytes + length_said file ≡ length file)
accepted_is_whole file e =
    by (read_file file) refl (rw (sym (reader_long file (replicate places 0) (omega (arith, length-replicate {A = ℕ} places 0)))) at e)
  where
    by : (s : Parsed Contents) → read_file file ≡ s → (leaves s (replicate places 0)).answer ≡ []
        → (opening_bytes ≤ length file) × (opening_bytes + length_said file ≡ length file)
    by (got held end) is e = read_is_whole file is
    by (no number) is e = let z : ◌≡◌ {A = ℕ} 0 1 = cc in absurd (omega arith)

-- If no more than the plan file was read, an accepted file is the whole of it.
pub accepted_fills : (file : Bytes) → length file ≤ file_bytes file → (read_in file).answer ≡ []
    → (opening_bytes ≤ length file) × (file_bytes file ≡ length file)
unfolding file_bytes
accepted_fills file within e =
    let w = accepted_is_whole file e in
    let long = le-ltb (length file) opening_bytes w.0 in
    (w.0, rw long (omega (arith, w.1, rw long at within)))
