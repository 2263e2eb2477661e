-- Laws of a line that grows in a buffer: pieces for which there is room are appended.
use Rattle.std.proofs.Common.{◌≡◌, ℕ, ◌+◌, ◌≤◌, ◌<◌, ◌^◌, List, [], ◌++◌, length, refl, ◌∙◌, ap, arith, length-append}
use borrow.Author.Tests.{le-leb}
use Rattle.text.specs.Text.{decimal, most_digits}
use Rattle.text.specs.Line.{pushed}
use Rattle.text.proofs.Decimal.{decimal_length}

-- A line in a buffer of n bytes is a text of at most so many bytes.
pub record Says (n : ℕ) (line text : List ℕ) (most : ℕ) : Type 0 where
  pub is : line ≡ text
  pub few : length text ≤ most

pub nothing_yet : {n : ℕ} {line : List ℕ} → line ≡ [] → Says n line [] 0
nothing_yet e = record { is = e; few = omega arith }

pub and_then : {n : ℕ} {line text next : List ℕ} {most : ℕ} → Says n line text most → (piece : List ℕ) (more : ℕ) → length piece ≤ more → most + more ≤ n
    → next ≡ pushed n line piece → Says n next (text ++ piece) (most + more)
and_then {n} {line} {text} {next} {most} says piece more few room e =
    let fits : length line + length piece ≤ n = omega (arith, says.few, ap length says.is) in
    record { is = e ∙ rw (le-leb _ _ fits, says.is); few = omega (arith, length-append text piece, says.few) }

-- A number of 32 bits has few digits.
pub few_digits_of : (x : ℕ) → x < 2 ^ 32 → length (decimal x) ≤ most_digits
few_digits_of x h = decimal_length x (omega arith)
