-- A line that was printed into a buffer that holds it stands at the start of the buffer.
use mathlib.Core.Path.{◌≡◌, refl, ◌∙◌, ap}
use mathlib.Core.List.{List, ◌++◌}
use Prim.Native.Nat.{ℕ, ◌+◌, ◌≤◌}
use native.Mathlib.Omega.{arith}
use borrow.Author.Tests.{le-ltb}
use lib.ListN.{length, take, drop}
use lib.Seq.{take_at}
use Rattle.plan.specs.Kinds.{Bytes}
use Rattle.lines.specs.Answers.{PrintEffect, wrote, printed_view, length_of, printed, Prints}
use Rattle.lines.specs.Lines.{longest_line}
use Rattle.std.specs.Prelude.{Result, Ok, Err}
use Rattle.plan.specs.declared.refusal.Reason.{Reason}
use Rattle.program.specs.declared.Progress.{Progress}
use Rattle.program.specs.declared.Turn.{Turn}
use Rattle.program.specs.Turns.{Turned, Takes, Tells}

-- A line that fits is printed, and its length answered.
printed_fits : (text out : Bytes) → length text ≤ length out
    → ◌≡◌ {A = PrintEffect} (printed text out) (record { answer = wrote (length text); out = text ++ drop (length text) out })
unfolding printed
printed_fits text out h = rw (le-ltb (length out) (length text) h) refl

answered : (r : Result ℕ Reason) (n : ℕ) → printed_view r ≡ wrote n → length_of r ≡ n
answered (Ok m) n e = cc
answered (Err reason) n e = let z : ◌≡◌ {A = ℕ} 0 1 = cc in absurd (omega arith)

pub answers_length : (text out : Bytes) (r : Result ℕ Reason) (left : List ℕ) → Prints text out r left → length text ≤ length out → length_of r ≡ length text
answers_length text out r left p h = answered r (length text) (ap (λ (o : PrintEffect). o.answer) (p ∙ printed_fits text out h))

pub line_stands : (text out : Bytes) (r : Result ℕ Reason) (left : List ℕ) → Prints text out r left → length text ≤ length out → take (length text) left ≡ text
line_stands text out r left p h =
    ap (λ (o : PrintEffect). take (length text) o.out) (p ∙ printed_fits text out h) ∙ take_at text (drop (length text) out) (length text) refl

-- A turn's line in a buffer of the longest line's length, with its length added to the count, is told.
pub tells : (t : Turned) (told : ℕ) (out left : Bytes) (r : Turn) (n : Progress) (count : ℕ) → Takes t out r left → length t.line ≤ longest_line
    → length out ≡ longest_line → n ≡ r.progress → count ≡ told + length_of r.printed → Tells t told n count left
tells t told out left r n count takes fits room e sum =
    let short : length t.line ≤ length out = omega arith in
    record {
      progress = e ∙ takes.0;
      line = line_stands t.line out r.printed left takes.1 short;
      fits = fits;
      tells = sum ∙ ap (λ k. told + k) (answers_length t.line out r.printed left takes.1 short);
    }
