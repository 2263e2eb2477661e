-- If the program is over, it has told the output of all that it heard.
use mathlib.Core.Path.{◌≡◌, refl, sym, ◌∙◌, ap}
use mathlib.Core.Bool.{Bool, true}
use mathlib.Core.List.{List, [], ◌∷◌, ◌++◌, append-nil}
use Prim.Native.Nat.{ℕ, ◌≤◌}
use native.Mathlib.Omega.{arith}
use lib.ListN.{length, take, length-append, drop_of_length-le}
use lib.Seq.{take_all, take_at, drop_at, length-take-le}
use Rattle.plan.specs.Kinds.{Bytes}
use Rattle.plan.specs.Report.{Report}
use Rattle.plan.proofs.Reports.{or_empty}
use Rattle.planfields.specs.Layout.{opening_bytes, file_bytes}
use Rattle.planfile.specs.Reader.{ReadEffect}
use Rattle.judge.specs.Verdict.{judged}
use Rattle.program.specs.declared.Progress.{Progress}
use Rattle.program.specs.Output.{plan_fault, printed_by, output}
use Rattle.program.specs.Turns.{opened, read_in, begun, over, after, InTurn, bytes_of, WholeProgram}
use Rattle.program.proofs.FileExtent.{same_opening, accepted_fills}
use Rattle.program.proofs.ChunksOutput.{none_after, told_is_text}

-- The output of a whole file and what follows it, and of a file alone.
output_of_whole : (file rest : Bytes) → opening_bytes ≤ length file → file_bytes file ≡ length file
    → output (file ++ rest) ≡ printed_by (read_in file) rest
unfolding output
output_of_whole file rest long e =
    let n = sym (same_opening file rest long ∙ e) in
    rw (take_at file rest (file_bytes (file ++ rest)) n, drop_at file rest (file_bytes (file ++ rest)) n) refl

output_of_file : (file : Bytes) → length file ≤ file_bytes file → output (file ++ []) ≡ printed_by (read_in file) []
unfolding output
output_of_file file within = rw (append-nil file, take_all (file_bytes file) file within, drop_of_length-le file within) refl

-- The output of the file and the chunks that the turns read.
output_of_read : (file : Bytes) (chunks : List Bytes) → length file ≤ file_bytes file → InTurn (begun file).progress (read_in file).table chunks
    → output (file ++ bytes_of chunks) ≡ printed_by (read_in file) (bytes_of chunks)
unfolding opened bytes_of
output_of_read file chunks within h = by (plan_fault left) refl
  where
    left : ReadEffect
    left = read_in file

    by : (r : Report) → plan_fault left ≡ r → output (file ++ bytes_of chunks) ≡ printed_by left (bytes_of chunks)
    by [] e =
        let whole = accepted_fills file within (or_empty left.answer (judged left.plan left.table) e) in
        output_of_whole file (bytes_of chunks) whole.0 whole.1
    by (number ∷ place) e =
        rw (none_after (begun file).progress left.table chunks (rw e refl) h) (output_of_file file within)

-- Of a program that is over, all lines are the output of all that it heard, and its counts are the
-- lengths of both.
pub program_tells_the_output : (file : Bytes) (last : Progress) (heard told : ℕ) (written : Bool) (h : WholeProgram file last heard told written) → over last.phase ≡ true
    → (let part = take h.size file in
    let read = part ++ bytes_of h.played.chunks in
    ((begun part).line ++ (after (begun part).progress (read_in part).table h.played.chunks).line ≡ output read)
    × (heard ≡ length read) × (told ≡ length (output read)))
program_tells_the_output file last heard told written h e =
    let part = take h.size file in
    let p = h.played in
    let turns = after (begun part).progress (read_in part).table p.chunks in
    let size = length-take-le h.size file h.filled in
    let within : length part ≤ file_bytes part = omega (arith, h.within, size) in
    let same = told_is_text part p.chunks (bytes_of p.chunks) p.in_turn (rw p.progress at e) (λ _. refl)
    ∙ sym (output_of_read part p.chunks within p.in_turn) in
    (same, omega (arith, p.hears, size, length-append part (bytes_of p.chunks)), p.tells ∙ sym (length-append (begun part).line turns.line) ∙ ap length same)
