-- The turns that the loop has taken so far.
use mathlib.Core.Path.{◌≡◌, refl, sym, ◌∙◌, ap}
use mathlib.Core.Bool.{Bool, true, false, cond, ◌&&◌, not}
use mathlib.Core.Logic.{◌⊎◌, inl, inr}
use mathlib.Core.List.{List, [], ◌∷◌}
use Prim.Native.Nat.{ℕ, suc, ◌+◌, ◌*◌, ◌-◌, ◌^◌, ◌≤◌, ◌<◌}
use native.Mathlib.Omega.{arith}
use native.Mathlib.Nat.{zero-add}
use lib.ListN.{length, length-append, take, replicate}
use Rattle.plan.specs.Kinds.{Bytes, Table}
use Rattle.plan.specs.Edition.{places}
use Rattle.planfields.specs.Layout.{largest_file, file_bytes}
use Rattle.planfile.specs.Reader.{reader}
use Rattle.lines.specs.Lines.{longest_line}
use Rattle.program.specs.declared.Phase.{Phase}
use Rattle.program.specs.declared.Progress.{Progress}
use Rattle.program.specs.Turns.{Turned, turned, opened, reads, over, speed_bytes, most_read, after, InTurn, bytes_of, most_turns, Tells, TellsSome, Played, WholeProgram}

clash : {A : Type 0} → true ≡ false → A
clash e = let z : ◌≡◌ {A = ℕ} 0 1 = cc in absurd (omega arith)

-- Some chunks were read, and with them the turns that are left come to the greatest number; the
-- progress and the counts are those after the chunks, and no turn heard or told too much.
pub record Going (n : Progress) (table : Table) (heard told turns : ℕ) (last : Progress) (heard_then told_then : ℕ) : Type 0 where
  pub chunks : List Bytes
  pub in_turn : InTurn n table chunks
  pub all : length chunks + turns ≡ most_turns
  pub progress : last ≡ (after n table chunks).progress
  pub hears : heard_then ≡ heard + length (bytes_of chunks)
  pub tells : told_then ≡ told + length (after n table chunks).line
  pub few : heard_then ≤ largest_file + speed_bytes * length chunks
  pub small : told_then ≤ suc (length chunks) * longest_line

pub going_start : (n : Progress) (table : Table) (heard told : ℕ) → heard ≤ largest_file → told ≤ longest_line → Going n table heard told most_turns n heard told
unfolding after InTurn bytes_of
going_start n table heard told few small =
    record {
      chunks = [];
      in_turn = tt;
      all = omega arith;
      progress = refl;
      hears = omega arith;
      tells = omega arith;
      few = omega arith;
      small = omega arith;
    }

-- While turns are left, one more chunk and one more line can be counted.
pub going_room : {n last : Progress} {table : Table} {heard told turns heard_then told_then : ℕ} → Going n table heard told turns last heard_then told_then
    → 0 < turns → (heard_then + speed_bytes < 2 ^ 64) × (told_then + longest_line < 2 ^ 64)
going_room g h = (omega (arith, g.all, g.few), omega (arith, g.all, g.small))

-- No phase reads more than a speed.
most_read_lem : (phase : Phase) → most_read phase ≤ speed_bytes
most_read_lem phase = by (reads phase)
  where
    by : (b : Bool) → cond b speed_bytes 0 ≤ speed_bytes
    by true = omega arith
    by false = omega arith

-- One more turn.
pub going_next : {n last next : Progress} {table : Table} {heard told turns h k h' k' : ℕ} {left : List ℕ} → Going n table heard told turns last h k → 0 < turns
    → over last.phase ≡ false → TellsSome last table h k next h' k' left → Going n table heard told (turns - 1) next h' k'
unfolding after InTurn bytes_of
going_next {n} {last} {next} {table} g some on s =
    let before = after n table g.chunks in
    let same : turned last table s.chunk ≡ turned before.progress table s.chunk = ap (λ (m : Progress). turned m table s.chunk) g.progress in
    record {
      chunks = s.chunk ∷ g.chunks;
      in_turn = (g.in_turn, rw g.progress at on, rw g.progress at s.in_turn);
      all = omega (arith, g.all);
      progress = s.tells.progress ∙ ap (λ (t : Turned). t.progress) same;
      hears = omega (arith, s.hears, g.hears, length-append (bytes_of g.chunks) s.chunk);
      tells = omega (arith, s.tells.tells, g.tells, ap (λ (t : Turned). length t.line) same, length-append before.line (turned before.progress table s.chunk).line);
      few = omega (arith, g.few, s.hears, s.in_turn, most_read_lem last.phase);
      small = omega (arith, g.small, s.tells.tells, s.tells.fits);
    }

-- The turns that were taken when the loop ends.
pub played : {n last : Progress} {table : Table} {heard told turns h k : ℕ} {written : Bool} → (g : Going n table heard told turns last h k)
    → (over last.phase ≡ true) ⊎ (written ≡ false) ⊎ (length g.chunks ≡ most_turns) → Played n table heard told last h k written
played g ends = record { chunks = g.chunks; in_turn = g.in_turn; progress = g.progress; hears = g.hears; tells = g.tells; ends = ends }

-- What the test of the loop says.
pub on_when_true : (written over : Bool) → (written && not over) ≡ true → over ≡ false
on_when_true false over e = clash (sym e)
on_when_true true false e = refl
on_when_true true true e = clash (sym e)

pub ends_when_false : {A : Type 0} (written over : Bool) → (written && not over) ≡ false → (over ≡ true) ⊎ (written ≡ false) ⊎ A
ends_when_false false over e = inr (inl refl)
ends_when_false true false e = clash e
ends_when_false true true e = inl refl

-- The first turn, and those after it, are the whole program.
pub whole_program : {file : Bytes} {size : ℕ} {table full line : List ℕ} {n last : Progress} {heard told h k : ℕ} {written : Bool} → table ≡ replicate places 0
    → size ≤ length file → size ≤ file_bytes (take size file) → Tells (opened (reader (take size file) table)) 0 n told line
    → full ≡ (reader (take size file) table).table → heard ≡ size → Played n full heard told last h k written → WholeProgram file last h k written
whole_program {size = size} zeros filled within t left all p =
    record {
      size = size;
      filled = filled;
      within = within;
      played = rw (zeros) at (rw (t.progress, left, all, t.tells ∙ zero-add _) at p);
    }
