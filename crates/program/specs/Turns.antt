-- The program as turns, each of which takes some bytes and prints at most one line.
use Rattle.std.specs.Prelude.{◌≡◌, Bool, true, false, cond, ◌⊎◌, List, [], ◌∷◌, ◌++◌, ℕ, zero, suc, ◌+◌, ◌-◌, ◌/◌, ◌^◌, ◌≤◌, ltb, length, take, drop, replicate}
use Rattle.plan.specs.Kinds.{Bytes, Position, Table}
use Rattle.plan.specs.Edition.{places}
use Rattle.plan.specs.Rules.{counted}
use Rattle.plan.specs.declared.kinds.Plan.{Plan}
use Rattle.planfields.specs.Layout.{file_bytes}
use Rattle.planfile.specs.Reader.{ReadEffect, reader}
use Rattle.plan.specs.Report.{Report}
use Rattle.dispatch.specs.Step.{started, no_run}
use Rattle.dispatch.specs.declared.Run.{Run}
use Rattle.lines.specs.Answers.{Prints}
use Rattle.lines.specs.Lines.{slot_header, outcome_header, stray_line, refused_line, longest_line}
use Rattle.program.specs.declared.Phase.{Phase}
use Rattle.program.specs.declared.Phase.TheVariants.{Slots, Closing, Job, Over}
use Rattle.program.specs.declared.Progress.{Progress}
use Rattle.program.specs.declared.Turn.{Turn}
use Rattle.program.specs.Output.{plan_fault, speed, slot_of, slot_text, job_text}

-- A turn: the progress after it, and the line it prints.
pub record Turned : Type 0 where
  pub progress : Progress
  pub line : List ℕ

-- A progress from its parts: the phase, the plan and the run.
abbrev pub progress : Phase → Plan → Run → Progress
progress phase p run = record { phase = phase; plan = p; run = run }

-- A turn from the parts of the progress after it, and its line.
abbrev pub turn : (phase : Phase) (p : Plan) (run : Run) (line : Bytes) → Turned
turn phase p run line = record { progress = progress phase p run; line = line }

-- The first turn, by the refusal of the plan.
abbrev pub opened_by : Report → Plan → Turned
opened_by [] p = turn Slots p (started p) slot_header
opened_by (number ∷ place) p = turn Over p no_run (refused_line number)

-- The first turn, for a plan that was read or that the reader refused.
unfoldable pub opened : ReadEffect → Turned
opened left = opened_by (plan_fault left) left.plan

-- The turn after the slots prints the header of the outcomes.
abbrev pub closes : Plan → Run → Turned
closes p run = turn (Job 0) p run outcome_header

-- A turn in the slots phase: a speed, an odd byte, or the end of the speeds.
unfoldable pub slot_turn : Plan → Table → Run → List ℕ → Turned
slot_turn p table run [] = closes p run
slot_turn p table run (b ∷ []) = turn Closing p run stray_line
slot_turn p table run (high ∷ low ∷ rest) =
    let slot = slot_of p table run (speed high low) in
    turn Slots p slot.run (slot_text p run (speed high low) slot.answer slot)

-- The phase after the outcome of job i: the next job's outcome if there is one, otherwise the end.
abbrev pub after_job : (p : Plan) (i : Position) → Phase
after_job p i = cond (ltb (i + 1) (counted p)) (Job (i + 1)) Over

-- The turn of job i's outcome.
unfoldable pub job_turn : (p : Plan) (run : Run) (i : Position) → Turned
job_turn p run i = turn (after_job p i) p run (job_text p run i)

-- Whether a turn in this phase reads a speed.
abbrev pub reads : Phase → Bool
reads Slots = true
reads Closing = false
reads (Job i) = false
reads Over = false

-- Whether nothing more is printed.
abbrev pub over : Phase → Bool
over Slots = false
over Closing = false
over (Job i) = false
over Over = true

-- The turn in a phase.
abbrev pub by_phase : (phase : Phase) (p : Plan) (table : Table) (run : Run) (bytes : Bytes) → Turned
by_phase Slots p table run bytes = slot_turn p table run bytes
by_phase Closing p table run bytes = closes p run
by_phase (Job i) p table run bytes = job_turn p run i
by_phase Over p table run bytes = turn Over p run []

-- The turn of a progress with the bytes read for it.
abbrev pub turned : (n : Progress) (table : Table) (bytes : Bytes) → Turned
turned n table bytes = by_phase n.phase n.plan table n.run bytes

-- What the next n turns print, if each takes two bytes of the speeds.
unfoldable pub played : (count : ℕ) (n : Progress) (table : Table) (speeds : List ℕ) → List ℕ
played zero n table speeds = []
played (suc turns) n table speeds =
    let t = turned n table (take 2 speeds) in t.line ++ played turns t.progress table (drop 2 speeds)

-- The contract of a turn: the progress after it, and its line printed into the buffer.
abbrev pub Takes : (t : Turned) (out : Bytes) (r : Turn) (left : List ℕ) → Type 0
Takes t out r left = (r.progress ≡ t.progress) × Prints t.line out r.printed left

-- The contract of the first turn: the same, and the table as the reader leaves it.
abbrev pub Opens : (file : Bytes) (table : Table) (out : Bytes) (r : Turn) (table_left_lem : Table) (left : List ℕ) → Type 0
Opens file table out r table_left_lem left =
    (r.progress ≡ (opened (reader file table)).progress) × (table_left_lem ≡ (reader file table).table)
    × Prints (opened (reader file table)).line out r.printed left

-- The number of bytes of a speed.
abbrev pub speed_bytes : ℕ
speed_bytes = 2

-- The most bytes that a turn in this phase reads: those of a speed, or none.
abbrev pub most_read : Phase → ℕ
most_read phase = cond (reads phase) speed_bytes 0

-- Several turns as one, from a progress on: one for each chunk of bytes, the latest chunk first. Its
-- line is all of their lines.
unfoldable pub after : (n : Progress) (table : Table) (chunks : List Bytes) → Turned
after n table [] = record { progress = n; line = [] }
after n table (chunk ∷ earlier) =
    let before = after n table earlier in
    let t = turned before.progress table chunk in
    record { progress = t.progress; line = before.line ++ t.line }

-- Chunks that turns can read: no turn follows when the program is over, and each reads at most what
-- its phase reads.
unfoldable pub InTurn : (n : Progress) (table : Table) (chunks : List Bytes) → Type 0
InTurn n table [] = Unit {0}
InTurn n table (chunk ∷ earlier) =
    let phase = (after n table earlier).progress.phase in
    InTurn n table earlier × (over phase ≡ false) × (length chunk ≤ most_read phase)

-- The bytes of all chunks, in the order in which they were read.
unfoldable pub bytes_of : (chunks : List Bytes) → Bytes
bytes_of [] = []
bytes_of (chunk ∷ earlier) = bytes_of earlier ++ chunk

-- The greatest number of turns after the first: if each printed the longest line, the count of their
-- bytes would still be below 2^64.
abbrev pub most_turns : ℕ
most_turns = (2 ^ 64 - 1) / (longest_line + 1)

-- The contract of a turn that is told: the progress after it, its line at the start of the line
-- buffer, which holds the longest line, and the count of bytes told, which grew by the line's length.
pub record Tells (t : Turned) (told : ℕ) (next : Progress) (told_then : ℕ) (left : List ℕ) : Type 0 where
  pub progress : next ≡ t.progress
  pub line : take (length t.line) left ≡ t.line
  pub fits : length t.line ≤ longest_line
  pub tells : told_then ≡ told + length t.line

-- The contract of a turn that reads: it tells the turn of a chunk that its phase can read, and the
-- count of bytes heard has grown by the chunk's length.
pub record TellsSome (n : Progress) (table : Table) (heard told : ℕ) (next : Progress) (heard_then told_then : ℕ) (left : List ℕ) : Type 0 where
  pub chunk : Bytes
  pub in_turn : length chunk ≤ most_read n.phase
  pub hears : heard_then ≡ heard + length chunk
  pub tells : Tells (turned n table chunk) told next told_then left

-- The contract of all turns after the first: some chunks were read; the progress and the counts of
-- bytes heard and told are those after them; and the turns end only if the program is over, a write
-- failed, or there were the greatest number of them.
pub record Played (n : Progress) (table : Table) (heard told : ℕ) (last : Progress) (heard_then told_then : ℕ) (written : Bool) : Type 0 where
  pub chunks : List Bytes
  pub in_turn : InTurn n table chunks
  pub progress : last ≡ (after n table chunks).progress
  pub hears : heard_then ≡ heard + length (bytes_of chunks)
  pub tells : told_then ≡ told + length (after n table chunks).line
  pub ends : (over last.phase ≡ true) ⊎ (written ≡ false) ⊎ (length chunks ≡ most_turns)

-- What the reader leaves of a file with a table of zeros.
abbrev pub read_in : (file : Bytes) → ReadEffect
read_in file = reader file (replicate places 0)

-- The first turn, for a file.
abbrev pub begun : (file : Bytes) → Turned
begun file = opened (read_in file)

-- The contract of the whole program: the file buffer's first bytes were heard, no more of them than
-- the plan file has; the first turn is that of these bytes, and all others follow it.
pub record WholeProgram (file : Bytes) (last : Progress) (heard told : ℕ) (written : Bool) : Type 0 where
  pub size : ℕ
  pub filled : size ≤ length file
  pub within : size ≤ file_bytes (take size file)
  pub played : Played (begun (take size file)).progress (read_in (take size file)).table size (length (begun (take size file)).line) last heard told written
