-- Whatever the turns read, if the program is over they printed the output of it.
use mathlib.Core.Path.{◌≡◌, refl, sym, ◌∙◌, ap}
use mathlib.Core.Bool.{Bool, true, false, cond}
use mathlib.Core.List.{List, [], ◌∷◌, ◌++◌, append_assoc, append-nil}
use Prim.Native.Nat.{ℕ, suc, ◌+◌, ◌≤◌, ◌<◌}
use native.Mathlib.Numerals.{add-one}
use native.Mathlib.Omega.{arith}
use borrow.Author.Tests.{ltb-true, ltb-false}
use lib.Dec.{ltb}
use lib.ListN.{length, length-append, take, drop}
use Rattle.plan.specs.Kinds.{Bytes, Table}
use Rattle.plan.specs.Edition.{most_jobs}
use Rattle.plan.specs.Rules.{counted}
use Rattle.plan.specs.declared.kinds.Plan.{Plan}
use Rattle.plan.specs.Report.{Report}
use Rattle.planfields.specs.Layout.{file_bytes}
use Rattle.planfile.specs.Reader.{ReadEffect}
use Rattle.judge.specs.Verdict.{judged}
use Rattle.dispatch.specs.Step.{started}
use Rattle.dispatch.specs.declared.Run.{Run}
use Rattle.lines.specs.Lines.{slot_header, outcome_header, stray_line, refused_line}
use Rattle.program.specs.declared.Phase.{Phase}
use Rattle.program.specs.declared.Phase.TheVariants.{Slots, Closing, Job, Over}
use Rattle.program.specs.declared.Progress.{Progress}
use Rattle.program.specs.Output.{job_text, jobs_text, closing, slots_text, speed, slot_of, slot_text, plan_fault, plan_text, printed_by, output}
use Rattle.program.specs.Turns.{Turned, opened_by, opened, slot_turn, job_turn, by_phase, read_in, begun, reads, over, most_read, after, InTurn, bytes_of}
use Rattle.program.proofs.TurnsOutput.{no_second, some_job}

-- Where the turns of an accepted plan stand, by phase, after k turns that read `bytes` and printed
-- `text`: what is left to print completes the whole text, and there were few turns.
abbrev Stands : (phase : Phase) (p : Plan) (table : Table) (run : Run) (k : ℕ) (bytes : Bytes) (text : List ℕ) (whole : Bytes → List ℕ) → Type 0
Stands Slots p table run k bytes text whole =
    ((rest : Bytes) → text ++ slots_text p table run rest ≡ whole (bytes ++ rest)) × (0 < counted p) × (k ≤ length bytes)
Stands Closing p table run k bytes text whole = (text ++ closing p run ≡ whole bytes) × (0 < counted p) × (k ≤ length bytes)
Stands (Job i) p table run k bytes text whole =
    ((earlier : List ℕ) × (text ≡ earlier ++ (outcome_header ++ jobs_text p run i)) × (earlier ++ closing p run ≡ whole bytes))
    × (i < counted p) × (k ≤ length bytes + suc i)
Stands Over p table run k bytes text whole = (text ≡ whole bytes) × (k ≤ length bytes + suc (counted p))

-- Where a turn's progress stands.
abbrev StandsAt : (t : Turned) (table : Table) (k : ℕ) (bytes : Bytes) (text : List ℕ) (whole : Bytes → List ℕ) → Type 0
StandsAt t table k bytes text whole = Stands t.progress.phase t.progress.plan table t.progress.run k bytes text whole

clash : {A : Type 0} → true ≡ false → A
clash e = let z : ◌≡◌ {A = ℕ} 0 1 = cc in absurd (omega arith)

-- The header of the outcomes, after the last speed or the odd byte.
to_jobs : (p : Plan) (table : Table) (run : Run) (k : ℕ) (bytes : Bytes) (text : List ℕ) (whole : Bytes → List ℕ)
    → text ++ closing p run ≡ whole bytes → 0 < counted p → k ≤ length bytes
    → Stands (Job 0) p table run (suc k) (bytes ++ []) (text ++ outcome_header) whole
unfolding jobs_text
to_jobs p table run k bytes text whole e some few =
    rw (append-nil bytes) ((text, ap (λ t. text ++ t) (sym (append-nil outcome_header)), e), some, omega arith)

-- A speed, an odd byte, or the end of the speeds.
slots_step : (p : Plan) (table : Table) (run : Run) (k : ℕ) (bytes : Bytes) (text : List ℕ) (whole : Bytes → List ℕ) (chunk : Bytes)
    → Stands Slots p table run k bytes text whole → length chunk ≤ 2
    → StandsAt (slot_turn p table run chunk) table (suc k) (bytes ++ chunk) (text ++ (slot_turn p table run chunk).line) whole
unfolding slots_text slot_turn
slots_step p table run k bytes text whole [] s short =
    to_jobs p table run k bytes text whole (s.0 [] ∙ ap whole (append-nil bytes)) s.1 s.2
slots_step p table run k bytes text whole (b ∷ []) s short =
    (append_assoc text stray_line (closing p run) ∙ s.0 (b ∷ []), s.1, omega (arith, s.2, length-append bytes (b ∷ [])))
slots_step p table run k bytes text whole (high ∷ low ∷ []) s short =
    let slot = slot_of p table run (speed high low) in
    let line = slot_text p run (speed high low) slot.answer slot in
    (λ rest. append_assoc text line (slots_text p table slot.run rest) ∙ s.0 (high ∷ low ∷ rest) ∙ ap whole (sym (append_assoc bytes (high ∷ low ∷ []) rest)), s.1, omega (arith, s.2, length-append bytes (high ∷ low ∷ [])))
slots_step p table run k bytes text whole (high ∷ low ∷ b ∷ rest) s short = absurd (omega arith)

-- The outcome of a job: the last one completes the text.
job_step : (i : ℕ) (p : Plan) (table : Table) (run : Run) (k : ℕ) (bytes : Bytes) (text : List ℕ) (whole : Bytes → List ℕ)
    → Stands (Job i) p table run k bytes text whole
    → StandsAt (job_turn p run i) table (suc k) (bytes ++ []) (text ++ job_text p run i) whole
unfolding job_turn jobs_text closing
job_step i p table run k bytes text whole s = rw (append-nil bytes) (by (ltb (i + 1) (counted p)) refl)
  where
    told : text ++ job_text p run i ≡ s.0.0 ++ (outcome_header ++ jobs_text p run (suc i))
    told =
        ap (λ t. t ++ job_text p run i) s.0.1 ∙ append_assoc s.0.0 (outcome_header ++ jobs_text p run i) (job_text p run i)
        ∙ ap (λ t. s.0.0 ++ t) (append_assoc outcome_header (jobs_text p run i) (job_text p run i))

    by : (b : Bool) → ltb (i + 1) (counted p) ≡ b → Stands (cond b (Job (i + 1)) Over) p table run (suc k) bytes (text ++ job_text p run i) whole
    by true h = ((s.0.0, told ∙ ap (λ n. s.0.0 ++ (outcome_header ++ jobs_text p run n)) (sym (add-one i)), s.0.2), ltb-true (i + 1) (counted p) h, omega (arith, s.2))
    by false h =
        let last : suc i ≡ counted p = omega (arith, ltb-false (i + 1) (counted p) h, s.1) in
        (told ∙ ap (λ n. s.0.0 ++ (outcome_header ++ jobs_text p run n)) last ∙ s.0.2, omega (arith, s.2))

-- One turn in any phase.
step : (phase : Phase) (p : Plan) (table : Table) (run : Run) (k : ℕ) (bytes : Bytes) (text : List ℕ) (whole : Bytes → List ℕ) (chunk : Bytes)
    → Stands phase p table run k bytes text whole → over phase ≡ false → length chunk ≤ most_read phase
    → StandsAt (by_phase phase p table run chunk) table (suc k) (bytes ++ chunk) (text ++ (by_phase phase p table run chunk).line) whole
unfolding job_turn
step Slots p table run k bytes text whole chunk s on short = slots_step p table run k bytes text whole chunk s short
step Closing p table run k bytes text whole [] s on short = to_jobs p table run k bytes text whole s.0 s.1 s.2
step Closing p table run k bytes text whole (b ∷ rest) s on short = absurd (omega arith)
step (Job i) p table run k bytes text whole [] s on short = job_step i p table run k bytes text whole s
step (Job i) p table run k bytes text whole (b ∷ rest) s on short = absurd (omega arith)
step Over p table run k bytes text whole chunk s on short = clash on

-- All turns that read these chunks.
steps : (n : Progress) (table : Table) (whole : Bytes → List ℕ) (chunks : List Bytes) → Stands n.phase n.plan table n.run 0 [] [] whole → InTurn n table chunks
    → StandsAt (after n table chunks) table (length chunks) (bytes_of chunks) (after n table chunks).line whole
unfolding after InTurn bytes_of
steps n table whole [] s h = s
steps n table whole (chunk ∷ earlier) s h =
    let t = after n table earlier in
    step t.progress.phase t.progress.plan table t.progress.run (length earlier) (bytes_of earlier) t.line whole chunk
    (steps n table whole earlier s h.0) h.1 h.2

-- If the program is over, the whole text is printed.
complete : (phase : Phase) (p : Plan) (table : Table) (run : Run) (k : ℕ) (bytes : Bytes) (text : List ℕ) (whole : Bytes → List ℕ)
    → Stands phase p table run k bytes text whole → over phase ≡ true → text ≡ whole bytes
complete Slots p table run k bytes text whole s e = clash (sym e)
complete Closing p table run k bytes text whole s e = clash (sym e)
complete (Job i) p table run k bytes text whole s e = clash (sym e)
complete Over p table run k bytes text whole s e = s.0

-- In every phase there were few turns.
few : (phase : Phase) (p : Plan) (table : Table) (run : Run) (k : ℕ) (bytes : Bytes) (text : List ℕ) (whole : Bytes → List ℕ)
    → Stands phase p table run k bytes text whole → k ≤ length bytes + suc (counted p)
few Slots p table run k bytes text whole s = omega (arith, s.2)
few Closing p table run k bytes text whole s = omega (arith, s.2)
few (Job i) p table run k bytes text whole s = omega (arith, s.1, s.2)
few Over p table run k bytes text whole s = s.1

-- If a progress is over, no chunk is read.
pub none_after : (n : Progress) (table : Table) (chunks : List Bytes) → over n.phase ≡ true → InTurn n table chunks → chunks ≡ []
unfolding after InTurn
none_after n table [] e h = refl
none_after n table (chunk ∷ []) e h = clash (sym e ∙ h.1)
none_after n table (chunk ∷ next ∷ earlier) e h =
    let e' = ap length (none_after n table (next ∷ earlier) e h.0) in absurd (omega arith)

-- The turns of a plan, by its refusal, print its text and are few.
module _ (p : Plan) (table : Table) (chunks : List Bytes) where
  -- Where the turns of an accepted plan stand.
  stand : 0 < counted p → InTurn (opened_by [] p).progress table chunks
      → (let told = after (opened_by [] p).progress table chunks in
      StandsAt told table (length chunks) (bytes_of chunks) told.line (slots_text p table (started p)))
  stand some h = steps (opened_by [] p).progress table (slots_text p table (started p)) chunks ((λ rest. refl), some, omega arith) h

  pub told_by : (r : Report) (speeds : Bytes) → (r ≡ [] → 0 < counted p) → InTurn (opened_by r p).progress table chunks
      → over (after (opened_by r p).progress table chunks).progress.phase ≡ true
      → (reads (opened_by r p).progress.phase ≡ true → bytes_of chunks ≡ speeds)
      → (opened_by r p).line ++ (after (opened_by r p).progress table chunks).line ≡ plan_text r p table speeds
  unfolding after
  told_by [] speeds some h e all =
      let told = after (opened_by [] p).progress table chunks in
      let n = told.progress in
      ap (λ t. slot_header ++ t)
      (complete n.phase n.plan table n.run (length chunks) (bytes_of chunks) told.line (slots_text p table (started p)) (stand (some refl) h) e
      ∙ ap (slots_text p table (started p)) (all refl))
  told_by (number ∷ place) speeds some h e all =
      rw (none_after (opened_by (number ∷ place) p).progress table chunks refl h) (append-nil (refused_line number))

  pub few_by : (r : Report) → (r ≡ [] → 0 < counted p) → InTurn (opened_by r p).progress table chunks → length chunks ≤ length (bytes_of chunks) + suc most_jobs
  few_by [] some h =
      let told = after (opened_by [] p).progress table chunks in
      let n = told.progress in
      let k = few n.phase n.plan table n.run (length chunks) (bytes_of chunks) told.line (slots_text p table (started p)) (stand (some refl) h) in
      omega arith
  few_by (number ∷ place) some h = rw (none_after (opened_by (number ∷ place) p).progress table chunks refl h) (omega arith)

-- A plan without a refusal has a job.
has_job : (left : ReadEffect) → plan_fault left ≡ [] → 0 < counted left.plan
has_job left e = some_job left.plan left.table (no_second left.answer (judged left.plan left.table) e)

-- If a program that read this file is over, it has told the text of the file and of the chunks that
-- it read as speeds. With a plan that is refused it reads no speeds.
pub told_is_text : (file : Bytes) (chunks : List Bytes) (speeds : Bytes)
    → (let told = after (begun file).progress (read_in file).table chunks in
    InTurn (begun file).progress (read_in file).table chunks → over told.progress.phase ≡ true
    → (reads (begun file).progress.phase ≡ true → bytes_of chunks ≡ speeds)
    → (begun file).line ++ told.line ≡ printed_by (read_in file) speeds)
unfolding opened printed_by
told_is_text file chunks speeds h e all =
    let left = read_in file in
    told_by left.plan left.table chunks (plan_fault left) speeds (has_job left) h e all

-- The same for an input: if the file is the input's plan file, and the chunks of a plan that is not
-- refused are all further bytes of the input in their order, the output is told.
pub told_is_output : (input : Bytes) (chunks : List Bytes)
    → (let file = take (file_bytes input) input in
    let told = after (begun file).progress (read_in file).table chunks in
    InTurn (begun file).progress (read_in file).table chunks → over told.progress.phase ≡ true
    → (reads (begun file).progress.phase ≡ true → bytes_of chunks ≡ drop (file_bytes input) input)
    → (begun file).line ++ told.line ≡ output input)
unfolding output
told_is_output input chunks h e all = told_is_text (take (file_bytes input) input) chunks (drop (file_bytes input) input) h e all

-- There are at most as many turns after the first as bytes were read, one for each job, and one more.
pub few_turns : (file : Bytes) (chunks : List Bytes) → InTurn (begun file).progress (read_in file).table chunks
    → length chunks ≤ length (bytes_of chunks) + suc most_jobs
unfolding opened
few_turns file chunks h =
    let left = read_in file in
    few_by left.plan left.table chunks (plan_fault left) (has_job left) h
