-- All turns together print the output as defined.
use mathlib.Core.Path.{◌≡◌, refl, sym, ◌∙◌, ap}
use mathlib.Core.List.{List, [], ◌∷◌, ◌++◌, append_assoc, append-nil}
use Prim.Native.Nat.{ℕ, zero, suc, ◌+◌, ◌≤◌, ◌<◌}
use native.Mathlib.Numerals.{add-one}
use native.Mathlib.Omega.{arith}
use borrow.Author.Tests.{lt-ltb, le-ltb}
use lib.ListN.{length, take, drop, replicate}
use Rattle.plan.specs.Edition.{places}
use Rattle.plan.specs.Rules.{counted}
use Rattle.plan.specs.declared.kinds.Plan.{Plan}
use Rattle.planfile.specs.Reader.{reader}
use Rattle.judge.specs.Verdict.{hand_fault, constraint_fault, floor_fault, judged}
use Rattle.plan.specs.Report.{Report, or_else}
use Rattle.plan.proofs.Reports.{or_empty}
use Rattle.judge.proofs.HandFault.{hand_none}
use Rattle.plan.proofs.Soundness.{sound_bounded}
use Rattle.dispatch.specs.Step.{started, no_run}
use Rattle.dispatch.specs.declared.Run.{Run}
use Rattle.lines.specs.Lines.{slot_header, outcome_header, stray_line, refused_line}
use Rattle.program.specs.declared.Phase.TheVariants.{Slots, Job, Over}
use Rattle.program.specs.Output.{speed, slot_of, slot_text, job_text, jobs_text, closing, slots_text, plan_fault, plan_text, printed_by, output}
use Rattle.planfields.specs.Layout.{file_bytes}
use Rattle.program.specs.Turns.{progress, opened_by, opened, job_turn, slot_turn, played}

-- A progress that is over prints nothing.
over_is_silent : (turns : ℕ) (p : Plan) (run : Run) (table speeds : List ℕ) → played turns (progress Over p run) table speeds ≡ []
unfolding played
over_is_silent zero p run table speeds = refl
over_is_silent (suc turns) p run table speeds = over_is_silent turns p run table (drop 2 speeds)

-- If `or_else` of two reports is empty, so is the second.
pub no_second : (a b : Report) → or_else a b ≡ [] → b ≡ []
no_second [] b e = e
no_second (number ∷ place) b e = let z : ◌≡◌ {A = ℕ} 0 1 = cc in absurd (omega arith)

-- From job i on, the turns print the outcomes of all remaining jobs.
jobs_from : (k i turns : ℕ) (p : Plan) (run : Run) (table : List ℕ) → i + suc k ≡ counted p → k < turns
    → jobs_text p run i ++ played turns (progress (Job i) p run) table [] ≡ jobs_text p run (counted p)
unfolding played jobs_text job_turn
jobs_from k i zero p run table e l = absurd (omega arith)
jobs_from zero i (suc turns) p run table e l =
    let last : suc i ≡ counted p = omega arith in
    let stop : counted p ≤ i + 1 = omega arith in
    rw (le-ltb (i + 1) (counted p) stop, over_is_silent turns p run table [], append-nil, ← last) refl
jobs_from (suc k) i (suc turns) p run table e l =
    let on : i + 1 < counted p = omega arith in
    rw (lt-ltb (i + 1) (counted p) on, add-one i)
    (sym (append_assoc (jobs_text p run i) (job_text p run i) (played turns (progress (Job (suc i)) p run) table []))
    ∙ jobs_from k (suc i) turns p run table (omega arith) (omega arith))

-- The outcomes, with their header.
closes_whole : (turns : ℕ) (p : Plan) (run : Run) (table : List ℕ) → 0 < counted p → counted p ≤ turns
    → outcome_header ++ played turns (progress (Job 0) p run) table [] ≡ closing p run
unfolding closing jobs_text
closes_whole turns p run table some l = ap (λ t. outcome_header ++ t) (go (counted p) refl some)
  where
    go : (n : ℕ) → n ≡ counted p → 0 < n → played turns (progress (Job 0) p run) table [] ≡ jobs_text p run (counted p)
    go zero e h = absurd (omega arith)
    go (suc k) e h = jobs_from k 0 turns p run table (omega arith) (omega arith)

-- With enough turns, the slots phase prints the slots and the text after them.
pub slots_whole : (turns : ℕ) (p : Plan) (run : Run) (table speeds : List ℕ) → 0 < counted p → length speeds + counted p + 2 ≤ turns
    → played turns (progress Slots p run) table speeds ≡ slots_text p table run speeds
unfolding played slots_text slot_turn
slots_whole zero p run table speeds some l = absurd (omega arith)
slots_whole (suc turns) p run table [] some l = closes_whole turns p run table some (omega arith)
slots_whole (suc zero) p run table (b ∷ []) some l = absurd (omega arith)
slots_whole (suc (suc turns)) p run table (b ∷ []) some l =
    ap (λ t. stray_line ++ t) (closes_whole turns p run table some (omega arith))
slots_whole (suc turns) p run table (high ∷ low ∷ rest) some l =
    let slot = slot_of p table run (speed high low) in
    ap (λ t. slot_text p run (speed high low) slot.answer slot ++ t) (slots_whole turns p slot.run table rest some (omega arith))

-- An accepted plan has a job.
pub some_job : (p : Plan) (table : List ℕ) → judged p table ≡ [] → 0 < counted p
unfolding judged
some_job p table h =
    let rest = or_else (constraint_fault p table) (floor_fault p table) in
    (sound_bounded p table (hand_none p table (or_empty (hand_fault p table) rest h)).1).some

-- The first turn and those after it print the text of the plan.
progress_by : (r : Report) (p : Plan) (table speeds : List ℕ) (turns : ℕ) → (r ≡ [] → 0 < counted p) → length speeds + counted p + 2 ≤ turns
    → (opened_by r p).line ++ played turns (opened_by r p).progress table speeds ≡ plan_text r p table speeds
progress_by [] p table speeds turns some l = ap (λ t. slot_header ++ t) (slots_whole turns p (started p) table speeds (some refl) l)
progress_by (number ∷ place) p table speeds turns some l =
    ap (λ t. refused_line number ++ t) (over_is_silent turns p no_run table speeds) ∙ append-nil (refused_line number)

-- The whole output by turns: first the plan file is read, then two
-- bytes a turn, if there are enough turns.
pub turns_print_the_output : (input : List ℕ) (turns : ℕ)
    → (let left = reader (take (file_bytes input) input) (replicate places 0) in
    let speeds = drop (file_bytes input) input in
    length speeds + counted left.plan + 2 ≤ turns
    → (opened left).line ++ played turns (opened left).progress left.table speeds ≡ output input)
unfolding output printed_by opened
turns_print_the_output input turns l =
    let left = reader (take (file_bytes input) input) (replicate places 0) in
    progress_by (plan_fault left) left.plan left.table (drop (file_bytes input) input) turns
    (λ e. some_job left.plan left.table (no_second left.answer (judged left.plan left.table) e)) l
