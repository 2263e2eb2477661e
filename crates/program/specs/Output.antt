-- All that the program prints, as a function of all that it reads.
use Rattle.std.specs.Prelude.{Bool, cond, not, List, [], ◌∷◌, ◌++◌, ℕ, zero, suc, ◌+◌, ◌*◌, take, drop, replicate}
use Rattle.plan.specs.Kinds.{Amount, Bytes, Position, Speed, Table}
use Rattle.plan.specs.Edition.{most_jobs, places}
use Rattle.plan.specs.Rules.{counted, name}
use Rattle.plan.specs.declared.kinds.Plan.{Plan}
use Rattle.planfields.specs.Layout.{file_bytes}
use Rattle.planfile.specs.Reader.{ReadEffect, reader}
use Rattle.judge.specs.Verdict.{judged}
use Rattle.plan.specs.Report.{Report, or_else, is_none}
use Rattle.dispatch.specs.Dues.{carried_of}
use Rattle.dispatch.specs.Step.{SlotEffect, Ending, ending_report, started, stepped, outcome}
use Rattle.dispatch.specs.declared.Run.{Run}
use Rattle.lines.specs.Lines.{slot_header, outcome_header, stray_line, refused_line, slot_line, refused_slot_line, outcome_line, ending_word}

-- The refusal of a plan: the reader's, otherwise the judge's.
abbrev pub plan_fault : ReadEffect → Report
plan_fault left = or_else left.answer (judged left.plan left.table)

-- The speed that two bytes encode, highest first (for bytes: numbers below 256).
abbrev pub speed : (high low : ℕ) → ℕ
speed high low = high * 256 + low

-- The effect of a slot's call with a grant row of zeros.
abbrev pub slot_of : (p : Plan) (table : Table) (run : Run) (v : Speed) → SlotEffect
slot_of p table run v = stepped p table run v (replicate most_jobs 0)

-- The line of a slot's call: the clock before it, with the slow mark after it
-- and the grants, or with the refusal number.
abbrev pub slot_text : Plan → Run → Speed → Report → SlotEffect → List ℕ
slot_text p run v [] slot = slot_line run.clock.0 v slot.run.slow p slot.grants
slot_text p run v (number ∷ place) slot = refused_slot_line run.clock.0 v number

-- Whether an outcome is refused.
abbrev pub is_refused : Ending → Bool
is_refused ended = not (is_none (ending_report ended))

-- The line of a job with this outcome; a refused outcome has none.
abbrev pub ending_text : (x : ℕ) (ended : Ending) (carried : Amount) → List ℕ
ending_text x ended carried = cond (is_refused ended) [] (outcome_line x (ending_word ended) carried)

-- The line of job i, if its outcome is not refused.
abbrev pub job_text : (p : Plan) (run : Run) (i : Position) → List ℕ
job_text p run i = ending_text (name p i) (outcome p run i) (carried_of run i)

-- The lines of the first n jobs.
unfoldable pub jobs_text : (p : Plan) (run : Run) (n : ℕ) → List ℕ
jobs_text p run zero = []
jobs_text p run (suc n) = jobs_text p run n ++ job_text p run n

-- The text after the slots: the header, and a line for each job whose outcome is not refused.
unfoldable pub closing : Plan → Run → List ℕ
closing p run = outcome_header ++ jobs_text p run (counted p)

-- The lines of the slots, one for each speed, and the text after them.
unfoldable pub slots_text : Plan → Table → Run → List ℕ → List ℕ
slots_text p table run [] = closing p run
slots_text p table run (b ∷ []) = stray_line ++ closing p run
slots_text p table run (high ∷ low ∷ rest) =
    let slot = slot_of p table run (speed high low) in
    slot_text p run (speed high low) slot.answer slot ++ slots_text p table slot.run rest

-- The text of a plan, by its refusal.
abbrev pub plan_text : Report → Plan → Table → List ℕ → List ℕ
plan_text [] p table speeds = slot_header ++ slots_text p table (started p) speeds
plan_text (number ∷ place) p table speeds = refused_line number

-- The text of a plan that was read, and of the speeds.
unfoldable pub printed_by : (left : ReadEffect) (speeds : List ℕ) → List ℕ
printed_by left speeds = plan_text (plan_fault left) left.plan left.table speeds

-- All that is printed, for all that is read.
unfoldable pub output : Bytes → Bytes
output input = printed_by (reader (take (file_bytes input) input) (replicate places 0)) (drop (file_bytes input) input)
