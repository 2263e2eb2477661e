-- Demand 1, the buffers: what each refusal leaves, by the definitions in the contracts of the
-- calls. Judge, slack and outcome are lent no buffer to change.
use mathlib.Core.Path.{◌≡◌, refl, sym, ◌∙◌, ap}
use mathlib.Core.Bool.{Bool, true, false, not, cond, false≢true}
use mathlib.Core.List.{List, [], ◌∷◌, ◌++◌}
use mathlib.Core.Logic.{◌≢◌}
use Prim.Native.Nat.{ℕ, ◌≤◌}
use native.Mathlib.Omega.{arith}
use lib.Dec.{ltb, lit≤}
use lib.ListN.{length, take, drop, replicate}
use Rattle.plan.specs.Edition.{places}
use Rattle.plan.specs.Refusal.{Refusal, refusal_at, wrong_version, below_floor_rule, speed_above_normal, unsound, buffer_too_short}
use Rattle.base.specs.Below
use Rattle.plan.specs.Rules.{name_allowed, names_hold, names_differ, grades_hold, bounds_hold, rules_hold}
use Rattle.plan.specs.Boundaries.{insert, boundaries_to}
use Rattle.plan.specs.Table.{no_stray, sound}
use Rattle.plan.specs.declared.kinds.Plan.{Plan}
use Rattle.fields.specs.Bytes.{bytes}
use Rattle.fields.specs.Parsers.{Parsed, got, no, version, opening, field}
use Rattle.planfields.specs.Records.{head}
use Rattle.plan.specs.Rules.{no_plan}
use Rattle.planfile.specs.Reader.{Contents, preamble, plan_file, read_file, leaves, reader, name_shown}
use Rattle.planfile.proofs.WholeFile.{shown_none}
use Rattle.planwriter.specs.Writing as writing
use Rattle.planwriter.specs.Writing.{wrote, withheld, written, writer}
use Rattle.judge.specs.Verdict.{judged}
use Rattle.plan.specs.Report.{Report}
use Rattle.dispatch.specs.Step as step
use Rattle.dispatch.specs.Step.{Ending, started, no_run, start_from, start_in, stepped}
use Rattle.dispatch.specs.declared.Run.{Run}
use Rattle.dispatch.proofs.SlotLimits as never
use Rattle.lines.specs.Answers as line
use Rattle.lines.specs.Answers.{refusal, printed, outcome_printed}
use Rattle.lines.specs.Lines.{stray_line, outcome_line}
use Rattle.text.specs.Text.{text}
use Rattle.promises.proofs.Cases.{plan_with, table_of, plan_e, table_e, file_e, P3, capital_mirror}
use Rattle.promises.proofs.RefusalNumbers.{file_numbers, file_only, P3_refused, E_too_fast, line_without_room}
use Rattle.fields.proofs.Only.{Only}
use Rattle.plan.specs.Report.{is_one_of}
use Rattle.promises.proofs.Demand2.{read_e}

-- Reader: 22 leaves the table unchanged, and a plan of zeros.
pub reader_22_leaves : (file table rest : List ℕ) → (reader file table).answer ≡ buffer_too_short ∷ rest
    → ((reader file table).table ≡ table) × ((reader file table).plan ≡ no_plan)
unfolding reader
reader_22_leaves file table rest e = by (ltb (length table) places) (read_file file) (file_only file) e
  where
    by : (b : Bool) (s : Parsed Contents) → Only file_numbers s
        → (cond b (record { answer = buffer_too_short ∷ []; plan = no_plan; table = table }) (leaves s table)).answer ≡ buffer_too_short ∷ rest
        → ((cond b (record { answer = buffer_too_short ∷ []; plan = no_plan; table = table }) (leaves s table)).table ≡ table)
        × ((cond b (record { answer = buffer_too_short ∷ []; plan = no_plan; table = table }) (leaves s table)).plan ≡ no_plan)
    by true s h e = (refl, refl)
    by false (got contents end) h e = absurd (let z : ◌≡◌ {A = ℕ} 0 1 = cc in omega arith)
    by false (no k) h e = absurd (false≢true (let n : k.number ≡ buffer_too_short = cc in sym (ap (is_one_of file_numbers) n) ∙ h))

-- Any other refusal leaves 2,016 zeros, the places past them unchanged, and a plan of zeros.
pub reader_other_leaves : (file table : List ℕ) (number : ℕ) (rest : List ℕ) → (reader file table).answer ≡ number ∷ rest → number ≢ buffer_too_short
    → ((reader file table).table ≡ replicate places 0 ++ drop places table) × ((reader file table).plan ≡ no_plan)
unfolding reader
reader_other_leaves file table number rest e other = by (ltb (length table) places) (read_file file) e
  where
    by : (b : Bool) (s : Parsed Contents)
        → (cond b (record { answer = buffer_too_short ∷ []; plan = no_plan; table = table }) (leaves s table)).answer ≡ number ∷ rest
        → ((cond b (record { answer = buffer_too_short ∷ []; plan = no_plan; table = table }) (leaves s table)).table ≡ replicate places 0 ++ drop places table)
        × ((cond b (record { answer = buffer_too_short ∷ []; plan = no_plan; table = table }) (leaves s table)).plan ≡ no_plan)
    by true s e = absurd (other (cc))
    by false (got contents end) e = absurd (let z : ◌≡◌ {A = ℕ} 0 1 = cc in omega arith)
    by false (no k) e = (refl, refl)

-- Name lookup: a refused file shows nothing, and neither does a position without a job.
pub refused_file_shows_nothing : (file : List ℕ) (k : Refusal) (position : ℕ) → read_file file ≡ no k → name_shown file position ≡ []
unfolding name_shown
refused_file_shows_nothing file k position e = rw e refl

pub no_job_shows_nothing : (file : List ℕ) (contents : Contents) (end position : ℕ) → read_file file ≡ got contents end → contents.plan.count ≤ position
    → name_shown file position ≡ []
unfolding name_shown
no_job_shows_nothing file contents end position e h = rw e (shown_none (got contents end) file position h)

-- Writer: a refusal writes nothing.
pub writer_refused_leaves : (p : Plan) (table out : List ℕ) (number : ℕ) → (writer p table out).answer ≡ writing.refused number
    → (writer p table out).out ≡ out
unfolding writer
writer_refused_leaves p table out number e =
    by (ltb (length table) places) (not (sound p table)) (ltb (length out) (length file)) e
  where
    file : List ℕ
    file = written p (take places table)

    left : Bool → Bool → Bool → writing.WriteEffect
    left a b c =
        cond a (withheld buffer_too_short out)
        (cond b (withheld unsound out)
        (cond c (withheld buffer_too_short out) (record { answer = wrote (length file); out = file ++ drop (length file) out })))

    by : (a b c : Bool) → (left a b c).answer ≡ writing.refused number → (left a b c).out ≡ out
    by true b c e = refl
    by false true c e = refl
    by false false true e = refl
    by false false false e = absurd (let z : ◌≡◌ {A = ℕ} 0 1 = cc in omega arith)

-- Start: a refusal returns a record of zeros, and leaves a lent one unchanged.
pub start_refused_leaves : (p : Plan) (table : List ℕ) (number : ℕ) (place : Report) → judged p table ≡ number ∷ place
    → start_from (judged p table) (started p) no_run ≡ no_run
start_refused_leaves p table number place e = ap (λ r. start_from r (started p) no_run) e

pub start_in_refused_leaves : (p : Plan) (table : List ℕ) (was : Run) (number : ℕ) (place : Report) → judged p table ≡ number ∷ place
    → start_in p table was ≡ was
start_in_refused_leaves = never.refused_start_changes_nothing

-- Step: a refusal leaves run and grants unchanged.
pub step_refused_leaves : (p : Plan) (table : List ℕ) (run : Run) (v : ℕ) (grants : List ℕ) (number : ℕ) (rest : Report)
    → (stepped p table run v grants).answer ≡ number ∷ rest
    → ((stepped p table run v grants).run ≡ run) × ((stepped p table run v grants).grants ≡ grants)
step_refused_leaves = never.refused_changes_nothing

-- Lines: a refusal leaves the buffer unchanged.
pub line_refused_leaves : (words out : List ℕ) (number : ℕ) → (printed words out).answer ≡ line.withheld number → (printed words out).out ≡ out
unfolding printed
line_refused_leaves words out number e = by (ltb (length out) (length words)) e
  where
    left : Bool → line.PrintEffect
    left b = cond b (refusal buffer_too_short out) (record { answer = line.wrote (length words); out = words ++ drop (length words) out })

    by : (b : Bool) → (left b).answer ≡ line.withheld number → (left b).out ≡ out
    by true e = refl
    by false e = absurd (let z : ◌≡◌ {A = ℕ} 0 1 = cc in omega arith)

-- A job's line: a refusal leaves the buffer unchanged, also that of the outcome itself.
pub outcome_line_refused_leaves : (name : ℕ) (ended : Ending) (carried : ℕ) (out : List ℕ) (number : ℕ)
    → (outcome_printed name ended carried out).answer ≡ line.withheld number → (outcome_printed name ended carried out).out ≡ out
outcome_line_refused_leaves name step.met carried out number e = line_refused_leaves (outcome_line name (text "met") carried) out number e
outcome_line_refused_leaves name step.ended_early carried out number e = line_refused_leaves (outcome_line name (text "ended") carried) out number e
outcome_line_refused_leaves name step.discarded carried out number e = line_refused_leaves (outcome_line name (text "discarded") carried) out number e
outcome_line_refused_leaves name step.missed carried out number e = line_refused_leaves (outcome_line name (text "missed") carried) out number e
outcome_line_refused_leaves name step.still_open carried out number e = line_refused_leaves (outcome_line name (text "open") carried) out number e
outcome_line_refused_leaves name (step.refused k) carried out number e = refl

-- For each theorem above, an instance that meets its premises. A table that is too short is unchanged.
short_table_stays : ((reader file_e (7 ∷ [])).table ≡ 7 ∷ []) × ((reader file_e (7 ∷ [])).plan ≡ no_plan)
unfolding reader
short_table_stays = reader_22_leaves file_e (7 ∷ []) [] refl

-- An empty file leaves zeros in the table's own places, and the place past them unchanged.
empty_file_leaves : ((reader [] (replicate places 7 ++ (9 ∷ []))).table ≡ replicate places 0 ++ (9 ∷ []))
    × ((reader [] (replicate places 7 ++ (9 ∷ []))).plan ≡ no_plan)
unfolding field version opening head preamble plan_file reader
empty_file_leaves = reader_other_leaves [] (replicate places 7 ++ (9 ∷ [])) wrong_version (0 ∷ []) refl (λ e. absurd (let z : wrong_version ≡ buffer_too_short = e in omega arith))

-- An empty file shows no name, and plan E's file shows no third one.
empty_file_shows_nothing : name_shown [] 0 ≡ []
unfolding field version opening head preamble plan_file
empty_file_shows_nothing = refused_file_shows_nothing [] (refusal_at wrong_version 0) 0 refl

E_shows_no_third : name_shown file_e 2 ≡ []
E_shows_no_third = no_job_shows_nothing file_e (record { plan = plan_e; table = table_e }) 116 2 read_e (lit≤ tt)

-- Plan E is not written to an output of one byte, which is unchanged.
E_not_written : (writer plan_e table_e (7 ∷ [])).out ≡ 7 ∷ []
unfolding table_of Below.every name_allowed names_hold names_differ grades_hold bounds_hold rules_hold insert boundaries_to no_stray sound bytes writing.jobs_bytes writing.rows_bytes writing.row_count writing.body written writer
E_not_written = writer_refused_leaves plan_e table_e (7 ∷ []) buffer_too_short refl

-- P3 starts no run, and a lent record, here that of plan E's start, is unchanged.
P3_starts_nothing : start_from (judged (plan_with P3.jobs) (table_of P3.rows)) (started (plan_with P3.jobs)) no_run ≡ no_run
P3_starts_nothing = start_refused_leaves (plan_with P3.jobs) (table_of P3.rows) below_floor_rule (2 ∷ 10 ∷ []) P3_refused

P3_leaves_the_record : start_in (plan_with P3.jobs) (table_of P3.rows) (started plan_e) ≡ started plan_e
P3_leaves_the_record = start_in_refused_leaves (plan_with P3.jobs) (table_of P3.rows) (started plan_e) below_floor_rule (2 ∷ 10 ∷ []) P3_refused

-- Plan E at speed 3 leaves run and grants unchanged.
E_too_fast_leaves : ((stepped plan_e table_e (started plan_e) 3 (7 ∷ 7 ∷ [])).run ≡ started plan_e)
    × ((stepped plan_e table_e (started plan_e) 3 (7 ∷ 7 ∷ [])).grants ≡ 7 ∷ 7 ∷ [])
E_too_fast_leaves = step_refused_leaves plan_e table_e (started plan_e) 3 (7 ∷ 7 ∷ []) speed_above_normal [] E_too_fast

-- An empty buffer stays empty, and a buffer lent for a refused outcome is unchanged.
no_room_leaves : (printed stray_line []).out ≡ []
no_room_leaves = line_refused_leaves stray_line [] buffer_too_short line_without_room

refused_outcome_leaves : (outcome_printed capital_mirror (step.refused unsound) 0 (7 ∷ [])).out ≡ 7 ∷ []
refused_outcome_leaves = outcome_line_refused_leaves capital_mirror (step.refused unsound) 0 (7 ∷ []) unsound refl
