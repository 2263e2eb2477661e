-- The three demands, in full. `all_demands_are_met` (proofs/AllDemands) proves them.
--
-- What they rest on: `reader` (planfile/specs/Reader), `writer` (planwriter/specs/Writing),
-- `judged` and `Figure2` (judge/specs), `draw_fault`, `table_left` and `shortage_of` (desk/specs/Desk), `stepped`, `order`, `serve` and `due`
-- (dispatch/specs), `Kept` (Night, beside this file), `calls_of` and `AllowedParts` (NightParts).
use Rattle.std.specs.Prelude.{◌≡◌, true, List, [], ◌++◌, ◌↔◌, ℕ, ◌≤◌, ◌<◌, ◌^◌, length, get_or, take, drop, replicate, Result}
use Rattle.plan.specs.Kinds.{Bytes, Position, Row, Speed, Table}
use Rattle.plan.specs.Edition.{most_jobs, places}
use Rattle.plan.specs.Rules.{counted, name}
use Rattle.plan.specs.Table.{sound}
use Rattle.plan.specs.Same.{Same}
use Rattle.plan.specs.declared.kinds.JobList.{JobList}
use Rattle.plan.specs.declared.kinds.Plan.{Plan}
use Rattle.plan.specs.declared.refusal.Reason.{Reason}
use Rattle.planfile.specs.Reader.{reader}
use Rattle.planfile.specs.Answers.{Reads, Shows}
use Rattle.planfile.specs.declared.reader.ReadFault.{ReadFault}
use Rattle.planwriter.specs.Writing.{wrote, written, writer}
use Rattle.planwriter.specs.Answers.{Writes}
use Rattle.joblist.specs.Answers.{Imports, Exports}
use Rattle.meter.specs.Answers.{Meters, ReadsLog}
use Rattle.meter.specs.declared.reading.Reading.{Reading}
use Rattle.meter.specs.declared.log.LogFault.{LogFault}
use Rattle.judge.specs.Constraints.{Figure2}
use Rattle.judge.specs.Verdict.{judged}
use Rattle.judge.specs.Answers.{Judges, Measures}
use Rattle.desk.specs.Answers.{TellsShortage, DrawsUp}
use Rattle.dispatch.specs.Dues.{slow_after, due}
use Rattle.dispatch.specs.Order.{order, serve}
use Rattle.dispatch.specs.Step.{stepped}
use Rattle.dispatch.specs.Answers.{Starts, Steps, Shifts, Ends, Tells}
use Rattle.dispatch.specs.declared.Run.{Run}
use Rattle.promises.specs.Night.{run_after, Kept}
use Rattle.promises.specs.NightParts.{Part, AllowedParts, calls_of, run_after_parts}

-- Exactly one result meets a promise.
abbrev pub ExactlyOne : {A : Type 0} → (A → Type 0) → Type 0
ExactlyOne {A} Promised = (r : A) × Promised r × ((s : A) → Promised s → r ≡ s)

-- Demand 1. For every input, the promise of each call that the rules name (the very predicate in its
-- `ensures`) is met by exactly one result and one content of each lent buffer. The same is proved of
-- every other public call (promises/proofs/Determined, and proofs/Determined of the crates themselves).
pub record EveryCallIsDetermined : Type 0 where
  pub read : (file : Bytes) (table : Table) → ExactlyOne {A = Result Plan ReadFault × Table} (λ r. Reads file table r.0 r.1)
  pub lookup : (file : Bytes) (position : Position) → ExactlyOne (Shows file position)
  pub write : (p : Plan) (table : Table) (out : Bytes) → ExactlyOne {A = Result ℕ Reason × Bytes} (λ r. Writes p table out r.0 r.1)
  pub judge : (p : Plan) (table : Table) → ExactlyOne (Judges p table)
  pub slack : (p : Plan) (table : Table) → ExactlyOne (Measures p table)
  pub draw : (p : Plan) (table : Table) → ExactlyOne {A = Result Unit Reason × Table} (λ r. DrawsUp p table r.0 r.1)
  pub shortage : (p : Plan) → ExactlyOne (TellsShortage p)
  pub start : (p : Plan) (table : Table) → ExactlyOne (Starts p table)
  pub step : (p : Plan) (table : Table) (run : Run) (v : Speed) (grants : Row)
      → ExactlyOne {A = Result Run Reason × Row} (λ r. Steps p table run v grants r.0 r.1)
  pub shift : (p : Plan) (table : Table) (run : Run) (speeds : List ℕ) (rows : Row) (numbers : List ℕ)
      → ExactlyOne {A = Result Run Reason × Row × List ℕ} (λ r. Shifts p table run speeds rows numbers r.0 r.1 r.2)
  pub outcome : (p : Plan) (run : Run) (position : Position) → ExactlyOne (Ends p run position)
  pub telling : (p : Plan) (run : Run) (position : Position) → ExactlyOne (Tells p run position)
  pub importing : (text : Bytes) → ExactlyOne (Imports text)
  pub exporting : (list : JobList) (out : Bytes) → ExactlyOne {A = Result ℕ Reason × Bytes} (λ r. Exports list out r.0 r.1)
  pub metering : (reading : Reading) (n : ℕ) → ExactlyOne (Meters reading n)
  pub logging : (file : Bytes) (n : ℕ) (list : List ℕ) → ExactlyOne {A = Result ℕ LogFault × List ℕ} (λ r. ReadsLog file n list r.0 r.1)

-- What the types of the code say of a plan and its table: all records are there, a name has eight
-- bytes and a place four.
pub record InTypes (p : Plan) (table : Table) : Type 0 where
  pub records : length p.jobs ≡ most_jobs
  pub names : (i : ℕ) → i < p.count → name p i < 256 ^ 8
  pub cells : (k : ℕ) → get_or table k 0 < 256 ^ 4

-- Demand 2. One verdict, one file for each plan, and the dispatch rule in every slot.
pub record VerdictFileAndSlotAreExact : Type 0 where
  -- A plan is accepted exactly when its table has all its places, it is sound, and figure 2 holds.
  pub accepted_exactly : (p : Plan) (table : Table)
      → (judged p table ≡ []) ↔ ((places ≤ length table) × (sound p table ≡ true) × Figure2 p table)
  -- A file that the reader takes, written again, gives the same bytes.
  pub same_bytes : (file : Bytes) (table : Table) (out : Bytes) → ((k : ℕ) → get_or file k 0 < 256) → (reader file table).answer ≡ []
      → length file ≤ length out
      → writer (reader file table).plan (reader file table).table out
      ≡ record { answer = wrote (length file); out = file ++ drop (length file) out }
  -- A sound plan, written and read again, gives the same plan.
  pub same_plan : (p : Plan) (table : Table) (out : Bytes) (other : Table) → InTypes p table → sound p table ≡ true → places ≤ length table
      → length (written p (take places table)) ≤ length out → places ≤ length other
      → (n : ℕ) × ((writer p table out).answer ≡ wrote n) × ((reader (take n (writer p table out).out) other).answer ≡ [])
      × Same p table (reader (take n (writer p table out).out) other).plan (reader (take n (writer p table out).out) other).table
  -- The grants of a done call are those of serving the live jobs one after the other, in the rule's
  -- order.
  pub grants : (p : Plan) (table : Table) (run : Run) (v : Speed) (row : Row) → (stepped p table run v row).answer ≡ []
      → (stepped p table run v row).grants
      ≡ serve (due p table run (slow_after p table run v)) v (order p run (slow_after p table run v))
      (replicate (counted p) 0 ++ drop (counted p) row)

-- Demand 3. Whatever an accepted plan's night brings at speeds from floor to normal, in slots, shifts and words of
-- the host, refused ones included, what was promised to depositors is kept in its calls; and these leave the run that its
-- parts leave.
abbrev pub WhatIsPromisedIsKept : Type 0
WhatIsPromisedIsKept =
    (p : Plan) (table : Table) → judged p table ≡ [] → (night : List Part) → AllowedParts p table night
    → Kept p (calls_of p night) × (run_after p (calls_of p night) ≡ run_after_parts p night)

-- All three.
pub record AllDemands : Type 0 where
  pub one : EveryCallIsDetermined
  pub two : VerdictFileAndSlotAreExact
  pub three : WhatIsPromisedIsKept
