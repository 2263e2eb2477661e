-- Demand 2 as theorems about the definitions in the contracts of the
-- public calls, each with plan E as an instance.
use mathlib.Core.Path.{◌≡◌, refl, sym, ◌∙◌, ap}
use mathlib.Core.Bool.{Bool, true, false, cond, ◌&&◌, false≢true}
use mathlib.Core.List.{List, [], ◌∷◌, ◌++◌}
use mathlib.Core.Logic.{◌↔◌}
use Prim.Native.Nat.{ℕ, zero, suc, ◌≤◌, ◌<◌, ◌^◌}
use native.Mathlib.Omega.{arith}
use borrow.Author.Tests.{ltb-true, ltb-false, le-ltb}
use lib.Dec.{ltb, lit<, lit≤}
use lib.ListN.{length, get_or, take, drop, replicate, length-append}
use lib.Seq.{take_at, take_all, length-take-le}
use Rattle.base.specs.Sum.{sum}
use Rattle.plan.specs.Edition.{most_jobs, places}
use Rattle.plan.specs.Refusal.{buffer_too_short}
use Rattle.base.specs.Below
use Rattle.plan.specs.Rules.{counted, name, name_allowed, is_absent, names_hold, names_differ, grades_hold, bounds_hold, rules_hold}
use Rattle.plan.specs.Boundaries.{insert, boundaries_to, come}
use Rattle.plan.specs.Table.{no_stray, sound}
use Rattle.plan.specs.Same.{Same}
use Rattle.plan.specs.declared.kinds.Plan.{Plan}
use Rattle.base.proofs.Logic.{and_left, and_right}
use Rattle.fields.specs.Bytes.{value}
use Rattle.fields.specs.Parsers.{Parsed, got, no, field, version, extent, opening, ended, record_length}
use Rattle.planfields.specs.Records.{head, job_name, one_job}
use Rattle.plan.specs.Rules.{no_plan}
use Rattle.planfile.specs.Reader.{all_jobs, position, row_job, one_row, all_rows, preamble, plan_file, Contents, read_file, ReadEffect, leaves, reader}
use Rattle.planfile.proofs.WholeFile.{reader_long}
use Rattle.planwriter.specs.Writing.{WriteEffect, wrote, written, writer}
use Rattle.roundtrip.proofs.KeptPlan.{kept, kept_job}
use Rattle.roundtrip.proofs.ReadAfterWrite.{read_after_write}
use Rattle.roundtrip.proofs.WriteAfterRead.{write_after_read}
use Rattle.roundtrip.proofs.ReadSound.{Proper, read_proper}
use Rattle.roundtrip.proofs.ReadSound as trip
use Rattle.judge.specs.Constraints.{Figure2}
use Rattle.judge.specs.Verdict.{outside_fault, total_fault, capacity_fault, is_hi_deadline, floor_fault, judged}
use Rattle.plan.specs.Report.{is_none, first}
use Rattle.judge.proofs.Exact.{accepted_parts, exact}
use Rattle.judge.proofs.HandFault.{hand_none}
use Rattle.dispatch.specs.Dues.{slow_after, due}
use Rattle.dispatch.specs.Order as service
use Rattle.dispatch.specs.Order.{order, serve}
use Rattle.dispatch.specs.Step.{started, slot_sound, slot_fault, granted, added, advanced, stepped}
use Rattle.dispatch.specs.declared.Run.{Run}
use Rattle.dispatch.proofs.SlotLimits.{done_leaves}
use Rattle.promises.proofs.Cases.{plan_with, table_of, plan_e, table_e, file_e, P3}

-- The judge is exact: it refuses nothing if and only if the table has all its
-- places, the plan is sound, and figure 2 holds.
pub judge_is_exact : (p : Plan) (table : List ℕ) → (judged p table ≡ []) ↔ ((places ≤ length table) × (sound p table ≡ true) × Figure2 p table)
judge_is_exact p table = (
  λ e.
      let long = (hand_none p table (accepted_parts p table e).0).0 in
      let w = (exact p table long).0 e in (long, w.0, w.1),
  λ h. (exact p table h.0).1 (h.1, h.2),
)

-- Plan E is accepted, so figure 2 holds for it.
pub accepted_e : judged plan_e table_e ≡ []
unfolding table_of sum Below.every name_allowed names_hold names_differ grades_hold bounds_hold rules_hold insert boundaries_to no_stray sound first outside_fault total_fault capacity_fault is_hi_deadline floor_fault judged
accepted_e = refl

figure_2_holds_in_e : Figure2 plan_e table_e
figure_2_holds_in_e = ((judge_is_exact plan_e table_e).0 accepted_e).2

-- P3 is sound and refused, so figure 2 does not hold for it.
figure_2_fails_in_p3 : Figure2 (plan_with P3.jobs) (table_of P3.rows) → ⊥
unfolding table_of sum Below.every name_allowed names_hold names_differ grades_hold bounds_hold rules_hold insert boundaries_to no_stray sound first outside_fault total_fault capacity_fault is_hi_deadline floor_fault judged
figure_2_fails_in_p3 a = false≢true (ap is_none ((judge_is_exact (plan_with P3.jobs) (table_of P3.rows)).1 (lit≤ tt, refl, a)))

-- What the reader leaves for a file that it accepts.
pub taken_is : (file table : List ℕ) → (reader file table).answer ≡ []
    → (contents : Contents) × (end : ℕ) × (read_file file ≡ got contents end) × (places ≤ length table) × (reader file table ≡ leaves (got contents end) table)
unfolding reader
taken_is file table e = by (ltb (length table) places) refl (read_file file) refl e
  where
    by : (b : Bool) → ltb (length table) places ≡ b → (s : Parsed Contents) → read_file file ≡ s
        → (cond b (record { answer = buffer_too_short ∷ []; plan = no_plan; table = table }) (leaves s table)).answer ≡ []
        → (contents : Contents) × (end : ℕ) × (read_file file ≡ got contents end) × (places ≤ length table)
        × (cond (ltb (length table) places) (record { answer = buffer_too_short ∷ []; plan = no_plan; table = table }) (leaves (read_file file) table)
        ≡ leaves (got contents end) table)
    by true b s r e = absurd (let z : ◌≡◌ {A = ℕ} 0 1 = cc in omega arith)
    by false b (got contents end) r e = (contents, end, r, ltb-false (length table) places b, rw (b, r) refl)
    by false b (no refusal) r e = absurd (let z : ◌≡◌ {A = ℕ} 0 1 = cc in omega arith)

-- Reading, then writing: the writer answers the file's length and writes the same bytes,
-- and the rest of the output is unchanged.
pub read_and_written : (file table out : List ℕ) → ((k : ℕ) → get_or file k 0 < 256) → (reader file table).answer ≡ [] → length file ≤ length out
    → writer (reader file table).plan (reader file table).table out ≡ record { answer = wrote (length file); out = file ++ drop (length file) out }
unfolding writer sound
read_and_written file table out octets e fits =
    let t = taken_is file table e in
    let contents = t.0 in
    let proper = read_proper file octets t.2 in
    let own : take places (contents.table ++ drop places table) ≡ contents.table = take_at contents.table (drop places table) places proper.exact in
    let whole : take places contents.table ≡ contents.table = take_all places contents.table (omega (arith, proper.exact)) in
    let long : ltb (length (contents.table ++ drop places table)) places ≡ false
    = le-ltb (length (contents.table ++ drop places table)) places (omega (arith, length-append contents.table (drop places table), proper.exact)) in
    let again : written contents.plan contents.table ≡ file = write_after_read file octets t.2 in
    rw (t.4, long, own) (rw (rw whole at proper.is, again, le-ltb (length out) (length file) fits) refl)

-- The reader accepts a file exactly if it is the written form of
-- some sound plan within the code's types.
pub taken_exactly : (file table : List ℕ) → ((k : ℕ) → get_or file k 0 < 256) → places ≤ length table
    → ((reader file table).answer ≡ []) ↔ ((q : Plan) × (own : List ℕ) × Proper q own × (written q own ≡ file))
taken_exactly file table octets long = (
  λ e. let t = taken_is file table e in (trip.taken_exactly file octets).0 (t.0, t.1, t.2),
  λ w.
      let t = (trip.taken_exactly file octets).1 w in
      ap (λ l. l.answer) (sym (reader_long file table long) ∙ ap (λ s. leaves s table) t.2),
)

-- What the writer leaves for a sound plan, if the buffers are long enough.
pub sound_writer : (p : Plan) (table out : List ℕ) → sound p table ≡ true → places ≤ length table → length (written p (take places table)) ≤ length out
    → ◌≡◌ {A = WriteEffect} (writer p table out)
    (record {
      answer = wrote (length (written p (take places table)));
      out = written p (take places table) ++ drop (length (written p (take places table))) out;
    })
unfolding writer
sound_writer p table out e long fits = rw (le-ltb (length table) places long, e, le-ltb (length out) (length (written p (take places table))) fits) refl

-- The plan that is read back is the same.
same_again : (p : Plan) (table other : List ℕ) → places ≤ length table → Same p table (kept p) (take places table ++ drop places other)
same_again p table other long =
    record {
      n = refl;
      d = refl;
      count = refl;
      jobs = λ i h. sym (kept_job p i (omega (arith, h)));
      cells = sym (take_at (take places table) (drop places other) places (length-take-le places table long));
    }

-- Writing, then reading: a sound plan, accepted or not, is written, and reading the file gives the
-- same plan: rates, count, counted records and the table's own places. (The code's types give that
-- a plan has all its records, a name eight bytes and a place four.)
pub written_and_read : (p : Plan) (table out other : List ℕ) → length p.jobs ≡ most_jobs → ((i : ℕ) → i < p.count → name p i < 256 ^ 8)
    → ((k : ℕ) → get_or table k 0 < 256 ^ 4) → sound p table ≡ true → places ≤ length table → length (written p (take places table)) ≤ length out
    → places ≤ length other
    → (n : ℕ) × ((writer p table out).answer ≡ wrote n) × ((reader (take n (writer p table out).out) other).answer ≡ [])
    × Same p table (reader (take n (writer p table out).out) other).plan (reader (take n (writer p table out).out) other).table
written_and_read p table out other records names entries e long fits room =
    let file = written p (take places table) in
    let w = sound_writer p table out e long fits in
    let back : take (length file) (writer p table out).out ≡ file
    = ap (λ (o : WriteEffect). take (length file) o.out) w ∙ take_at file (drop (length file) out) (length file) refl in
    let read : reader file other ≡ leaves (got (record { plan = kept p; table = take places table }) (length file)) other
    = sym (reader_long file other room) ∙ ap (λ s. leaves s other) (read_after_write p table e long records names entries) in
    let whole = ap (λ l. reader l other) back ∙ read in (
      length file,
      ap (λ (o : WriteEffect). o.answer) w,
      ap (λ (l : ReadEffect). l.answer) whole,
      rw whole (same_again p table other long),
    )

-- All numbers of a list are below a bound.
abbrev all_below : ℕ → List ℕ → Bool
all_below bound [] = true
all_below bound (x ∷ l) = ltb x bound && all_below bound l

-- Plan E's file is accepted, and gives plan E and its table.
pub read_e : read_file file_e ≡ got (record { plan = plan_e; table = table_e }) 116
unfolding table_of Below.every name_allowed is_absent insert boundaries_to value field version extent opening head record_length job_name one_job all_jobs position row_job one_row all_rows preamble plan_file ended
read_e = refl

pub octets_e : (k : ℕ) → get_or file_e k 0 < 256
octets_e = all_below_lem file_e refl
  where
    all_below_lem : (l : List ℕ) → all_below 256 l ≡ true → (k : ℕ) → get_or l k 0 < 256
    all_below_lem [] h k = lit< tt
    all_below_lem (x ∷ l) h zero = ltb-true x 256 (and_left (ltb x 256) (all_below 256 l) h)
    all_below_lem (x ∷ l) h (suc k) = all_below_lem l (and_right (ltb x 256) (all_below 256 l) h) k

-- Hence it is the written form of plan E, and reading and writing it gives the same bytes.
written_e : written plan_e table_e ≡ file_e
written_e = write_after_read file_e octets_e read_e

read_and_written_e : (table out : List ℕ) → places ≤ length table → 116 ≤ length out
    → writer (reader file_e table).plan (reader file_e table).table out ≡ record { answer = wrote 116; out = file_e ++ drop 116 out }
read_and_written_e table out long fits =
    read_and_written file_e table out octets_e
    (ap (λ (l : ReadEffect). l.answer) (sym (reader_long file_e table long) ∙ ap (λ s. leaves s table) read_e)) fits

-- Plan E, written and read again, is the same plan.
written_and_read_e : (out other : List ℕ) → 116 ≤ length out → places ≤ length other
    → (n : ℕ) × ((writer plan_e table_e out).answer ≡ wrote n) × ((reader (take n (writer plan_e table_e out).out) other).answer ≡ [])
    × Same plan_e table_e (reader (take n (writer plan_e table_e out).out) other).plan (reader (take n (writer plan_e table_e out).out) other).table
written_and_read_e out other fits room =
    let x = read_proper file_e octets_e read_e in
    let own : take places table_e ≡ table_e = take_all places table_e (omega (arith, x.exact)) in
    let long : length (written plan_e (take places table_e)) ≡ 116 = ap (λ t. length (written plan_e t)) own ∙ ap length written_e in
    written_and_read plan_e table_e out other x.records x.named x.entries x.is (omega (arith, x.exact)) (omega (arith, long)) room

-- The grant row of a done call is that of the rule (`order` and `serve` in dispatch/specs), from
-- zeros for the counted jobs, with the entries past them unchanged.
pub grants_are_the_rule : (p : Plan) (table : List ℕ) (run : Run) (v : ℕ) (grants : List ℕ) → (stepped p table run v grants).answer ≡ []
    → (stepped p table run v grants).grants
    ≡ serve (due p table run (slow_after p table run v)) v (order p run (slow_after p table run v)) (replicate (counted p) 0 ++ drop (counted p) grants)
unfolding granted
grants_are_the_rule p table run v grants e = (done_leaves p table run v grants e).1

-- In plan E's first slot at the normal rate, `Mirror-A` gets 2.
slot_of_e : (stepped plan_e table_e (started plan_e) 2 (7 ∷ 7 ∷ 7 ∷ [])).grants ≡ 2 ∷ 0 ∷ 7 ∷ []
unfolding table_of sum Below.every Below.least Below.greatest grades_hold bounds_hold insert boundaries_to come started slot_sound slot_fault granted service.order service.queue service.enqueue service.serve added advanced stepped
slot_of_e = refl
