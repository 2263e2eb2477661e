-- Laws of the written file, and what soundness gives the writer.
use mathlib.Core.Path.{◌≡◌, refl, sym, ◌∙◌, ap}
use mathlib.Core.Bool.{Bool, true, false}
use mathlib.Core.List.{List, ◌++◌}
use Prim.Native.Nat.{ℕ, ◌+◌, ◌*◌, ◌≤◌, ◌<◌, ◌^◌, min}
use native.Mathlib.Omega.{arith}
use borrow.Author.Tests.{lt-ltb, le-ltb}
use lib.ListN.{length, take, length-append}
use lib.Seq.{sets, length-take-le}
use Rattle.plan.specs.Edition.{most_jobs, most_intervals, places}
use Rattle.planfields.specs.Layout.{job_length, row_length}
use Rattle.plan.specs.Versions.{rows_allowed_in, version_for}
use Rattle.plan.specs.Refusal.{unsound, buffer_too_short}
use Rattle.plan.specs.Rules.{counted, names}
use Rattle.plan.specs.Boundaries.{intervals}
use Rattle.plan.specs.Table.{sound, sound_within}
use Rattle.plan.specs.declared.kinds.Plan.{Plan}
use Rattle.fields.specs.Bytes.{bytes}
use Rattle.planwriter.specs.Writing.{WriteEffect, wrote, withheld, jobs_bytes, rows_bytes, row_count, body, written, writer}
use Rattle.plan.proofs.Soundness.{rules_parts, sound_parts, sound_bounded}
use Rattle.plan.proofs.Stray.{sound_told}
use Rattle.plan.proofs.BoundaryOrder.{boundaries_few}
use Rattle.plan.proofs.VersionLimits.{rows_written}
use Rattle.planwriter.specs.Inner.Writable.{Writable}
use Rattle.fields.proofs.ByteLaws.{length_bytes}
use Rattle.planwriter.proofs.JobAndRowBytes.{jobs_long, rows_long, count_few}
use Rattle.planwriter.proofs.JobRows.{count_within}
use Rattle.base.proofs.Stores.{sets_whole}

pub counted_is : (p : Plan) → p.count ≤ most_jobs → counted p ≡ p.count
counted_is p h = omega arith

pub writable : (p : Plan) (table : List ℕ) → sound p table ≡ true → places ≤ length table → Writable p (take places table)
writable p table e long =
    let b = sound_bounded p table e in
    record {
      few = b.few;
      sized = λ i h. omega (arith, b.sizes i (rw b.count h));
      exact = length-take-le places table long;
      clear = (sound_parts p table e).clear;
    }

-- A sound plan has at most a row for each job and interval, and so no more rows than its version allows.
pub rows_allowed : (p : Plan) (table : List ℕ) → sound p table ≡ true → places ≤ length table → rows_allowed_in (version_for p.count) (row_count (take places table)) ≡ true
rows_allowed p table e long =
    let own = take places table in
    let few = (sound_bounded p table e).few in
    let many = counted_is p few in
    let parts = sound_parts p table e in
    let within = count_within own (counted p) (intervals p) parts.clear (omega (arith, boundaries_few p (counted p), many, few)) (omega (arith, length-take-le places table long, many, few)) in
    rows_written p.count (intervals p) (row_count own) (rules_parts p parts.rules).count (omega (arith, boundaries_few p (counted p), many))
    (omega (arith, within, ap (λ k. k * intervals p) many))

-- The body as a concatenation, and the lengths of body and file.
pub body_of : (p : Plan) (table : List ℕ) {rows : ℕ} {ns : List ℕ} → p.count ≤ most_jobs → rows ≡ row_count table → ns ≡ names p
    → bytes 2 p.n.0 ++ bytes 2 p.d.0 ++ bytes 1 p.count ++ jobs_bytes p p.count ++ bytes 2 rows ++ rows_bytes most_intervals ns 0 table
    ≡ body p table
unfolding body
body_of p table h e f = rw (e, f, counted_is p h)

pub body_long : (p : Plan) (table : List ℕ) → p.count ≤ most_jobs
    → length (body p table) ≡ 5 + p.count * (1 + job_length) + 2 + row_count table * (1 + row_length)
body_long p table h =
    rw (← (body_of p table h refl refl))
    (simp (length-append, length_bytes, jobs_long, rows_long) (omega arith))

pub written_of : (p : Plan) (table : List ℕ) → bytes 1 (version_for p.count) ++ bytes 4 (length (body p table)) ++ body p table ≡ written p table
unfolding written
written_of p table = refl

pub written_long : (p : Plan) (table : List ℕ) → length (written p table) ≡ 5 + length (body p table)
written_long p table = rw (← (written_of p table)) (simp (length-append, length_bytes) (omega arith))

pub body_short : (p : Plan) (table : List ℕ) → Writable p table → length (body p table) < 256 ^ 4
body_short p table w = omega (arith, body_long p table w.few, w.few, count_few table, w.exact)

-- What the writer's test of soundness says, and what it knows after the test.
pub told_sound : (p : Plan) (table : List ℕ) {spans : ℕ} {b t : Bool} → t ≡ sound_within (min spans most_intervals) p table → spans ≡ intervals p → t ≡ b
    → sound p table ≡ b
told_sound p table e spans is = sym (e ∙ sound_told p table _ spans) ∙ is

pub record Ready (p : Plan) (table : List ℕ) (follows : ℕ) : Type 0 where
  pub sounds : sound p table ≡ true
  pub writes : Writable p (take places table)
  pub rest : follows ≡ length (body p (take places table))
  pub whole : length (written p (take places table)) ≡ 5 + follows

pub ready : (p : Plan) (table : List ℕ) (rows follows : ℕ) → sound p table ≡ true → places ≤ length table → rows ≡ row_count (take places table)
    → follows ≡ 5 + p.count * (1 + job_length) + 2 + rows * (1 + row_length) → Ready p table follows
ready p table rows follows e long counts f =
    let w = writable p table e long in
    let rest : follows ≡ length (body p (take places table)) = f ∙ rw counts (sym (body_long p (take places table) w.few)) in
    record { sounds = e; writes = w; rest = rest; whole = written_long p (take places table) ∙ ap (λ n. 5 + n) (sym rest) }

-- The writer, refusal by refusal.
module _ (p : Plan) (table out : List ℕ) where
  pub writer_short : length table < places → withheld buffer_too_short out ≡ writer p table out
  unfolding writer
  writer_short h = rw (lt-ltb (length table) places h)

  module _ (long : places ≤ length table) where
    pub writer_unsound : sound p table ≡ false → withheld unsound out ≡ writer p table out
    unfolding writer
    writer_unsound e = rw (le-ltb (length table) places long, e)

    module _ (e : sound p table ≡ true) where
      pub writer_tight : length out < length (written p (take places table)) → withheld buffer_too_short out ≡ writer p table out
      unfolding writer
      writer_tight h = rw (le-ltb (length table) places long, e, lt-ltb (length out) (length (written p (take places table))) h)

      pub writer_whole : {n : ℕ} {after : List ℕ} → n ≡ length (written p (take places table)) → n ≤ length out
          → after ≡ sets out 0 (written p (take places table))
          → ◌≡◌ {A = WriteEffect} (record { answer = wrote n; out = after }) (writer p table out)
      unfolding writer
      writer_whole q h a =
          let fits : length (written p (take places table)) ≤ length out = rw q at h in
          rw (le-ltb (length table) places long, e, le-ltb (length out) (length (written p (take places table))) fits, q, a, sets_whole (written p (take places table)) out fits)
