-- Plans that are the same have the same written form.
use mathlib.Core.Path.{◌≡◌, refl, sym, ◌∙◌, ap, ap₂}
use mathlib.Core.Bool.{Bool, true, false, not, cond}
use mathlib.Core.List.{List, ◌++◌}
use Prim.Native.Nat.{ℕ, zero, suc, ◌<◌}
use native.Mathlib.Omega.{arith}
use lib.Dec.{ltb}
use lib.ListN.{length, take, drop, replicate}
use Rattle.plan.specs.Edition.{most_intervals, places}
use Rattle.plan.specs.Versions.{version_for}
use Rattle.plan.specs.Refusal.{unsound, buffer_too_short}
use Rattle.plan.specs.Rules.{counted, job_of, names}
use Rattle.plan.specs.Table.{sound}
use Rattle.plan.specs.Boundaries.{intervals}
use Rattle.plan.specs.Same.{Same}
use Rattle.plan.specs.declared.kinds.Plan.{Plan}
use Rattle.plan.proofs.Names.{name_at_lem}
use Rattle.fields.specs.Bytes.{bytes}
use Rattle.planwriter.specs.Writing.{job_bytes, jobs_bytes, rows_bytes, body, written, wrote, withheld, writer}
use Rattle.plan.proofs.Soundness.{sound_parts}
use Rattle.roundtrip.proofs.ReadAfterWrite.{rows_counted}
use Rattle.promises.proofs.Cases.{plan_e, table_e}
use Rattle.promises.proofs.SameSlot.{counted_same, long_same, else_e, else_table, same_e}
use Rattle.promises.proofs.SameVerdict.{sound_same}

-- Jobs with the same records have the same bytes.
jobs_bytes_lem : (p q : Plan) (n : ℕ) → ((i : ℕ) → i < n → job_of p i ≡ job_of q i) → jobs_bytes p n ≡ jobs_bytes q n
unfolding jobs_bytes
jobs_bytes_lem p q zero h = refl
jobs_bytes_lem p q (suc n) h = ap₂ (λ l j. l ++ job_bytes j) (jobs_bytes_lem p q n (λ i l. h i (omega arith))) (h n (omega arith))

module _ (p : Plan) (table : List ℕ) (q : Plan) (other : List ℕ) (same : Same p table q other) where
  -- No row is written for a job that is not counted, so only the names of counted jobs matter.
  rows_bytes_lem : sound p table ≡ true
      → rows_bytes most_intervals (names p) 0 (take places table) ≡ rows_bytes most_intervals (names q) 0 (take places other)
  rows_bytes_lem e =
      rows_counted (counted p) (intervals p) (names p) (names q)
      (λ k h. name_at_lem p k h ∙ ap (λ j. j.name.0) (same.jobs k h) ∙ sym (name_at_lem q k (rw (counted_same p table q other same) at h))) 0 (take places table) (sound_parts p table e).clear
      ∙ ap (rows_bytes most_intervals (names q) 0) same.cells

  body_same : sound p table ≡ true → body p (take places table) ≡ body q (take places other)
  unfolding body
  body_same e =
      rw (
        jobs_bytes_lem p q (counted p) same.jobs,
        counted_same p table q other same,
        rows_bytes_lem e,
        same.cells,
        same.n,
        same.d,
        same.count,
      )
      refl

  written_same : sound p table ≡ true → written p (take places table) ≡ written q (take places other)
  unfolding written
  written_same e = ap₂ (λ (v : ℕ) (l : List ℕ). bytes 1 v ++ bytes 4 (length l) ++ l) (ap version_for same.count) (body_same e)

  -- The writer gives plans that are the same the same answer and output.
  pub same_written : (out : List ℕ) → writer p table out ≡ writer q other out
  unfolding writer
  same_written out =
      by (sound p table) refl ∙ rw (long_same p table q other same, sound_same p table q other same) refl
    where
      by : (s : Bool) → sound p table ≡ s
          → writer p table out
          ≡ cond (ltb (length table) places) (withheld buffer_too_short out)
          (cond (not (sound p table)) (withheld unsound out)
          (cond (ltb (length out) (length (written q (take places other)))) (withheld buffer_too_short out)
          (record {
            answer = wrote (length (written q (take places other)));
            out = written q (take places other) ++ drop (length (written q (take places other))) out;
          })))
      by true e = rw (written_same e) refl
      by false e = rw e refl

-- The two forms of plan E are written alike.
same_written_e : writer plan_e table_e (replicate 116 7) ≡ writer else_e else_table (replicate 116 7)
same_written_e = same_written plan_e table_e else_e else_table same_e (replicate 116 7)
