-- The outcome of a job from the columns of a plan's jobs, by the tests of the code, for every plan whose
-- columns they are.
use mathlib.Core.Path.{◌≡◌, refl, sym, ◌∙◌}
use mathlib.Core.Logic.{◌≢◌}
use mathlib.Core.Bool.{true, false, not, ◌&&◌}
use mathlib.Core.List.{[]}
use Prim.Native.Nat.{ℕ, ◌≤◌, ◌<◌, min}
use native.Mathlib.Omega.{arith}
use borrow.Author.Tests.{lt-ltb, le-ltb, eq-eqb, ne_eqb, le-leb, lt-leb}
use lib.Dec.{eqb}
use lib.ListN.{get_or}
use Rattle.plan.specs.Edition.{most_jobs}
use Rattle.plan.specs.Refusal.{unsound}
use Rattle.plan.specs.Rules.{hi}
use Rattle.plan.specs.Columns.{HasColumns}
use Rattle.plan.specs.declared.columns.Columns.{Columns}
use Rattle.plan.specs.declared.kinds.Plan.{Plan}
use Rattle.dispatch.specs.declared.Run.{Run}
use Rattle.dispatch.specs.Step.{Ending, met, ended_early, discarded, missed, still_open, refused, sound_at, slot_sound, outcome}
use Rattle.dispatch.specs.Inner.Columns.{plan_on}
use Rattle.dispatch.proofs.Alike.{asked_counted, alike_outcome}
use Rattle.dispatch.proofs.ColumnPlan.{columns_alike}
use Rattle.dispatch.proofs.SoundColumns.{grade_on, size_on, deadline_on}

module _ (cols : Columns) (run : Run) (i : ℕ) where
  abbrev q : Plan
  q = plan_on cols

  -- Every plan with these columns has this outcome of job i.
  abbrev pub AllEnd : Ending → Type 0
  AllEnd e = (p : Plan) → HasColumns p cols → e ≡ outcome p run i

  -- The plan made from the columns is sound for the slot.
  abbrev pub Sound : Type 0
  Sound = sound_at q run.clock.0 run.carried ≡ true

  -- The outcome of the plan made from the columns is that of every plan with them.
  all_end : (e : Ending) → e ≡ outcome q run i → AllEnd e
  all_end e is p has = is ∙ sym (alike_outcome p [] q [] (columns_alike cols p [] has) run i)

  pub unsound_ends : sound_at q run.clock.0 run.carried ≡ false → AllEnd (refused unsound)
  unfolding outcome slot_sound
  unsound_ends s = all_end (refused unsound) (rw s refl)

  pub uncounted_ends : Sound → cols.count ≤ i → AllEnd (refused unsound)
  unfolding outcome slot_sound
  uncounted_ends s h = all_end (refused unsound) (rw (s, le-ltb i cols.count h) refl)

  module _ (s : Sound) (h : i < cols.count) where
    here : i < min cols.count most_jobs
    unfolding slot_sound
    here = asked_counted q run i (rw (s, lt-ltb i cols.count h) refl)

    -- The columns have an entry for the job.
    pub has_entry : i < most_jobs
    has_entry = omega (arith, here)

    pub met_ends : get_or run.carried i 0 ≡ get_or cols.sizes i 0 → AllEnd met
    unfolding outcome slot_sound
    met_ends e =
        all_end met
        (rw (s, lt-ltb i cols.count h, size_on cols i here, eq-eqb (get_or run.carried i 0) (get_or cols.sizes i 0) e) refl)

    module _ (n : get_or run.carried i 0 ≢ get_or cols.sizes i 0) where
      pub ended_ends : get_or run.ended i false ≡ true → AllEnd ended_early
      unfolding outcome slot_sound
      ended_ends e =
          all_end ended_early
          (rw (s, lt-ltb i cols.count h, size_on cols i here, ne_eqb (get_or run.carried i 0) (get_or cols.sizes i 0) n, e) refl)

      module _ (w : get_or run.ended i false ≡ false) where
        pub discarded_ends : (not (eqb (get_or cols.grades i 0) hi) && run.slow) ≡ true → AllEnd discarded
        unfolding outcome slot_sound
        discarded_ends e =
            all_end discarded
            (rw (s, lt-ltb i cols.count h, size_on cols i here, ne_eqb (get_or run.carried i 0) (get_or cols.sizes i 0) n, w, grade_on cols i here, e) refl)

        module _ (k : (not (eqb (get_or cols.grades i 0) hi) && run.slow) ≡ false) where
          pub missed_ends : get_or cols.deadlines i 0 ≤ run.clock.0 → AllEnd missed
          unfolding outcome slot_sound
          missed_ends l =
              all_end missed
              (rw (s, lt-ltb i cols.count h, size_on cols i here, ne_eqb (get_or run.carried i 0) (get_or cols.sizes i 0) n, w, grade_on cols i here, k, deadline_on cols i here, le-leb (get_or cols.deadlines i 0) run.clock.0 l) refl)

          pub open_ends : run.clock.0 < get_or cols.deadlines i 0 → AllEnd still_open
          unfolding outcome slot_sound
          open_ends l =
              all_end still_open
              (rw (s, lt-ltb i cols.count h, size_on cols i here, ne_eqb (get_or run.carried i 0) (get_or cols.sizes i 0) n, w, grade_on cols i here, k, deadline_on cols i here, lt-leb (get_or cols.deadlines i 0) run.clock.0 l) refl)
