-- The effect of the word that a job has ended, from the columns: what holds for the plan made from them holds for every plan that
-- has them.
use mathlib.Core.Path.{◌≡◌, refl, sym, ◌∙◌}
use mathlib.Core.Bool.{true, false, not, ◌||◌}
use mathlib.Core.List.{[], ◌∷◌}
use Prim.Native.Nat.{ℕ, ◌≤◌, ◌<◌, min}
use borrow.Author.Tests.{lt-ltb, le-ltb}
use lib.Dec.{ltb}
use lib.ListN.{get_or}
use Rattle.plan.specs.Edition.{most_jobs}
use Rattle.plan.specs.Columns.{HasColumns}
use Rattle.plan.specs.Refusal.{unsound, no_such_job, cannot_end}
use Rattle.plan.specs.declared.columns.Columns.{Columns}
use Rattle.plan.specs.declared.kinds.Plan.{Plan}
use Rattle.dispatch.specs.declared.Run.{Run}
use Rattle.dispatch.specs.Step.{sound_at, slot_sound, outcome, is_open, end_fault, ended_with, WordEffect, told_ended}
use Rattle.dispatch.specs.Inner.Columns.{plan_on}
use Rattle.dispatch.proofs.Alike.{asked_counted, alike_told}
use Rattle.dispatch.proofs.ColumnPlan.{columns_alike}
use Rattle.dispatch.proofs.SoundColumns.{release_on}

-- A word on a run that is not sound is refused, and leaves it.
pub unsound_told : (p : Plan) (run : Run) (i : ℕ) → slot_sound p run ≡ false → record { answer = unsound ∷ []; run = run } ≡ told_ended p run i
unfolding end_fault told_ended
unsound_told p run i e = rw e refl

module _ (cols : Columns) (run : Run) (i : ℕ) where
  abbrev q : Plan
  q = plan_on cols

  -- Every plan with these columns has this effect.
  abbrev pub AllTell : WordEffect → Type 0
  AllTell e = (p : Plan) → HasColumns p cols → e ≡ told_ended p run i

  all_tell : (e : WordEffect) → e ≡ told_ended q run i → AllTell e
  all_tell e is p has = is ∙ sym (alike_told p [] q [] (columns_alike cols p [] has) run i)

  pub unsound_tells : sound_at q run.clock.0 run.carried ≡ false → AllTell (record { answer = unsound ∷ []; run = run })
  unfolding slot_sound
  unsound_tells s = all_tell (record { answer = unsound ∷ []; run = run }) (unsound_told q run i (rw s refl))

  module _ (s : sound_at q run.clock.0 run.carried ≡ true) where
    pub uncounted_tells : cols.count ≤ i → AllTell (record { answer = no_such_job ∷ []; run = run })
    unfolding end_fault told_ended slot_sound
    uncounted_tells h = all_tell (record { answer = no_such_job ∷ []; run = run }) (rw (s, le-ltb i cols.count h) refl)

    module _ (h : i < cols.count) where
      here : i < min cols.count most_jobs
      unfolding slot_sound
      here = asked_counted q run i (rw (s, lt-ltb i cols.count h) refl)

      pub cannot_tells : (ltb run.clock.0 (get_or cols.releases i 0) || not (is_open (outcome q run i))) ≡ true
          → AllTell (record { answer = cannot_end ∷ []; run = run })
      unfolding end_fault told_ended slot_sound
      cannot_tells e =
          all_tell (record { answer = cannot_end ∷ []; run = run })
          (rw (s, lt-ltb i cols.count h, release_on cols i here, e) refl)

      pub ends_tells : (ltb run.clock.0 (get_or cols.releases i 0) || not (is_open (outcome q run i))) ≡ false
          → AllTell (record { answer = []; run = ended_with run i })
      unfolding end_fault told_ended slot_sound
      ends_tells e =
          all_tell (record { answer = []; run = ended_with run i })
          (rw (s, lt-ltb i cols.count h, release_on cols i here, e) refl)
