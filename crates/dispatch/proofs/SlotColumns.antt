-- The effect of a slot's call, from the columns: what holds for the plan made from them holds for every plan that has them.
use mathlib.Core.Path.{◌≡◌, refl, sym, ◌∙◌, ap}
use mathlib.Core.Bool.{true, false, ◌||◌}
use mathlib.Core.List.{List, [], ◌∷◌}
use Prim.Native.Nat.{ℕ, ◌≤◌, ◌<◌}
use borrow.Author.Tests.{lt-ltb, le-ltb}
use lib.Dec.{ltb, eqb}
use lib.ListN.{length}
use Rattle.plan.specs.Columns.{HasColumns}
use Rattle.plan.specs.Edition.{places}
use Rattle.plan.specs.Refusal.{clock_at_end, speed_above_normal, unsound, buffer_too_short}
use Rattle.plan.specs.Rules.{counted}
use Rattle.plan.specs.Boundaries.{last_deadline}
use Rattle.plan.specs.declared.columns.Columns.{Columns}
use Rattle.plan.specs.declared.kinds.Plan.{Plan}
use Rattle.dispatch.specs.declared.Run.{Run}
use Rattle.dispatch.specs.Step.{SlotEffect, sound_at, slot_sound, slot_fault, granted, advanced, slot_by, stepped}
use Rattle.dispatch.specs.Inner.Columns.{plan_on}
use Rattle.dispatch.proofs.Alike.{alike_slot}
use Rattle.dispatch.proofs.ColumnPlan.{columns_alike}
use Rattle.dispatch.proofs.SlotOver.{slot_done}

module _ (cols : Columns) (table : List ℕ) (run : Run) (v : ℕ) (grants : List ℕ) where
  abbrev q : Plan
  q = plan_on cols

  -- Every plan with these columns has this effect.
  abbrev pub AllStep : SlotEffect → Type 0
  AllStep e = (p : Plan) → HasColumns p cols → e ≡ stepped p table run v grants

  all_step : {e : SlotEffect} → e ≡ stepped q table run v grants → AllStep e
  all_step is p has = is ∙ sym (alike_slot p table q table (columns_alike cols p table has) run v grants)

  refused : {number : ℕ} → slot_fault q table run v grants ≡ number ∷ [] → AllStep (record { answer = number ∷ []; run = run; grants = grants })
  unfolding stepped
  refused e = all_step (ap (λ r. slot_by r q table run v grants) (sym e))

  pub unsound_steps : sound_at q run.clock.0 run.carried ≡ false → AllStep (record { answer = unsound ∷ []; run = run; grants = grants })
  unfolding slot_fault slot_sound
  unsound_steps s = refused (rw s refl)

  module _ (s : sound_at q run.clock.0 run.carried ≡ true) where
    pub short_steps : (ltb (length table) places || ltb (length grants) (counted q)) ≡ true
        → AllStep (record { answer = buffer_too_short ∷ []; run = run; grants = grants })
    unfolding slot_fault slot_sound
    short_steps b = refused (rw (s, b) refl)

    module _ (b : (ltb (length table) places || ltb (length grants) (counted q)) ≡ false) where
      pub late_steps : eqb run.clock.0 (last_deadline q) ≡ true → AllStep (record { answer = clock_at_end ∷ []; run = run; grants = grants })
      unfolding slot_fault slot_sound
      late_steps l = refused (rw (s, b, l) refl)

      module _ (l : eqb run.clock.0 (last_deadline q) ≡ false) where
        pub fast_steps : cols.n.0 < v → AllStep (record { answer = speed_above_normal ∷ []; run = run; grants = grants })
        unfolding slot_fault slot_sound
        fast_steps h = refused (rw (s, b, l, lt-ltb cols.n.0 v h) refl)

        pub done_steps : v ≤ cols.n.0 → {next : Run} {left : List ℕ} → next ≡ advanced q table run v grants → left ≡ granted q table run v grants
            → AllStep (record { answer = []; run = next; grants = left })
        unfolding slot_fault slot_sound
        done_steps h r g = all_step (slot_done q table run v grants {found = []} (rw (s, b, l, le-ltb cols.n.0 v h) refl) refl r g)
