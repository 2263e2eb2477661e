-- Plans that are the same are printed alike: the line of a slot, and every turn of the program.
use mathlib.Core.Path.{◌≡◌, refl, sym, ◌∙◌, ap, ap₂}
use mathlib.Core.Bool.{Bool, false, cond, ◌&&◌}
use mathlib.Core.List.{List, [], ◌∷◌, ◌++◌}
use Prim.Native.Nat.{ℕ, zero, suc, ◌+◌, ◌<◌}
use native.Mathlib.Omega.{arith}
use lib.Dec.{ltb}
use lib.ListN.{get_or, replicate}
use Rattle.plan.specs.Edition.{most_jobs}
use Rattle.plan.specs.Refusal.{unsound}
use Rattle.plan.specs.Rules.{counted, job_of, name}
use Rattle.plan.specs.Same.{Same}
use Rattle.plan.specs.declared.kinds.Plan.{Plan}
use Rattle.plan.specs.Report.{Report}
use Rattle.dispatch.specs.Dues.{carried_of}
use Rattle.dispatch.specs.Step.{SlotEffect, refused, started, slot_sound, outcome}
use Rattle.dispatch.specs.declared.Run.{Run}
use Rattle.base.proofs.Logic.{if_true}
use Rattle.lines.specs.Lines.{grant_text, grants_text, or_dash, mode_text, slot_line}
use Rattle.text.specs.Text.{text, decimal}
use Rattle.program.specs.Output.{speed, slot_of, slot_text, ending_text, job_text}
use Rattle.program.specs.Turns.{Turned, progress, turn, slot_turn, job_turn, turned}
use Rattle.program.specs.declared.Phase.{Phase}
use Rattle.program.specs.declared.Phase.TheVariants.{Slots, Closing, Job, Over}
use Rattle.promises.proofs.Cases.{plan_e, table_e}
use Rattle.dispatch.proofs.Alike.{asked_counted}
use Rattle.promises.proofs.SameSlot.{counted_same, same_slot, same_outcome, else_e, else_table, same_e}
use Rattle.promises.proofs.SameVerdict.{name_same}

-- Jobs with the same records have the same grants text.
grants_text_lem : (p q : Plan) (grants : List ℕ) (n : ℕ) → ((i : ℕ) → i < n → job_of p i ≡ job_of q i) → grants_text p grants n ≡ grants_text q grants n
unfolding grants_text
grants_text_lem p q grants zero h = refl
grants_text_lem p q grants (suc n) h =
    ap₂ (λ l j. l ++ grant_text j.name.0 (get_or grants n 0)) (grants_text_lem p q grants n (λ i l. h i (omega arith))) (h n (omega arith))

-- A turn with another plan in the progress after it.
abbrev pub holding : Plan → Turned → Turned
holding q t = turn t.progress.phase q t.progress.run t.line

module _ (p : Plan) (table : List ℕ) (q : Plan) (other : List ℕ) (same : Same p table q other) where
  -- The line of a slot depends only on the counted records.
  pub same_slot_line : (clock speed : ℕ) (slow : Bool) (grants : List ℕ) → slot_line clock speed slow p grants ≡ slot_line clock speed slow q grants
  unfolding slot_line
  same_slot_line clock speed slow grants =
      ap (λ l. decimal clock ++ text " " ++ decimal speed ++ text " " ++ mode_text slow ++ or_dash l ++ text "\n")
      (grants_text_lem p q grants (counted p) same.jobs ∙ ap (grants_text q grants) (counted_same p table q other same))

  slot_text_lem : (run : Run) (v : ℕ) (report : Report) (slot : SlotEffect) → slot_text p run v report slot ≡ slot_text q run v report slot
  slot_text_lem run v [] slot = same_slot_line run.clock.0 v slot.run.slow slot.grants
  slot_text_lem run v (number ∷ place) slot = refl

  -- A refused outcome has no line, and any other is a counted job's.
  job_text_lem : (run : Run) (i : ℕ) → job_text p run i ≡ job_text q run i
  unfolding outcome
  job_text_lem run i =
      if_true (slot_sound p run && ltb i p.count)
      (λ e.
      ap₂ (λ x ended. ending_text x ended (carried_of run i)) (name_same p table q other same i (asked_counted p run i e))
      (same_outcome p table q other same run i))
      (λ e.
      let none : outcome p run i ≡ refused unsound = rw e refl in
      ap (λ ended. ending_text (name p i) ended (carried_of run i)) none
      ∙ ap (λ ended. ending_text (name q i) ended (carried_of run i)) (sym none ∙ same_outcome p table q other same run i))

  -- A turn prints the same line and leaves the same phase and run; each progress keeps its own plan.
  pub same_turn : (phase : Phase) (run : Run) (bytes : List ℕ)
      → holding q (turned (progress phase p run) table bytes) ≡ turned (progress phase q run) other bytes
  unfolding slot_turn job_turn
  same_turn Slots run [] = refl
  same_turn Slots run (b ∷ []) = refl
  same_turn Slots run (high ∷ low ∷ rest) =
      let v = speed high low in
      let slot = slot_of q other run v in
      ap (λ s. turn Slots q s.run (slot_text p run v s.answer s)) (same_slot p table q other same run v (replicate most_jobs 0))
      ∙ ap (turn Slots q slot.run) (slot_text_lem run v slot.answer slot)
  same_turn Closing run bytes = refl
  same_turn (Job i) run bytes =
      ap₂ (λ n l. turn (cond (ltb (i + 1) n) (Job (i + 1)) Over) q run l) (counted_same p table q other same) (job_text_lem run i)
  same_turn Over run bytes = refl

-- The two forms of plan E print their first slot at the normal rate alike.
same_slot_line_e : slot_line 0 2 false plan_e (2 ∷ 0 ∷ []) ≡ slot_line 0 2 false else_e (2 ∷ 0 ∷ [])
same_slot_line_e = same_slot_line plan_e table_e else_e else_table same_e 0 2 false (2 ∷ 0 ∷ [])

same_turn_e : holding else_e (turned (progress Slots plan_e (started plan_e)) table_e (0 ∷ 2 ∷ []))
    ≡ turned (progress Slots else_e (started plan_e)) else_table (0 ∷ 2 ∷ [])
same_turn_e = same_turn plan_e table_e else_e else_table same_e Slots (started plan_e) (0 ∷ 2 ∷ [])
