-- What the host's word that a job has ended never does, for every plan, run and position.
use mathlib.Core.Path.{◌≡◌, refl, ◌∙◌}
use mathlib.Core.Logic.{◌≢◌}
use mathlib.Core.Bool.{true, false}
use mathlib.Core.List.{List, [], ◌∷◌}
use Prim.Native.Nat.{ℕ}
use native.Mathlib.Omega.{arith}
use lib.ListN.{length, length-set}
use lib.Seq.{set_out, get_or-set_same, get_or-set_other}
use Rattle.base.proofs.Logic.{if_same, if_less}
use Rattle.plan.specs.declared.kinds.Plan.{Plan}
use Rattle.plan.specs.Report.{Report}
use Rattle.dispatch.specs.declared.Run.{Run}
use Rattle.dispatch.specs.Dues.{ended_of}
use Rattle.dispatch.specs.Step.{slot_fault, advanced, slot_by, stepped, end_fault, end_by, told_ended}

module _ (p : Plan) (run : Run) (i : ℕ) where
  abbrev left : Run
  left = (told_ended p run i).run

  -- Its answer is the refusal found.
  pub word_answer : (told_ended p run i).answer ≡ end_fault p run i
  unfolding told_ended
  word_answer = by (end_fault p run i)
    where
      by : (r : Report) → (end_by r run i).answer ≡ r
      by [] = refl
      by (number ∷ rest) = refl

  -- It changes neither clock nor marks of the link nor what is carried.
  pub word_leaves : (left.clock ≡ run.clock) × (left.slow ≡ run.slow) × (left.below ≡ run.below) × (left.carried ≡ run.carried)
  unfolding told_ended
  word_leaves = by (end_fault p run i)
    where
      by : (r : Report)
          → ((end_by r run i).run.clock ≡ run.clock) × ((end_by r run i).run.slow ≡ run.slow)
          × ((end_by r run i).run.below ≡ run.below) × ((end_by r run i).run.carried ≡ run.carried)
      by [] = (refl, refl, refl, refl)
      by (number ∷ rest) = (refl, refl, refl, refl)

  -- It leaves as many ended marks.
  pub word_long : length left.ended ≡ length run.ended
  unfolding told_ended
  word_long = by (end_fault p run i)
    where
      by : (r : Report) → length (end_by r run i).run.ended ≡ length run.ended
      by [] = length-set run.ended i true
      by (number ∷ rest) = refl

  -- It changes no other job's ended mark.
  pub other_marks_stay : (k : ℕ) → k ≢ i → ended_of left k ≡ ended_of run k
  unfolding told_ended
  other_marks_stay k other = by (end_fault p run i)
    where
      by : (r : Report) → ended_of (end_by r run i).run k ≡ ended_of run k
      by [] = get_or-set_other run.ended i k true false other
      by (number ∷ rest) = refl

  -- It clears no ended mark.
  pub word_clears_none : (k : ℕ) → ended_of run k ≡ true → ended_of left k ≡ true
  unfolding told_ended
  word_clears_none k e = by (end_fault p run i)
    where
      set_or_kept : ended_of (end_by [] run i).run k ≡ true
      set_or_kept =
          if_same k i
          (λ same. if_less i (length run.ended)
          (λ h. rw same (get_or-set_same run.ended i true false h))
          (λ h. rw (set_out run.ended i true h) e))
          (λ other. get_or-set_other run.ended i k true false other ∙ e)

      by : (r : Report) → ended_of (end_by r run i).run k ≡ true
      by [] = set_or_kept
      by (number ∷ rest) = e

  -- A refused word changes nothing.
  pub refused_word_changes_nothing : (number : ℕ) (rest : Report) → (told_ended p run i).answer ≡ number ∷ rest → left ≡ run
  unfolding told_ended
  refused_word_changes_nothing number rest e = by (end_fault p run i) e
    where
      by : (r : Report) → (end_by r run i).answer ≡ number ∷ rest → (end_by r run i).run ≡ run
      by [] f = absurd (let z : ◌≡◌ {A = ℕ} 0 1 = cc in omega arith)
      by (n ∷ more) f = refl

-- A slot's call changes no ended mark.
pub slot_keeps_ended : (p : Plan) (table : List ℕ) (run : Run) (v : ℕ) (grants : List ℕ) → (stepped p table run v grants).run.ended ≡ run.ended
unfolding stepped advanced
slot_keeps_ended p table run v grants = by (slot_fault p table run v grants)
  where
    by : (r : Report) → (slot_by r p table run v grants).run.ended ≡ run.ended
    by [] = refl
    by (number ∷ rest) = refl
