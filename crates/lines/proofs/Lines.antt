-- The lengths of the parts of lines.
use Rattle.std.proofs.Common.{◌≡◌, ℕ, List, ◌≤◌, refl, length, arith, length-append}
use Rattle.std.specs.Prelude.{Bool, true, false, Ok}
use Rattle.text.specs.Text.{decimal, most_digits}
use Rattle.dispatch.specs.Step.{Ending, met, ended_early, discarded, missed, still_open, refused}
use Rattle.dispatch.specs.Answers.{outcome_by}
use Rattle.dispatch.specs.declared.answers.Outcome.{Outcome}
use Rattle.dispatch.specs.declared.answers.Outcome.TheVariants.{Met, Ended, Discarded, Missed, Open}
use Rattle.lines.specs.Answers.{printed, outcome_printed}
use Rattle.lines.specs.Lines.{longest_line, mode_text, outcome_line, ending_word}

pub one_letter : (slow : Bool) → length (mode_text slow) ≤ 1
one_letter true = omega arith
one_letter false = omega arith

-- No word of an outcome is longer than a number of 32 bits.
pub short_word : (e : Ending) → length (ending_word e) ≤ most_digits
short_word met = omega arith
short_word ended_early = omega arith
short_word discarded = omega arith
short_word missed = omega arith
short_word still_open = omega arith
short_word (refused number) = omega arith

-- An outcome that is not refused is printed, whatever tells a refusal.
pub told_printed : {E : Type 0} (number : E → ℕ) (x : ℕ) (o : Outcome) (carried : ℕ) (out : List ℕ)
    → outcome_printed x (outcome_by number (Ok o)) carried out ≡ printed (outcome_line x (ending_word (outcome_by number (Ok o))) carried) out
told_printed number x Met carried out = refl
told_printed number x Ended carried out = refl
told_printed number x Discarded carried out = refl
told_printed number x Missed carried out = refl
told_printed number x Open carried out = refl

-- No line of an outcome is longer than the longest line.
pub outcome_fits : (x : ℕ) (e : Ending) (carried : ℕ) → length (decimal carried) ≤ most_digits → length (outcome_line x (ending_word e) carried) ≤ longest_line
unfolding outcome_line
outcome_fits x e carried few =
    simp length-append (omega (arith, short_word e, few))
