-- The effect of a line's call: its answer and the lent buffer.
use Rattle.std.specs.Prelude.{◌≡◌, Result, Ok, Err, cond, List, [], ◌∷◌, ◌++◌, ℕ, ltb, length, drop}
use Rattle.plan.specs.Kinds.{Amount, Bytes, Number}
use Rattle.plan.specs.Refusal.{number_of, buffer_too_short}
use Rattle.plan.specs.declared.refusal.Reason.{Reason}
use Rattle.plan.specs.Report.{Report}
use Rattle.plan.specs.declared.kinds.Name.{Name}
use Rattle.dispatch.specs.declared.answers.Outcome.{Outcome}
use Rattle.dispatch.specs.Answers.{outcome_by}
use Rattle.dispatch.specs.Step.{Ending, ending_report}
use Rattle.lines.specs.Lines.{outcome_line, ending_word}

-- An answer: the length of the line written, or a refusal number.
pub data Answer : Type 0 where
  wrote : ℕ → Answer
  withheld : ℕ → Answer

-- The view of a result, by the numbers of what tells a refusal: an answer.
abbrev pub printed_by : {E : Type 0} (number : E → ℕ) → Result ℕ E → Answer
printed_by number (Ok n) = wrote n
printed_by number (Err refusal) = withheld (number refusal)

-- The view of a result that tells the reason of a refusal.
abbrev pub printed_view : Result ℕ Reason → Answer
printed_view r = printed_by number_of r

-- The length of a line that was printed; 0 if it was refused.
abbrev pub length_of : Result ℕ Reason → ℕ
length_of (Ok n) = n
length_of (Err reason) = 0

-- An answer, with the buffer that the call leaves.
pub record PrintEffect : Type 0 where
  pub answer : Answer
  pub out : List ℕ

-- A refusal leaves the buffer as it was.
abbrev pub refusal : (number : Number) (out : Bytes) → PrintEffect
refusal number out = record { answer = withheld number; out = out }

-- A line printed into a buffer: 22 if the buffer is shorter than the
-- line; bytes past the line are unchanged.
unfoldable pub printed : (line out : Bytes) → PrintEffect
printed line out =
    cond (ltb (length out) (length line)) (refusal buffer_too_short out)
    (record { answer = wrote (length line); out = line ++ drop (length line) out })

-- A line printed unless the call was refused; its number is then the answer.
abbrev pub printed_unless : (report : Report) (line out : Bytes) → PrintEffect
printed_unless [] line out = printed line out
printed_unless (number ∷ places) line out = refusal number out

-- A job's line, by its outcome; a refused outcome has no line.
abbrev pub outcome_printed : (x : ℕ) (ended : Ending) (carried : Amount) (out : Bytes) → PrintEffect
outcome_printed x ended carried out = printed_unless (ending_report ended) (outcome_line x (ending_word ended) carried) out

-- The contract of a line's call, by the numbers of what tells a refusal: its answer and the buffer at exit are those of
-- printing the line.
abbrev pub PrintsBy : {E : Type 0} (number : E → ℕ) (line out : Bytes) (r : Result ℕ E) (left : List ℕ) → Type 0
PrintsBy number line out r left = record { answer = printed_by number r; out = left } ≡ printed line out

-- The contract of a line's call that tells the reason of a refusal.
abbrev pub Prints : (line out : Bytes) (r : Result ℕ Reason) (left : List ℕ) → Type 0
Prints line out r left = PrintsBy number_of line out r left

-- The contract of `outcome_line`: the same for a job's line, or the number of a refused outcome, whatever tells it.
abbrev pub PrintsOutcome : {E : Type 0} (number : E → ℕ) (name : Name) (outcome : Result Outcome E) (carried : Amount) (out : Bytes) (r : Result ℕ E) (left : List ℕ) → Type 0
PrintsOutcome number name outcome carried out r left =
    record { answer = printed_by number r; out = left } ≡ outcome_printed name.0 (outcome_by number outcome) carried out
