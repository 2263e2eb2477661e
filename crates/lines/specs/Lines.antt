-- The lines that the program prints, each with its line feed.
use Rattle.std.specs.Prelude.{Bool, cond, List, [], ◌∷◌, ◌++◌, ℕ, zero, suc, ◌+◌, ◌*◌, eqb, get_or}
use Rattle.plan.specs.Kinds.{Amount, Number, Row, Speed, Time}
use Rattle.plan.specs.Edition.{name_bytes, most_jobs}
use Rattle.plan.specs.Rules.{name, counted}
use Rattle.plan.specs.declared.kinds.Plan.{Plan}
use Rattle.dispatch.specs.Step.{Ending, met, ended_early, discarded, missed, still_open, refused}
use Rattle.text.specs.Text.{text, decimal, most_digits, name_text}

-- The header of the slots.
abbrev pub slot_header : List ℕ
slot_header = text "slot speed mode grants\n"

-- The header of the outcomes.
abbrev pub outcome_header : List ℕ
outcome_header = text "job outcome carried\n"

-- The line for an odd last byte.
abbrev pub stray_line : List ℕ
stray_line = text "stray byte\n"

-- The line of a refused plan.
abbrev pub refused_line : Number → List ℕ
refused_line number = text "refused " ++ decimal number ++ text "\n"

-- A grant, preceded by a space; empty for a grant of 0.
abbrev pub grant_text : (x : ℕ) (units : Amount) → List ℕ
grant_text x units = cond (eqb units 0) [] (text " " ++ name_text x ++ text "=" ++ decimal units)

-- The grants of the first n jobs, in job order.
unfoldable pub grants_text : (p : Plan) (grants : Row) (n : ℕ) → List ℕ
grants_text p grants zero = []
grants_text p grants (suc n) = grants_text p grants n ++ grant_text (name p n) (get_or grants n 0)

-- The text, or a space and a dash if it is empty.
abbrev pub or_dash : List ℕ → List ℕ
or_dash [] = text " -"
or_dash (b ∷ l) = b ∷ l

-- The mode: D under the slow mark, otherwise N.
abbrev pub mode_text : Bool → List ℕ
mode_text slow = cond slow (text "D") (text "N")

-- The line of a slot: the clock before it, the speed, the slow mark
-- after it, and the grants of the plan's jobs.
unfoldable pub slot_line : (clock : Time) (speed : Speed) (slow : Bool) (p : Plan) (grants : Row) → List ℕ
slot_line clock speed slow p grants =
    decimal clock ++ text " " ++ decimal speed ++ text " " ++ mode_text slow ++ or_dash (grants_text p grants (counted p)) ++ text "\n"

-- The line of a refused slot: the clock, the speed, R and the refusal number.
unfoldable pub refused_slot_line : (clock : Time) (speed : Speed) (number : Number) → List ℕ
refused_slot_line clock speed number =
    decimal clock ++ text " " ++ decimal speed ++ text " " ++ text "R " ++ decimal number ++ text "\n"

-- The word of an outcome; a refusal has none.
abbrev pub ending_word : Ending → List ℕ
ending_word met = text "met"
ending_word ended_early = text "ended"
ending_word discarded = text "discarded"
ending_word missed = text "missed"
ending_word still_open = text "open"
ending_word (refused number) = []

-- The line of a job: its name, a word for its outcome, and the units carried.
unfoldable pub outcome_line : (x : ℕ) (word : List ℕ) (carried : Amount) → List ℕ
outcome_line x word carried = name_text x ++ text " " ++ word ++ text " " ++ decimal carried ++ text "\n"

-- The greatest length of a grant: a space, a name, the equals sign and a number.
abbrev pub grant_bytes : ℕ
grant_bytes = 1 + name_bytes + 1 + most_digits

-- The greatest length of a line: two numbers with a space each, the mode,
-- a grant for every job, and the line feed.
abbrev pub longest_line : ℕ
longest_line = 2 * (most_digits + 1) + 1 + most_jobs * grant_bytes + 1
