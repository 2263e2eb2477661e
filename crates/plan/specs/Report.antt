-- The report of a call that can be refused: a refusal number with the location that it names.
use Rattle.std.specs.Prelude.{Bool, true, false, ◌||◌, List, [], ◌∷◌, ℕ, zero, suc, eqb}
use Rattle.plan.specs.Kinds.{Number}

-- A refusal number followed by the location it names; empty if there is no refusal.
abbrev pub Report : Type 0
Report = List ℕ

-- The first report if it is nonempty, otherwise the second: the order of the refusals.
abbrev pub or_else : Report → Report → Report
or_else [] next = next
or_else (number ∷ places) next = number ∷ places

-- Whether a report is empty.
abbrev pub is_none : Report → Bool
is_none [] = true
is_none (number ∷ places) = false

-- The report if the test is true, otherwise the empty report.
abbrev pub fault : Bool → Report → Report
fault true report = report
fault false report = []

-- The first nonempty report among f 0, …, f (n − 1); empty if there is none.
unfoldable pub first : (f : ℕ → Report) (n : ℕ) → Report
first f zero = []
first f (suc n) = or_else (first f n) (f n)

-- The number of no refusal.
abbrev pub done_number : Number
done_number = 0

-- The first number of a report, or that of no refusal if it is empty.
abbrev pub number_of : Report → Number
number_of [] = done_number
number_of (number ∷ places) = number

-- The offset of a report of a reading; 0 if it has none.
abbrev pub offset_of : Report → ℕ
offset_of [] = 0
offset_of (number ∷ []) = 0
offset_of (number ∷ offset ∷ rest) = offset

-- Whether a number is one of some.
abbrev pub is_one_of : List ℕ → ℕ → Bool
is_one_of [] x = false
is_one_of (y ∷ l) x = eqb x y || is_one_of l x
