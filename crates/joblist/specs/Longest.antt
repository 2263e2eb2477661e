-- Room for the text of a job list: no part of it is longer than these bounds, whatever its numbers are.
use Rattle.std.specs.Prelude.{ℕ, ◌+◌, ◌*◌, length}
use Rattle.plan.specs.Edition.{name_bytes, most_jobs}
use Rattle.text.specs.Text.{most_digits}
use Rattle.joblist.specs.Import.{header}

-- A name's field: two quotes, and each byte doubled.
abbrev pub longest_name : ℕ
longest_name = 2 + 2 * name_bytes

-- Three numbers with a comma before each, and the end of the line.
abbrev pub longest_numbers : ℕ
longest_numbers = 3 * (1 + most_digits) + 2

-- A line: the name, a comma, the grade and the numbers.
abbrev pub longest_line : ℕ
longest_line = longest_name + 2 + longest_numbers

-- A text: the header, and a line for each job.
abbrev pub longest_text : ℕ
longest_text = length header + most_jobs * longest_line
