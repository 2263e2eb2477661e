-- `planwriter::writer::put_job_rows` meets its contract:
-- after j iterations the rows of the first j places are written.
use mathlib.Core.List.{[], ◌∷◌}
use lib.ListN.{take}
use Rattle.plan.specs.Edition.{most_intervals}
use Rattle.planwriter.specs.Writing.{rows_bytes}
use Rattle.planwriter.proofs.Sets.{Put}
use Rattle.planwriter.proofs.writer.put_job_rows.Given as goal

abbrev pub invariant-loop-j : goal.invariant-loop-j
invariant-loop-j l = Put l.initial.out l.at (rows_bytes most_intervals (l.name ∷ []) 0 (take l.j l.row)) l.out l.next
