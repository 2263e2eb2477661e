-- `planwriter::writer::rows_in` meets its contract:
-- after q iterations the rows of the first q places are counted.
use mathlib.Core.Path.{◌≡◌}
use lib.ListN.{take}
use Rattle.planwriter.specs.Writing.{row_count}
use Rattle.planwriter.proofs.writer.rows_in.Given as goal

abbrev pub invariant-loop-units : goal.invariant-loop-units
invariant-loop-units l = l.rows ≡ row_count (take l.units-index l.table)
