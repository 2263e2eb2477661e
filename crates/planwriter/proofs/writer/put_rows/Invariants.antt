-- `planwriter::writer::put_rows` meets its contract:
-- after i iterations the rows of the first i jobs are written.
use Prim.Native.Nat.{◌*◌}
use lib.ListN.{take}
use Rattle.plan.specs.Edition.{most_intervals}
use Rattle.planwriter.specs.Writing.{rows_bytes}
use Rattle.planwriter.proofs.Sets.{Put}
use Rattle.planwriter.proofs.writer.put_rows.Given as goal

abbrev pub invariant-loop-i : goal.invariant-loop-i
invariant-loop-i l = Put l.initial.out l.at (rows_bytes most_intervals l.names 0 (take (most_intervals * l.i) l.table)) l.out l.next
