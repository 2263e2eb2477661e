-- `planfile::store::store_rows` meets its contract:
-- after some rows, reading the remaining ones gives the result of the whole.
use mathlib.Core.Path.{◌≡◌}
use Prim.Native.Nat.{◌-◌}
use Rattle.plan.specs.Edition.{most_intervals}
use Rattle.planfile.specs.Reader.{all_rows}
use Rattle.planfile.proofs.store.store_rows.Given as goal

abbrev pub invariant-loop : goal.invariant-loop
invariant-loop l =
    all_rows (l.rows - l.counter) most_intervals l.grid.names.now l.grid.spans l.low l.table l.file l.next
    ≡ all_rows l.rows most_intervals l.grid.names.now l.grid.spans 0 l.fn.table l.file l.at
