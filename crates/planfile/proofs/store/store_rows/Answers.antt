-- `planfile::store::store_rows` meets its contract:
-- after some rows, reading the remaining ones gives the result of the whole.
use Rattle.std.proofs.Common.{◌≡◌, sym, ◌∙◌}
use lib.ListN.{set}
use lib.Seq.{set_out}
use Rattle.plan.specs.Edition.{most_intervals}
use Rattle.planfile.proofs.Rows.{left_next}
use Rattle.planfile.proofs.store.store_rows.Goals as goal
use Rattle.planfile.proofs.store.store_rows.Goals.{then-row-table, else-row-table}

pub loop-preserved : goal.loop-preserved
loop-preserved c =
    let row = c.in_ok-row.row.value in
    let stored : c.if-row-table.table ≡ set c.loop.table row.at row.units
    = elim c.if-row-table.branch [
      | then-row-table w ↦ w.table-is
      | else-row-table w ↦ w.table-is ∙ sym (set_out c.loop.table row.at row.units w.if-row-table.false)
    ] in
    let a = c.args in
    let l = c.loop in
    rw stored
    (left_next a.rows l.counter most_intervals a.grid.names.now a.grid.spans l.low l.table a.file.now l.next l.invariant c.loop-test.true (sym c.in_ok-row.ensures))
