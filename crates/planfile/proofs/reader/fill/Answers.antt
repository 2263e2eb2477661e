-- `planfile::reader::fill` meets its contract: preamble, rows and end are read in this order,
-- and a refusal ends the reading.
use Rattle.std.proofs.Common.{rules, ◌≡◌, Err, sym}
use Rattle.planfile.proofs.WholeFile.{fill_no_rows, fill_no_end, fill_whole}
use Rattle.planfile.proofs.reader.fill.Goals as goal

pub returns-in_err-last : goal.returns-in_err-last
returns-in_err-last c =
    let handed : c.from_residual-in_err-last.result ≡ Err c.in_err-last.field-0.0 = search rules in
    rw handed
    (fill_no_rows c.args.file.now c.args.table.now c.store_rows.new.table (sym c.in_ok-preamble.ensures) c.in_err-last.field-0.0
    (rw (c.from-rows.ensures, c.intervals_of.ensures) at c.in_err-last.ensures))

pub returns-in_err-read_end : goal.returns-in_err-read_end
returns-in_err-read_end c =
    let handed : c.from_residual-in_err-read_end.result ≡ Err c.in_err-read_end.field-0.0 = search rules in
    rw handed
    (fill_no_end c.args.file.now c.args.table.now c.store_rows.new.table (sym c.in_ok-preamble.ensures) c.in_ok-last.last
    (rw (c.from-rows.ensures, c.intervals_of.ensures) at c.in_ok-last.ensures) c.in_err-read_end.field-0.0 (sym c.in_err-read_end.ensures))

pub returns : goal.returns
returns c =
    fill_whole c.args.file.now c.args.table.now c.store_rows.new.table (sym c.in_ok-preamble.ensures) c.in_ok-last.last
    (rw (c.from-rows.ensures, c.intervals_of.ensures) at c.in_ok-last.ensures) (sym c.in_ok-read_end.ensures)
