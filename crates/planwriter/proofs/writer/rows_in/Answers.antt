-- After some iterations the rows of the places so far are counted.
use Rattle.std.proofs.Common.{◌≡◌, ◌+◌, Bool, true, false, not, cond, eqb, get_or, take, length-take, refl, ◌∙◌, arith}
use Rattle.std.specs.Int.{from_bool}
use Rattle.planwriter.proofs.JobAndRowBytes.{count_start, count_next, count_few}
use Rattle.planwriter.proofs.writer.rows_in.Goals as goal

one_row : (b : Bool) → from_bool (not b) ≡ cond b 0 1
one_row true = refl
one_row false = refl

pub loop-units-init : goal.loop-units-init
loop-units-init c =
    count_start c.args.table.now

pub overflow_add-rows : goal.overflow_add-rows
overflow_add-rows c =
    let t = c.args.table.now in
    let i = c.loop-units.units-index in
    record { fits = omega (arith, count_next t i c.loop-units-test.true c.loop-units.invariant (c.from-rows.ensures ∙ one_row (eqb (get_or t i 0) 0)), count_few (take (i + 1) t), length-take (i + 1) t) }

pub loop-units-preserved : goal.loop-units-preserved
loop-units-preserved c =
    let t = c.args.table.now in
    let i = c.loop-units.units-index in
    count_next t i c.loop-units-test.true c.loop-units.invariant (c.from-rows.ensures ∙ one_row (eqb (get_or t i 0) 0))
