-- `planfile::lookup::name_at` meets its contract: below the job count a name lies inside the file,
-- so that its offset does not overflow.
use Rattle.std.proofs.Common.{arith}
use Rattle.planfile.proofs.Offsets.{shown_inside}
use Rattle.planfile.proofs.lookup.name_at.Goals as goal

pub overflow_mul-result : goal.overflow_mul-result
overflow_mul-result c =
    let inside = shown_inside c.args.file.now c.args.position (rw c.count_in.ensures at c.if-count_in-position.false) in
    record { fits = omega (arith, inside) }

pub overflow_add-result-2 : goal.overflow_add-result-2
overflow_add-result-2 c =
    let inside = shown_inside c.args.file.now c.args.position (rw c.count_in.ensures at c.if-count_in-position.false) in
    record { fits = omega (arith, inside) }

pub overflow_add-result-3 : goal.overflow_add-result-3
overflow_add-result-3 c =
    let inside = shown_inside c.args.file.now c.args.position (rw c.count_in.ensures at c.if-count_in-position.false) in
    record { fits = omega (arith, inside) }
