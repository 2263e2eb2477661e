-- `planfile::lookup::name_of` meets its contract: a name that is found lies inside the file.
use Rattle.std.proofs.Common.{arith, ◌∙◌}
use Rattle.planfile.specs.Reader.{name_found}
use Rattle.planfile.proofs.WholeFile.{found_inside}
use Rattle.planfile.proofs.lookup.name_of.Goals as goal

pub overflow_add-result : goal.overflow_add-result
unfolding name_found
overflow_add-result c =
    let inside = found_inside c.args.file.now c.args.position (λ e. c.if-from-eq0.false (c.name_at-from.ensures ∙ e)) in
    record { fits = omega (arith, inside, c.name_at-from.ensures) }

pub slice_bounds-result-end-2 : goal.slice_bounds-result-end-2
unfolding name_found
slice_bounds-result-end-2 c =
    let inside = found_inside c.args.file.now c.args.position (λ e. c.if-from-eq0.false (c.name_at-from.ensures ∙ e)) in
    omega (arith, inside, c.name_at-from.ensures)
