-- `planfile::reader::read_whole` meets its contract: after a refusal the table is cleared again.
use Rattle.std.proofs.Common.{rules, ◌≡◌, Err, ◌∙◌, ap, replicate, length}
use Rattle.plan.specs.Edition.{places}
use Rattle.planfile.specs.Reader.{read_file}
use Rattle.planfile.specs.declared.reader.ReadFault.TheVariants as fault
use Rattle.planfile.proofs.WholeFile.{whole_read, whole_refused}
use Rattle.planfile.proofs.reader.read_whole.Goals as goal
use Rattle.planfile.proofs.reader.read_whole.Goals.{then-is_err, else-is_err}

pub returns-in_err-reading : goal.returns-in_err-reading
returns-in_err-reading c =
    let k = c.in_err-reading.field-0.0 in
    let handed : c.from_residual.result ≡ Err (fault.Refused k) = search rules in
    let long : length c.fill-reading.new.table ≡ places = search rules in
    let cleared : c.if-is_err.table ≡ replicate places 0
    = elim c.if-is_err.branch [
      | then-is_err w ↦ w.table-is ∙ w.fill-then-is_err.ensures.after (λ y e. e) ∙ ap (λ n. replicate n 0) long
      | else-is_err w ↦ absurd (search rules)
    ] in
    rw handed
    (whole_refused (read_file c.args.file.now) c.fill.new.self c.fill-reading.new.table c.if-is_err.table k
    (rw c.in_err-reading.was at c.fill-reading.ensures) cleared)

pub returns : goal.returns
returns c =
    let zeros : c.fill.new.self ≡ replicate places 0 = c.fill.ensures.after (λ y e. e) ∙ ap (λ n. replicate n 0) c.requires in
    let kept : c.if-is_err.table ≡ c.fill-reading.new.table
    = elim c.if-is_err.branch [
      | then-is_err w ↦ absurd (search rules)
      | else-is_err w ↦ w.table-is
    ] in
    rw kept
    (whole_read (read_file c.args.file.now) c.fill.new.self c.fill-reading.new.table c.in_ok-reading.field-0
    (rw c.in_ok-reading.was at c.fill-reading.ensures) zeros)
