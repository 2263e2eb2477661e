-- `planwriter::writer::put_body` meets its contract: each part is written after the one before.
use Prim.Native.Nat.{◌+◌}
use mathlib.Core.Path.{◌≡◌, refl, sym, ◌∙◌, ap, ap₂}
use native.Mathlib.Omega.{arith}
use borrow.Author.Rules.{rules}
use lib.ListN.{length}
use lib.Seq.{sets}
use Rattle.plan.specs.Edition.{most_jobs, most_intervals}
use Rattle.plan.specs.Rules.{counted}
use Rattle.plan.specs.Table.{no_stray}
use Rattle.plan.proofs.BoundaryOrder.{boundaries_few}
use Rattle.planwriter.specs.Writing.{jobs_bytes, rows_bytes}
use Rattle.planwriter.proofs.Sets.{put_start, put_on}
use Rattle.planwriter.proofs.JobAndRowBytes.{put_field, jobs_long, rows_long, count_few}
use Rattle.planwriter.proofs.WrittenFile.{counted_is, body_of, body_long}
use Rattle.planwriter.proofs.writer.put_body.Goals as goal

pub put-after_n-requires : goal.put-after_n-requires
put-after_n-requires c =
    (omega (arith, body_long c.args.p c.args.table.now c.requires.1.few, c.requires.0, c.requires.1.few), search rules)

pub put-after_d-requires : goal.put-after_d-requires
put-after_d-requires c =
    (omega (arith, body_long c.args.p c.args.table.now c.requires.1.few, c.requires.0, c.requires.1.few, c.put-after_n.ensures.0, c.put-after_n.auto.out), search rules)

pub put-after_count-requires : goal.put-after_count-requires
put-after_count-requires c =
    (omega (arith, body_long c.args.p c.args.table.now c.requires.1.few, c.requires.0, c.requires.1.few, c.put-after_n.ensures.0, c.put-after_n.auto.out, c.put-after_d.ensures.0, c.put-after_d.auto.out), omega (arith, c.requires.1.few))

pub put_jobs-after_jobs-requires : goal.put_jobs-after_jobs-requires
put_jobs-after_jobs-requires c =
    (omega (arith, body_long c.args.p c.args.table.now c.requires.1.few, c.requires.0, c.requires.1.few, c.put-after_n.ensures.0, c.put-after_n.auto.out, c.put-after_d.ensures.0, c.put-after_d.auto.out, c.put-after_count.ensures.0, c.put-after_count.auto.out), c.requires.1.few, c.requires.1.sized)

pub put-after_rows-requires : goal.put-after_rows-requires
put-after_rows-requires c =
    (omega (arith, body_long c.args.p c.args.table.now c.requires.1.few, c.requires.0, c.requires.1.few, c.put-after_n.ensures.0, c.put-after_n.auto.out, c.put-after_d.ensures.0, c.put-after_d.auto.out, c.put-after_count.ensures.0, c.put-after_count.auto.out, c.put_jobs-after_jobs.ensures.0, c.put_jobs-after_jobs.auto.out), omega (arith, c.requires.2, count_few c.args.table.now, c.requires.1.exact))

pub put_rows-requires : goal.put_rows-requires
put_rows-requires c =
    let ns = c.names_of-names.result in
    let n : length ns ≡ most_jobs = c.names_of-names.type_inv.1.0.1 in
    let a = c.args in
    let pre = c.requires in
    (omega (arith, body_long c.args.p c.args.table.now c.requires.1.few, c.requires.0, c.requires.1.few, c.put-after_n.ensures.0, c.put-after_n.auto.out, c.put-after_d.ensures.0, c.put-after_d.auto.out, c.put-after_count.ensures.0, c.put-after_count.auto.out, c.put_jobs-after_jobs.ensures.0, c.put_jobs-after_jobs.auto.out, c.put-after_rows.ensures.0, c.put-after_rows.auto.out, rows_long most_intervals ns 0 a.table.now), omega (arith, n, pre.1.few), omega (arith, pre.1.exact, pre.1.few), omega (arith, pre.3, boundaries_few a.p (counted a.p)), ap₂ (λ jobs spans. no_stray most_intervals jobs spans 0 a.table.now) (sym (counted_is a.p pre.1.few)) pre.3 ∙ pre.1.clear)

pub returns : goal.returns
returns c =
    let a = c.args in
    let ns = c.names_of-names in
    let p1 = put_field (put_start a.out.now a.at) 2 a.p.n.0 c.from.ensures c.put-after_n.ensures.0 c.put-after_n.ensures.1 in
    let p2 = put_field p1 2 a.p.d.0 c.from-2.ensures c.put-after_d.ensures.0 c.put-after_d.ensures.1 in
    let p3 = put_field p2 1 a.p.count refl c.put-after_count.ensures.0 c.put-after_count.ensures.1 in
    let p4 = put_on p3 (jobs_bytes a.p a.p.count) (c.put_jobs-after_jobs.ensures.0 ∙ ap (λ n. c.put-after_count.result + n) (sym (jobs_long a.p a.p.count))) c.put_jobs-after_jobs.ensures.1 in
    let p5 = put_field p4 2 a.rows refl c.put-after_rows.ensures.0 c.put-after_rows.ensures.1 in
    let p6 = put_on p5 (rows_bytes most_intervals ns.result 0 a.table.now) refl c.put_rows.ensures in
    p6.stands ∙ ap (sets a.out.now a.at) (body_of a.p a.table.now c.requires.1.few c.requires.2 ns.ensures)
