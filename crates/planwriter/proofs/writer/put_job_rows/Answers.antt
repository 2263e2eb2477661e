-- After j iterations the rows of the first j places are written.
use Rattle.std.proofs.Common.{[], ◌∷◌, get_or, arith}
use Rattle.plan.specs.Edition.{most_intervals}
use Rattle.planwriter.specs.Writing.{row_at}
use Rattle.planwriter.proofs.Sets.{put_start, put_length, put_on}
use Rattle.planwriter.proofs.JobAndRowBytes.{rows_next, rows_fit, rows_none}
use Rattle.planwriter.proofs.writer.put_job_rows.Goals as goal

pub loop-j-init : goal.loop-j-init
loop-j-init c =
    rw (rows_none most_intervals (c.args.name ∷ []) 0) (put_start c.args.out.now c.args.at)

pub put_place-next-requires : goal.put_place-next-requires
put_place-next-requires c =
    let l = c.loop-j in
    let a = c.args in
    (omega (arith, c.requires.0, l.invariant.ends, put_length l.invariant, rows_fit most_intervals (a.name ∷ []) a.row.now l.j c.loop-j-test.true), omega (arith, c.requires.1))

pub loop-j-preserved : goal.loop-j-preserved
loop-j-preserved c =
    let l = c.loop-j in
    let a = c.args in
    let put = c.put_place-next.ensures in
    rw (← (rows_next most_intervals (a.name ∷ []) a.row.now l.j c.loop-j-test.true))
    (put_on l.invariant (row_at most_intervals (a.name ∷ []) l.j (get_or a.row.now l.j 0)) put.0 put.1)
