-- `planwriter::writer::put_rows` meets its contract:
-- after i iterations the rows of the first i jobs are written.
use mathlib.Core.Path.{◌≡◌, ◌∙◌, ap}
use mathlib.Core.List.{[], ◌∷◌}
use Prim.Native.Nat.{◌+◌, ◌*◌, ◌-◌, ◌≤◌}
use native.Mathlib.Omega.{arith}
use lib.ListN.{length, get_or, take, drop, length-take}
use lib.Seq.{sets}
use Rattle.plan.specs.Edition.{most_intervals}
use Rattle.planwriter.specs.Writing.{rows_bytes}
use Rattle.planwriter.proofs.Sets.{put_start, put_length, put_on}
use Rattle.planwriter.proofs.JobAndRowBytes.{rows_none}
use Rattle.planwriter.proofs.JobRows.{job_rows_next, job_rows_fit, job_rows_all}
use Rattle.planwriter.proofs.writer.put_rows.Goals as goal

pub loop-i-init : goal.loop-i-init
loop-i-init c =
    let a = c.args in
    rw (rows_none most_intervals a.names.now 0) (put_start a.out.now a.at)

pub put_job_rows-next-requires : goal.put_job_rows-next-requires
put_job_rows-next-requires c =
    let inside : most_intervals * c.loop-i.i + most_intervals ≤ length c.args.table.now
    = omega (arith, c.loop-i-test.true, c.requires.2) in
    let l = c.loop-i in
    let a = c.args in
    let pre = c.requires in
    let n = most_intervals * l.i + a.spans - most_intervals * l.i in
    (omega (arith, pre.0, l.invariant.ends, put_length l.invariant, job_rows_fit a.names.now a.table.now a.jobs a.spans pre.4 l.i {n = n} (omega arith) pre.3 inside), omega (arith, pre.3, length-take n (drop (most_intervals * l.i) a.table.now)))

pub loop-i-preserved : goal.loop-i-preserved
loop-i-preserved c =
    let inside : most_intervals * c.loop-i.i + most_intervals ≤ length c.args.table.now
    = omega (arith, c.loop-i-test.true, c.requires.2) in
    let l = c.loop-i in
    let a = c.args in
    let pre = c.requires in
    let put = c.put_job_rows-next.ensures in
    let n = most_intervals * l.i + a.spans - most_intervals * l.i in
    rw (← (job_rows_next a.names.now a.table.now a.jobs a.spans pre.4 l.i {n = n} (omega arith) pre.3 inside))
    (put_on l.invariant (rows_bytes most_intervals (get_or a.names.now l.i 0 ∷ []) 0 (take n (drop (most_intervals * l.i) a.table.now))) put.0 put.1)

pub returns : goal.returns
returns c =
    let l = c.loop-i in
    let a = c.args in
    let pre = c.requires in
    let whole : l.i ≡ a.jobs = omega arith in
    (rw whole at l.invariant).stands
    ∙ ap (sets a.out.now a.at) (job_rows_all a.names.now a.table.now a.jobs a.spans pre.4 pre.2)
