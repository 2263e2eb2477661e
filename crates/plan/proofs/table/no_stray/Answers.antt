-- After i iterations `clear` says whether the first i rows are 0 after the intervals.
use Rattle.std.proofs.Common.{◌≡◌, ◌+◌, ◌*◌, ◌-◌, ◌&&◌, take, lit<, ◌∙◌, ap, ap₂, arith}
use Rattle.plan.specs.Edition.{most_jobs, most_intervals, places}
use Rattle.base.specs.Below.{every}
use Rattle.plan.specs.Table.{no_stray}
use Rattle.plan.proofs.Stray.{stray_parts}
use Rattle.plan.proofs.table.no_stray.Goals as goal

pub returns : goal.returns
returns c =
    let a = c.args in
    let whole : c.loop-i.i ≡ a.jobs = omega arith in
    let behind : places - most_intervals * a.jobs ≡ most_intervals * (most_jobs - a.jobs) = omega arith in
    let all : most_intervals * a.jobs + most_intervals * (most_jobs - a.jobs) ≡ places = omega arith in
    ap₂ ◌&&◌ (c.loop-i.invariant ∙ ap (every _) whole) (c.all_zero.ensures ∙ ap (every _) behind)
    ∙ stray_parts most_intervals a.jobs (most_jobs - a.jobs) a.spans _ a.table.now (lit< tt) (omega arith)
    ∙ ap (λ n. no_stray most_intervals a.jobs a.spans 0 (take n a.table.now)) all
