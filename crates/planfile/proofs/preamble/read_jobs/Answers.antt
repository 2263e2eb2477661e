-- `planfile::preamble::read_jobs` meets its contract:
-- after i jobs, reading the remaining ones gives the result of the whole.
use Rattle.std.proofs.Common.{rules, ◌≡◌, Err, sym, arith}
use Rattle.planfile.proofs.JobLoop.{jobs_refused, jobs_whole}
use Rattle.planfile.proofs.preamble.read_jobs.Goals as goal

pub returns-in_err-job : goal.returns-in_err-job
returns-in_err-job c =
    let handed : c.from_residual.result ≡ Err c.in_err-job.field-0.0 = search rules in
    rw handed (jobs_refused c.loop-i.invariant c.loop-i-test.true c.in_err-job.field-0.0 (sym c.in_err-job.ensures))

pub returns : goal.returns
returns c = jobs_whole c.loop-i.invariant (omega arith)
