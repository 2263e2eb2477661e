-- `planwriter::writer::put_jobs` meets its contract:
-- after i iterations the first i jobs are written.
use Rattle.planwriter.specs.Writing.{jobs_bytes}
use Rattle.planwriter.proofs.Sets.{Put}
use Rattle.planwriter.proofs.writer.put_jobs.Given as goal

abbrev pub invariant-loop-job : goal.invariant-loop-job
invariant-loop-job l = Put l.initial.out l.fn.at (jobs_bytes l.fn.p l.job-index) l.out l.next
