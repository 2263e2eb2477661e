-- `planfile::preamble::read_jobs` meets its contract:
-- after i jobs, reading the remaining ones gives the result of the whole.
use Rattle.planfields.specs.Answers.{head_of}
use Rattle.planfile.proofs.JobLoop.{JobsRead}
use Rattle.planfile.proofs.preamble.read_jobs.Given as goal

abbrev pub invariant-loop-i : goal.invariant-loop-i
invariant-loop-i l = JobsRead l.file l.at (head_of l.fn.head) l.names l.plan l.next l.i
