-- `joblist::export::Draft::push_lines` meets its contract. Loop invariant: the lines of the first jobs are appended.
use Rattle.std.proofs.Common.{sym, arith}
use Rattle.joblist.proofs.Growing.{grows_none, grows_twice, grows_same}
use Rattle.joblist.proofs.ExportLaws.{lines_start, lines_next}
use Rattle.joblist.proofs.export.Draft.push_lines.Goals as goal

pub loop-job-init : goal.loop-job-init
loop-job-init c = grows_same (sym (lines_start c.args.list.now)) (grows_none c.args.self.now)

pub loop-job-preserved : goal.loop-job-preserved
loop-job-preserved c =
    grows_same (lines_next c.args.list.now c.loop-job.job-index _ (omega arith) (omega (arith, c.requires.0))) (grows_twice c.loop-job.invariant c.push_line.ensures)
