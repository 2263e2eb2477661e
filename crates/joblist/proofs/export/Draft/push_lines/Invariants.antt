-- `joblist::export::Draft::push_lines` meets its contract. Loop invariant: the lines of the first jobs are appended.
use Rattle.joblist.specs.Inner.Growing.{Grows}
use Rattle.joblist.specs.Export.{lines_text}
use Rattle.joblist.proofs.export.Draft.push_lines.Given as goal

abbrev pub invariant-loop-job : goal.invariant-loop-job
invariant-loop-job l = Grows l.initial.self (lines_text l.fn.list l.job-index) l.self
