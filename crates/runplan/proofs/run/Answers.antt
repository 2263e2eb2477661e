-- `runplan::run` meets its contract: the first turn, and all turns after it.
use mathlib.Core.Path.{sym, ◌∙◌}
use Rattle.runplan.proofs.Turns.{whole_program}
use Rattle.runplan.proofs.run.Goals as goal

pub returns : goal.returns
returns c =
    let f = c.read_file-size in
    let b = c.begin-first.ensures in
    whole_program {size = f.result} c.requires.1 f.ensures.prefix_len.0 f.ensures.upper_bound b.tells b.table_after.0 (b.table_after.1 ∙ sym f.ensures.prefix_len.1) c.play.ensures
