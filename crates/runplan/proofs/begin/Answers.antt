-- `runplan::begin` meets its contract: the first turn is told.
use native.Mathlib.Omega.{arith}
use Rattle.planfile.specs.Reader.{reader}
use Rattle.program.specs.Turns.{opened}
use Rattle.program.proofs.Telling.{answers_length, tells}
use Rattle.runplan.proofs.begin.Goals as goal

pub tell-requires : goal.tell-requires
tell-requires c =
    let o = c.open-turn in
    let a = c.args in
    let line = (opened (reader a.file.now a.table.now)).line in
    let n = answers_length line a.line.now o.result.printed o.new.out o.ensures.takes.2 (omega (arith, o.ensures.fits, c.requires)) in
    (omega (arith, n, o.ensures.fits), omega arith)

pub returns-clause-tells : goal.returns-clause-tells
returns-clause-tells c =
    let o = c.open-turn in
    let t = o.ensures.takes in
    tells _ 0 _ _ o.result _ _ (t.0, t.2) o.ensures.fits c.requires c.tell.ensures.0 c.tell.ensures.2
