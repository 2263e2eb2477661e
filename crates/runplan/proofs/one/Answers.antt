-- `runplan::one` meets its contract: the chunk is what the speed buffer holds.
use lib.ListN.{take}
use native.Mathlib.Omega.{arith}
use Rattle.program.specs.Turns.{turned}
use Rattle.program.proofs.Telling.{answers_length, tells}
use Rattle.runplan.proofs.one.Goals as goal

pub tell-requires : goal.tell-requires
tell-requires c =
    let t = c.advance-turn in
    let came = c.read_speed-came in
    let a = c.args in
    let line = (turned a.done.progress a.table.now (take came.result.bytes came.new.speed)).line in
    let n = answers_length line a.line.now t.result.printed t.new.out t.ensures.takes.1 (omega (arith, t.ensures.fits, c.requires.0)) in
    (omega (arith, n, t.ensures.fits), omega arith)

pub returns : goal.returns
returns c =
    let t = c.advance-turn in
    let came = c.read_speed-came in
    let size = came.ensures.0.1 in
    record {
      chunk = take came.result.bytes came.new.speed;
      in_turn = omega (arith, size, came.ensures.1);
      hears = omega (arith, size, came.ensures.2, c.tell.ensures.1);
      tells = tells _ _ _ _ t.result _ _ t.ensures.takes t.ensures.fits c.requires.0 c.tell.ensures.0 c.tell.ensures.2;
    }
