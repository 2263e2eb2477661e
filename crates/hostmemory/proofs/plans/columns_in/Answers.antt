-- `hostmemory::plans::columns_in` meets its contract.
use Rattle.std.proofs.Common.{refl}
use native.Mathlib.Numerals.{add-one}
use Rattle.base.specs.Below.{every}
use Rattle.base.specs.Fill.{filled}
use Rattle.hostmemory.proofs.ColumnLaws.{fits_next}
use Rattle.hostmemory.proofs.plans.columns_in.Goals as goal

pub loop-i-init : goal.loop-i-init
unfolding every filled
loop-i-init c = (refl, rw c.head_in-count.ensures refl)

pub loop-i-preserved : goal.loop-i-preserved
unfolding filled
loop-i-preserved c =
    let l = c.loop-i in
    (fits_next c.args.words.now l.i l.grade_bits l.bits l.invariant.0, rw (l.invariant.1, add-one l.i) refl)
