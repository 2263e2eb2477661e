-- `planwriter::put::put_place` meets its contract.
use mathlib.Core.Path.{refl, sym, ap}
use native.Mathlib.Omega.{arith}
use native.Mathlib.Nat.{add-zero}
use lib.ListN.{length}
use Rattle.planwriter.proofs.JobAndRowBytes.{place_none, place_row, row_long}
use Rattle.planwriter.proofs.put.put_place.Goals as goal

pub returns-then-units-eq0 : goal.returns-then-units-eq0
returns-then-units-eq0 c =
    let a = c.args in
    rw (place_none a.name a.interval a.units c.if-units-eq0.true) (sym (add-zero a.at), refl)

pub put_row-requires : goal.put_row-requires
put_row-requires c =
    let a = c.args in
    let pre = c.requires in
    let is = place_row a.name a.interval a.units c.if-units-eq0.false pre.1 in
    (omega (arith, pre.0, ap length is, row_long a.name a.interval a.units), omega (arith, pre.1))

pub returns : goal.returns
returns c =
    let a = c.args in
    rw (place_row a.name a.interval a.units c.if-units-eq0.false c.requires.1, row_long a.name a.interval a.units)
    c.put_row.ensures
