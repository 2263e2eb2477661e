-- `dispatch::slot::grant_claims` meets its contract: the claims stand in front of what the row holds after them.
use mathlib.Core.Path.{◌∙◌, ap}
use native.Mathlib.Omega.{arith}
use lib.ListN.{get_or, length-take}
use lib.Seq.{get_or-take}
use Rattle.dispatch.proofs.RowShares.{front_filled}
use Rattle.dispatch.proofs.slot.grant_claims.Goals as goal

pub returns : goal.returns
returns c =
    let a = c.args in
    let copy = c.copy_from_slice.ensures.after in
    front_filled (λ k. get_or a.claims.now k 0) a.jobs c.copy_from_slice.new.self a.grants.now (rw (copy, length-take) (omega arith)) c.requires.1
    (λ k h. ap (λ l. get_or l k 0) copy ∙ get_or-take a.jobs a.claims.now k 0 h)
