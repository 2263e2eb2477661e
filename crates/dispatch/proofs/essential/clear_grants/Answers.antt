-- `dispatch::essential::clear_grants` meets its contract: zeros stand in front of what the row holds after them.
use mathlib.Core.Path.{◌∙◌, ap}
use native.Mathlib.Omega.{arith}
use lib.ListN.{get_or, length-take, length-replicate}
use lib.ListN.{get_or-replicate}
use Rattle.dispatch.proofs.RowShares.{front_filled}
use Rattle.dispatch.proofs.essential.clear_grants.Goals as goal

pub returns : goal.returns
returns c =
    let a = c.args in
    let zeros = c.fill.ensures.after (λ y e. e) in
    front_filled (λ k. 0) a.jobs c.fill.new.self a.grants.now (rw (zeros, length-replicate, length-take) (omega arith)) c.requires
    (λ k h. ap (λ l. get_or l k 0) zeros ∙ get_or-replicate _ k 0 0 (rw length-take (omega arith)))
