-- `dispatch::slot::carry_grants` meets its contract: after i iterations the first i grants are carried.
use mathlib.Core.Path.{◌≡◌, sym, ◌∙◌, ap}
use Prim.Native.Nat.{◌+◌}
use native.Mathlib.Omega.{arith}
use lib.ListN.{get_or}
use Rattle.base.proofs.FillLaws.{filled_start, filled_next, filled_rest}
use Rattle.dispatch.proofs.slot.carry_grants.Goals as goal

pub loop-i-init : goal.loop-i-init
loop-i-init c = sym (filled_start _ _)

pub overflow_add-carried : goal.overflow_add-carried
overflow_add-carried c =
    let i = c.loop-i.i in
    let as_was = ap (λ row. get_or row i 0) c.loop-i.invariant ∙ filled_rest _ i _ i (omega arith) in
    omega (arith, as_was, c.requires.2 i (omega arith))

pub loop-i-preserved : goal.loop-i-preserved
loop-i-preserved c =
    let i = c.loop-i.i in
    let as_was : get_or c.loop-i.carried i 0 ≡ get_or c.args.carried.now i 0
    = ap (λ row. get_or row i 0) c.loop-i.invariant ∙ filled_rest _ i _ i (omega arith) in
    filled_next _ i _ c.loop-i.invariant (ap (λ x. x + get_or c.args.grants.now i 0) as_was)

pub returns : goal.returns
returns c =
    let whole : c.loop-i.i ≡ c.args.jobs = omega arith in
    rw whole at c.loop-i.invariant
