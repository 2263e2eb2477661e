-- At index q, `zero` says whether the entries from `start` up to q are 0.
use Rattle.std.proofs.Common.{◌≡◌, ◌+◌, ◌-◌, eqb, get_or, sym, ◌∙◌, ap, arith}
use Rattle.base.specs.Below.{every}
use Rattle.base.proofs.Below.{every_start, every_next}
use Rattle.plan.proofs.Stray.{zero_past}
use Rattle.plan.proofs.table.all_zero.Goals as goal

pub loop-q-init : goal.loop-q-init
loop-q-init c =
    let none : c.args.start - c.args.start ≡ 0 = omega arith in
    (omega arith, sym (ap (every _) none ∙ every_start _))

pub loop-q-preserved : goal.loop-q-preserved
loop-q-preserved c =
    let start = c.args.start in
    let q = c.loop-q.q in
    let on : q + 1 - start ≡ q - start + 1 = omega arith in
    let here : start + (q - start) ≡ q = omega arith in
    (omega arith, every_next _ (q - start) c.loop-q.invariant.1 (ap (λ q. eqb (get_or c.args.table.now q 0) 0) (sym here)) ∙ ap (every _) (sym on))

pub returns : goal.returns
returns c =
    let start = c.args.start in
    c.loop-q.invariant.1
    ∙ zero_past c.args.table.now start (c.loop-q.q - start) c.args.count (omega arith) (λ k from to. omega arith)
