-- `judge::pair::demand_of` meets its contract.
use mathlib.Core.Path.{sym, ◌∙◌, ◌≡◌}
use mathlib.Core.Bool.{◌&&◌}
use Prim.Native.Nat.{◌+◌, ◌*◌, ◌-◌}
use native.Mathlib.Omega.{arith}
use lib.Dec.{leb}
use Rattle.base.specs.Sum.{strided, sum, on}
use Rattle.plan.specs.Edition.{most_intervals}
use Rattle.plan.specs.Rules.{counted, deadline, is_hi}
use Rattle.judge.specs.Constraints.{demand}
use Rattle.judge.proofs.RunningSums.{sum_of_none}
use Rattle.judge.proofs.Demand.{demand_is, end_by_present}
use Rattle.judge.proofs.pair.demand_of.Goals as goal

pub returns-then-ended-interval : goal.returns-then-ended-interval
returns-then-ended-interval c =
    let asked : sum (λ i. on (is_hi c.args.p.now i && leb (deadline c.args.p.now i) c.args.time.0) (sum (strided c.args.table.now (most_intervals * i + c.args.interval) 1) (c.present_of-ended.result - c.args.interval))) (counted c.args.p.now) ≡ demand c.args.p.now c.args.table.now c.args.interval c.args.time.0
    = let a = c.args in
    demand_is a.p.now a.table.now a.interval a.time.0 c.present_of-ended.result
    (rw c.present_of-ended.ensures (end_by_present a.p.now a.time.0)) in
    let a = c.args in
    let none : c.present_of-ended.result - a.interval ≡ 0 = omega arith in (
      sym (sum_of_none (λ i. is_hi a.p.now i && leb (deadline a.p.now i) a.time.0) (λ i. strided a.table.now (most_intervals * i + a.interval) 1) _ (counted a.p.now) none) ∙ asked,
      omega arith,
    )

pub returns : goal.returns
returns c =
    let asked : sum (λ i. on (is_hi c.args.p.now i && leb (deadline c.args.p.now i) c.args.time.0) (sum (strided c.args.table.now (most_intervals * i + c.args.interval) 1) (c.present_of-ended.result - c.args.interval))) (counted c.args.p.now) ≡ demand c.args.p.now c.args.table.now c.args.interval c.args.time.0
    = let a = c.args in
    demand_is a.p.now a.table.now a.interval a.time.0 c.present_of-ended.result
    (rw c.present_of-ended.ensures (end_by_present a.p.now a.time.0)) in
    (c.hi_units.ensures.0 ∙ asked, omega (arith, c.hi_units.ensures.1))
