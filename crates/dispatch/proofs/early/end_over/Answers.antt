-- `dispatch::early::end_over` meets its contract: the tests are in the order of the definition, and what they show of the plan made
-- from the columns holds of every plan with these columns.
use mathlib.Core.Path.{◌≡◌, sym, ◌∙◌, ap}
use mathlib.Core.Bool.{not, ◌||◌}
use lib.Dec.{ltb}
use lib.ListN.{get_or}
use Rattle.dispatch.specs.Step.{outcome, is_open}
use Rattle.dispatch.specs.Inner.Columns.{plan_on}
use Rattle.dispatch.proofs.ColumnPlan.{own_columns}
use Rattle.dispatch.proofs.Readiness.{ready_lem, unready_lem, handed_on}
use Rattle.dispatch.proofs.EndColumns as columns
use Rattle.dispatch.proofs.early.end_over.Goals as goal

pub returns-in_err-readiness_of : goal.returns-in_err-readiness_of
returns-in_err-readiness_of c = λ p has.
    let a = c.args in
    let bad = unready_lem (plan_on a.cols.now) a.run.clock.0 a.run.carried c.in_err-readiness_of.was c.readiness_of.ensures in
    rw (handed_on c.from_residual.result c.from_residual.ensures.1, bad.1) (columns.unsound_tells a.cols.now a.run a.position bad.0 p has)

pub returns-then-cols-position : goal.returns-then-cols-position
returns-then-cols-position c =
    let a = c.args in
    let s = ready_lem (plan_on a.cols.now) a.run.clock.0 a.run.carried c.in_ok-readiness_of.was c.readiness_of.ensures in
    columns.uncounted_tells a.cols.now a.run a.position s.0 c.if-cols-position.true

pub returns-then-run-cols : goal.returns-then-run-cols
returns-then-run-cols c =
    let a = c.args in
    let q = plan_on a.cols.now in
    let s = ready_lem q a.run.clock.0 a.run.carried c.in_ok-readiness_of.was c.readiness_of.ensures in
    let is-open : c.is_open.result ≡ is_open (outcome q a.run a.position)
    = c.is_open.ensures ∙ ap is_open (c.outcome_over-ending.ensures q (own_columns a.cols.now)) in
    columns.cannot_tells a.cols.now a.run a.position s.0 c.if-cols-position.false
    (ap (λ o. ltb a.run.clock.0 (get_or a.cols.now.releases a.position 0) || not o) (sym is-open) ∙ c.if-run-cols.true)

pub returns : goal.returns
returns c =
    let a = c.args in
    let q = plan_on a.cols.now in
    let s = ready_lem q a.run.clock.0 a.run.carried c.in_ok-readiness_of.was c.readiness_of.ensures in
    let is-open : c.is_open.result ≡ is_open (outcome q a.run a.position)
    = c.is_open.ensures ∙ ap is_open (c.outcome_over-ending.ensures q (own_columns a.cols.now)) in
    columns.ends_tells a.cols.now a.run a.position s.0 c.if-cols-position.false
    (ap (λ o. ltb a.run.clock.0 (get_or a.cols.now.releases a.position 0) || not o) (sym is-open) ∙ c.if-run-cols.false)
