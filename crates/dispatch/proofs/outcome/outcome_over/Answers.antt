-- `dispatch::outcome::outcome_over` meets its contract: the tests are in the order of the definition, and
-- what they show of the plan made from the columns holds of every plan with these columns.
use mathlib.Core.Path.{◌∙◌, ap}
use Rattle.plan.specs.Refusal.{number_of}
use Rattle.dispatch.specs.Answers.{outcome_view}
use Rattle.dispatch.specs.Step.{refused}
use Rattle.dispatch.specs.Inner.Columns.{plan_on}
use Rattle.dispatch.proofs.Readiness.{ready_lem, unready_lem, handed_on}
use Rattle.dispatch.proofs.OutcomeColumns as columns
use Rattle.dispatch.proofs.outcome.outcome_over.Goals as goal

pub returns-in_err-readiness_of : goal.returns-in_err-readiness_of
returns-in_err-readiness_of c = λ p has.
    let a = c.args in
    let bad = unready_lem (plan_on a.cols.now) a.run.clock.0 a.run.carried c.in_err-readiness_of.was c.readiness_of.ensures in
    ap outcome_view (handed_on c.from_residual.result c.from_residual.ensures.1) ∙ ap (λ r. refused (number_of r)) bad.1
    ∙ columns.unsound_ends a.cols.now a.run a.position bad.0 p has

pub returns-then-cols-position : goal.returns-then-cols-position
returns-then-cols-position c =
    let a = c.args in
    let s = ready_lem (plan_on a.cols.now) a.run.clock.0 a.run.carried c.in_ok-readiness_of.was c.readiness_of.ensures in
    columns.uncounted_ends a.cols.now a.run a.position s.0 c.if-cols-position.true

pub returns-then-run-position : goal.returns-then-run-position
returns-then-run-position c =
    let a = c.args in
    let s = ready_lem (plan_on a.cols.now) a.run.clock.0 a.run.carried c.in_ok-readiness_of.was c.readiness_of.ensures in
    columns.met_ends a.cols.now a.run a.position s.0 c.if-cols-position.false c.if-run-position.true

pub returns-then-run-position-2 : goal.returns-then-run-position-2
returns-then-run-position-2 c =
    let a = c.args in
    let s = ready_lem (plan_on a.cols.now) a.run.clock.0 a.run.carried c.in_ok-readiness_of.was c.readiness_of.ensures in
    columns.ended_ends a.cols.now a.run a.position s.0 c.if-cols-position.false c.if-run-position.false c.if-run-position-2.true

pub returns-then-cols-position-2 : goal.returns-then-cols-position-2
returns-then-cols-position-2 c =
    let a = c.args in
    let s = ready_lem (plan_on a.cols.now) a.run.clock.0 a.run.carried c.in_ok-readiness_of.was c.readiness_of.ensures in
    columns.discarded_ends a.cols.now a.run a.position s.0 c.if-cols-position.false c.if-run-position.false c.if-run-position-2.false c.if-cols-position-2.true

pub returns-then-cols-position-3 : goal.returns-then-cols-position-3
returns-then-cols-position-3 c =
    let a = c.args in
    let s = ready_lem (plan_on a.cols.now) a.run.clock.0 a.run.carried c.in_ok-readiness_of.was c.readiness_of.ensures in
    columns.missed_ends a.cols.now a.run a.position s.0 c.if-cols-position.false c.if-run-position.false c.if-run-position-2.false c.if-cols-position-2.false c.if-cols-position-3.true

pub returns : goal.returns
returns c =
    let a = c.args in
    let s = ready_lem (plan_on a.cols.now) a.run.clock.0 a.run.carried c.in_ok-readiness_of.was c.readiness_of.ensures in
    columns.open_ends a.cols.now a.run a.position s.0 c.if-cols-position.false c.if-run-position.false c.if-run-position-2.false c.if-cols-position-2.false c.if-cols-position-3.false
