-- `lentrun::start_in` meets its contract: the verdict decides which record is left.
use mathlib.Core.Path.{sym, ◌∙◌, ap}
use Rattle.judge.specs.Answers.{verdict_view}
use Rattle.dispatch.specs.Step.{started, no_run, start_from, start_in}
use Rattle.dispatch.proofs.Readiness.{handed_on}
use Rattle.dispatch.proofs.StartEffect.{fault_stays}
use Rattle.lentrun.proofs.start_in.Goals as goal

pub returns-in_err-run : goal.returns-in_err-run
unfolding start_in
returns-in_err-run c =
    let a = c.args in (
      ap verdict_view (handed_on c.from_residual.result c.from_residual.ensures.1) ∙ c.in_err-run.ensures.0,
      sym (fault_stays c.in_err-run.field-0.0 (started a.p) a.run.now) ∙ ap (λ r. start_from r (started a.p) a.run.now) c.in_err-run.ensures.0,
    )

pub returns : goal.returns
unfolding start_in
returns c =
    let a = c.args in (
      c.in_ok-run.ensures.0,
      c.in_ok-run.ensures.1 ∙ ap (λ r. start_from r (started a.p) no_run) (sym c.in_ok-run.ensures.0)
          ∙ ap (λ r. start_from r (started a.p) a.run.now) c.in_ok-run.ensures.0,
    )
