-- `dispatch::start::start` meets its contract: the verdict decides whether there is a run.
use mathlib.Core.Path.{sym, ◌∙◌, ap}
use mathlib.Core.Bool.{false}
use lib.ListN.{replicate}
use Rattle.plan.specs.Edition.{most_jobs}
use Rattle.plan.specs.declared.kinds.Slots.{Slots}
use Rattle.judge.specs.Answers.{verdict_view}
use Rattle.std.specs.Result.{result_unwrap_or}
use Rattle.dispatch.specs.declared.Run.{Run}
use Rattle.dispatch.specs.Step.{started, no_run, start_from}
use Rattle.dispatch.proofs.Readiness.{handed_on}
use Rattle.dispatch.proofs.StartEffect.{fault_stays}
use Rattle.dispatch.proofs.start.start.Goals as goal

-- A run at a given clock, with nothing carried, no job ended and both marks clear.
abbrev fresh : Slots → Run
fresh clock = record { clock = clock; slow = false; below = false; carried = replicate most_jobs 0; ended = replicate most_jobs false }

pub returns-in_err-judge : goal.returns-in_err-judge
returns-in_err-judge c =
    let told = handed_on c.from_residual.result c.from_residual.ensures.1 in (
      ap verdict_view told ∙ c.in_err-judge.ensures,
      ap (λ r. result_unwrap_or r no_run) told ∙ sym (fault_stays c.in_err-judge.field-0.0 (started c.args.p) no_run)
          ∙ ap (λ r. start_from r (started c.args.p) no_run) c.in_err-judge.ensures,
    )

pub returns : goal.returns
unfolding started
returns c = (
  c.in_ok-judge.ensures,
  c.fresh.ensures ∙ ap fresh c.first_release.ensures ∙ ap (λ r. start_from r (started c.args.p) no_run) c.in_ok-judge.ensures,
)
