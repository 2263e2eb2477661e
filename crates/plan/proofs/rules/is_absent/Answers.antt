-- No number equals x exactly when no position holds x.
use Rattle.std.proofs.Common.{◌∙◌}
use Rattle.plan.proofs.Names.{absent_any}
use Rattle.plan.proofs.rules.is_absent.Goals as goal

pub returns : goal.returns
returns c =
    c.is_none_of.ensures ∙ absent_any c.args.numbers.now c.args.x
