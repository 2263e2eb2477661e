-- `desk::pairs::none_due` meets its contract: after i jobs they are looked at.
use Rattle.std.proofs.Common.{◌≡◌, not}
use Rattle.base.specs.Below.{every}
use Rattle.desk.specs.Inner.Classes.{from_back}
use Rattle.desk.specs.Inner.Lists.{is_due_at}
use Rattle.desk.proofs.pairs.none_due.Given as goal

abbrev pub invariant-loop-i : goal.invariant-loop-i
invariant-loop-i l = l.none ≡ every (λ k. not (is_due_at (from_back l.class) l.columns l.time k)) l.i
