-- `desk::pairs::ends_of` meets its contract: after m times their ends stand.
use Rattle.std.proofs.Common.{◌≡◌, ◌<◌, ℕ, None, length, get_or}
use Rattle.plan.specs.Edition.{most_boundaries}
use Rattle.desk.specs.Inner.Classes.{from_back}
use Rattle.desk.specs.Inner.Lists.{end_at, AreWithin}
use Rattle.desk.specs.Inner.Tasks.{times_of}
use Rattle.desk.proofs.pairs.ends_of.Given as goal

abbrev pub invariant-loop-m : goal.invariant-loop-m
invariant-loop-m l =
    ((k : ℕ) → k < l.m → get_or l.ends k None ≡ end_at (from_back l.class) l.task.columns (times_of l.task) k)
    × AreWithin l.ends × (length l.ends ≡ most_boundaries)
