-- After some iterations `absent` says whether none of the numbers so far is x.
use mathlib.Core.Path.{◌≡◌}
use mathlib.Core.Bool.{not}
use lib.ListN.{take}
use Rattle.std.specs.List.{list_any}
use Rattle.plan.proofs.rules.is_none_of.Given as goal

abbrev pub invariant-loop-number : goal.invariant-loop-number
invariant-loop-number g l = l.absent ≡ not (list_any (λ y. g.T.PartialEq.eq y l.x) (take l.number-index l.numbers))
