-- No promise rests on this file: it is here for the contracts of inner functions.
-- What writing requires of a plan.
use Rattle.std.specs.Prelude.{◌≡◌, true, List, ℕ, ◌≤◌, ◌<◌, ◌^◌, length}
use Rattle.plan.specs.Edition.{most_jobs, most_intervals, places}
use Rattle.plan.specs.Rules.{counted, size}
use Rattle.plan.specs.Boundaries.{intervals}
use Rattle.plan.specs.Table.{no_stray}
use Rattle.plan.specs.declared.kinds.Plan.{Plan}

-- What writing requires of a plan and its own places;
-- soundness gives it for a table that is long enough.
pub record Writable (p : Plan) (table : List ℕ) : Type 0 where
  pub few : p.count ≤ most_jobs
  pub sized : (i : ℕ) → i < p.count → size p i < 256 ^ 4
  pub exact : length table ≡ places
  pub clear : no_stray most_intervals (counted p) (intervals p) 0 table ≡ true
