-- The floor rule as it is stated, over all later boundaries, and the verdict by it.
-- (proofs/AllBoundaries: the verdict and its location are the same as over HI deadlines.)
use Rattle.std.specs.Prelude.{◌&&◌, [], ◌∷◌, suc, ltb}
use Rattle.plan.specs.Kinds.{Table}
use Rattle.plan.specs.Refusal.{below_floor_rule}
use Rattle.plan.specs.Boundaries.{boundary, intervals}
use Rattle.plan.specs.declared.kinds.Plan.{Plan}
use Rattle.judge.specs.Verdict.{falls_short, hand_fault, constraint_fault}
use Rattle.plan.specs.Report.{Report, or_else, fault, first}

-- 18: the first interval, and its first later boundary, between which
-- the demand exceeds the floor's capacity.
unfoldable pub boundary_fault : (p : Plan) (table : Table) → Report
boundary_fault p table =
    first
    (λ l. first (λ m. fault (ltb l m && falls_short p table l m) (below_floor_rule ∷ l ∷ boundary p m ∷ [])) (suc (intervals p)))
    (intervals p)

-- The verdict with the floor rule over all later boundaries.
unfoldable pub judged_at_boundaries : (p : Plan) (table : Table) → Report
judged_at_boundaries p table = or_else (hand_fault p table) (or_else (constraint_fault p table) (boundary_fault p table))
