-- When two plans in hand, each with its table, are the same plan.
use Rattle.std.specs.Prelude.{◌≡◌, List, ℕ, ◌<◌, take}
use Rattle.plan.specs.Edition.{places}
use Rattle.plan.specs.Rules.{counted, job_of}
use Rattle.plan.specs.declared.kinds.Plan.{Plan}

-- The rates, the count, the counted jobs' records and the first `places` numbers of the tables, or all
-- of shorter tables, are equal; all else may differ.
pub record Same (p : Plan) (table : List ℕ) (q : Plan) (other : List ℕ) : Type 0 where
  pub n : p.n ≡ q.n
  pub d : p.d ≡ q.d
  pub count : p.count ≡ q.count
  pub jobs : (i : ℕ) → i < counted p → job_of p i ≡ job_of q i
  pub cells : take places table ≡ take places other
