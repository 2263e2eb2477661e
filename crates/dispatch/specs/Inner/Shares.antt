-- For the contracts of internal functions; no promise rests on this file. One slot in closed
-- form: a job's share is what the claims served before it leave of the speed (proofs/Shares: the shares
-- are the grants); and what sharing out a slot under a mark leaves.
use Rattle.std.specs.Prelude.{◌≡◌, Bool, false, not, cond, ◌&&◌, ◌||◌, List, [], ℕ, ◌-◌, min}
use Rattle.base.specs.Sum.{sum, on}
use Rattle.plan.specs.Rules.{counted, size, is_hi}
use Rattle.plan.specs.declared.kinds.Plan.{Plan}
use Rattle.plan.specs.declared.kinds.Slots.{Slots}
use Rattle.dispatch.specs.declared.Run.{Run}
use Rattle.dispatch.specs.Dues.{carried_of, ended_of, live, slow_at, slow_after, due}
use Rattle.dispatch.specs.Order.{before}
use Rattle.dispatch.specs.Step.{granted}

-- What job i counts for in a run: its size once it has ended, otherwise what is carried.
abbrev pub settled_of : Plan → Run → ℕ → ℕ
settled_of p run i = cond (ended_of run i) (size p i) (carried_of run i)

-- Job i is served in a slot: it is live, and HI if the slow mark is set.
abbrev pub served : Plan → Run → Bool → ℕ → Bool
served p run slow i = live p run i && (is_hi p i || not slow)

-- The claim of job i on a slot: its due if it is served, otherwise 0.
abbrev pub claim : Plan → List ℕ → Run → Bool → ℕ → ℕ
claim p table run slow i = on (served p run slow i) (due p table run slow i)

-- The share of job i: the lesser of its claim and what the claims served before it leave of v.
unfoldable pub share : Plan → List ℕ → Run → ℕ → ℕ → ℕ
share p table run v i =
    let claims = claim p table run (slow_after p table run v) in
    min (claims i) (v - sum (λ k. on (before p k i) (claims k)) (counted p))

-- A run in which no job has ended, with the units that the jobs count as carried.
abbrev pub settled_run : (clock : Slots) (slow : Bool) (settled : List ℕ) → Run
settled_run clock slow settled = record { clock = clock; slow = slow; below = false; carried = settled; ended = [] }

-- A slot is shared out under the mark of its run, unless that is clear and the slot is slow: then the grant row stays.
abbrev pub Shared : (p : Plan) (table : List ℕ) (run : Run) (v : ℕ) (grants : List ℕ) (done : Bool) (left : List ℕ) → Type 0
Shared p table run v grants done left =
    (done ≡ (run.slow || not (slow_at p table run v))) × (left ≡ cond done (granted p table run v grants) grants)
