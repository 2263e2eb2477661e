-- The counted jobs of a plan as a list, and as jobs at positions.
use mathlib.Core.Path.{◌≡◌, sym, ◌∙◌, ap}
use mathlib.Core.Bool.{Bool}
use mathlib.Core.List.{List, map}
use Prim.Native.Nat.{ℕ, ◌≤◌, ◌<◌, min}
use lib.ListN.{length, get_or, take, length-map, get_or-map}
use lib.Seq.{length-take-le, get_or-take}
use Rattle.std.specs.List.{list_all, reduce}
use Rattle.std.specs.Option.{unwrap_or}
use Rattle.base.specs.Below.{every, least}
use Rattle.base.proofs.Below.{every_ext, every_element, least_ext, least_element}
use Rattle.plan.specs.Rules.{counted, job_of, no_job}
use Rattle.plan.specs.declared.kinds.Job.{Job}
use Rattle.plan.specs.declared.kinds.Plan.{Plan}

-- The job at a position of the list is the plan's job there.
pub counted_job : (p : Plan) (l : List Job) (i : ℕ) → l ≡ take (counted p) p.jobs → i < counted p → get_or l i no_job ≡ job_of p i
counted_job p l i e h = rw e (get_or-take (counted p) p.jobs i no_job h)

-- A test of each job of the list is the test of each position.
pub every_job : (test : Job → Bool) (p : Plan) (l : List Job) → l ≡ take (counted p) p.jobs → counted p ≤ length p.jobs
    → list_all test l ≡ every (λ i. test (job_of p i)) (counted p)
every_job test p l e h =
    rw e (every_element test no_job (take (counted p) p.jobs)
    ∙ ap (every (λ k. test (get_or (take (counted p) p.jobs) k no_job))) (length-take-le (counted p) p.jobs h)
    ∙ every_ext _ _ (counted p) (λ k l. ap test (get_or-take (counted p) p.jobs k no_job l)))

-- The least of a number of each job, from the list of these numbers.
pub least_of_jobs : (f : Job → ℕ) (p : Plan) (l : List Job) → f no_job ≡ 0 → length l ≡ counted p
    → ((i : ℕ) → i < counted p → get_or l i no_job ≡ job_of p i) → unwrap_or (reduce min (map f l)) 0 ≡ least (λ i. f (job_of p i)) (counted p)
least_of_jobs f p l none long each =
    least_element (map f l) ∙ ap (least (λ k. get_or (map f l) k 0)) (length-map l f ∙ long)
    ∙ least_ext _ _ (counted p) (λ k h. ap (get_or (map f l) k) (sym none) ∙ get_or-map f l k no_job ∙ ap f (each k h))
