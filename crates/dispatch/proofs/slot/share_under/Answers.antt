-- `dispatch::slot::share_under` meets its contract: the claims, if all of them fit, or what the jobs get
-- in turns, are what the rules grant.
use mathlib.Core.Path.{◌≡◌, refl, ◌∙◌, ap, ap₂}
use mathlib.Core.Bool.{Bool}
use mathlib.Core.List.{List}
use Prim.Native.Nat.{ℕ, ◌*◌, min}
use native.Mathlib.Nat.{mul-one}
use native.Mathlib.Omega.{arith}
use lib.ListN.{get_or}
use Rattle.base.specs.Fill.{filled}
use Rattle.base.proofs.FillLaws.{filled_ext}
use Rattle.plan.specs.Edition.{most_jobs}
use Rattle.plan.specs.declared.kinds.Units.{Units}
use Rattle.dispatch.specs.declared.Run.{Run}
use Rattle.dispatch.specs.Inner.Shares.{settled_run}
use Rattle.dispatch.specs.Inner.Turns.{served_in, goal_by, due_by, claim_by, Claimed, in_turns}
use Rattle.dispatch.proofs.Sharing.{shared_claims, shared_not, shared_turns, slow_test, normal_test, claims_known, claims_all}
use Rattle.dispatch.proofs.slot.share_under.Goals as goal

-- The same claims, for an equal speed and an equal number of jobs.
same-claims : {claim : ℕ → ℕ} {v w m n : ℕ} {row : List ℕ} {fit : Bool} → v ≡ w → m ≡ n → Claimed claim v m row fit → Claimed claim w n row fit
same-claims e q told = rw (← e, ← q) told

-- A speed for one slot is that many units.
one-slot : {v : ℕ} {most : Units} → most ≡ record { 0 = v * 1 } → most.0 ≡ v
one-slot {v} e = ap (λ (u : Units). u.0) e ∙ mul-one v

pub all_fit-requires : goal.all_fit-requires
all_fit-requires c =
    (omega (arith, c.counted_within-jobs.ensures), omega (arith, one-slot c.over-most.ensures, c.requires.2), refl)

pub returns-then-all_fit : goal.returns-then-all_fit
returns-then-all_fit c =
    let a = c.args in
    let run : Run = settled_run a.clock a.slow a.dues.now.carried.now in
    let claim = claim_by a.clock.0 a.slow a.cols.now a.dues.now in
    let n = min a.cols.now.count most_jobs in
    let told = same-claims (one-slot c.over-most.ensures) c.counted_within-jobs.ensures c.all_fit.ensures in
    let shared = shared_claims a.cols.now a.dues.now.goals.table.now run a.v.0 refl (goal_by a.dues.now.goals) c.requires.3
    a.grants.now c.requires.0 (told.sums c.if-all_fit.true).1 in (
      shared.0,
      c.grant_claims.ensures
          ∙ ap (λ m. filled (λ k. get_or c.all_fit.new.claims k 0) m a.grants.now) c.counted_within-jobs.ensures
          ∙ filled_ext (λ k. get_or c.all_fit.new.claims k 0) claim n a.grants.now (claims_all claim a.v.0 n (omega arith) told c.if-all_fit.true)
          ∙ shared.1,
    )

pub returns-then-slow-v : goal.returns-then-slow-v
returns-then-slow-v c =
    let a = c.args in
    let run : Run = settled_run a.clock a.slow a.dues.now.carried.now in
    let told = same-claims (one-slot c.over-most.ensures) c.counted_within-jobs.ensures c.all_fit.ensures in
    let test = slow_test a.slow a.v.0 a.cols.now.n.0 c.if-slow-v.true in
    shared_not a.cols.now a.dues.now.goals.table.now run a.v.0 refl (goal_by a.dues.now.goals) c.requires.3 a.grants.now test.0 test.1 (told.over c.if-all_fit.false)

pub serve_in_turns-requires : goal.serve_in_turns-requires
serve_in_turns-requires c =
    let a = c.args in
    let jobs = c.counted_within-jobs.ensures in
    let told = same-claims (one-slot c.over-most.ensures) jobs c.all_fit.ensures in (
      omega (arith, jobs),
      rw jobs c.requires.0,
      λ k l. c.requires.1 k (omega (arith, jobs)),
      λ k l. claims_known (claim_by a.clock.0 a.slow a.cols.now a.dues.now) (due_by a.dues.now)
          (served_in a.clock.0 a.slow a.cols.now) a.v.0 (min a.cols.now.count most_jobs) (λ i. refl) (omega arith) told k
          (omega (arith, jobs)),
    )

pub returns : goal.returns
returns c =
    let a = c.args in
    let run : Run = settled_run a.clock a.slow a.dues.now.carried.now in
    let shared = shared_turns a.cols.now a.dues.now.goals.table.now run a.v.0 refl (goal_by a.dues.now.goals) c.requires.3
    a.grants.now c.requires.0 (normal_test a.slow a.v.0 a.cols.now.n.0 c.if-slow-v.false) in (
      shared.0,
      c.serve_in_turns.ensures
          ∙ ap₂ (λ x m. in_turns a.clock.0 a.slow a.cols.now (due_by a.dues.now) x m (filled (λ k. 0) m a.grants.now)) (one-slot c.over-most.ensures) c.counted_within-jobs.ensures
          ∙ shared.1,
    )
