-- `dispatch::slot::carry_slot` meets its contract: with the jobs settled, the shares are the grants, and the run takes them.
use mathlib.Core.Path.{◌≡◌, refl, sym, ◌∙◌, ap}
use mathlib.Core.Bool.{Bool, true, false}
use mathlib.Core.List.{List}
use Prim.Native.Nat.{ℕ, ◌+◌, ◌<◌}
use native.Mathlib.Omega.{arith}
use lib.ListN.{get_or, replicate, length-replicate}
use Rattle.base.specs.Fill.{filled}
use Rattle.base.proofs.FillLaws.{filled_at}
use Rattle.plan.specs.Edition.{most_jobs}
use Rattle.plan.specs.Rules.{counted}
use Rattle.plan.specs.declared.columns.Columns.{Columns}
use Rattle.plan.specs.declared.kinds.Plan.{Plan}
use Rattle.dispatch.specs.declared.Run.{Run}
use Rattle.dispatch.specs.Answers.{run_at}
use Rattle.dispatch.specs.Dues.{carried_of, ended_of, slow_after}
use Rattle.dispatch.specs.Step.{granted}
use Rattle.dispatch.specs.Inner.Columns.{plan_on}
use Rattle.dispatch.specs.Inner.Shares.{settled_of}
use Rattle.dispatch.specs.Inner.Turns.{settled_in}
use Rattle.dispatch.proofs.RowShares.{granted_length}
use Rattle.dispatch.proofs.SlotOver.{same_room, same_sums, carried_fits, settled_mark, settled_granted, slot_run}
use Rattle.dispatch.proofs.SlotSoundness.{SlotSound, slot_sound_lem}
use Rattle.dispatch.proofs.SoundColumns.{size_on, deadline_on}
use Rattle.dispatch.proofs.slot.carry_slot.Goals as goal

abbrev settled_by : Bool → ℕ → ℕ → ℕ
settled_by true s c = s
settled_by false s c = c

pub share_out-slow-requires : goal.share_out-slow-requires
share_out-slow-requires c =
    let cols : Columns = c.args.cols.now in
    let run : Run = run_at c.args.at c.args.carried.now c.args.ended.now in
    let q : Plan = plan_on cols in
    let parts : SlotSound q run = slot_sound_lem q run c.requires.0 in (
      c.requires.1,
      λ k l. rw (← (deadline_on cols k l)) (parts.rules.deadlines k l),
      omega (arith, c.requires.2, parts.rules.rate),
      c.requires.3,
    )

pub carry_grants-requires : goal.carry_grants-requires
carry_grants-requires c =
    let table : List ℕ = c.args.goals.now.table.now in
    let v : ℕ = c.args.v.0 in
    let grants : List ℕ = c.args.grants.now in
    let run : Run = run_at c.args.at c.args.carried.now c.args.ended.now in
    let cols : Columns = c.args.cols.now in
    let q : Plan = plan_on cols in
    let parts : SlotSound q run = slot_sound_lem q run c.requires.0 in
    let settled : List ℕ = c.settle.new.settled in
    let settled_is : (k : ℕ) → k < counted q → get_or settled k 0 ≡ settled_of q run k
    = λ k l. ap (λ r. get_or r k 0) c.settle.ensures
    ∙ filled_at (settled_in run.ended cols.sizes run.carried) most_jobs (replicate most_jobs 0) k (rw (length-replicate {A = ℕ} most_jobs 0) (omega arith)) (omega arith)
    ∙ ap (λ s. settled_by (ended_of run k) s (carried_of run k)) (sym (size_on cols k l)) in
    let left : List ℕ = c.share_out-slow.new.grants in
    let grants-are : left ≡ granted q table run v grants
    = c.share_out-slow.ensures.1
    ∙ settled_granted q table run settled v settled_is grants c.requires.1 in
    let jobs : c.counted_within-jobs.result ≡ counted q = c.counted_within-jobs.ensures in (
      omega (arith, jobs),
      same_room jobs grants-are (rw (granted_length q table run v grants c.requires.1) c.requires.1),
      λ k l. same_sums (carried_of run k) k grants-are
          (carried_fits q table run v grants parts k (omega (arith, jobs))),
    )

pub returns : goal.returns
returns c =
    let table : List ℕ = c.args.goals.now.table.now in
    let v : ℕ = c.args.v.0 in
    let grants : List ℕ = c.args.grants.now in
    let run : Run = run_at c.args.at c.args.carried.now c.args.ended.now in
    let cols : Columns = c.args.cols.now in
    let q : Plan = plan_on cols in
    let left : List ℕ = c.share_out-slow.new.grants in
    let settled : List ℕ = c.settle.new.settled in
    let settled_is : (k : ℕ) → k < counted q → get_or settled k 0 ≡ settled_of q run k
    = λ k l. ap (λ r. get_or r k 0) c.settle.ensures
    ∙ filled_at (settled_in run.ended cols.sizes run.carried) most_jobs (replicate most_jobs 0) k (rw (length-replicate {A = ℕ} most_jobs 0) (omega arith)) (omega arith)
    ∙ ap (λ s. settled_by (ended_of run k) s (carried_of run k)) (sym (size_on cols k l)) in
    let grants-are : left ≡ granted q table run v grants
    = c.share_out-slow.ensures.1
    ∙ settled_granted q table run settled v settled_is grants c.requires.1 in
    let slow_is : c.share_out-slow.result ≡ slow_after q table run v
    = c.share_out-slow.ensures.0 ∙ settled_mark q table run settled v settled_is in
    let jobs : c.counted_within-jobs.result ≡ counted q = c.counted_within-jobs.ensures in (
      slot_run q table run v grants c.requires.1 refl slow_is
          c.below_after-below.ensures grants-are
          (c.carry_grants.ensures ∙ ap (λ m. filled (λ k. carried_of run k + get_or left k 0) m run.carried) jobs),
      grants-are,
    )

pub overflow_add-result : goal.overflow_add-result
overflow_add-result c =
    let a = c.args in
    let parts = slot_sound_lem (plan_on a.cols.now) (run_at c.args.at c.args.carried.now c.args.ended.now) c.requires.0 in
    omega (arith, parts.not_over, parts.rules.last)
