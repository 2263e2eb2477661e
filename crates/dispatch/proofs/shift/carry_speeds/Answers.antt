-- `dispatch::shift::carry_speeds` meets its contract: after k calls those that are left give the whole answer.
use mathlib.Core.Path.{◌≡◌, refl, sym, ◌∙◌, ap}
use Prim.Native.Nat.{ℕ, suc, ◌+◌, ◌*◌, ◌-◌, ◌≤◌, ◌<◌}
use native.Mathlib.Nat.{mul-le-mul, suc-mul}
use native.Mathlib.Omega.{arith}
use lib.ListN.{length, get_or, take, drop, length-set, length-take, length-drop}
use Rattle.base.specs.Below.{greatest}
use Rattle.plan.specs.Rules.{counted}
use Rattle.dispatch.specs.Answers.{run_at}
use Rattle.dispatch.specs.Step.{SlotEffect, slot_sound}
use Rattle.dispatch.specs.Inner.Columns.{plan_on}
use Rattle.dispatch.specs.Inner.Turns.{kept_goal}
use Rattle.dispatch.proofs.SlotsInTurn.{few_places, sound_stays, row_long, put_back_long, call_made, no_more_speeds}
use Rattle.dispatch.proofs.SoundColumns.{last_on}
use Rattle.dispatch.proofs.shift.carry_speeds.Goals as goal

-- Row k has room: there are rows for all speeds.
room_lem : {k n jobs count long all : ℕ} → k < n → jobs ≡ count → n * count ≤ long → all ≡ long → k * jobs + jobs ≤ all
room_lem {k} {n} {jobs} {count} {long} {all} h e lent same =
    let each : suc k * jobs ≤ n * jobs = mul-le-mul {n₁ = suc k} {m₁ = jobs} {n₂ = n} {m₂ = jobs} (omega arith) (omega arith) in
    omega (arith, suc-mul k jobs, ap (λ m. n * m) e)

pub loop-k-init : goal.loop-k-init
loop-k-init c =
    record {
      rest = refl;
      sound = c.requires.0;
      rows_long = refl;
      numbers_long = refl;
      goals-kept = λ k h.
          c.of-kept.ensures.1 k (omega (arith, c.counted_within-jobs.ensures))
          ∙ ap (λ s. kept_goal s c.args.cols.now.sizes c.args.table.now k) (sym c.of-kept.ensures.0);
    }

pub overflow_mul-row : goal.overflow_mul-row
overflow_mul-row c =
    record { fits = omega (arith, few_places c.loop-k.k c.counted_within-jobs.result (omega (arith, c.loop-k-test.true, c.requires.2)) (omega (arith, c.counted_within-jobs.ensures))) }

pub next_slot-slot-requires : goal.next_slot-slot-requires
next_slot-slot-requires c =
    let a = c.args in
    let inv = c.loop-k.invariant in
    let room = room_lem c.loop-k-test.true c.counted_within-jobs.ensures c.requires.3 inv.rows_long in (
      inv.sound,
      c.last_of-last.ensures ∙ ap (greatest (λ i. get_or a.cols.now.deadlines i 0)) c.counted_within-jobs.ensures ∙ sym (last_on a.cols.now),
      c.requires.1,
      rw (length-take, length-drop) (omega (arith, room, c.counted_within-jobs.ensures)),
      inv.goals-kept,
    )

pub loop-k-preserved : goal.loop-k-preserved
loop-k-preserved c =
    let a = c.args in
    let q = plan_on a.cols.now in
    let loop = c.loop-k in
    let inv = loop.invariant in
    let k : ℕ = loop.k in
    let jobs : ℕ = c.counted_within-jobs.result in
    let jobs_are : jobs ≡ counted q = c.counted_within-jobs.ensures in
    let room : k * jobs + jobs ≤ length loop.rows = room_lem c.loop-k-test.true jobs_are c.requires.3 inv.rows_long in
    let all = length loop.rows in
    let from = k * jobs in
    let was = run_at loop.next loop.carried a.ended.now in
    let v = get_or a.speeds.now k 0 in
    let lent = take (all - from) (drop from loop.rows) in
    let part = c.next_slot-slot.new.grants in
    let slot = rw (← c.unwrap_or-next.ensures) at c.next_slot-slot.ensures.0 in
    let inside : from ≤ all = omega (arith, room) in
    let fits : counted q ≤ length lent = rw (length-take, length-drop) (omega (arith, room, jobs_are)) in
    record {
      rest = call_made q a.table.now a.speeds.now k was _ loop.rows loop.numbers part _ _ jobs all
          c.loop-k-test.true jobs_are refl inside slot c.number_of.ensures
          ∙ inv.rest;
      sound = ap (λ (s : SlotEffect). slot_sound q s.run) slot ∙ sound_stays q a.table.now was v lent inv.sound;
      rows_long = put_back_long loop.rows from all refl inside part
          (ap (λ (s : SlotEffect). length s.grants) slot ∙ row_long q a.table.now was v lent fits) ∙ inv.rows_long;
      numbers_long = rw length-set inv.numbers_long;
      goals-kept = c.next_slot-slot.ensures.1;
    }

pub returns : goal.returns
returns c =
    let inv = c.loop-k.invariant in
    sym (no_more_speeds _ _ _ _ _ _ _ (omega (arith, c.loop-k-test.false))) ∙ inv.rest
