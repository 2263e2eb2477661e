-- `dispatch::shift::next_slot` meets its contract: of a sound run with long enough buffers, 19 and 20 are all that is left
-- to test, and the goals that are kept are those of the slot.
use mathlib.Core.Path.{refl, sym, ◌∙◌, ap}
use native.Mathlib.Omega.{arith}
use Rattle.dispatch.specs.Answers.{run_at}
use Rattle.dispatch.specs.Inner.Columns.{plan_on}
use Rattle.dispatch.specs.Inner.Turns.{kept_goal}
use Rattle.dispatch.proofs.SlotOver.{slot_refused, slot_done}
use Rattle.dispatch.proofs.SlotsInTurn.{late_fault, fast_fault, no_fault, kept_are_goals}
use Rattle.dispatch.proofs.SoundColumns.{release_on, deadline_on}
use Rattle.dispatch.proofs.shift.next_slot.Goals as goal

pub returns-then-at-last : goal.returns-then-at-last
returns-then-at-last c =
    let a = c.args in
    let q = plan_on a.cols.now in
    let run = run_at a.at a.carried.now a.ended.now in (
      slot_refused q a.table.now run a.v a.grants.now
          (sym (late_fault q a.table.now run a.v a.grants.now c.requires.0 c.requires.2 c.requires.3 (c.if-at-last.true ∙ c.requires.1))) refl,
      c.requires.4,
    )

pub returns-then-cols-v : goal.returns-then-cols-v
returns-then-cols-v c =
    let a = c.args in
    let q = plan_on a.cols.now in
    let run = run_at a.at a.carried.now a.ended.now in (
      slot_refused q a.table.now run a.v a.grants.now
          (sym (fast_fault q a.table.now run a.v a.grants.now c.requires.0 c.requires.2 c.requires.3
          (λ e. c.if-at-last.false (e ∙ sym c.requires.1)) c.if-cols-v.true)) refl,
      c.requires.4,
    )

pub carry_slot-requires : goal.carry_slot-requires
carry_slot-requires c =
    let a = c.args in
    let q = plan_on a.cols.now in (
      c.requires.0,
      c.requires.3,
      c.if-cols-v.false,
      kept_are_goals a.cols.now a.table.now c.renew.new.self.goals a.at.clock a.at.slow c.spans_of-begun.result
          c.spans_of-begun.ensures.0
          (λ e. c.spans_of-begun.ensures.1 q e refl (λ i h. sym (release_on a.cols.now i h)) (λ i h. sym (deadline_on a.cols.now i h)))
          (λ k h. c.renew.ensures.1 k (omega (arith, c.counted_within.ensures))),
    )

pub returns : goal.returns
returns c =
    let a = c.args in
    let q = plan_on a.cols.now in
    let run = run_at a.at a.carried.now a.ended.now in (
      slot_done q a.table.now run a.v a.grants.now
          (sym (no_fault q a.table.now run a.v a.grants.now c.requires.0 c.requires.2 c.requires.3
          (λ e. c.if-at-last.false (e ∙ sym c.requires.1)) c.if-cols-v.false)) refl c.carry_slot.ensures.0 c.carry_slot.ensures.1,
      λ k h. c.renew.ensures.1 k (omega (arith, c.counted_within.ensures)) ∙ ap (λ s. kept_goal s a.cols.now.sizes a.table.now k) (sym c.renew.ensures.0),
    )
