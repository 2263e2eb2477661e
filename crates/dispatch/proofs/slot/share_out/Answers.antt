-- `dispatch::slot::share_out` meets its contract: a slot that is not shared out under the mark of the run is slow, and then shared
-- out under the slow mark.
use mathlib.Core.Bool.{true, true≢false}
use Rattle.dispatch.specs.Inner.Columns.{plan_on}
use Rattle.dispatch.specs.Inner.Shares.{settled_run}
use Rattle.dispatch.proofs.SlotOver.{shared_under, shared_slow, shared_long}
use Rattle.dispatch.proofs.Sharing.{sizes_are_goals}
use Rattle.dispatch.proofs.slot.share_out.Goals as goal

pub returns-then-share_under : goal.returns-then-share_under
returns-then-share_under c =
    let a = c.args in
    shared_under (plan_on a.cols.now) a.dues.now.goals.table.now (settled_run a.clock a.slow a.dues.now.carried.now) a.v.0 a.grants.now c.share_under.ensures c.if-share_under.true

pub share_under-requires-2 : goal.share_under-requires-2
share_under-requires-2 c =
    let a = c.args in (
      shared_long (plan_on a.cols.now) a.dues.now.goals.table.now (settled_run a.clock a.slow a.dues.now.carried.now) a.v.0 a.grants.now c.share_under.ensures c.if-share_under.false c.requires.0,
      c.requires.1,
      c.requires.2,
      sizes_are_goals a.cols.now a.dues.now.goals.table.now a.clock true 0 (λ e. absurd (true≢false e)),
    )

pub returns : goal.returns
returns c =
    let a = c.args in
    shared_slow (plan_on a.cols.now) a.dues.now.goals.table.now a.clock a.slow a.dues.now.carried.now a.v.0 a.grants.now
    c.share_under.ensures c.if-share_under.false c.share_under-2.ensures
