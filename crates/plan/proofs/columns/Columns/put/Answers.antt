-- `plan::columns::Columns::put` meets its contract.
use Rattle.std.proofs.Common.{arith, refl, sym, ◌≡◌, ◌∙◌}
use Rattle.std.proofs.lemmas.Bool.{le-ltb, lt-ltb}
use Rattle.std.proofs.lemmas.List.{get_or-take}
use native.Mathlib.Numerals.{add-one}
use Rattle.base.specs.Fill.{filled}
use Rattle.base.proofs.Below.{every_start, every_next}
use Rattle.base.proofs.BitLaws.{or_below}
use Rattle.plan.specs.Rules.{no_job, size, counted}
use Rattle.plan.specs.Columns.{column_values}
use Rattle.plan.proofs.columns.Columns.put.Goals as goal

pub loop-i-init : goal.loop-i-init
unfolding filled
loop-i-init c = (sym (every_start _), refl)

pub loop-i-preserved : goal.loop-i-preserved
unfolding filled
loop-i-preserved c =
    let e = get_or-take c.counted_of-jobs.result c.args.p.jobs c.loop-i.i no_job (omega arith) in (
      rw e (or_below 32 c.loop-i.bits (size c.args.p c.loop-i.i) ∙ every_next _ _ c.loop-i.invariant.0 refl),
      rw (c.loop-i.invariant.1, c.from.ensures, e, add-one) refl,
    )

pub returns-then-bits-lt-COLUMN_VALUES : goal.returns-then-bits-lt-COLUMN_VALUES
returns-then-bits-lt-COLUMN_VALUES c =
    let whole : c.loop-i.i ≡ counted c.args.p = omega arith in
    let inv = rw whole at c.loop-i.invariant in
    (rw (← inv.0, lt-ltb c.loop-i.bits column_values c.if-bits-lt-COLUMN_VALUES.true) refl, inv.1)

pub returns-else-bits-lt-COLUMN_VALUES : goal.returns-else-bits-lt-COLUMN_VALUES
returns-else-bits-lt-COLUMN_VALUES c =
    let whole : c.loop-i.i ≡ counted c.args.p = omega arith in
    let inv = rw whole at c.loop-i.invariant in
    (rw (← inv.0, le-ltb c.loop-i.bits column_values c.if-bits-lt-COLUMN_VALUES.false) refl, inv.1)
