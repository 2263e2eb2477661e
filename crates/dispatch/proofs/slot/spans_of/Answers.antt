-- `dispatch::slot::spans_of` meets its contract: without the slow mark it is
-- the number of intervals begun.
use mathlib.Core.Path.{refl, sym, ◌∙◌}
use mathlib.Core.Bool.{true≢false}
use native.Mathlib.Omega.{arith}
use Rattle.dispatch.proofs.slot.spans_of.Goals as goal

pub returns-then-slow : goal.returns-then-slow
returns-then-slow c =
    (λ slow. refl, λ p normal counts released due. absurd (true≢false (sym c.if-slow.true ∙ normal)))

pub overflow_cast-result : goal.overflow_cast-result
overflow_cast-result c =
    omega (arith, c.begun_by.ensures.0)

pub returns : goal.returns
returns c = (
  λ slow. absurd (true≢false (sym slow ∙ c.if-slow.false)),
  λ p normal counts released due. (c.begun_by.ensures.1 p counts released due).0,
)
