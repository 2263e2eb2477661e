-- `desk::task::Task::of` meets its contract: under rules 4 to 9 the sizes have room in their column, and there is a boundary.
use Rattle.std.proofs.Common.{arith, ◌≡◌, ◌∙◌, ap, sym, refl, true, not, is_ok}
use mathlib.Core.Bool.{true≢false}
use borrow.Author.Tests.{not-false}
use Rattle.base.proofs.Logic.{if_true}
use Rattle.plan.specs.Rules.{rules_hold}
use Rattle.plan.specs.Columns.{sizes_fit}
use Rattle.plan.specs.declared.columns.TheConstants.Columns.{EMPTY}
use Rattle.plan.specs.declared.boundaries.Boundaries.{Boundaries}
use Rattle.plan.specs.declared.kinds.Plan.{Plan}
use Rattle.plan.proofs.ColumnLaws.{columns_put, sizes_too_large}
use Rattle.plan.proofs.Soundness.{rules_parts}
use Rattle.judge.proofs.HandFault.{in_their_room}
use Rattle.desk.proofs.CodeLaws.{boundaries_within}
use Rattle.desk.proofs.task.Task.of.Goals as goal

-- Rules 4 to 9 give the sizes room.
fit : (p : Plan) → rules_hold p ≡ true → sizes_fit p ≡ true
fit p rules = if_true (sizes_fit p) (λ e. e) (λ e. absurd (true≢false (sym (rules_parts p rules).bounds ∙ sizes_too_large p e)))

pub returns-in_err-put : goal.returns-in_err-put
returns-in_err-put c =
    let rules = sym c.rules_hold.ensures ∙ not-false _ (ap not c.if-not-rules_hold.false) in
    let done = rw (fit c.args.p rules) at c.put.ensures.0 in
    absurd (true≢false (ap is_ok (sym done ∙ c.in_err-put.was)))

pub invariant_of-result : goal.invariant_of-result
invariant_of-result c =
    let rules = sym c.rules_hold.ensures ∙ not-false _ (ap not c.if-not-rules_hold.false) in
    let within = boundaries_within c.args.p rules in
    let many = ap (λ (b : Boundaries). b.count) c.boundaries_of-boundaries.ensures in
    record { some = omega (arith, many, within.0); within = omega (arith, many, within.1) }

pub returns : goal.returns
returns c =
    let rules = sym c.rules_hold.ensures ∙ not-false _ (ap not c.if-not-rules_hold.false) in
    record {
      rules = rules;
      columns = rw c.put.ensures.1 (columns_put c.args.p EMPTY (fit c.args.p rules) refl refl refl refl);
      times = (in_their_room _ _ c.boundaries_of-boundaries.ensures).0;
    }
