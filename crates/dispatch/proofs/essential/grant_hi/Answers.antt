-- `dispatch::essential::grant_hi` meets its contract: after i iterations what is due to the HI jobs among the first i is
-- written and added up, and every claim that was right still is.
use mathlib.Core.Path.{◌≡◌, sym, ◌∙◌, ap}
use mathlib.Core.Bool.{Bool, true}
use Prim.Native.Nat.{ℕ, ◌≤◌}
use native.Mathlib.Omega.{arith}
use lib.ListN.{length}
use Rattle.base.specs.Sum.{on}
use Rattle.base.proofs.FillLaws.{filled_start, filled_next, filled_length}
use Rattle.base.proofs.SumLaws.{sum_start, sum_step}
use Rattle.dispatch.specs.Inner.Turns.{class_in, due_by, unknown, KnownDue}
use Rattle.dispatch.proofs.TurnLaws.{same_known, noted}
use Rattle.dispatch.proofs.essential.grant_hi.Goals as goal
use Rattle.dispatch.proofs.essential.grant_hi.Goals.{else-is_of, then-is_of}

pub loop-i-init : goal.loop-i-init
loop-i-init c =
    (sym (filled_start _ _), sym (sum_start _), omega arith, λ k known. known)

pub returns-then-v-total : goal.returns-then-v-total
returns-then-v-total c =
    let inv = c.loop-i.invariant in
    (record { reached = c.loop-i.i; within = omega arith; filled_to = inv.0; adds_up = inv.1; whole = λ fits. omega arith }, inv.3)

pub claimed-due-requires : goal.claimed-due-requires
claimed-due-requires c =
    let i = c.loop-i.i in
    (omega (arith, c.requires.0), c.loop-i.invariant.3 i (c.requires.2 i (omega arith) (sym c.is_of.ensures ∙ c.if-is_of.true)))

pub bounds-grants-i : goal.bounds-grants-i
bounds-grants-i c =
    let a = c.args in
    omega (arith, c.requires.1, ap length c.loop-i.invariant.0, filled_length (λ k. on (class_in true a.clock.0 a.cols.now k) (due_by a.dues.now k)) c.loop-i.i a.grants.now)

pub overflow_add-total : goal.overflow_add-total
overflow_add-total c =
    let small : c.if-is_of.due ≤ unknown
    = elim c.if-is_of.branch [
      | then-is_of w ↦ omega (arith, w.due-is, w.claimed-due.type_inv)
      | else-is_of w ↦ omega (arith, w.due-is)
    ] in
    record { fits = omega (arith, small, c.from.ensures, c.loop-i.invariant.2, c.requires.0) }

pub loop-i-preserved : goal.loop-i-preserved
loop-i-preserved c =
    let a = c.args in
    let class : ℕ → Bool = class_in true a.clock.0 a.cols.now in
    let dues : ℕ → ℕ = due_by a.dues.now in
    let i : ℕ = c.loop-i.i in
    let inv = c.loop-i.invariant in
    let granted : c.if-is_of.due ≡ on (class i) (dues i)
    = elim c.if-is_of.branch [
      | then-is_of w ↦ w.due-is ∙ w.claimed-due.ensures ∙ ap (λ b. on b (dues i)) (sym w.if-is_of.true ∙ c.is_of.ensures)
      | else-is_of w ↦ w.due-is ∙ ap (λ b. on b (dues i)) (sym w.if-is_of.false ∙ c.is_of.ensures)
    ] in
    let small : c.if-is_of.due ≤ unknown
    = elim c.if-is_of.branch [
      | then-is_of w ↦ omega (arith, w.due-is, w.claimed-due.type_inv)
      | else-is_of w ↦ omega (arith, w.due-is)
    ] in
    let right : (k : ℕ) → KnownDue a.claims.now dues k → KnownDue c.if-is_of.claims dues k
    = λ k was. let now = inv.3 k was in
    elim c.if-is_of.branch [
      | then-is_of w ↦ same_known dues k w.claims-is (noted dues c.loop-i.claims i _ k w.claimed-due.ensures now)
      | else-is_of w ↦ same_known dues k w.claims-is now
    ] in (
      filled_next _ i _ inv.0 granted,
      omega (arith, c.from.ensures, inv.1, granted, sum_step (λ k. on (class k) (dues k)) i),
      omega (arith, small, c.from.ensures, inv.2),
      right,
    )

pub shape_of-grants : goal.shape_of-grants
shape_of-grants c =
    ap length c.loop-i.invariant.0 ∙ filled_length _ _ _

pub returns : goal.returns
returns c =
    let inv = c.loop-i.invariant in
    (record { reached = c.loop-i.i; within = omega arith; filled_to = inv.0; adds_up = inv.1; whole = λ fits. omega arith }, inv.3)
