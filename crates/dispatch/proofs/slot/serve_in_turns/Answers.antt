-- `dispatch::slot::serve_in_turns` meets its contract: the HI jobs are served, and then the others with what is left.
use mathlib.Core.Path.{◌≡◌, sym, ◌∙◌, ap}
use mathlib.Core.Bool.{Bool, false}
use mathlib.Core.List.{List}
use Prim.Native.Nat.{ℕ, ◌%◌, ◌<◌}
use native.Mathlib.Omega.{arith}
use lib.Dec.{eqb}
use lib.ListN.{length, get_or}
use Rattle.base.specs.Fill.{filled}
use Rattle.base.proofs.FillLaws.{filled_at, filled_length}
use Rattle.base.proofs.Logic.{neither}
use Rattle.plan.specs.Edition.{most_jobs}
use Rattle.plan.specs.Rules.{hi}
use Rattle.dispatch.specs.Order.{queue, serve}
use Rattle.dispatch.specs.Inner.Turns.{in_window_in, class_in, rank_in, due_by}
use Rattle.dispatch.proofs.Queues.{serve_length}
use Rattle.dispatch.proofs.TurnLaws.{hi_served, other_served, others_wait, hi_alone, then_others}
use Rattle.dispatch.proofs.slot.serve_in_turns.Goals as goal

pub serve_hi-rest-requires : goal.serve_hi-rest-requires
serve_hi-rest-requires c =
    let live : ℕ → Bool
    = in_window_in c.args.clock.0 c.args.cols.now in
    let is_hi : ℕ → Bool = λ k. eqb (get_or c.args.cols.now.grades k 0) hi in (
      c.requires.0,
      c.requires.1,
      c.requires.2,
      λ k h passes. c.requires.3 k h (hi_served (live k) (is_hi k) c.args.slow passes),
    )

pub shape_of-grants-then-slow-rest : goal.shape_of-grants-then-slow-rest
shape_of-grants-then-slow-rest c =
    let as_long : length c.serve_hi-rest.new.grants ≡ length c.args.grants.now
    = ap length c.serve_hi-rest.ensures.0 ∙ serve_length _ _ _ _ ∙ filled_length _ _ _ in
    as_long

pub returns-then-slow-rest : goal.returns-then-slow-rest
returns-then-slow-rest c =
    let blank : List ℕ = filled (λ k. 0) c.args.jobs c.args.grants.now in
    let none : (k : ℕ) → k < c.args.jobs → get_or blank k 0 ≡ 0
    = λ k h. filled_at (λ k. 0) c.args.jobs c.args.grants.now k (omega (arith, c.requires.1)) h in
    let dues : ℕ → ℕ
    = due_by c.args.dues.now in
    let a = c.args in
    c.serve_hi-rest.ensures.0
    ∙ sym (hi_alone a.clock.0 a.cols.now dues a.v.0 a.jobs blank none
    a.slow c.serve_hi-rest.ensures.1 c.if-slow-rest.true)

pub serve_gathered-requires : goal.serve_gathered-requires
serve_gathered-requires c =
    let live : ℕ → Bool
    = in_window_in c.args.clock.0 c.args.cols.now in
    let is_hi : ℕ → Bool = λ k. eqb (get_or c.args.cols.now.grades k 0) hi in
    let as_long : length c.serve_hi-rest.new.grants ≡ length c.args.grants.now
    = ap length c.serve_hi-rest.ensures.0 ∙ serve_length _ _ _ _ ∙ filled_length _ _ _ in
    let not-slow : c.args.slow ≡ false
    = (neither c.args.slow (eqb c.serve_hi-rest.result.0 0) c.if-slow-rest.false).0 in
    let pre = c.requires in
    let g = c.gather-others.ensures in (
      omega (arith, g.few, pre.0),
      λ k h. omega (arith, g.from k h, pre.1, as_long),
      λ k h.
          let i = get_or c.gather-others.new.ranks k 0 % most_jobs in
          c.serve_hi-rest.ensures.2 i (pre.3 i (g.from k h) (other_served (live i) (is_hi i) c.args.slow not-slow (g.passes k h))),
    )

pub returns : goal.returns
returns c =
    let blank : List ℕ = filled (λ k. 0) c.args.jobs c.args.grants.now in
    let none : (k : ℕ) → k < c.args.jobs → get_or blank k 0 ≡ 0
    = λ k h. filled_at (λ k. 0) c.args.jobs c.args.grants.now k (omega (arith, c.requires.1)) h in
    let rank : ℕ → ℕ = rank_in c.args.cols.now in
    let dues : ℕ → ℕ
    = due_by c.args.dues.now in
    let not-slow : c.args.slow ≡ false
    = (neither c.args.slow (eqb c.serve_hi-rest.result.0 0) c.if-slow-rest.false).0 in
    let rest = c.serve_hi-rest.result.0 in
    let a = c.args in
    let waits = others_wait a.clock.0 a.cols.now dues a.v.0 a.jobs blank none in
    let told =
    c.serve_gathered.ensures (class_in false c.args.clock.0 c.args.cols.now) rank a.jobs c.gather-others.ensures
    (λ k h e. ap (λ row. get_or row k 0) c.serve_hi-rest.ensures.0 ∙ waits k h e) in
    told.0
    ∙ ap (serve dues rest (queue (class_in false c.args.clock.0 c.args.cols.now) rank a.jobs)) c.serve_hi-rest.ensures.0
    ∙ sym (then_others a.clock.0 a.cols.now dues a.v.0 a.jobs blank none
    a.slow c.serve_hi-rest.ensures.1 not-slow)
