-- `dispatch::essential::serve_hi` meets its contract: what is due to the HI jobs, if it fits, is what they are served; if
-- it does not, or was not looked at, they are served in turns.
use mathlib.Core.Path.{◌≡◌, ◌∙◌, ap}
use mathlib.Core.Bool.{Bool, true}
use mathlib.Core.List.{List}
use Prim.Native.Nat.{ℕ, ◌-◌, ◌%◌, ◌<◌}
use native.Mathlib.Omega.{arith}
use lib.ListN.{length, get_or}
use Rattle.base.specs.Fill.{filled}
use Rattle.base.specs.Sum.{sum, on}
use Rattle.base.proofs.FillLaws.{filled_at, filled_length}
use Rattle.plan.specs.Edition.{most_jobs}
use Rattle.dispatch.specs.Order.{queue, serve}
use Rattle.dispatch.specs.Inner.Turns.{class_in, rank_in, due_by, KnownDue}
use Rattle.dispatch.proofs.Queues.{serve_length}
use Rattle.dispatch.proofs.TurnLaws.{granted_served, granted_cleared, same_known}
use Rattle.dispatch.proofs.essential.serve_hi.Goals as goal
use Rattle.dispatch.proofs.essential.serve_hi.Goals.{then-slow-claims+else-total-v, else-slow-claims}

pub grant_hi-total-requires : goal.grant_hi-total-requires
grant_hi-total-requires c =
    (c.requires.0, c.requires.1, c.requires.3)

pub returns-then-total-v : goal.returns-then-total-v
returns-then-total-v c =
    let class : ℕ → Bool
    = class_in true c.args.clock.0 c.args.cols.now in
    let rank : ℕ → ℕ = rank_in c.args.cols.now in
    let dues : ℕ → ℕ
    = due_by c.args.dues.now in
    let a = c.args in
    let served =
    granted_served class rank dues a.v.0 a.jobs a.grants.now c.requires.1 c.grant_hi-total.ensures.0
    c.if-total-v.true in
    (served.0, ap (λ s. a.v.0 - s) served.1, c.grant_hi-total.ensures.1)

pub clear_grants-requires : goal.clear_grants-requires
clear_grants-requires c =
    let class : ℕ → Bool
    = class_in true c.args.clock.0 c.args.cols.now in
    let dues : ℕ → ℕ
    = due_by c.args.dues.now in
    let blank : List ℕ = filled (λ k. 0) c.args.jobs c.args.grants.now in
    let as_before : (filled (λ k. 0) c.args.jobs c.if-slow-claims.grants ≡ blank) × (length c.if-slow-claims.grants ≡ length c.args.grants.now)
    = elim c.if-slow-claims.branch [
      | then-slow-claims+else-total-v w ↦ let cleared =
          granted_cleared (λ k. on (class k) (dues k)) c.args.v.0 c.args.jobs c.args.grants.now w.grant_hi-total.ensures.0 in
          (ap (filled (λ k. 0) c.args.jobs) w.grants-is ∙ cleared.0, ap length w.grants-is ∙ cleared.1)
      | else-slow-claims w ↦ (ap (filled (λ k. 0) c.args.jobs) w.grants-is, ap length w.grants-is)
    ] in
    omega (arith, as_before.1, c.requires.1)

pub serve_gathered-requires : goal.serve_gathered-requires
serve_gathered-requires c =
    let dues : ℕ → ℕ
    = due_by c.args.dues.now in
    let right : (k : ℕ) → KnownDue c.args.claims.now dues k → KnownDue c.if-slow-claims.claims dues k
    = λ k. elim c.if-slow-claims.branch [
      | then-slow-claims+else-total-v w ↦ λ known. same_known dues k w.claims-is (w.grant_hi-total.ensures.1 k known)
      | else-slow-claims w ↦ λ known. same_known dues k w.claims-is known
    ] in
    let class : ℕ → Bool
    = class_in true c.args.clock.0 c.args.cols.now in
    let blank : List ℕ = filled (λ k. 0) c.args.jobs c.args.grants.now in
    let as_before : (filled (λ k. 0) c.args.jobs c.if-slow-claims.grants ≡ blank) × (length c.if-slow-claims.grants ≡ length c.args.grants.now)
    = elim c.if-slow-claims.branch [
      | then-slow-claims+else-total-v w ↦ let cleared =
          granted_cleared (λ k. on (class k) (dues k)) c.args.v.0 c.args.jobs c.args.grants.now w.grant_hi-total.ensures.0 in
          (ap (filled (λ k. 0) c.args.jobs) w.grants-is ∙ cleared.0, ap length w.grants-is ∙ cleared.1)
      | else-slow-claims w ↦ (ap (filled (λ k. 0) c.args.jobs) w.grants-is, ap length w.grants-is)
    ] in
    let cleared : c.clear_grants.new.grants ≡ blank = c.clear_grants.ensures ∙ as_before.0 in
    let pre = c.requires in
    let a = c.args in
    let g = c.gather-count.ensures in (
      omega (arith, g.few, pre.0),
      λ k h. omega (arith, g.from k h, pre.1, ap length cleared, filled_length (λ k. 0) a.jobs a.grants.now),
      λ k h.
          let i = get_or c.gather-count.new.ranks k 0 % most_jobs in
          right i (pre.3 i (g.from k h) (g.passes k h)),
    )

pub shape_of-grants : goal.shape_of-grants
shape_of-grants c =
    let class : ℕ → Bool
    = class_in true c.args.clock.0 c.args.cols.now in
    let rank : ℕ → ℕ = rank_in c.args.cols.now in
    let dues : ℕ → ℕ
    = due_by c.args.dues.now in
    let blank : List ℕ = filled (λ k. 0) c.args.jobs c.args.grants.now in
    let as_before : (filled (λ k. 0) c.args.jobs c.if-slow-claims.grants ≡ blank) × (length c.if-slow-claims.grants ≡ length c.args.grants.now)
    = elim c.if-slow-claims.branch [
      | then-slow-claims+else-total-v w ↦ let cleared =
          granted_cleared (λ k. on (class k) (dues k)) c.args.v.0 c.args.jobs c.args.grants.now w.grant_hi-total.ensures.0 in
          (ap (filled (λ k. 0) c.args.jobs) w.grants-is ∙ cleared.0, ap length w.grants-is ∙ cleared.1)
      | else-slow-claims w ↦ (ap (filled (λ k. 0) c.args.jobs) w.grants-is, ap length w.grants-is)
    ] in
    let cleared : c.clear_grants.new.grants ≡ blank = c.clear_grants.ensures ∙ as_before.0 in
    let none : (k : ℕ) → k < c.args.jobs → get_or blank k 0 ≡ 0
    = λ k h. filled_at (λ k. 0) c.args.jobs c.args.grants.now k (omega (arith, c.requires.1)) h in
    let had : (c.serve_gathered.new.grants ≡ serve dues c.args.v.0 (queue class rank c.args.jobs) blank) × (c.serve_gathered.result.0 ≡ c.args.v.0 - sum (λ k. on (class k) (dues k)) c.args.jobs)
    = let a = c.args in
    let told =
    c.serve_gathered.ensures class rank a.jobs c.gather-count.ensures
    (λ k h e. ap (λ row. get_or row k 0) cleared ∙ none k h) in
    (told.0 ∙ ap (serve dues a.v.0 (queue class rank a.jobs)) cleared, told.1) in
    ap length had.0 ∙ serve_length _ _ _ _ ∙ filled_length _ _ _

pub returns : goal.returns
returns c =
    let dues : ℕ → ℕ
    = due_by c.args.dues.now in
    let right : (k : ℕ) → KnownDue c.args.claims.now dues k → KnownDue c.if-slow-claims.claims dues k
    = λ k. elim c.if-slow-claims.branch [
      | then-slow-claims+else-total-v w ↦ λ known. same_known dues k w.claims-is (w.grant_hi-total.ensures.1 k known)
      | else-slow-claims w ↦ λ known. same_known dues k w.claims-is known
    ] in
    let class : ℕ → Bool
    = class_in true c.args.clock.0 c.args.cols.now in
    let rank : ℕ → ℕ = rank_in c.args.cols.now in
    let blank : List ℕ = filled (λ k. 0) c.args.jobs c.args.grants.now in
    let as_before : (filled (λ k. 0) c.args.jobs c.if-slow-claims.grants ≡ blank) × (length c.if-slow-claims.grants ≡ length c.args.grants.now)
    = elim c.if-slow-claims.branch [
      | then-slow-claims+else-total-v w ↦ let cleared =
          granted_cleared (λ k. on (class k) (dues k)) c.args.v.0 c.args.jobs c.args.grants.now w.grant_hi-total.ensures.0 in
          (ap (filled (λ k. 0) c.args.jobs) w.grants-is ∙ cleared.0, ap length w.grants-is ∙ cleared.1)
      | else-slow-claims w ↦ (ap (filled (λ k. 0) c.args.jobs) w.grants-is, ap length w.grants-is)
    ] in
    let cleared : c.clear_grants.new.grants ≡ blank = c.clear_grants.ensures ∙ as_before.0 in
    let none : (k : ℕ) → k < c.args.jobs → get_or blank k 0 ≡ 0
    = λ k h. filled_at (λ k. 0) c.args.jobs c.args.grants.now k (omega (arith, c.requires.1)) h in
    let had : (c.serve_gathered.new.grants ≡ serve dues c.args.v.0 (queue class rank c.args.jobs) blank) × (c.serve_gathered.result.0 ≡ c.args.v.0 - sum (λ k. on (class k) (dues k)) c.args.jobs)
    = let a = c.args in
    let told =
    c.serve_gathered.ensures class rank a.jobs c.gather-count.ensures
    (λ k h e. ap (λ row. get_or row k 0) cleared ∙ none k h) in
    (told.0 ∙ ap (serve dues a.v.0 (queue class rank a.jobs)) cleared, told.1) in
    (had.0, had.1, right)
