-- The closed form of a slot is its rule, for all plans, tables, runs and
-- speeds; and the totals that follow from it.
use mathlib.Core.Path.{◌≡◌, refl, sym, ◌∙◌, ap, ap₂}
use mathlib.Core.Bool.{Bool, true, false, not, cond, ◌&&◌, ◌||◌, or-true, and-true}
use mathlib.Core.List.{List, ◌++◌}
use Prim.Native.Nat.{ℕ, ◌+◌, ◌-◌, ◌≤◌, ◌<◌, min}
use native.Mathlib.Omega.{arith}
use borrow.Author.Tests.{lt-ltb}
use lib.Dec.{leb}
use lib.ListN.{length, get_or, drop, replicate, length-append, length-replicate, get_or-replicate, get_or-append}
use Rattle.base.proofs.Choice.{on_zero}
use Rattle.base.specs.Sum.{sum, on}
use Rattle.base.proofs.SumLaws.{sum_ext, sum_add}
use Rattle.plan.specs.Rules.{counted, deadline, is_hi}
use Rattle.plan.specs.declared.kinds.Plan.{Plan}
use Rattle.dispatch.specs.declared.Run.{Run}
use Rattle.dispatch.specs.Dues.{live, all_dues, slow_after, due}
use Rattle.dispatch.specs.Order.{queue, order, ahead, serve}
use Rattle.dispatch.specs.Inner.Shares.{served, claim, share}
use Rattle.dispatch.specs.Step.{granted}
use Rattle.dispatch.proofs.Queues.{over, front, queued, gets, queue_in_order, queue_queued, queue_once, over_queue, front_queue, serve_absent, serve_gets, gets_share, serve_both, serve_length, first_get, all_get}
use Rattle.base.proofs.Logic.{if_true}

-- The claims served before a HI job are those of the HI jobs that precede it.
before_hi : (alive h slow b : Bool) (x : ℕ) → on (cond h b false) (on (alive && (h || not slow)) x) ≡ on (alive && h && b) x
before_hi true true slow b x = refl
before_hi true false slow b x = refl
before_hi false true slow true x = refl
before_hi false true slow false x = refl
before_hi false false slow b x = refl

-- The claims served before a LO job are those of all HI jobs, and of the LO jobs that precede it.
before_lo : (alive h slow b : Bool) (x : ℕ)
    → on (cond h true b) (on (alive && (h || not slow)) x) ≡ on (alive && h) x + on (alive && not h && not slow && b) x
before_lo true true slow b x = omega arith
before_lo true false true true x = refl
before_lo true false true false x = refl
before_lo true false false true x = omega arith
before_lo true false false false x = refl
before_lo false true slow b x = refl
before_lo false false slow true x = refl
before_lo false false slow false x = refl

-- The claim of a HI job that passes b is its due if it is live, otherwise 0.
class_claim : (alive h slow b : Bool) (x : ℕ) → on (alive && h) (on b x) ≡ on (h && b) (on (alive && (h || not slow)) x)
class_claim true true slow b x = refl
class_claim true false slow b x = refl
class_claim false true slow b x = sym (on_zero b)
class_claim false false slow b x = refl

-- A job's claim is its due in one of the two queues.
queue_claim : (alive h slow : Bool) (x : ℕ) → on (alive && h) x + on (alive && not h && not slow) x ≡ on (alive && (h || not slow)) x
queue_claim true true slow x = omega arith
queue_claim true false true x = refl
queue_claim true false false x = omega arith
queue_claim false h slow x = refl

-- The sum of the live jobs' dues is that of the claims under the clear mark.
pub dues_are_claims : (p : Plan) (table : List ℕ) (run : Run) → all_dues p table run ≡ sum (claim p table run false) (counted p)
dues_are_claims p table run =
    sum_ext _ _ (counted p) (λ k l. ap (λ b. on b (due p table run false k)) (sym (ap (◌&&◌ (live p run k)) (or-true (is_hi p k)) ∙ and-true (live p run k))))

module _ (p : Plan) (table : List ℕ) (run : Run) (v : ℕ) (grants : List ℕ) where
  abbrev n : ℕ
  n = counted p

  abbrev slow : Bool
  slow = slow_after p table run v

  abbrev dues : ℕ → ℕ
  dues = due p table run slow

  abbrev claims : ℕ → ℕ
  claims = claim p table run slow

  abbrev alive : ℕ → Bool
  alive = live p run

  abbrev hi_test : ℕ → Bool
  hi_test k = alive k && is_hi p k

  abbrev lo_test : ℕ → Bool
  lo_test k = alive k && not (is_hi p k) && not slow

  abbrev hi_queue : List ℕ
  hi_queue = queue hi_test (deadline p) n

  abbrev lo_queue : List ℕ
  lo_queue = queue lo_test (deadline p) n

  abbrev blank : List ℕ
  blank = replicate n 0 ++ drop n grants

  abbrev grant : ℕ → ℕ
  grant i = get_or (granted p table run v grants) i 0

  -- The grants are those of serving the HI queue and then, with the rest of v, the LO queue.
  pub two_lines_lem : granted p table run v grants ≡ serve dues (v - over dues hi_queue) lo_queue (serve dues v hi_queue blank)
  unfolding granted order
  two_lines_lem = serve_both dues v hi_queue lo_queue blank

  -- A counted job is in a queue exactly if it passes the queue's test.
  in_queue : (i : ℕ) → i < n → (test : ℕ → Bool) (b : Bool) → test i ≡ b → queued i (queue test (deadline p) n) ≡ b
  in_queue i counts test b e = queue_queued test (deadline p) i n ∙ rw (lt-ltb i n counts, e) refl

  blank_long : (i : ℕ) → i < n → i < length blank
  blank_long i counts = rw (length-append (replicate n 0) (drop n grants), length-replicate {A = ℕ} n 0) (omega arith)

  blank_none : (i : ℕ) → i < n → get_or blank i 0 ≡ 0
  blank_none i counts =
      get_or-append (replicate n 0) (drop n grants) 0 i (rw (length-replicate {A = ℕ} n 0) counts) ∙ get_or-replicate n i 0 0 counts

  -- A job's grant, by the queue that it is in.
  hi_grant : (i : ℕ) → i < n → is_hi p i ≡ true → alive i ≡ true → grant i ≡ gets dues v hi_queue i
  hi_grant i counts h a =
      ap (λ l. get_or l i 0) two_lines_lem
      ∙ serve_absent dues (v - over dues hi_queue) lo_queue (serve dues v hi_queue blank) i (in_queue i counts lo_test false (rw (a, h) refl))
      ∙ serve_gets dues v hi_queue blank i (queue_once hi_test (deadline p) n) (blank_long i counts) (in_queue i counts hi_test true (rw (a, h) refl))

  lo_grant : (i : ℕ) → i < n → lo_test i ≡ true → grant i ≡ gets dues (v - over dues hi_queue) lo_queue i
  lo_grant i counts let_in =
      ap (λ l. get_or l i 0) two_lines_lem
      ∙ serve_gets dues (v - over dues hi_queue) lo_queue (serve dues v hi_queue blank) i (queue_once lo_test (deadline p) n)
      (rw (serve_length dues v hi_queue blank) (blank_long i counts)) (in_queue i counts lo_test true let_in)

  no_grant : (i : ℕ) → i < n → hi_test i ≡ false → lo_test i ≡ false → grant i ≡ 0
  no_grant i counts hi-out lo-out =
      ap (λ l. get_or l i 0) two_lines_lem
      ∙ serve_absent dues (v - over dues hi_queue) lo_queue (serve dues v hi_queue blank) i (in_queue i counts lo_test false lo-out)
      ∙ serve_absent dues v hi_queue blank i (in_queue i counts hi_test false hi-out) ∙ blank_none i counts

  hi_share : (i : ℕ) → i < n → is_hi p i ≡ true → alive i ≡ true → grant i ≡ share p table run v i
  unfolding share
  hi_share i counts h a =
      hi_grant i counts h a
      ∙ gets_share dues v hi_queue i (in_queue i counts hi_test true (rw (a, h) refl))
      ∙ ap₂ (λ x s. min x (v - s)) (rw (a, h) refl)
      (front_queue hi_test (deadline p) dues i n counts (rw (a, h) refl)
      ∙ sum_ext _ _ n (λ k l. rw h (sym (before_hi (alive k) (is_hi p k) slow (ahead (deadline p) k i) (dues k)))))

  lo_share : (i : ℕ) → i < n → is_hi p i ≡ false → alive i ≡ true → slow ≡ false → grant i ≡ share p table run v i
  unfolding share
  lo_share i counts h a s =
      let let_in : lo_test i ≡ true = rw (a, h, s) refl in
      let room : v - over dues hi_queue - front dues lo_queue i ≡ v - (over dues hi_queue + front dues lo_queue i) = omega arith in
      lo_grant i counts let_in
      ∙ gets_share dues (v - over dues hi_queue) lo_queue i (in_queue i counts lo_test true let_in)
      ∙ ap₂ min (rw (a, h, s) refl)
      (room ∙ ap (λ x. v - x)
      (ap₂ ◌+◌ (over_queue hi_test (deadline p) dues n) (front_queue lo_test (deadline p) dues i n counts let_in)
      ∙ sym (sum_add (λ k. on (hi_test k) (dues k)) (λ k. on (lo_test k && ahead (deadline p) k i) (dues k)) n)
      ∙ sum_ext _ _ n (λ k l. rw h (sym (before_lo (alive k) (is_hi p k) slow (ahead (deadline p) k i) (dues k))))))

  no_share : (i : ℕ) → i < n → served p run slow i ≡ false → hi_test i ≡ false → lo_test i ≡ false → grant i ≡ share p table run v i
  unfolding share
  no_share i counts e hi-out lo-out = no_grant i counts hi-out lo-out ∙ rw e (omega arith)

  -- The grant of a counted job is its share.
  pub granted_is_share : (i : ℕ) → i < n → grant i ≡ share p table run v i
  granted_is_share i counts =
      if_true (alive i)
      (λ a. if_true (is_hi p i)
      (λ h. hi_share i counts h a)
      (λ h. if_true slow
      (λ s. no_share i counts (rw (a, h, s) refl) (rw (a, h) refl) (rw (a, h, s) refl))
      (λ s. lo_share i counts h a s)))
      (λ a. no_share i counts (rw a refl) (rw a refl) (rw a refl))

  -- No job is granted more than its claim.
  pub within_claim : (i : ℕ) → i < n → grant i ≤ claims i
  unfolding share
  within_claim i counts = rw (granted_is_share i counts) (omega arith)

  -- The HI jobs with deadline at most D are served first: they get
  -- in total the lesser of v and their claims.
  pub first_served : (D : ℕ)
      → sum (λ k. on (is_hi p k && leb (deadline p k) D) (grant k)) n
      ≡ min v (sum (λ k. on (is_hi p k && leb (deadline p k) D) (claims k)) n)
  first_served D =
      sum_ext _ _ n (λ k l. sym (class_grant k l)) ∙ sym (over_queue hi_test (deadline p) (λ k. on (leb (deadline p k) D) (gets dues v hi_queue k)) n)
      ∙ first_get dues (deadline p) v D hi_queue (queue_in_order hi_test (deadline p) n) (queue_once hi_test (deadline p) n)
      ∙ ap (min v)
      (over_queue hi_test (deadline p) (λ k. on (leb (deadline p k) D) (dues k)) n
      ∙ sum_ext _ _ n (λ k l. class_claim (alive k) (is_hi p k) slow (leb (deadline p k) D) (dues k)))
    where
      class_grant : (k : ℕ) → k < n
          → on (hi_test k) (on (leb (deadline p k) D) (gets dues v hi_queue k)) ≡ on (is_hi p k && leb (deadline p k) D) (grant k)
      class_grant k l =
          if_true (alive k)
          (λ a. if_true (is_hi p k) (λ h. rw (a, h, hi_grant k l h a) refl) (λ h. rw (a, h) refl))
          (λ a. rw (a, no_grant k l (rw a refl) (rw a refl)) (sym (on_zero (is_hi p k && leb (deadline p k) D))))

  -- All jobs get in total the lesser of v and their claims.
  pub all_served : sum grant n ≡ min v (sum claims n)
  all_served =
      sum_ext _ _ n each
      ∙ sum_add (λ k. on (hi_test k) (gets dues v hi_queue k)) (λ k. on (lo_test k) (gets dues (v - over dues hi_queue) lo_queue k)) n
      ∙ ap₂ ◌+◌
      (sym (over_queue hi_test (deadline p) (gets dues v hi_queue) n) ∙ all_get dues v hi_queue (queue_once hi_test (deadline p) n))
      (sym (over_queue lo_test (deadline p) (gets dues (v - over dues hi_queue) lo_queue) n)
      ∙ all_get dues (v - over dues hi_queue) lo_queue (queue_once lo_test (deadline p) n))
      ∙ both
      ∙ ap (min v)
      (ap₂ ◌+◌ (over_queue hi_test (deadline p) dues n) (over_queue lo_test (deadline p) dues n)
      ∙ sym (sum_add (λ k. on (hi_test k) (dues k)) (λ k. on (lo_test k) (dues k)) n)
      ∙ sum_ext _ _ n (λ k l. queue_claim (alive k) (is_hi p k) slow (dues k)))
    where
      both : min v (over dues hi_queue) + min (v - over dues hi_queue) (over dues lo_queue) ≡ min v (over dues hi_queue + over dues lo_queue)
      both = omega arith

      each : (k : ℕ) → k < n → grant k ≡ on (hi_test k) (gets dues v hi_queue k) + on (lo_test k) (gets dues (v - over dues hi_queue) lo_queue k)
      each k l =
          if_true (alive k)
          (λ a. if_true (is_hi p k)
          (λ h. rw (a, h, hi_grant k l h a) (omega arith))
          (λ h. if_true slow
          (λ s. rw (a, h, s, no_grant k l (rw (a, h) refl) (rw (a, h, s) refl)) refl)
          (λ s.
          let out : hi_test k ≡ false = rw (a, h) refl in
          let let_in : lo_test k ≡ true = rw (a, h, s) refl in
          rw (out, let_in, lo_grant k l let_in) (omega arith))))
          (λ a. rw (a, no_grant k l (rw a refl) (rw a refl)) refl)
