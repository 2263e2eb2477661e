-- The grants of a slot from the columns: the claims if all of them fit into the speed, otherwise what the
-- jobs get in turns.
use mathlib.Core.Path.{◌≡◌, refl, sym, ◌∙◌, ap, ap₂}
use mathlib.Core.Bool.{Bool, true, false, true≢false, not, cond, ◌&&◌, ◌||◌, and-false}
use mathlib.Core.List.{List, [], ◌++◌}
use Prim.Native.Nat.{ℕ, zero, suc, ◌+◌, ◌*◌, ◌-◌, ◌≤◌, ◌<◌, min}
use native.Mathlib.Nat.{one-mul}
use native.Mathlib.Omega.{arith}
use borrow.Author.Tests.{ltb-true, ltb-false, lt-ltb, le-ltb}
use lib.Dec.{leb, ltb, eqb}
use lib.ListN.{length, get_or, drop, replicate, length-replicate, get_or-replicate}
use Rattle.base.specs.Fill.{filled}
use Rattle.base.specs.Sum.{sum, strided, on}
use Rattle.base.proofs.FillLaws.{filled_ext, filled_at, filled_rest, is_filled}
use Rattle.base.proofs.SumLaws.{sum_ext, same_terms}
use Rattle.base.proofs.Logic.{if_true, if_less}
use Rattle.plan.specs.Edition.{most_jobs, most_intervals}
use Rattle.plan.specs.Rules.{hi, counted, size, deadline, is_hi}
use Rattle.plan.specs.Boundaries.{present}
use Rattle.plan.specs.Table.{allotment}
use Rattle.plan.specs.declared.columns.Columns.{Columns}
use Rattle.plan.specs.declared.kinds.Plan.{Plan}
use Rattle.plan.specs.declared.kinds.Slots.{Slots}
use Rattle.dispatch.specs.declared.Run.{Run}
use Rattle.dispatch.specs.Dues.{carried_of, in_its_window, live, all_dues, slow_after, goal, due}
use Rattle.dispatch.specs.Order.{rank_at, rank, queue, serve}
use Rattle.dispatch.specs.Step.{granted}
use Rattle.dispatch.specs.Inner.Columns.{plan_on}
use Rattle.dispatch.specs.Inner.Shares.{claim, Shared}
use Rattle.dispatch.specs.Inner.Turns.{in_window_in, class_in, rank_in, served_in, goal_in, Goals, unknown, KnownDue, Claimed, in_turns}
use Rattle.dispatch.proofs.Queues.{over, queue_ext, serve_ext, over_queue, queued_below}
use Rattle.dispatch.proofs.Shares.{dues_are_claims, two_lines_lem, within_claim, all_served}
use Rattle.dispatch.proofs.RowShares.{blank_none, blank_rest, blank_length, granted_rest, granted_length}
use Rattle.dispatch.proofs.SoundColumns.{grade_on, release_on, size_on, deadline_on}
use Rattle.dispatch.proofs.TurnLaws.{by_rank}

-- If all claims fit into the speed, the grants are the claims.
pub fitting_claims : (p : Plan) (table : List ℕ) (run : Run) (v : ℕ) (grants : List ℕ) → counted p ≤ length grants
    → sum (claim p table run (slow_after p table run v)) (counted p) ≤ v
    → filled (claim p table run (slow_after p table run v)) (counted p) grants ≡ granted p table run v grants
fitting_claims p table run v grants room fits =
    let claims = claim p table run (slow_after p table run v) in
    is_filled claims (counted p) grants (granted p table run v grants) (granted_length p table run v grants room)
    (λ k inside below.
    same_terms (λ i. get_or (granted p table run v grants) i 0) claims (counted p) (within_claim p table run v grants)
    (omega (arith, all_served p table run v grants)) k below)
    (granted_rest p table run v grants)

-- A queue of which no job passes the test is empty.
queue_none : (test : ℕ → Bool) (by : ℕ → ℕ) (n : ℕ) → ((k : ℕ) → k < n → test k ≡ false) → queue test by n ≡ []
unfolding queue
queue_none test by zero h = refl
queue_none test by (suc n) h = rw (h n (omega arith)) (queue_none test by n (λ k l. h k (omega arith)))

-- The row of zeros for the counted jobs, filled by a loop.
blank_filled : (n : ℕ) (grants : List ℕ) → n ≤ length grants → filled (λ k. 0) n grants ≡ replicate n 0 ++ drop n grants
blank_filled n grants room =
    is_filled (λ k. 0) n grants (replicate n 0 ++ drop n grants)
    (blank_length n grants room)
    (λ k inside below. blank_none n grants k below)
    (λ k after. blank_rest n grants k after)

-- The test for a speed below n under a clear mark: if it holds, and if it does not.
pub slow_test : (s : Bool) (v n : ℕ) → (not s && ltb v n) ≡ true → (s ≡ false) × (v < n)
slow_test true v n e = absurd (true≢false (sym e))
slow_test false v n e = (refl, ltb-true v n e)

pub normal_test : (s : Bool) (v n : ℕ) → (not s && ltb v n) ≡ false → s ≡ false → n ≤ v
normal_test true v n e f = absurd (true≢false f)
normal_test false v n e f = ltb-false v n e

-- A slot that leaves the mark as it was is shared out under it.
stays_shared : (s x : Bool) → (s || x) ≡ s → true ≡ (s || not x)
stays_shared true x e = refl
stays_shared false true e = e
stays_shared false false e = refl

module _ (cols : Columns) (table : List ℕ) (run : Run) (v : ℕ) where
  abbrev q : Plan
  q = plan_on cols

  abbrev n : ℕ
  n = min cols.count most_jobs

  abbrev t : ℕ
  t = run.clock.0

  module _ (unended : run.ended ≡ []) where
    live_on : (k : ℕ) → k < n → live q run k ≡ in_window_in t cols k
    live_on k l =
        ap (λ e. not (get_or e k false) && in_its_window q t k) unended
        ∙ ap₂ (λ a b. leb a t && ltb t b) (release_on cols k l) (deadline_on cols k l)

    hi_on : (k : ℕ) → k < n → is_hi q k ≡ eqb (get_or cols.grades k 0) hi
    hi_on k l = ap (λ g. eqb g hi) (grade_on cols k l)

    rank_on : (k : ℕ) → k < n → rank q k ≡ rank_in cols k
    rank_on k l = ap₂ (λ h d. rank_at h d k) (hi_on k l) (deadline_on cols k l)

    -- The queues of the columns are those of the rules.
    hi_queue_lem : queue (class_in true t cols) (rank_in cols) n
        ≡ queue (λ k. live q run k && is_hi q k) (deadline q) n
    hi_queue_lem =
        sym
        (by_rank q (λ k. live q run k && is_hi q k) true (λ k l e. and_second (live q run k) (is_hi q k) e)
        ∙ queue_ext _ (class_in true t cols) _ (rank_in cols) n
        (λ k l. ap₂ ◌&&◌ (live_on k l) (hi_on k l)) rank_on)
      where
        and_second : (a b : Bool) → (a && b) ≡ true → b ≡ true
        and_second true b e = e
        and_second false true e = refl
        and_second false false e = e

    -- With goals that are those of the rules, what is due is the goal less what is carried.
    module _ (goals : ℕ → ℕ) (right : Goals cols table run.clock run.slow goals) where
      abbrev dues_in : ℕ → ℕ
      dues_in k = goals k - carried_of run k

      abbrev claims_in : ℕ → ℕ
      claims_in k = on (served_in t run.slow cols k) (dues_in k)

      due_of : (k : ℕ) → k < n → due q table run run.slow k ≡ dues_in k
      due_of k l =
          ap (λ e. cond (get_or e k false) 0 (goal q table t run.slow k - carried_of run k)) unended
          ∙ ap (λ g. g - carried_of run k) (sym (right k l))

      claim_of : (k : ℕ) → k < n → claims_in k ≡ claim q table run run.slow k
      claim_of k l = sym (ap₂ on (ap₂ (λ a h. a && (h || not run.slow)) (live_on k l) (hi_on k l)) (due_of k l))

      -- Under the clear mark the claims sum to the dues of the live jobs.
      claims_are_dues : run.slow ≡ false → sum claims_in n ≡ all_dues q table run
      claims_are_dues clear = sum_ext _ _ n claim_of ∙ ap (λ s. sum (claim q table run s) n) clear ∙ sym (dues_are_claims q table run)

      -- What fits leaves the mark as it was, and so does the normal rate; claims that do not fit into less set it.
      fits_stays : sum claims_in n ≤ v → slow_after q table run v ≡ run.slow
      fits_stays fits =
          if_true run.slow
          (λ e. rw e refl)
          (λ e. rw e (le-ltb v (min cols.n.0 (all_dues q table run)) (omega (arith, claims_are_dues e))))

      normal_stays : (run.slow ≡ false → cols.n.0 ≤ v) → slow_after q table run v ≡ run.slow
      normal_stays normal =
          if_true run.slow
          (λ e. rw e refl)
          (λ e. rw e (le-ltb v (min cols.n.0 (all_dues q table run)) (omega (arith, normal e))))

      module _ (grants : List ℕ) where
        -- A slot that is slow under a clear mark is not shared out under it.
        pub shared_not : run.slow ≡ false → v < cols.n.0 → v < sum claims_in n → Shared q table run v grants false grants
        shared_not clear below over =
            (rw (clear, lt-ltb v (min cols.n.0 (all_dues q table run)) (omega (arith, claims_are_dues clear))) refl, refl)

        module _ (room : n ≤ length grants) where
          module _ (marked : slow_after q table run v ≡ run.slow) where
            abbrev dues : ℕ → ℕ
            dues = due q table run (slow_after q table run v)

            due_on : (k : ℕ) → k < n → dues k ≡ dues_in k
            due_on k l = ap (λ s. due q table run s k) marked ∙ due_of k l

            claim_on : (k : ℕ) → k < n → claims_in k ≡ claim q table run (slow_after q table run v) k
            claim_on k l = claim_of k l ∙ ap (λ s. claim q table run s k) (sym marked)

            -- The claims of the columns, if they fit, are the grants.
            claims_granted : sum claims_in n ≤ v → filled claims_in n grants ≡ granted q table run v grants
            claims_granted fits =
                filled_ext _ (claim q table run (slow_after q table run v)) n grants claim_on
                ∙ fitting_claims q table run v grants room
                (rw (sym (sum_ext _ (claim q table run (slow_after q table run v)) n claim_on)) fits)

            lo_queue_lem : run.slow ≡ false → queue (class_in false t cols) (rank_in cols) n
                ≡ queue (λ k. live q run k && not (is_hi q k) && not (slow_after q table run v)) (deadline q) n
            lo_queue_lem e =
                sym
                (by_rank q (λ k. live q run k && not (is_hi q k) && not (slow_after q table run v)) false
                (λ k l passes. lower (live q run k) (is_hi q k) (not (slow_after q table run v)) passes)
                ∙ queue_ext _ (class_in false t cols) _ (rank_in cols) n
                (λ k l. rw (marked, e) (last (live q run k) (is_hi q k) ∙ ap₂ (λ a h. a && not h) (live_on k l) (hi_on k l))) rank_on)
              where
                lower : (a h b : Bool) → (a && not h && b) ≡ true → h ≡ false
                lower a false b e = refl
                lower true true b e = sym e
                lower false true b e = sym e

                last : (a h : Bool) → (a && not h && true) ≡ (a && not h)
                last true true = refl
                last true false = refl
                last false h = refl

            abbrev hi_test : ℕ → Bool
            hi_test k = live q run k && is_hi q k

            abbrev lo_test : ℕ → Bool
            lo_test k = live q run k && not (is_hi q k) && not (slow_after q table run v)

            abbrev essential : List ℕ
            essential = queue hi_test (deadline q) n

            abbrev others : List ℕ
            others = queue lo_test (deadline q) n

            abbrev blank : List ℕ
            blank = replicate n 0 ++ drop n grants

            -- What the code writes for the HI jobs, and then for the others.
            abbrev first_in : List ℕ
            first_in = serve dues_in v (queue (class_in true t cols) (rank_in cols) n) (filled (λ k. 0) n grants)

            abbrev claimed_in : ℕ
            claimed_in = sum (λ k. on (class_in true t cols k) (dues_in k)) n

            abbrev second_in : List ℕ
            second_in = serve dues_in (v - claimed_in) (queue (class_in false t cols) (rank_in cols) n) first_in

            first_row : first_in ≡ serve dues v essential blank
            first_row =
                ap₂ (λ l g. serve dues_in v l g) hi_queue_lem (blank_filled n grants room)
                ∙ serve_ext dues_in dues v essential blank (λ k e. sym (due_on k (queued_below hi_test (deadline q) k n e)))

            claimed : claimed_in ≡ over dues essential
            claimed =
                sum_ext _ (λ k. on (hi_test k) (dues k)) n
                (λ k l. sym (ap₂ on (ap₂ ◌&&◌ (live_on k l) (hi_on k l)) (due_on k l)))
                ∙ sym (over_queue hi_test (deadline q) dues n)

            second_row_lem : run.slow ≡ false → second_in ≡ serve dues (v - over dues essential) others (serve dues v essential blank)
            second_row_lem e =
                ap₂ (λ l g. serve dues_in (v - claimed_in) l g) (lo_queue_lem e) first_row
                ∙ serve_ext dues_in dues (v - claimed_in) others (serve dues v essential blank) (λ k m. sym (due_on k (queued_below lo_test (deadline q) k n m)))
                ∙ ap (λ x. serve dues (v - x) others (serve dues v essential blank)) claimed

            -- Under the slow mark the others get nothing.
            no_others : run.slow ≡ true → serve dues (v - over dues essential) others (serve dues v essential blank) ≡ serve dues v essential blank
            unfolding serve
            no_others e =
                ap (λ l. serve dues (v - over dues essential) l (serve dues v essential blank))
                (queue_none lo_test (deadline q) n (λ k l. rw (marked, e) (and-false (live q run k && not (is_hi q k)))))

            -- What the jobs get in turns is what the rules grant.
            turns_granted : in_turns t run.slow cols dues_in v n (filled (λ k. 0) n grants) ≡ granted q table run v grants
            turns_granted =
                if_true run.slow
                (λ e. ap (λ s. cond s first_in second_in) e ∙ first_row ∙ sym (no_others e))
                (λ e. ap (λ s. cond s first_in second_in) e ∙ second_row_lem e)
                ∙ sym (two_lines_lem q table run v grants)

          -- A slot is shared out under the mark of its run: by the claims if they fit, otherwise in turns.
          pub shared_claims : sum claims_in n ≤ v → Shared q table run v grants true (filled claims_in n grants)
          shared_claims fits = (stays_shared run.slow _ (fits_stays fits), claims_granted (fits_stays fits) fits)

          pub shared_turns : (run.slow ≡ false → cols.n.0 ≤ v)
              → Shared q table run v grants true (in_turns t run.slow cols dues_in v n (filled (λ k. 0) n grants))
          shared_turns normal = (stays_shared run.slow _ (normal_stays normal), turns_granted (normal_stays normal))

-- The sum of the first numbers of a row is the sum of the allotments in as many intervals.
pub allotted : (table : List ℕ) (i spans : ℕ) → sum (strided table (most_intervals * i) 1) spans ≡ sum (allotment most_intervals table i) spans
allotted table i spans =
    sum_ext (strided table (most_intervals * i) 1) (allotment most_intervals table i) spans
    (λ k l. ap (λ x. get_or table (most_intervals * i + x) 0) (one-mul k))

-- The column of sizes has the whole goals under the slow mark; otherwise the rows of the table, as far as intervals have
-- begun, make the goals.
pub sizes_are_goals : (cols : Columns) (table : List ℕ) (clock : Slots) (slow : Bool) (spans : ℕ)
    → (slow ≡ false → spans ≡ suc (present (plan_on cols) clock.0))
    → Goals cols table clock slow (goal_in slow spans cols.sizes table)
sizes_are_goals cols table clock slow spans begun k l = by slow begun
  where
    size_is : get_or cols.sizes k 0 ≡ size (plan_on cols) k
    size_is = sym (size_on cols k l)

    by : (s : Bool) → (s ≡ false → spans ≡ suc (present (plan_on cols) clock.0))
        → goal_in s spans cols.sizes table k ≡ goal (plan_on cols) table clock.0 s k
    by true b = size_is
    by false b = ap₂ (λ s m. min s (sum (allotment most_intervals table k) m)) size_is (b refl)

-- What a row of claims holds: a known claim is right.
pub claims_known : (claim dues : ℕ → ℕ) (served : ℕ → Bool) (v n : ℕ) {row : List ℕ} {fit : Bool} → ((k : ℕ) → claim k ≡ on (served k) (dues k))
    → n ≤ most_jobs → Claimed claim v n row fit → (k : ℕ) → k < n → served k ≡ true → KnownDue row dues k
claims_known claim dues served v n is few told k l s known =
    if_less k told.reached
    (λ below.
    ap (λ r. get_or r k 0) told.filled_to
    ∙ filled_at claim told.reached (replicate most_jobs unknown) k (rw (length-replicate {A = ℕ} most_jobs unknown) (omega arith)) below
    ∙ is k ∙ ap (λ b. on b (dues k)) s)
    (λ after.
    absurd (known
    (ap (λ r. get_or r k 0) told.filled_to ∙ filled_rest claim told.reached (replicate most_jobs unknown) k after
    ∙ get_or-replicate most_jobs k unknown 0 (omega arith))))

-- If all claims fit, every entry of the row is a claim.
pub claims_all : (claim : ℕ → ℕ) (v n : ℕ) {row : List ℕ} {fit : Bool} → n ≤ most_jobs → Claimed claim v n row fit → fit ≡ true
    → (k : ℕ) → k < n → get_or row k 0 ≡ claim k
claims_all claim v n few told fits k l =
    ap (λ r. get_or r k 0) told.filled_to
    ∙ filled_at claim told.reached (replicate most_jobs unknown) k (rw (length-replicate {A = ℕ} most_jobs unknown) (omega arith))
    (omega (arith, (told.sums fits).0))
