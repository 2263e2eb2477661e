-- Rows of a slot: carried units and grants entry by entry, ranks as numbers, and what the grant row
-- holds past the jobs.
use mathlib.Core.Path.{◌≡◌, refl, sym, ◌∙◌, ap}
use mathlib.Core.Bool.{Bool, true, false, not, cond, ◌&&◌, ◌||◌}
use mathlib.Core.List.{List, [], ◌∷◌, ◌++◌}
use Prim.Native.Nat.{ℕ, zero, suc, ◌+◌, ◌*◌, ◌-◌, ◌≤◌, ◌<◌}
use native.Mathlib.Omega.{arith}
use borrow.Author.Tests.{lt-ltb, le-ltb, eq-eqb, ne_eqb}
use lib.Dec.{ltb, eqb}
use lib.ListN.{length, get_or, drop, replicate, length-append, length-replicate, length-drop, get_or-replicate, get_or-append}
use lib.Seq.{get_or-append-add, get_or-drop}
use Rattle.plan.specs.Edition.{most_jobs, most_deadline}
use Rattle.plan.specs.Rules.{counted, deadline, is_hi}
use Rattle.plan.specs.declared.kinds.Plan.{Plan}
use Rattle.dispatch.specs.declared.Run.{Run}
use Rattle.dispatch.specs.Order.{queue, before, rank_at, rank}
use Rattle.base.specs.Fill.{filled}
use Rattle.base.proofs.FillLaws.{is_filled}
use Rattle.dispatch.specs.Step.{granted, added}
use Rattle.dispatch.proofs.Queues.{queued, queue_queued, serve_absent, serve_length}
use Rattle.base.proofs.Logic.{if_less, by_order}
use Rattle.dispatch.proofs.Shares.{two_lines_lem}

-- Laws of `added`: entrywise sums of two rows.
pub added_length : (n : ℕ) (l g : List ℕ) → length (added n l g) ≡ length l
unfolding added
added_length zero l g = refl
added_length (suc n) [] g = refl
added_length (suc n) (x ∷ l) [] = refl
added_length (suc n) (x ∷ l) (y ∷ g) = ap suc (added_length n l g)

added_at : (n : ℕ) (l g : List ℕ) (k : ℕ) → k < n → k < length l → k < length g → get_or (added n l g) k 0 ≡ get_or l k 0 + get_or g k 0
unfolding added
added_at zero l g k below a b = absurd (omega arith)
added_at (suc n) [] g k below a b = absurd (omega arith)
added_at (suc n) (x ∷ l) [] k below a b = absurd (omega arith)
added_at (suc n) (x ∷ l) (y ∷ g) zero below a b = refl
added_at (suc n) (x ∷ l) (y ∷ g) (suc k) below a b = added_at n l g k (omega arith) (omega arith) (omega arith)

pub added_rest : (n : ℕ) (l g : List ℕ) (k : ℕ) → n ≤ k → get_or (added n l g) k 0 ≡ get_or l k 0
unfolding added
added_rest zero l g k h = refl
added_rest (suc n) [] g k h = refl
added_rest (suc n) (x ∷ l) [] k h = refl
added_rest (suc n) (x ∷ l) (y ∷ g) zero h = absurd (omega arith)
added_rest (suc n) (x ∷ l) (y ∷ g) (suc k) h = added_rest n l g k (omega arith)

-- An entry is at most the sum of both entries.
pub added_most : (n : ℕ) (l g : List ℕ) (k : ℕ) → get_or (added n l g) k 0 ≤ get_or l k 0 + get_or g k 0
unfolding added
added_most zero l g k = omega arith
added_most (suc n) [] g k = omega arith
added_most (suc n) (x ∷ l) [] k = omega arith
added_most (suc n) (x ∷ l) (y ∷ g) zero = omega arith
added_most (suc n) (x ∷ l) (y ∷ g) (suc k) = added_most n l g k

pub filled_is_added : (f : ℕ → ℕ) (n : ℕ) (l g : List ℕ) → n ≤ length g
    → ((k : ℕ) → k < n → f k ≡ get_or l k 0 + get_or g k 0) → filled f n l ≡ added n l g
filled_is_added f n l g room h =
    is_filled f n l (added n l g) (added_length n l g)
    (λ k inside below. added_at n l g k below inside (omega arith) ∙ sym (h k below))
    (added_rest n l g)

-- Within a grade, a job precedes another exactly if its rank is less.
ahead_by_rank : (from a b k i : ℕ) → k < most_jobs → i < most_jobs
    → (ltb a b || eqb a b && ltb k i) ≡ ltb ((from + a) * most_jobs + k) ((from + b) * most_jobs + i)
ahead_by_rank from a b k i hk hi =
    by_order a b
    (λ e. rw (le-ltb a b (omega arith), eq-eqb a b e)
    (if_less k i
    (λ l. lt-ltb k i l ∙ sym (lt-ltb ((from + a) * most_jobs + k) ((from + b) * most_jobs + i) (omega arith)))
    (λ l. le-ltb k i l ∙ sym (le-ltb ((from + a) * most_jobs + k) ((from + b) * most_jobs + i) (omega arith)))))
    (λ l. rw (lt-ltb a b l) (sym (lt-ltb ((from + a) * most_jobs + k) ((from + b) * most_jobs + i) (omega arith))))
    (λ l. rw (le-ltb a b (omega arith), ne_eqb a b (omega arith))
    (sym (le-ltb ((from + a) * most_jobs + k) ((from + b) * most_jobs + i) (omega arith))))

-- The same for any two jobs, from their grades, deadlines and positions.
any_by_rank : (h g : Bool) (a b k i : ℕ) → a ≤ most_deadline → b ≤ most_deadline → k < most_jobs → i < most_jobs
    → cond h (not g || (ltb a b || eqb a b && ltb k i)) (not g && (ltb a b || eqb a b && ltb k i)) ≡ ltb (rank_at h a k) (rank_at g b i)
any_by_rank true true a b k i ha hb hk hi = ahead_by_rank 0 a b k i hk hi
any_by_rank true false a b k i ha hb hk hi = sym (lt-ltb (rank_at true a k) (rank_at false b i) (omega arith))
any_by_rank false true a b k i ha hb hk hi = sym (le-ltb (rank_at false a k) (rank_at true b i) (omega arith))
any_by_rank false false a b k i ha hb hk hi = ahead_by_rank (most_deadline + 1) a b k i hk hi

-- A job is served before another exactly if its rank is less.
pub before_by_rank : (p : Plan) (k i : ℕ) → deadline p k ≤ most_deadline → deadline p i ≤ most_deadline → k < most_jobs → i < most_jobs
    → before p k i ≡ ltb (rank p k) (rank p i)
before_by_rank p k i = any_by_rank (is_hi p k) (is_hi p i) (deadline p k) (deadline p i) k i

-- A row of n numbers in front of what another row holds after them.
pub front_filled : (f : ℕ → ℕ) (n : ℕ) (front row : List ℕ) → length front ≡ n → n ≤ length row → ((k : ℕ) → k < n → get_or front k 0 ≡ f k)
    → front ++ drop n row ≡ filled f n row
front_filled f n front row long room each =
    sym
    (is_filled f n row (front ++ drop n row)
    (rw (length-append front (drop n row), length-drop) (omega arith))
    (λ k inside below. get_or-append front (drop n row) 0 k (omega arith) ∙ each k below)
    (λ k after.
    let at : length front + (k - n) ≡ k = omega arith in
    let far : n + (k - n) ≡ k = omega arith in
    ap (λ x. get_or (front ++ drop n row) x 0) (sym at) ∙ get_or-append-add front (drop n row) (k - n) 0
    ∙ get_or-drop n row (k - n) 0 ∙ ap (λ x. get_or row x 0) far))

-- The row of zeros for the first n jobs, in front of what the row holds after them.
pub blank_none : (n : ℕ) (grants : List ℕ) (k : ℕ) → k < n → get_or (replicate n 0 ++ drop n grants) k 0 ≡ 0
blank_none n grants k h =
    get_or-append (replicate n 0) (drop n grants) 0 k (rw (length-replicate {A = ℕ} n 0) h) ∙ get_or-replicate n k 0 0 h

pub blank_rest : (n : ℕ) (grants : List ℕ) (k : ℕ) → n ≤ k → get_or (replicate n 0 ++ drop n grants) k 0 ≡ get_or grants k 0
blank_rest n grants k h =
    let at : length {A = ℕ} (replicate n 0) + (k - n) ≡ k = rw (length-replicate {A = ℕ} n 0) (omega arith) in
    let far : n + (k - n) ≡ k = omega arith in
    ap (λ x. get_or (replicate n 0 ++ drop n grants) x 0) (sym at) ∙ get_or-append-add (replicate n 0) (drop n grants) (k - n) 0
    ∙ get_or-drop n grants (k - n) 0 ∙ ap (λ x. get_or grants x 0) far

pub blank_length : (n : ℕ) (grants : List ℕ) → n ≤ length grants → length (replicate n 0 ++ drop n grants) ≡ length grants
blank_length n grants room = rw (length-append (replicate n 0) (drop n grants), length-replicate {A = ℕ} n 0, length-drop) (omega arith)

module _ (p : Plan) (table : List ℕ) (run : Run) (v : ℕ) (grants : List ℕ) where
  abbrev jobs : ℕ
  jobs = counted p

  -- No index from the job count on is queued.
  not_in_queue : (test : ℕ → Bool) (k : ℕ) → jobs ≤ k → queued k (queue test (deadline p) jobs) ≡ false
  not_in_queue test k h = queue_queued test (deadline p) k jobs ∙ rw (le-ltb k jobs h) refl

  -- Entries of the grant row past the jobs are unchanged, and so is its length.
  pub granted_rest : (k : ℕ) → jobs ≤ k → get_or (granted p table run v grants) k 0 ≡ get_or grants k 0
  granted_rest k h =
      ap (λ l. get_or l k 0) (two_lines_lem p table run v grants)
      ∙ serve_absent _ _ _ _ k (not_in_queue _ k h) ∙ serve_absent _ _ _ _ k (not_in_queue _ k h) ∙ blank_rest jobs grants k h

  pub granted_length : jobs ≤ length grants → length (granted p table run v grants) ≡ length grants
  unfolding granted
  granted_length room = serve_length _ _ _ _ ∙ blank_length jobs grants room
