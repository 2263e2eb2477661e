-- Laws that the proofs of the desk's functions share.
use mathlib.Core.Path.{◌≡◌, refl, sym, ◌∙◌, ap, ap₂}
use mathlib.Core.Bool.{Bool, true, false, not, cond, ◌&&◌, ◌||◌}
use mathlib.Core.List.{List, [], ◌∷◌}
use Prim.Native.Nat.{ℕ, suc, ◌+◌, ◌*◌, ◌-◌, ◌≤◌, ◌<◌, min}
use native.Mathlib.Omega.{arith}
use native.Mathlib.Numerals.{add-one}
use lib.Dec.{ltb, eqb}
use lib.ListN.{length, get_or}
use Rattle.std.proofs.Common.{Option, Some, None}
use Rattle.base.specs.Below.{every}
use Rattle.base.specs.Sum.{sum}
use Rattle.base.proofs.Below.{every_ext}
use Rattle.base.proofs.SumLaws.{sum_ext}
use Rattle.plan.specs.Edition.{most_jobs, most_boundaries}
use Rattle.plan.specs.Refusal.{no_timetable}
use Rattle.plan.specs.Rules.{counted, rules_hold}
use Rattle.plan.specs.Boundaries.{boundaries, boundary, intervals, first_release}
use Rattle.plan.specs.Columns.{HasColumns}
use Rattle.plan.specs.Report.{Report, is_none, fault, first}
use Rattle.plan.specs.declared.columns.Columns.{Columns}
use Rattle.plan.specs.declared.kinds.Plan.{Plan}
use Rattle.plan.specs.declared.kinds.Units.{Units}
use Rattle.plan.proofs.BoundaryOrder.{boundaries_few}
use Rattle.plan.proofs.PresentInterval.{first_boundary}
use Rattle.plan.proofs.Reports.{first_found, first_ext}
use Rattle.plan.proofs.Soundness.{rules_bounded}
use Rattle.judge.specs.Slack.{through}
use Rattle.judge.proofs.HandFault.{boundaries_some}
use Rattle.desk.specs.Timetable.{is_of, Draft, turn, placing, job_turn}
use Rattle.desk.specs.Pairs.{sizes_due, is_end, pair_at, pair_fault}
use Rattle.desk.specs.Desk.{one_release}
use Rattle.desk.specs.Answers.{shortage_view}
use Rattle.desk.specs.Inner.Lists.{Ends, jobs_in, due_size, is_due_at, end_at, pair_in, pairs_from}
use Rattle.desk.specs.Inner.Tasks.{IsTaskOf, times_of}
use Rattle.desk.specs.declared.answers.Shortage.{Shortage}
use Rattle.desk.specs.declared.answers.Shortage.TheVariants.{Unsound, ReleasesDiffer, Pair}
use Rattle.desk.specs.declared.task.Task.{Task}

-- `through` as a loop computes it: no step makes nothing of a, and one more step makes the next of what there is.
pub through_start : {A : Type 0} (step : ℕ → A → A) (a : A) → a ≡ through step 0 a
unfolding through
through_start step a = refl

pub through_next : {A : Type 0} (step : ℕ → A → A) (n : ℕ) (a : A) {so_far next : A} → so_far ≡ through step n a → next ≡ step n so_far
    → next ≡ through step (n + 1) a
unfolding through
through_next step n a e q = rw add-one (q ∙ ap (step n) e)

-- A search that code ends at number k with a shortage: no report before it was found.
told : (s : Shortage) → is_none (shortage_view s) ≡ false
told Unsound = refl
told ReleasesDiffer = refl
told (Pair D E asked carries) = refl

pub first_told : (f : ℕ → Report) (k n : ℕ) (s : Shortage) → first f k ≡ [] → k < n → shortage_view s ≡ f k → shortage_view s ≡ first f n
first_told f k n s before below is = is ∙ sym (first_found f k n before below (ap is_none (sym is) ∙ told s))

-- The boundaries of a plan under rules 4 to 9: at least one, and no more than there is room for.
pub boundaries_within : (p : Plan) → rules_hold p ≡ true → (1 ≤ length (boundaries p)) × (length (boundaries p) ≤ most_boundaries)
boundaries_within p rules = (boundaries_some p (counted p) (rules_bounded p rules).some, omega (arith, boundaries_few p (counted p)))

module _ (p : Plan) {c : Columns} (cols : HasColumns p c) where
  pub jobs_are : jobs_in c ≡ counted p
  jobs_are = ap (λ n. min n most_jobs) (sym cols.count)

  -- The turn of job i as the columns tell it.
  turn_is : (back : Bool) (m i : ℕ) (draft : Draft) → i < jobs_in c
      → cond (is_due_at back c (boundary p m) i) (placing back m i (get_or c.sizes i 0) draft).draft draft ≡ job_turn p back m i draft
  turn_is back m i draft h =
      let inside = rw jobs_are at h in
      rw (cols.grade i inside, cols.size i inside, cols.deadline i inside) refl

  -- Number q of the jobs, in their order or from the back.
  pub turn_told : (back : Bool) (m q : ℕ) (draft : Draft) {i time : ℕ} {next : Draft} {due of : Bool} → i ≡ turn back (jobs_in c) q → i < jobs_in c
      → boundary p m ≡ time → of ≡ is_of back (get_or c.grades i 0) → (of && eqb (get_or c.deadlines i 0) time) ≡ due
      → next ≡ cond due (placing back m i (get_or c.sizes i 0) draft).draft draft → next ≡ job_turn p back m (turn back (counted p) q) draft
  turn_told back m q draft {i = i} turned h at of due e =
      let test = ap₂ (λ b t. b && eqb (get_or c.deadlines i 0) t) (sym of) at ∙ due in
      e ∙ ap (λ b. cond b (placing back m i (get_or c.sizes i 0) draft).draft draft) (sym test) ∙ turn_is back m i draft h
      ∙ ap (λ k. job_turn p back m k draft) (turned ∙ ap (λ n. turn back n q) jobs_are)

  -- The end of a class at boundary m as the columns tell it.
  end_is : (back : Bool) (m : ℕ) → end_at back c (boundaries p) m ≡ cond (is_end p back m) (Some (record { 0 = sizes_due p back (boundary p m) })) None
  end_is back m =
      let t = boundary p m in
      ap₂ (λ b s. cond (eqb m 0 || not b) (Some (record { 0 = s })) None)
      (ap (every (λ i. not (is_due_at back c t i))) jobs_are
      ∙ every_ext _ _ (counted p) (λ i h. rw (cols.grade i h, cols.deadline i h) refl))
      (ap (sum (due_size back c t)) jobs_are
      ∙ sum_ext _ _ (counted p) (λ i h. rw (cols.grade i h, cols.size i h, cols.deadline i h) refl))

-- A pair with ends under conditions is a pair under both conditions.
pair_ends : (n d start D E : ℕ) (x y : Units) (a b : Bool) → pair_in n d start D E (cond a (Some x) None) (cond b (Some y) None)
    ≡ fault (a && b && ltb (n * (E - start) + d * (D - E)) (x.0 + y.0)) (no_timetable ∷ D ∷ E ∷ (x.0 + y.0) ∷ (n * (E - start) + d * (D - E)) ∷ [])
pair_ends n d start D E x y true true = refl
pair_ends n d start D E x y true false = refl
pair_ends n d start D E x y false b = refl

-- Whether all jobs have one release, as the columns tell it. The first time is the first release.
pub one_release_lem : (p : Plan) {t : Task} {jobs : ℕ} → IsTaskOf p t → jobs ≡ jobs_in t.columns
    → every (λ i. eqb (get_or t.columns.releases i 0) (get_or (times_of t) 0 0)) jobs ≡ one_release p
unfolding one_release
one_release_lem p {t = t} is jobs =
    let bounds = rules_bounded p is.rules in
    ap₂ (λ b n. every (λ i. eqb (get_or t.columns.releases i 0) b) n)
    (ap (λ l. get_or l 0 0) is.times ∙ first_boundary p bounds.some bounds.windows)
    (jobs ∙ jobs_are p is.columns)
    ∙ every_ext _ _ (counted p) (λ i h. ap (λ r. eqb r (first_release p)) (is.columns.release i h))

-- The first pair over the ends of both classes is that of the plan.
module _ (p : Plan) {t : Task} (highs lows : List (Option Units)) (is : IsTaskOf p t)
    (high : Ends false t.columns (times_of t) highs) (low : Ends true t.columns (times_of t) lows) where
  pair_is : (m k : ℕ) → m < length (times_of t) → k < length (times_of t)
      → pairs_from t.columns (times_of t) (get_or (times_of t) m 0) (get_or highs m None) lows k ≡ pair_at p m k
  pair_is m k h l =
      rw (high m h, low k l, is.times, ← is.columns.n, ← is.columns.d, end_is p is.columns false m, end_is p is.columns true k)
      (pair_ends p.n.0 p.d.0 (boundary p 0) (boundary p m) (boundary p k) _ _ (is_end p false m) (is_end p true k))

  pub pairs_told : first (λ m. first (pairs_from t.columns (times_of t) (get_or (times_of t) m 0) (get_or highs m None) lows) (length (times_of t))) (length (times_of t))
      ≡ pair_fault p
  unfolding pair_fault
  pairs_told =
      let within = boundaries_within p is.rules in
      let long : length (times_of t) ≡ suc (intervals p) = ap length is.times ∙ omega arith in
      first_ext _ _ (length (times_of t)) (λ m h. first_ext _ _ (length (times_of t)) (λ k l. pair_is m k h l))
      ∙ ap (λ n. first (λ m. first (pair_at p m) n) n) long
