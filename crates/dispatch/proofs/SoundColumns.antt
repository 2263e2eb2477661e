-- The soundness of the plan made from columns, as the code tests it.
use mathlib.Core.Path.{◌≡◌, refl, sym, ◌∙◌, ap, ap₂}
use mathlib.Core.Logic.{◌≢◌}
use mathlib.Core.Bool.{Bool, true, false, not, ◌&&◌, ◌||◌, and_assoc, and-false}
use mathlib.Core.List.{List}
use Prim.Native.Nat.{ℕ, ◌<◌, min}
use native.Mathlib.Omega.{arith}
use borrow.Author.Tests.{lt-ltb, le-ltb, le-leb, lt-leb, eq-eqb, ne_eqb}
use lib.Dec.{leb, ltb}
use lib.ListN.{get_or}
use Rattle.base.specs.Below.{every, least, greatest}
use Rattle.base.proofs.Below.{every_ext, every_both, least_ext, greatest_ext}
use Rattle.base.proofs.Logic.{if_less}
use Rattle.plan.specs.Edition.{most_jobs}
use Rattle.plan.specs.Rules.{jobs_of, job_of, release, size, deadline, rates_allowed, count_allowed, grade_allowed, window_allowed, size_allowed, grades_hold, bounds_hold}
use Rattle.plan.specs.Boundaries.{first_release, last_deadline}
use Rattle.plan.specs.declared.kinds.Job.{Job}
use Rattle.plan.specs.declared.columns.Columns.{Columns}
use Rattle.plan.specs.declared.kinds.Plan.{Plan}
use Rattle.dispatch.specs.Step.{sound_at}
use Rattle.dispatch.specs.Inner.Columns.{plan_on}
use Rattle.dispatch.specs.Inner.Readiness.{job_sound, readiness}
use Rattle.plan.specs.declared.refusal.Reason.TheVariants.{Unsound}
use Rattle.std.proofs.Common.{Ok, Err}
use Rattle.dispatch.specs.declared.soundness.Readiness.TheVariants.{Over, Running}
use Rattle.dispatch.proofs.ColumnPlan.{job_on_lem}

-- The parts of soundness in the order of the definition, from the order of the code.
in_order : (x g b c f l : Bool) → (x && (g && b && c) && f && l) ≡ (x && g && b && f && l && c)
in_order false g b c f l = refl
in_order true false b c f l = refl
in_order true true false c f l = refl
in_order true true true true true true = refl
in_order true true true true true false = refl
in_order true true true true false l = refl
in_order true true true false true true = refl
in_order true true true false true false = refl
in_order true true true false false l = refl

-- A clock lies from f to l exactly if it is neither before f nor after l.
window : (f l t : ℕ) → (leb f t && leb t l) ≡ not (ltb t f || ltb l t)
window f l t =
    if_less t f
    (λ b. rw (lt-leb f t b, lt-ltb t f b) refl)
    (λ b. if_less l t
    (λ a. rw (le-leb f t b, lt-leb t l a, le-ltb t f b, lt-ltb l t a) refl)
    (λ a. rw (le-leb f t b, le-leb t l a, le-ltb t f b, le-ltb l t a) refl))

module _ (cols : Columns) where
  abbrev q : Plan
  q = plan_on cols

  abbrev n : ℕ
  n = min cols.count most_jobs

  -- The numbers of a counted job are those of the columns.
  pub grade_on : (i : ℕ) → i < n → (job_of q i).grade ≡ get_or cols.grades i 0
  grade_on i h = ap (λ (j : Job). j.grade) (job_on_lem cols i (omega arith))

  pub release_on : (i : ℕ) → i < n → release q i ≡ get_or cols.releases i 0
  release_on i h = ap (λ (j : Job). j.release.0) (job_on_lem cols i (omega arith))

  pub size_on : (i : ℕ) → i < n → size q i ≡ get_or cols.sizes i 0
  size_on i h = ap (λ (j : Job). j.size.0) (job_on_lem cols i (omega arith))

  pub deadline_on : (i : ℕ) → i < n → deadline q i ≡ get_or cols.deadlines i 0
  deadline_on i h = ap (λ (j : Job). j.deadline.0) (job_on_lem cols i (omega arith))

  pub first_on : first_release q ≡ least (λ i. get_or cols.releases i 0) n
  first_on = least_ext (release q) (λ i. get_or cols.releases i 0) n release_on

  pub last_on : last_deadline q ≡ greatest (λ i. get_or cols.deadlines i 0) n
  last_on = greatest_ext (deadline q) (λ i. get_or cols.deadlines i 0) n deadline_on

  module _ (t : ℕ) (carried : List ℕ) where
    grades_on : grades_hold (jobs_of q) ≡ every (λ i. grade_allowed (get_or cols.grades i 0)) n
    unfolding grades_hold
    grades_on = every_ext _ (λ i. grade_allowed (get_or cols.grades i 0)) n (λ i h. ap grade_allowed (grade_on i h))

    bounds_on : bounds_hold (jobs_of q) ≡ every (λ i. window_allowed (get_or cols.releases i 0) (get_or cols.deadlines i 0) && size_allowed (get_or cols.sizes i 0)) n
    unfolding bounds_hold
    bounds_on =
        every_ext _ (λ i. window_allowed (get_or cols.releases i 0) (get_or cols.deadlines i 0) && size_allowed (get_or cols.sizes i 0)) n
        (λ i h. ap₂ ◌&&◌ (ap₂ window_allowed (release_on i h) (deadline_on i h)) (ap size_allowed (size_on i h)))

    carried_on : every (λ i. leb (get_or carried i 0) (size q i)) n ≡ every (λ i. leb (get_or carried i 0) (get_or cols.sizes i 0)) n
    carried_on = every_ext _ (λ i. leb (get_or carried i 0) (get_or cols.sizes i 0)) n (λ i h. ap (leb (get_or carried i 0)) (size_on i h))

    -- All jobs of the columns are sound exactly if rules 8 and 9 hold and no job has more carried than its size.
    jobs_on_lem : every (job_sound cols carried) n
        ≡ (grades_hold (jobs_of q) && bounds_hold (jobs_of q) && every (λ i. leb (get_or carried i 0) (size q i)) n)
    jobs_on_lem =
        every_both _ (λ i. leb (get_or carried i 0) (get_or cols.sizes i 0)) n
        ∙ ap (λ b. b && every (λ i. leb (get_or carried i 0) (get_or cols.sizes i 0)) n)
        (every_both (λ i. grade_allowed (get_or cols.grades i 0)) (λ i. window_allowed (get_or cols.releases i 0) (get_or cols.deadlines i 0) && size_allowed (get_or cols.sizes i 0)) n)
        ∙ rw (grades_on, bounds_on, carried_on) refl

    pub sound_on : sound_at q t carried
        ≡ (rates_allowed cols.n.0 cols.d.0 && count_allowed cols.count && every (job_sound cols carried) n
        && leb (least (λ i. get_or cols.releases i 0) n) t && leb t (greatest (λ i. get_or cols.deadlines i 0) n))
    sound_on =
        sym
        (ap (λ b. rates_allowed cols.n.0 cols.d.0 && count_allowed cols.count && b && leb (least (λ i. get_or cols.releases i 0) n) t && leb t (greatest (λ i. get_or cols.deadlines i 0) n)) jobs_on_lem
        ∙ in_order (rates_allowed cols.n.0 cols.d.0 && count_allowed cols.count) (grades_hold (jobs_of q)) (bounds_hold (jobs_of q)) (every (λ i. leb (get_or carried i 0) (size q i)) n)
        (leb (least (λ i. get_or cols.releases i 0) n) t) (leb t (greatest (λ i. get_or cols.deadlines i 0) n))
        ∙ rw (first_on, last_on) refl)

    -- Rules 4, 5, 8 and 9, and no job with more carried than its size.
    abbrev pub rules_on : Bool
    rules_on = rates_allowed cols.n.0 cols.d.0 && count_allowed cols.count && every (job_sound cols carried) n

    -- The clock is before the first release or after the last deadline.
    abbrev pub outside : Bool
    outside = ltb t (least (λ i. get_or cols.releases i 0) n) || ltb (greatest (λ i. get_or cols.deadlines i 0) n) t

    pub rules_broken : rules_on ≡ false → sound_at q t carried ≡ false
    rules_broken e = sound_on ∙ rw e refl

    pub clock_outside : outside ≡ true → sound_at q t carried ≡ false
    clock_outside e =
        sound_on
        ∙ and_assoc rules_on (leb (least (λ i. get_or cols.releases i 0) n) t) (leb t (greatest (λ i. get_or cols.deadlines i 0) n))
        ∙ rw (window (least (λ i. get_or cols.releases i 0) n) (greatest (λ i. get_or cols.deadlines i 0) n) t, e) (and-false rules_on)

    pub sound_inside : rules_on ≡ true → outside ≡ false → sound_at q t carried ≡ true
    sound_inside r e =
        sound_on
        ∙ and_assoc rules_on (leb (least (λ i. get_or cols.releases i 0) n) t) (leb t (greatest (λ i. get_or cols.deadlines i 0) n))
        ∙ rw (window (least (λ i. get_or cols.releases i 0) n) (greatest (λ i. get_or cols.deadlines i 0) n) t, r, e) refl

    -- The readiness by these tests.
    pub told_broken : rules_on ≡ false → readiness q t carried ≡ Err Unsound
    told_broken e = rw (rules_broken e) refl

    pub told_outside : outside ≡ true → readiness q t carried ≡ Err Unsound
    told_outside e = rw (clock_outside e) refl

    pub told_over : rules_on ≡ true → outside ≡ false → t ≡ greatest (λ i. get_or cols.deadlines i 0) n → readiness q t carried ≡ Ok Over
    told_over r e last = rw (sound_inside r e, eq-eqb t (last_deadline q) (last ∙ sym last_on)) refl

    pub told_running : rules_on ≡ true → outside ≡ false → t ≢ greatest (λ i. get_or cols.deadlines i 0) n → readiness q t carried ≡ Ok Running
    told_running r e before = rw (sound_inside r e, ne_eqb t (last_deadline q) (λ last. before (last ∙ last_on))) refl
