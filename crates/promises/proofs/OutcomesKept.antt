-- From grants to outcomes: what `outcome` answers in an allowed night of an accepted plan.
use mathlib.Core.Path.{◌≡◌, refl, sym, ◌∙◌, ap}
use mathlib.Core.Logic.{◌≢◌, ◌⊎◌, inl, inr}
use mathlib.Core.Bool.{Bool, true, false, not, cond, ◌&&◌, true≢false}
use mathlib.Core.List.{List, [], ◌∷◌}
use Prim.Native.Nat.{ℕ, ◌+◌, ◌≤◌, ◌<◌}
use native.Mathlib.Omega.{arith}
use borrow.Author.Tests.{lt-ltb, eq-eqb, leb-true, eqb-false, ne_eqb}
use lib.Dec.{leb, ltb, eqb}
use Rattle.plan.specs.Rules.{counted, size, deadline, is_hi}
use Rattle.plan.specs.Boundaries.{first_release}
use Rattle.plan.specs.declared.kinds.Plan.{Plan}
use Rattle.judge.specs.Verdict.{judged}
use Rattle.dispatch.specs.declared.Run.{Run}
use Rattle.dispatch.specs.Dues.{carried_of, ended_of}
use Rattle.dispatch.specs.Step.{Ending, met, ended_early, discarded, missed, still_open, refused, slot_sound, outcome}
use Rattle.base.proofs.Logic.{if_true, neither}
use Rattle.promises.specs.Night.{Call, run_after, had, told, slowed, slowed_before, Allowed, HasRegular, Kept, OutcomesKept}
use Rattle.plan.proofs.Soundness.{Bounded, sound_bounded}
use Rattle.dispatch.proofs.Alike.{asked_counted}
use Rattle.promises.proofs.NightInvariant
use Rattle.promises.proofs.Demand2.{judge_is_exact}
use Rattle.promises.proofs.Demand3.{promise_kept}
use Rattle.promises.proofs.Progress.{unless_told, sound_after, regular_allowed, regular_untold, deadline_reached}

-- If no slot was slow, none that began before time D was.
none_slow_before : (p : Plan) (D : ℕ) (night : List Call) → slowed p night ≡ false → slowed_before p D night ≡ false
unfolding slowed slowed_before
none_slow_before p D [] e = refl
none_slow_before p D (c ∷ earlier) e =
    let parts = neither (slowed p earlier) _ e in
    rw (none_slow_before p D earlier parts.0, parts.1) refl

-- Whether an outcome is missed, and whether it is refused.
abbrev is_missed : Ending → Bool
is_missed met = false
is_missed ended_early = false
is_missed discarded = false
is_missed missed = true
is_missed still_open = false
is_missed (refused number) = false

abbrev is_refused : Ending → Bool
is_refused met = false
is_refused ended_early = false
is_refused discarded = false
is_refused missed = false
is_refused still_open = false
is_refused (refused number) = true

module _ (p : Plan) (table : List ℕ) (accepted : judged p table ≡ []) where
  rules : Bounded p
  rules = sound_bounded p table ((judge_is_exact p table).0 accepted).1

  -- What the run carries for a job is the sum of the job's grants.
  pub carried_is_had : (night : List Call) → Allowed p table night → (i : ℕ) → i < counted p → carried_of (run_after p night) i ≡ had p night i
  carried_is_had = NightInvariant.carried_is_had p table rules ((judge_is_exact p table).0 accepted).2.allotted

  -- The run's slow mark is set if some slot was slow, and otherwise not.
  pub mark_is_slowed : (night : List Call) → Allowed p table night → (run_after p night).slow ≡ slowed p night
  mark_is_slowed = NightInvariant.mark_is_slowed p table rules ((judge_is_exact p table).0 accepted).2.allotted

  -- A job's ended mark is set if the host has told that it ended, and otherwise not.
  pub mark_is_told : (night : List Call) → Allowed p table night → (i : ℕ) → i < counted p → ended_of (run_after p night) i ≡ told p night i
  mark_is_told = NightInvariant.mark_is_told p table rules ((judge_is_exact p table).0 accepted).2.allotted

  told_lacks : (night : List Call) → Allowed p table night → (i : ℕ) → i < counted p → told p night i ≡ true
      → carried_of (run_after p night) i ≢ size p i
  told_lacks = NightInvariant.told_lacks p table rules ((judge_is_exact p table).0 accepted).2.allotted

  module _ (night : List Call) (allowed : Allowed p table night) where
    abbrev run : Run
    run = run_after p night

    promised : Kept p night
    promised = promise_kept p table accepted night allowed

    -- The outcome of a counted job is not refused, so the further tests decide it.
    abbrev decided : ℕ → Ending
    decided i =
        cond (eqb (carried_of run i) (size p i)) met
        (cond (ended_of run i) ended_early
        (cond (not (is_hi p i) && run.slow) discarded (cond (leb (deadline p i) run.clock.0) missed still_open)))

    outcome_is : (i : ℕ) → i < counted p → outcome p run i ≡ decided i
    unfolding outcome
    outcome_is i h =
        rw (sound_after p table accepted night allowed, lt-ltb i p.count (omega (arith, rules.count))) refl

    -- A job that has had its size is met.
    whole_met : (i : ℕ) → i < counted p → had p night i ≡ size p i → outcome p run i ≡ met
    whole_met i h e =
        outcome_is i h ∙ rw (eq-eqb (carried_of run i) (size p i) (carried_is_had night allowed i h ∙ e)) refl

    -- A job whose deadline has come and that is neither ended nor discarded has had its size.
    has_size : (i : ℕ) → i < counted p → ended_of run i ≡ false → (not (is_hi p i) && run.slow) ≡ false → deadline p i ≤ run.clock.0
        → had p night i ≡ size p i
    has_size i h open-still kept come =
        let untold : told p night i ≡ false = sym (mark_is_told night allowed i h) ∙ open-still in
        if_true (is_hi p i)
        (λ e. (unless_told untold (promised.essential i h e come)).0)
        (λ e. (unless_told untold (promised.others i h come (none_slow_before p (deadline p i) night (sym (mark_is_slowed night allowed) ∙ rw e at kept)))).0)

    not_missed : (i : ℕ) → i < counted p → is_missed (decided i) ≡ false
    not_missed i h =
        if_true (eqb (carried_of run i) (size p i))
        (λ e. rw e refl)
        (λ e. if_true (ended_of run i)
        (λ m. rw (e, m) refl)
        (λ m. if_true (not (is_hi p i) && run.slow)
        (λ d. rw (e, m, d) refl)
        (λ d. if_true (leb (deadline p i) run.clock.0)
        (λ c. absurd (eqb-false (carried_of run i) (size p i) e
        (carried_is_had night allowed i h ∙ has_size i h m d (leb-true (deadline p i) run.clock.0 c))))
        (λ c. rw (e, m, d, c) refl))))

    not_refused : (i : ℕ) → is_refused (decided i) ≡ false
    not_refused i = by (eqb (carried_of run i) (size p i)) (ended_of run i) (not (is_hi p i) && run.slow) (leb (deadline p i) run.clock.0)
      where
        by : (a b c d : Bool) → is_refused (cond a met (cond b ended_early (cond c discarded (cond d missed still_open)))) ≡ false
        by true b c d = refl
        by false true c d = refl
        by false false true d = refl
        by false false false true = refl
        by false false false false = refl

    never_missed : (i : ℕ) → is_missed (outcome p run i) ≡ false
    unfolding outcome
    never_missed i =
        if_true (slot_sound p run && ltb i p.count)
        (λ e. let h = asked_counted p run i e in ap is_missed (outcome_is i h) ∙ not_missed i h)
        (λ e. rw e refl)

    -- What is promised of the outcomes holds.
    pub outcomes_kept : OutcomesKept p night
    outcomes_kept =
        record {
          essential_met = λ i h e come t. whole_met i h (unless_told t (promised.essential i h e come)).0;
          others_met = λ i h come e t. whole_met i h (unless_told t (promised.others i h come e)).0;
          told_ended_lem = λ i h t.
              outcome_is i h ∙ rw (ne_eqb (carried_of run i) (size p i) (told_lacks night allowed i h t), mark_is_told night allowed i h, t) refl;
          none_missed = λ i e. true≢false (sym (ap is_missed e) ∙ never_missed i);
          none_refused = λ i number h e. true≢false (sym (ap is_refused e) ∙ ap is_refused (outcome_is i h) ∙ not_refused i);
        }

  -- The outcome of a HI job whose deadline has come is met or ended.
  pub met_or_ended : (night : List Call) → Allowed p table night → (i : ℕ) → i < counted p → is_hi p i ≡ true → deadline p i ≤ (run_after p night).clock.0
      → (outcome p (run_after p night) i ≡ met) ⊎ (outcome p (run_after p night) i ≡ ended_early)
  met_or_ended night a i h e come =
      let kept = outcomes_kept night a in
      if_true (told p night i) (λ t. inr (kept.told_ended_lem i h t)) (λ t. inl (kept.essential_met i h e come t))

  -- With progress: after refused calls and k regular ones, where k slots reach from the first release
  -- to a HI job's deadline, the job is met.
  pub enough_calls_met : (k : ℕ) (night : List Call) → HasRegular p table k night → (i : ℕ) → i < counted p → is_hi p i ≡ true
      → deadline p i ≤ first_release p + k → outcome p (run_after p night) i ≡ met
  enough_calls_met k night r i b h long =
      (outcomes_kept night (regular_allowed p table accepted k night r)
      ).essential_met i b h (deadline_reached p table accepted k night r i b long) (regular_untold p table accepted k night r i)
