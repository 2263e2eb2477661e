-- What a slot's call never does, for every plan, table, run and speed.
use mathlib.Core.Path.{◌≡◌, refl, ap}
use mathlib.Core.Bool.{true, false}
use mathlib.Core.List.{List, [], ◌∷◌}
use Prim.Native.Nat.{ℕ, ◌≤◌, ◌<◌}
use native.Mathlib.Omega.{arith}
use lib.ListN.{get_or}
use Rattle.base.proofs.Choice.{on_less}
use Rattle.base.specs.Sum.{sum}
use Rattle.plan.specs.Rules.{counted}
use Rattle.plan.specs.declared.kinds.Plan.{Plan}
use Rattle.judge.specs.Verdict.{judged}
use Rattle.plan.specs.Report.{Report}
use Rattle.dispatch.specs.declared.Run.{Run}
use Rattle.dispatch.specs.Dues.{carried_of, live, slow_after, due}
use Rattle.dispatch.specs.Inner.Shares.{served, claim}
use Rattle.dispatch.specs.Step.{start_from, start_in, slot_fault, granted, advanced, slot_by, stepped, started}
use Rattle.dispatch.proofs.Shares.{within_claim, all_served}
use Rattle.dispatch.proofs.RowShares.{added_rest, granted_rest}

module _ (p : Plan) (table : List ℕ) (run : Run) (v : ℕ) (grants : List ℕ) where
  abbrev grant : ℕ → ℕ
  grant i = get_or (granted p table run v grants) i 0

  -- The answer of a slot's call is the refusal found.
  pub slot_answer : (stepped p table run v grants).answer ≡ slot_fault p table run v grants
  unfolding stepped
  slot_answer = by_fault (slot_fault p table run v grants)
    where
      by_fault : (f : Report) → (slot_by f p table run v grants).answer ≡ f
      by_fault [] = refl
      by_fault (number ∷ rest) = refl

  -- The grants of a slot sum to at most its speed.
  pub never_above_speed : sum grant (counted p) ≤ v
  never_above_speed = rw (all_served p table run v grants) (omega arith)

  -- No job is granted more than its due.
  pub never_above_due : (i : ℕ) → i < counted p → grant i ≤ due p table run (slow_after p table run v) i
  never_above_due i l =
      omega (
        arith,
        within_claim p table run v grants i l,
        on_less (served p run (slow_after p table run v) i) (due p table run (slow_after p table run v) i),
      )

  -- A job that is not live is granted nothing.
  pub never_unless_live : (i : ℕ) → i < counted p → live p run i ≡ false → grant i ≡ 0
  never_unless_live i l dead =
      let nothing : claim p table run (slow_after p table run v) i ≡ 0 = rw dead refl in
      omega (arith, within_claim p table run v grants i l)

  -- A call that is done leaves the advanced run and the slot's grants.
  pub done_leaves : (stepped p table run v grants).answer ≡ []
      → ((stepped p table run v grants).run ≡ advanced p table run v grants) × ((stepped p table run v grants).grants ≡ granted p table run v grants)
  unfolding stepped
  done_leaves e = by_fault (slot_fault p table run v grants) e
    where
      by_fault : (f : Report) → (slot_by f p table run v grants).answer ≡ []
          → ((slot_by f p table run v grants).run ≡ advanced p table run v grants) × ((slot_by f p table run v grants).grants ≡ granted p table run v grants)
      by_fault [] e = (refl, refl)
      by_fault (number ∷ rest) e = absurd (let z : ◌≡◌ {A = ℕ} 0 1 = cc in omega arith)

  -- Hence a call that is done grants at most its speed in total, no job more than its
  -- due, and nothing to a job that is not live.
  pub done_within_speed : (stepped p table run v grants).answer ≡ [] → sum (λ i. get_or (stepped p table run v grants).grants i 0) (counted p) ≤ v
  done_within_speed e = rw (done_leaves e).1 never_above_speed

  pub done_within_due : (stepped p table run v grants).answer ≡ [] → (i : ℕ) → i < counted p
      → get_or (stepped p table run v grants).grants i 0 ≤ due p table run (slow_after p table run v) i
  done_within_due e i l = rw (done_leaves e).1 (never_above_due i l)

  pub done_live_only : (stepped p table run v grants).answer ≡ [] → (i : ℕ) → i < counted p → live p run i ≡ false
      → get_or (stepped p table run v grants).grants i 0 ≡ 0
  done_live_only e i l dead = rw (done_leaves e).1 (never_unless_live i l dead)

  -- Entries from the job count on are unchanged, in the grant row and in the run.
  pub grants_beyond_stay : (k : ℕ) → counted p ≤ k → grant k ≡ get_or grants k 0
  grants_beyond_stay k h = granted_rest p table run v grants k h

  pub carried_beyond_stays : (k : ℕ) → counted p ≤ k → carried_of (advanced p table run v grants) k ≡ carried_of run k
  unfolding advanced
  carried_beyond_stays k h = added_rest (counted p) run.carried (granted p table run v grants) k h

  -- A refused call changes neither the run nor the grants.
  pub refused_changes_nothing : (number : ℕ) (rest : Report) → (stepped p table run v grants).answer ≡ number ∷ rest
      → ((stepped p table run v grants).run ≡ run) × ((stepped p table run v grants).grants ≡ grants)
  unfolding stepped
  refused_changes_nothing number rest e = by_fault (slot_fault p table run v grants) e
    where
      by_fault : (f : Report) → (slot_by f p table run v grants).answer ≡ number ∷ rest
          → ((slot_by f p table run v grants).run ≡ run) × ((slot_by f p table run v grants).grants ≡ grants)
      by_fault [] e = absurd (let z : ◌≡◌ {A = ℕ} 0 1 = cc in omega arith)
      by_fault (n ∷ more) e = (refl, refl)

  -- A mark that is set stays set through a call.
  pub slow_kept : run.slow ≡ true → (stepped p table run v grants).run.slow ≡ true
  unfolding stepped advanced
  slow_kept e = by_fault (slot_fault p table run v grants)
    where
      by_fault : (f : Report) → (slot_by f p table run v grants).run.slow ≡ true
      by_fault [] = rw e refl
      by_fault (n ∷ more) = e

  pub below_kept : run.below ≡ true → (stepped p table run v grants).run.below ≡ true
  unfolding stepped advanced
  below_kept e = by_fault (slot_fault p table run v grants)
    where
      by_fault : (f : Report) → (slot_by f p table run v grants).run.below ≡ true
      by_fault [] = rw e refl
      by_fault (n ∷ more) = e

-- A refused start leaves a lent record as it was.
pub refused_start_changes_nothing : (p : Plan) (table : List ℕ) (was : Run) (number : ℕ) (places : Report)
    → judged p table ≡ number ∷ places → start_in p table was ≡ was
unfolding start_in
refused_start_changes_nothing p table was number places e = ap (λ r. start_from r (started p) was) e
