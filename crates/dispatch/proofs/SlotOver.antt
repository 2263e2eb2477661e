-- The effect of a slot's call from what the code finds: a refusal, or marks, grants and carried units.
use mathlib.Core.Path.{◌≡◌, refl, sym, ◌∙◌, ap, ap₂, subst}
use mathlib.Core.Bool.{Bool, true, false, not, cond, ◌&&◌, ◌||◌, and-true}
use mathlib.Core.List.{List, [], ◌∷◌, ◌++◌}
use Prim.Native.Nat.{ℕ, ◌+◌, ◌-◌, ◌≤◌, ◌<◌, ◌^◌, min}
use native.Mathlib.Omega.{arith}
use lib.Dec.{ltb}
use lib.ListN.{length, get_or, drop, replicate}
use Rattle.base.specs.Fill.{filled}
use Rattle.base.specs.Sum.{on}
use Rattle.base.proofs.Choice.{on_less, on_zero}
use Rattle.base.proofs.FillLaws.{filled_ext, is_filled}
use Rattle.base.proofs.SumLaws.{sum_ext}
use Rattle.plan.specs.Rules.{counted, size, is_hi}
use Rattle.plan.specs.Refusal.{unsound}
use Rattle.plan.specs.Report.{Report, is_none}
use Rattle.plan.specs.declared.kinds.Plan.{Plan}
use Rattle.plan.specs.declared.kinds.Slots.{Slots}
use Rattle.dispatch.specs.declared.Run.{Run}
use Rattle.dispatch.specs.Dues.{carried_of, ended_of, live, slow_at, slow_after, below_after, goal, due}
use Rattle.dispatch.specs.Order.{before, order, serve}
use Rattle.dispatch.specs.Step.{SlotEffect, slot_sound, slot_fault, granted, added, advanced, slot_by, stepped}
use Rattle.dispatch.specs.Inner.Shares.{settled_of, settled_run, served, claim, share, Shared}
use Rattle.dispatch.proofs.Readiness.{left_by}
use Rattle.dispatch.proofs.RowShares.{filled_is_added, granted_rest, granted_length}
use Rattle.dispatch.proofs.Shares.{granted_is_share, within_claim}
use Rattle.dispatch.proofs.SlotSoundness.{SlotSound}

-- A refused call leaves run and grants as they were.
pub slot_refused : (p : Plan) (table : List ℕ) (run : Run) (v : ℕ) (grants : List ℕ) {found : Report} → found ≡ slot_fault p table run v grants → is_none found ≡ false
    → record { answer = found; run = run; grants = grants } ≡ stepped p table run v grants
unfolding stepped
slot_refused p table run v grants {found} e some =
    sym (left_by found p table run v grants some) ∙ ap (λ f. slot_by f p table run v grants) e

-- So the run is the one that went in, whatever is told of the run beside a refusal.
pub refused_run : (p : Plan) (table : List ℕ) (run : Run) (v : ℕ) (grants : List ℕ) {number : ℕ} {next : Run} {left : List ℕ}
    → record { answer = number ∷ []; run = next; grants = left } ≡ stepped p table run v grants
    → record { answer = number ∷ []; run = run; grants = left } ≡ stepped p table run v grants
unfolding stepped
refused_run p table run v grants {number} {next} {left} e = by (slot_fault p table run v grants) refl
  where
    by : (r : Report) → slot_fault p table run v grants ≡ r → record { answer = number ∷ []; run = run; grants = left } ≡ stepped p table run v grants
    by [] f =
        let none : number ∷ [] ≡ [] = ap (λ (s : SlotEffect). s.answer) e ∙ ap (λ r. (slot_by r p table run v grants).answer) f in
        absurd (cc)
    by (m ∷ rest) f =
        let same : next ≡ run = ap (λ (s : SlotEffect). s.run) e ∙ ap (λ r. (slot_by r p table run v grants).run) f in
        subst (λ r. record { answer = number ∷ []; run = r; grants = left } ≡ stepped p table run v grants) same e

-- A job's claim is at most what is left of its size.
pub claim_small : (p : Plan) (table : List ℕ) (run : Run) (slow : Bool) (i : ℕ) → claim p table run slow i ≤ size p i - carried_of run i
claim_small p table run slow i = omega (arith, on_less (served p run slow i) (due p table run slow i), by (ended_of run i) slow)
  where
    by : (ended slow : Bool) → cond ended 0 (goal p table run.clock.0 slow i - carried_of run i) ≤ size p i - carried_of run i
    by true slow = omega arith
    by false true = omega arith
    by false false = omega arith

-- So a sound run stays within the sizes, which 32 bits hold.
pub carried_fits : (p : Plan) (table : List ℕ) (run : Run) (v : ℕ) (grants : List ℕ) → SlotSound p run → (k : ℕ) → k < counted p
    → carried_of run k + get_or (granted p table run v grants) k 0 < 2 ^ 32
carried_fits p table run v grants sound k h =
    omega (
      arith,
      within_claim p table run v grants k h,
      claim_small p table run (slow_after p table run v) k,
      sound.carried k h,
      sound.rules.sizes k h,
    )

-- The grants are the shares of the counted jobs.
shares_granted : (p : Plan) (table : List ℕ) (run : Run) (v : ℕ) (grants : List ℕ) → counted p ≤ length grants
    → filled (share p table run v) (counted p) grants ≡ granted p table run v grants
shares_granted p table run v grants room =
    is_filled (share p table run v) (counted p) grants (granted p table run v grants) (granted_length p table run v grants room)
    (λ k inside below. granted_is_share p table run v grants k below) (granted_rest p table run v grants)

-- With the ended marks cleared and each ended job counted as carried in whole, a run has the same slow mark after the slot and
-- the same grants: nothing is due to a job that has ended, or that has its size.
module _ (p : Plan) (table : List ℕ) (run : Run) (settled : List ℕ) (v : ℕ)
    (held : (k : ℕ) → k < counted p → get_or settled k 0 ≡ settled_of p run k) where
  abbrev as_settled : Run
  as_settled = settled_run run.clock run.slow settled

  settled_part : (b s : Bool) (k : ℕ) → k < counted p → on (live p as_settled k && b) (due p table as_settled s k) ≡ on (live p run k && b) (due p table run s k)
  settled_part b s k l = by (ended_of run k) refl
    where
      none : (s : Bool) → get_or settled k 0 ≡ size p k → goal p table run.clock.0 s k - get_or settled k 0 ≡ 0
      none true w = omega (arith, w)
      none false w = omega (arith, w)

      by : (ended : Bool) → ended_of run k ≡ ended → on (live p as_settled k && b) (due p table as_settled s k) ≡ on (live p run k && b) (due p table run s k)
      by true e =
          let whole : get_or settled k 0 ≡ size p k = held k l ∙ ap (λ b. cond b (size p k) (carried_of run k)) e in
          ap (on (live p as_settled k && b)) (none s whole) ∙ on_zero (live p as_settled k && b) ∙ sym (rw e refl)
      by false e =
          let same : get_or settled k 0 ≡ carried_of run k = held k l ∙ ap (λ b. cond b (size p k) (carried_of run k)) e in
          ap (λ c. on (live p as_settled k && b) (goal p table run.clock.0 s k - c)) same ∙ sym (rw e refl)

  pub settled_mark : slow_after p table as_settled v ≡ slow_after p table run v
  settled_mark = ap (λ d. run.slow || ltb v (min p.n.0 d)) (sum_ext _ _ (counted p) each)
    where
      each : (k : ℕ) → k < counted p → on (live p as_settled k) (due p table as_settled false k) ≡ on (live p run k) (due p table run false k)
      each k l = rw (and-true (live p as_settled k), and-true (live p run k)) at (settled_part true false k l)

  settled_claim : (k : ℕ) → k < counted p → claim p table as_settled (slow_after p table as_settled v) k ≡ claim p table run (slow_after p table run v) k
  settled_claim k l =
      ap (λ s. claim p table as_settled s k) settled_mark
      ∙ settled_part (is_hi p k || not (slow_after p table run v)) (slow_after p table run v) k l

  settled_share : (k : ℕ) → k < counted p → share p table as_settled v k ≡ share p table run v k
  unfolding share
  settled_share k l =
      ap₂ (λ c s. min c (v - s)) (settled_claim k l) (sum_ext _ _ (counted p) (λ i h. ap (on (before p i k)) (settled_claim i h)))

  pub settled_granted : (grants : List ℕ) → counted p ≤ length grants → granted p table as_settled v grants ≡ granted p table run v grants
  settled_granted grants room =
      sym (shares_granted p table as_settled v grants room) ∙ filled_ext _ _ (counted p) grants settled_share
      ∙ shares_granted p table run v grants room

-- Laws for the functions that share out a slot, in a single call and in a shift.

-- A slot shared out under the mark of its run leaves that mark, and the grants.
pub shared_under : (p : Plan) (table : List ℕ) (run : Run) (v : ℕ) (grants : List ℕ) {done : Bool} {left : List ℕ} → Shared p table run v grants done left
    → done ≡ true → (run.slow ≡ slow_after p table run v) × (left ≡ granted p table run v grants)
shared_under p table run v grants told e =
    (by run.slow (slow_at p table run v) (sym e ∙ told.0), told.1 ∙ ap (λ b. cond b (granted p table run v grants) grants) e)
  where
    by : (s x : Bool) → true ≡ (s || not x) → s ≡ (s || x)
    by true x h = refl
    by false true h = sym h
    by false false h = refl

-- A slot that is not shared out under the mark of its run leaves room for as many grants as before.
pub shared_long : (p : Plan) (table : List ℕ) (run : Run) (v : ℕ) (grants : List ℕ) {done : Bool} {left : List ℕ} {n : ℕ}
    → Shared p table run v grants done left → done ≡ false → n ≤ length grants → n ≤ length left
shared_long p table run v grants told e room =
    rw (told.1 ∙ ap (λ b. cond b (granted p table run v grants) grants) e) room

-- A slot that is not shared out under the mark of its run sets the mark; shared out once more, under the slow mark, it has the
-- grants.
pub shared_slow : (p : Plan) (table : List ℕ) (clock : Slots) (slow : Bool) (settled : List ℕ) (v : ℕ) (grants : List ℕ) {done again : Bool} {row left : List ℕ}
    → Shared p table (settled_run clock slow settled) v grants done row → done ≡ false → Shared p table (settled_run clock true settled) v row again left
    → (true ≡ slow_after p table (settled_run clock slow settled) v) × (left ≡ granted p table (settled_run clock slow settled) v grants)
unfolding granted order
shared_slow p table clock slow settled v grants {done} {again} {row} {left} first e second = (
  marked,
  second.1 ∙ ap (λ b. cond b (granted p table slow_run v row) row) second.0 ∙ ap (granted p table slow_run v) stays ∙ same,
)
  where
    run : Run
    run = settled_run clock slow settled

    slow_run : Run
    slow_run = settled_run clock true settled

    by : (s x : Bool) → false ≡ (s || not x) → true ≡ (s || x)
    by true x h = refl
    by false true h = refl
    by false false h = sym h

    marked : true ≡ slow_after p table run v
    marked = by slow (slow_at p table run v) (sym e ∙ first.0)

    stays : row ≡ grants
    stays = first.1 ∙ ap (λ b. cond b (granted p table run v grants) grants) e

    same : granted p table slow_run v grants ≡ granted p table run v grants
    same = ap (λ s. serve (due p table run s) v (order p run s) (replicate (counted p) 0 ++ drop (counted p) grants)) marked

-- The room and the sums for an equal row.
pub same_room : {m n : ℕ} {l g : List ℕ} → m ≡ n → l ≡ g → n ≤ length g → m ≤ length l
same_room e q h = rw (e, q) h

pub same_sums : (x k : ℕ) {l g : List ℕ} → l ≡ g → x + get_or g k 0 < 2 ^ 32 → x + get_or l k 0 < 2 ^ 32
same_sums x k q h = rw q h

-- The run after a slot: the marks, and the carried units with the grants added.
pub slot_run : (p : Plan) (table : List ℕ) (run : Run) (v : ℕ) (grants : List ℕ) {slow below : Bool} {clock : Slots} {carried left : List ℕ}
    → counted p ≤ length grants → clock ≡ record { 0 = run.clock.0 + 1 } → slow ≡ slow_after p table run v → below ≡ below_after p run v
    → left ≡ granted p table run v grants → carried ≡ filled (λ k. carried_of run k + get_or left k 0) (counted p) run.carried
    → record { clock = clock; slow = slow; below = below; carried = carried; ended = run.ended } ≡ advanced p table run v grants
unfolding advanced
slot_run p table run v grants {slow} {below} {clock} {carried} {left} room c s b g h =
    let sums : carried ≡ added (counted p) run.carried (granted p table run v grants) =
    h ∙ ap (λ l. filled (λ k. carried_of run k + get_or l k 0) (counted p) run.carried) g
    ∙ filled_is_added _ (counted p) run.carried (granted p table run v grants) (rw (granted_length p table run v grants room) room) (λ k l. refl) in
    λ t. record { clock = c t; slow = s t; below = b t; carried = sums t; ended = run.ended }

-- A call that is not refused: the run after it, and its grants.
pub slot_done : (p : Plan) (table : List ℕ) (run : Run) (v : ℕ) (grants : List ℕ) {found : Report} {next : Run} {left : List ℕ}
    → found ≡ slot_fault p table run v grants → found ≡ [] → next ≡ advanced p table run v grants → left ≡ granted p table run v grants
    → record { answer = found; run = next; grants = left } ≡ stepped p table run v grants
unfolding stepped
slot_done p table run v grants e none r g = rw (sym e ∙ none) (λ t. record { answer = none t; run = r t; grants = g t })

-- A plan and a run that are not sound are refused with 21.
pub unsound_refused : (p : Plan) (table : List ℕ) (run : Run) (v : ℕ) (grants : List ℕ) → slot_sound p run ≡ false
    → record { answer = unsound ∷ []; run = run; grants = grants } ≡ stepped p table run v grants
unfolding stepped slot_fault
unsound_refused p table run v grants e = rw e refl
