-- The link's two marks and the ended marks, once set, stay set through any calls, refused ones included.
use mathlib.Core.Path.{◌≡◌, ◌∙◌, ap}
use mathlib.Core.Bool.{true, false}
use mathlib.Core.List.{List, [], ◌∷◌, ◌++◌}
use Prim.Native.Nat.{ℕ}
use lib.ListN.{get_or}
use Rattle.plan.specs.declared.kinds.Plan.{Plan}
use Rattle.dispatch.specs.declared.Run.{Run}
use Rattle.dispatch.proofs.SlotLimits.{slow_kept, below_kept}
use Rattle.dispatch.proofs.WordLimits.{word_leaves, word_clears_none, slot_keeps_ended}
use Rattle.dispatch.specs.Dues.{ended_of}
use Rattle.promises.specs.Night.{Call, slot, word, run_left, run_after}

-- No call clears a mark.
keeps_slow : (c : Call) (run : Run) → run.slow ≡ true → (run_left c run).slow ≡ true
keeps_slow (slot c) run e = slow_kept c.plan c.table run c.speed c.row e
keeps_slow (word w) run e = (word_leaves w.plan run w.position).1 ∙ e

keeps_below : (c : Call) (run : Run) → run.below ≡ true → (run_left c run).below ≡ true
keeps_below (slot c) run e = below_kept c.plan c.table run c.speed c.row e
keeps_below (word w) run e = (word_leaves w.plan run w.position).2 ∙ e

keeps_ended : (c : Call) (run : Run) (i : ℕ) → ended_of run i ≡ true → ended_of (run_left c run) i ≡ true
keeps_ended (slot c) run i e = ap (λ l. get_or l i false) (slot_keeps_ended c.plan c.table run c.speed c.row) ∙ e
keeps_ended (word w) run i e = word_clears_none w.plan run w.position i e

pub slow_for_good : (p : Plan) (later earlier : List Call) → (run_after p earlier).slow ≡ true → (run_after p (later ++ earlier)).slow ≡ true
unfolding run_after
slow_for_good p [] earlier e = e
slow_for_good p (c ∷ later) earlier e = keeps_slow c (run_after p (later ++ earlier)) (slow_for_good p later earlier e)

pub below_for_good : (p : Plan) (later earlier : List Call) → (run_after p earlier).below ≡ true → (run_after p (later ++ earlier)).below ≡ true
unfolding run_after
below_for_good p [] earlier e = e
below_for_good p (c ∷ later) earlier e = keeps_below c (run_after p (later ++ earlier)) (below_for_good p later earlier e)

pub ended_for_good : (p : Plan) (later earlier : List Call) (i : ℕ) → ended_of (run_after p earlier) i ≡ true
    → ended_of (run_after p (later ++ earlier)) i ≡ true
unfolding run_after
ended_for_good p [] earlier i e = e
ended_for_good p (c ∷ later) earlier i e = keeps_ended c (run_after p (later ++ earlier)) i (ended_for_good p later earlier i e)
