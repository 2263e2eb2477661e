-- `judge::faults::in_hand` meets its contract.
use Rattle.std.proofs.Common.{length, not, ap, sym, ◌∙◌, arith}
use borrow.Author.Tests.{not-true, not-false, eqb-true, eqb-false}
use Rattle.judge.proofs.HandFault.{unbounded, hand_sound, hand_unsound, sound_here, sound_rules}
use Rattle.judge.proofs.faults.in_hand.Goals as goal
use Rattle.judge.proofs.faults.in_hand.Goals.{then-is_empty-via-then-is_empty, then-is_empty-via-else-is_empty+then-not-sound_within}

pub returns-then-is_empty-clause-report : goal.returns-then-is_empty-clause-report
returns-then-is_empty-clause-report c =
    let p = c.args.plan.now in
    let table = c.args.table.now in
    elim c.then-is_empty.branch [
      | then-is_empty-via-then-is_empty w ↦
          hand_unsound p table c.if-table-lt-PLACES.false
          (unbounded p table (sym (ap length c.requires) ∙ eqb-true _ 0 (sym c.is_empty.ensures ∙ w.if-is_empty.true)))
      | then-is_empty-via-else-is_empty+then-not-sound_within w ↦
          hand_unsound p table c.if-table-lt-PLACES.false
          (sound_here p table c.requires w.sound_within.ensures (not-true _ (ap not w.if-not-sound_within.true)))
    ]

pub invariant_of-result : goal.invariant_of-result
invariant_of-result c =
    let p = c.args.plan.now in
    let table = c.args.table.now in
    record {
      are_boundaries = c.requires;
      some = omega (arith, eqb-false (length c.args.times.now) 0 (sym c.is_empty.ensures ∙ c.if-is_empty.false));
      all_places = c.if-table-lt-PLACES.false;
      in_width = λ q. omega (arith, c.type_inv.table q);
      rules = sound_rules p table (sound_here p table c.requires c.sound_within.ensures (not-false _ (ap not c.if-not-sound_within.false)));
    }

pub returns-clause-report : goal.returns-clause-report
returns-clause-report c =
    let p = c.args.plan.now in
    let table = c.args.table.now in
    sym (hand_sound p table c.if-table-lt-PLACES.false
    (sound_here p table c.requires c.sound_within.ensures (not-false _ (ap not c.if-not-sound_within.false))))
