-- The three demands are met.
use mathlib.Core.Path.{◌≡◌}
use Rattle.promises.specs.Demands.{ExactlyOne, EveryCallIsDetermined, VerdictFileAndSlotAreExact, AllDemands}
use Rattle.joblist.proofs.Determined as lists
use Rattle.meter.proofs.Determined as meters
use Rattle.promises.proofs.Determined as unique
use Rattle.promises.proofs.Demand2.{judge_is_exact, read_and_written, written_and_read, grants_are_the_rule}
use Rattle.promises.proofs.NightParts.{kept_in_parts}
use Rattle.promises.proofs.Timetables.{one_drawing, some_drawing, one_shortage, some_shortage}

-- Two results, each determined, are determined together.
both : {A B : Type 0} {Promised : A → B → Type 0} → (a : A) × (b : B) × Promised a b
    → ((r s : A) (x y : B) → Promised r x → Promised s y → (r ≡ s) × (x ≡ y)) → ExactlyOne {A = A × B} (λ r. Promised r.0 r.1)
both some one = ((some.0, some.1), some.2, λ s h. let e = one some.0 s.0 some.1 s.1 some.2 h in λ i. (e.0 i, e.1 i))

-- The same for three results.
all_three : {A B C : Type 0} {Promised : A → B → C → Type 0} → (a : A) × (b : B) × (c : C) × Promised a b c
    → ((r s : A) (x y : B) (u v : C) → Promised r x u → Promised s y v → (r ≡ s) × (x ≡ y) × (u ≡ v))
    → ExactlyOne {A = A × B × C} (λ r. Promised r.0 r.1 r.2)
all_three some one =
    ((some.0, some.1, some.2), some.3, λ s h. let e = one some.0 s.0 some.1 s.1 some.2 s.2 some.3 h in λ i. (e.0 i, e.1 i, e.2 i))

-- One result is determined where some result meets the promise and no two that do differ.
single : {A : Type 0} {Promised : A → Type 0} → (a : A) × Promised a → ((r s : A) → Promised r → Promised s → r ≡ s) → ExactlyOne Promised
single some one = (some.0, some.1, λ s h. one some.0 s some.1 h)

every_call_is_determined : EveryCallIsDetermined
every_call_is_determined =
    record {
      read = λ file table. both (unique.some_reading file table) (unique.one_reading_lem file table);
      lookup = λ file position. single (unique.some_name file position) (unique.one_name file position);
      write = λ p table out. both (unique.some_writing p table out) (unique.one_writing p table out);
      judge = λ p table. single (unique.some_verdict p table) (unique.one_verdict p table);
      slack = λ p table. single (unique.some_figure p table) (unique.one_figure p table);
      draw = λ p table. both (some_drawing p table) (one_drawing p table);
      shortage = λ p. single (some_shortage p) (one_shortage p);
      start = λ p table. single (unique.some_start p table) (unique.one_start p table);
      step = λ p table run v grants. both (unique.some_step p table run v grants) (unique.one_step p table run v grants);
      shift = λ p table run speeds rows numbers.
          all_three (unique.some_shift p table run speeds rows numbers) (unique.one_shift p table run speeds rows numbers);
      outcome = λ p run position. single (unique.some_outcome p run position) (unique.one_outcome p run position);
      telling = λ p run position. single (unique.some_end_early p run position) (unique.one_end_early p run position);
      importing = λ text. single (lists.some_import text) (lists.one_import text);
      exporting = λ list out. both (lists.some_export list out) (lists.one_export list out);
      metering = λ reading n. single (meters.some_speed reading n) (meters.one_speed reading n);
      logging = λ file n list. both (meters.some_log file n list) (meters.one_log file n list);
    }

verdict_file_and_slot_are_exact : VerdictFileAndSlotAreExact
verdict_file_and_slot_are_exact =
    record {
      accepted_exactly = judge_is_exact;
      same_bytes = read_and_written;
      same_plan = λ p table out other types.
          written_and_read p table out other types.records types.names types.cells;
      grants = grants_are_the_rule;
    }

pub all_demands_are_met : AllDemands
all_demands_are_met =
    record { one = every_call_is_determined; two = verdict_file_and_slot_are_exact; three = kept_in_parts }
