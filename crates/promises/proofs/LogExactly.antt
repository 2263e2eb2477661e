-- The log reader answers the first fault that the bytes have by the layout, with its number and offset, or reads what the layout
-- says: each number exactly when its ground holds and none before it does.
use mathlib.Core.Path.{◌≡◌, refl, sym, ◌∙◌, ap}
use mathlib.Core.Logic.{◌↔◌}
use mathlib.Core.Bool.{Bool, true, false, not, cond}
use mathlib.Core.List.{List, [], ◌∷◌, ◌++◌}
use Prim.Native.Nat.{ℕ, zero, suc, ◌≤◌, ◌<◌}
use native.Mathlib.Omega.{arith}
use borrow.Author.Tests.{leb-false, lt-ltb, le-ltb}
use lib.Dec.{leb}
use lib.ListN.{length, take, drop}
use Rattle.base.proofs.Logic.{if_less}
use Rattle.plan.specs.Kinds.{Bytes, Offset}
use Rattle.plan.specs.Edition.{most_speeds}
use Rattle.plan.specs.Refusal.{refusal_at, buffer_too_short, too_many_speeds, not_finite, wrong_lowest}
use Rattle.plan.specs.Report.{Report, or_else}
use Rattle.fields.specs.Parsers.{got, no}
use Rattle.fields.proofs.ParserLaws.{same_value}
use Rattle.meter.specs.Speed.{normal_allowed, are_finite, lowest_wrong}
use Rattle.meter.specs.Log as log
use Rattle.meter.specs.Log.{log_version, float_bytes, reading_length, Bits, reading_of, taken, one_reading, all_readings, meter_log, speeds_of, LogEffect, took, log_read}
use Rattle.meter.specs.Grounds.{Normal, ToldEach}
use Rattle.meter.proofs.LogLaws.{log_rate}
use Rattle.meter.proofs.LogTold.{log_told}
use Rattle.meter.proofs.SpeedExactly.{normal_is, normal_tells, no_so, so_not}
use Rattle.promises.specs.FileFaults.{unless_at, InsideFile}
use Rattle.promises.specs.LogFaults.{mean_from, lowest_from, after_reading, reading_from, bits_at, reading_faults_at, reading_faults, log_fault, readings_in, log_readings, LogDecided, rate_wrong, log_wrong, list_short, log_read_lem}
use Rattle.promises.proofs.ReaderExactly.{settle, Inside, Settles, then_settles, value_settles, here_settles, field_settles, passed_settles, test_settles, length_settles, opening_settles}

-- Where the log ends, as far as its records are read.
unfoldable pub end_from : (file : Bytes) (room k : ℕ) → Offset
end_from file zero k = reading_from k
end_from file (suc room) k = cond (leb (length file) (reading_from k)) (reading_from k) (end_from file room (suc k))

module _ (file : Bytes) where
  reading_settles : (at : Offset) → Settles file one_reading at (reading_faults_at file at) (bits_at file at) (after_reading at)
  unfolding one_reading taken
  reading_settles at =
      then_settles {B = Bits} (length_settles file reading_length at)
      (λ _ _. here_settles (λ from is. then_settles (field_settles file float_bytes (mean_from at))
      (λ mean _. then_settles (field_settles file float_bytes (lowest_from at))
      (λ lowest _.
      let b : Bits = record { mean = mean; lowest = lowest } in
      then_settles (test_settles file (are_finite (reading_of b)) not_finite from (after_reading at) (omega (arith, is)) (λ _. omega (arith, is)))
      (λ _ _. passed_settles file (not (lowest_wrong (reading_of b))) wrong_lowest from (after_reading at) (omega (arith, is)) (λ _. omega (arith, is)) b)))))

  -- No record more, or one too many.
  full_settles : (k : ℕ) (over : Bool) → leb (length file) (reading_from k) ≡ over
      → Settles file (all_readings zero) (reading_from k) (unless_at over too_many_speeds (reading_from k)) [] (reading_from k)
  unfolding all_readings
  full_settles k true e = record { is = rw e refl; inside = λ h. h; goes = λ _. omega arith; same = λ _ other long agree. rw (long, e) refl }
  full_settles k false e =
      let more = leb-false (length file) (reading_from k) e in
      record { is = rw e refl; inside = λ h. (h, λ at_end_lem. absurd (omega (arith, at_end_lem))); goes = λ _. omega arith; same = λ _ other long agree. rw (long, e) refl }

  -- The log ends, or a record begins, and then those after it.
  more_settles : (room k : ℕ) (over : Bool) → leb (length file) (reading_from k) ≡ over
      → Settles file (all_readings room) (after_reading (reading_from k)) (reading_faults file room (suc k)) (readings_in file room (suc k)) (end_from file room (suc k))
      → Settles file (all_readings (suc room)) (reading_from k) (cond over [] (or_else (reading_faults_at file (reading_from k)) (reading_faults file room (suc k))))
      (cond over [] (bits_at file (reading_from k) ∷ readings_in file room (suc k))) (cond over (reading_from k) (end_from file room (suc k)))
  unfolding all_readings
  more_settles room k true e later = record { is = rw e refl; inside = λ h. h; goes = λ _. omega arith; same = λ _ other long agree. rw (long, e) refl }
  more_settles room k false e later =
      let s = then_settles {B = List Bits} (reading_settles (reading_from k)) (λ b _. value_settles later (λ rest. b ∷ rest)) in
      record { is = rw e s.is; inside = s.inside; goes = s.goes; same = λ h other long agree. rw (long, e) (s.same h other long agree) }

  readings_settle : (room k : ℕ) → Settles file (all_readings room) (reading_from k) (reading_faults file room k) (readings_in file room k) (end_from file room k)
  unfolding reading_faults readings_in end_from reading_from
  readings_settle zero k = full_settles k (leb (length file) (reading_from k)) refl
  readings_settle (suc room) k = more_settles room k (leb (length file) (reading_from k)) refl (readings_settle room (suc k))

  log_settles : Settles file meter_log 0 (log_fault file) (log_readings file) (end_from file most_speeds 0)
  unfolding meter_log reading_from
  log_settles = then_settles {B = List Bits} (opening_settles file log_version) (λ _ _. readings_settle most_speeds 0)

-- For every log: it is read, as the layout says, if it has no fault; otherwise it is refused by the number and at the offset of its
-- first fault.
pub log_by_layout : (file : Bytes) → meter_log file 0 ≡ settle (log_fault file) (log_readings file) (end_from file most_speeds 0)
log_by_layout file = (log_settles file).is

-- The offset of a refusal is at most the log's length, and is the length only with 2, or with 1 for an empty log.
pub log_offset_inside : (file : Bytes) → InsideFile file (log_fault file)
log_offset_inside file = by (log_fault file) ((log_settles file).inside (omega arith))
  where
    by : (F : Report) → Inside file F (end_from file most_speeds 0) → InsideFile file F
    by [] i = tt
    by (number ∷ []) i = i
    by (number ∷ offset ∷ []) i = i
    by (number ∷ offset ∷ more ∷ rest) i = i

-- The parser's result by the faults: refused by the first, or the readings of the layout.
log_refused_by : (file : Bytes) {number offset : ℕ} → log_fault file ≡ number ∷ offset ∷ [] → meter_log file 0 ≡ no (refusal_at number offset)
log_refused_by file e = log_by_layout file ∙ ap (λ F. settle F (log_readings file) (end_from file most_speeds 0)) e

log_read_by : (file : Bytes) → log_fault file ≡ [] → meter_log file 0 ≡ got (log_readings file) (end_from file most_speeds 0)
log_read_by file e = log_by_layout file ∙ ap (λ F. settle F (log_readings file) (end_from file most_speeds 0)) e

module _ (file : Bytes) (n : ℕ) (list : List ℕ) where
  -- The effect by the grounds.
  module _ (normal : normal_allowed n ≡ true) where
    wrong_effect : {number offset : ℕ} → log_fault file ≡ number ∷ offset ∷ [] → log_read file n list ≡ record { answer = log.refused (number ∷ offset ∷ []); list = list }
    unfolding log_read
    wrong_effect e = rw (normal, log_refused_by file e)

    short_effect : log_fault file ≡ [] → length list < length (log_readings file) → log_read file n list ≡ record { answer = log.refused (buffer_too_short ∷ []); list = list }
    unfolding log_read
    short_effect e h = rw (normal, log_read_by file e, lt-ltb (length list) (length (log_readings file)) h)

    -- A log without a fault gives the speeds of the readings that the layout has, in their order.
    read_effect : log_fault file ≡ [] → length (log_readings file) ≤ length list
        → log_read file n list ≡ record { answer = took (length (log_readings file)); list = speeds_of n (log_readings file) ++ drop (length (log_readings file)) list }
    unfolding log_read
    read_effect e h = rw (normal, log_read_by file e, le-ltb (length list) (length (log_readings file)) h)

  answered : {k : LogEffect} → log_read file n list ≡ k → (log_read file n list).answer ≡ k.answer
  answered e = ap (λ (x : LogEffect). x.answer) e

  decided_answered : {a : log.Answer} → LogDecided file n list a → (log_read file n list).answer ≡ a
  decided_answered (rate_wrong f) = answered (log_rate file n list (no_so (normal_allowed n) (normal_is n) f))
  decided_answered (log_wrong p e) = answered (wrong_effect (normal_tells n p) e)
  decided_answered (list_short p e h) = answered (short_effect (normal_tells n p) e h)
  decided_answered (log_read_lem p e h) = answered (read_effect (normal_tells n p) e h)

  log_decided : LogDecided file n list (log_read file n list).answer
  log_decided = by (normal_allowed n) refl (log_fault file) refl (log_offset_inside file)
    where
      by : (a : Bool) → normal_allowed n ≡ a → (F : Report) → log_fault file ≡ F → InsideFile file F → LogDecided file n list (log_read file n list).answer
      by false e F f i = rw (answered (log_rate file n list e)) (rate_wrong (so_not (normal_tells n) e))
      by true e [] f i =
          if_less (length list) (length (log_readings file)) (λ h. rw (answered (short_effect e f h)) (list_short (normal_is n e) f h))
          (λ h. rw (answered (read_effect e f h)) (log_read_lem (normal_is n e) f h))
      by true e (number ∷ []) f i = absurd i
      by true e (number ∷ offset ∷ []) f i = rw (answered (wrong_effect e f)) (log_wrong (normal_is n e) f)
      by true e (number ∷ offset ∷ more ∷ rest) f i = absurd i

-- Each answer comes exactly when its ground holds and none before it does.
pub log_exactly : (file : Bytes) (n : ℕ) (list : List ℕ) (a : log.Answer) → ((log_read file n list).answer ≡ a) ↔ LogDecided file n list a
log_exactly file n list a = ((λ e. rw e at (log_decided file n list)), decided_answered file n list)

-- A log without a fault gives the speeds of the readings that the layout has, in their order; after them the list stays.
pub log_reads_the_layout : (file : Bytes) (n : ℕ) (list : List ℕ) → Normal n → log_fault file ≡ [] → length (log_readings file) ≤ length list
    → (log_read file n list).list ≡ speeds_of n (log_readings file) ++ drop (length (log_readings file)) list
log_reads_the_layout file n list p e h = ap (λ (x : LogEffect). x.list) (read_effect file n list (normal_tells n p) e h)

-- A log's speeds are those of its readings in order: the call for a single reading tells each, of the readings that the layout has.
pub log_tells_the_layout : (file : Bytes) (n : ℕ) (list : List ℕ) (count : ℕ) → (log_read file n list).answer ≡ took count
    → (length (log_readings file) ≡ count) × ToldEach n (log_readings file) (take count (log_read file n list).list)
log_tells_the_layout file n list count e =
    let t = log_told file n list count e in
    let none : log_fault file ≡ [] = no_fault (took count) refl ((log_exactly file n list (took count)).0 e) in
    let same : t.readings ≡ log_readings file = same_value (sym t.are ∙ log_read_by file none) in
    (ap length (sym same) ∙ t.many, rw same at t.told)
  where
    no_fault : (a : log.Answer) → a ≡ took count → LogDecided file n list a → log_fault file ≡ []
    no_fault a q (rate_wrong f) = absurd (let z : ◌≡◌ {A = ℕ} 0 1 = cc in omega arith)
    no_fault a q (log_wrong p f) = absurd (let z : ◌≡◌ {A = ℕ} 0 1 = cc in omega arith)
    no_fault a q (list_short p f h) = absurd (let z : ◌≡◌ {A = ℕ} 0 1 = cc in omega arith)
    no_fault a q (log_read_lem p f h) = f
