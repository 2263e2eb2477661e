-- The faults of a meter log, told from its bytes and the layout alone: at which offset each record begins, and what is wrong with
-- it, in the order in which the log reader looks; and what its answers say. (proofs/LogExactly: the log reader answers the first
-- of them.)
use Rattle.std.specs.Prelude.{◌≡◌, not, cond, List, [], ◌∷◌, ℕ, zero, suc, ◌+◌, ◌≤◌, ◌<◌, leb, length}
use Rattle.plan.specs.Kinds.{Bytes, Number, Offset}
use Rattle.plan.specs.Edition.{most_speeds}
use Rattle.plan.specs.Refusal.{wrong_rates, buffer_too_short, too_many_speeds, not_finite, wrong_lowest}
use Rattle.plan.specs.Report.{Report, or_else}
use Rattle.planfields.specs.Layout.{opening_bytes}
use Rattle.meter.specs.Speed.{are_finite, lowest_wrong}
use Rattle.meter.specs.Log as log
use Rattle.meter.specs.Log.{log_version, float_bytes, reading_length, Bits, reading_of, took}
use Rattle.meter.specs.Grounds.{Normal}
use Rattle.promises.specs.FileFaults.{value_at, cut_at, unless_at, length_faults, opening_faults}

-- Where the mean and the lowest rate of a record begin, and what follows the record, if it begins at `at`.
abbrev pub mean_from : Offset → Offset
mean_from at = at + 1

abbrev pub lowest_from : Offset → Offset
lowest_from at = mean_from at + float_bytes

abbrev pub after_reading : Offset → Offset
after_reading at = lowest_from at + float_bytes

-- Where record k begins.
unfoldable pub reading_from : ℕ → Offset
reading_from zero = opening_bytes
reading_from (suc k) = after_reading (reading_from k)

-- The bits of the reading that begins at an offset, whatever they are.
abbrev pub bits_at : (file : Bytes) (at : Offset) → Bits
bits_at file at = record { mean = value_at file float_bytes (mean_from at); lowest = value_at file float_bytes (lowest_from at) }

-- The faults of a record that begins at an offset: its length byte; a float that is cut; a float that is no number; a lowest
-- rate below zero or above the mean.
abbrev pub reading_faults_at : (file : Bytes) (at : Offset) → Report
reading_faults_at file at =
    or_else (length_faults file reading_length at)
    (or_else (cut_at file float_bytes (mean_from at))
    (or_else (cut_at file float_bytes (lowest_from at))
    (or_else (unless_at (are_finite (reading_of (bits_at file at))) not_finite (mean_from at))
    (unless_at (not (lowest_wrong (reading_of (bits_at file at)))) wrong_lowest (mean_from at)))))

-- The faults of record k and of those after it, of which there may be `room`: none where the log ends; a record too many.
unfoldable pub reading_faults : (file : Bytes) (room k : ℕ) → Report
reading_faults file zero k = unless_at (leb (length file) (reading_from k)) too_many_speeds (reading_from k)
reading_faults file (suc room) k =
    cond (leb (length file) (reading_from k)) [] (or_else (reading_faults_at file (reading_from k)) (reading_faults file room (suc k)))

-- The faults of a log.
abbrev pub log_fault : (file : Bytes) → Report
log_fault file = or_else (opening_faults log_version file) (reading_faults file most_speeds 0)

-- The readings of record k and of those after it, up to the end of the log.
unfoldable pub readings_in : (file : Bytes) (room k : ℕ) → List Bits
readings_in file zero k = []
readings_in file (suc room) k = cond (leb (length file) (reading_from k)) [] (bits_at file (reading_from k) ∷ readings_in file room (suc k))

-- The readings of a log.
abbrev pub log_readings : (file : Bytes) → List Bits
log_readings file = readings_in file most_speeds 0

-- What an answer of the log reader says, by case in its order.
pub data LogDecided (file : Bytes) (n : ℕ) (list : List ℕ) : log.Answer → Type 0 where
  rate_wrong : (Normal n → ⊥) → LogDecided file n list (log.refused (wrong_rates ∷ []))
  log_wrong : {number : Number} {offset : Offset} → Normal n → log_fault file ≡ number ∷ offset ∷ [] → LogDecided file n list (log.refused (number ∷ offset ∷ []))
  list_short : Normal n → log_fault file ≡ [] → length list < length (log_readings file) → LogDecided file n list (log.refused (buffer_too_short ∷ []))
  log_read_lem : Normal n → log_fault file ≡ [] → length (log_readings file) ≤ length list → LogDecided file n list (took (length (log_readings file)))
