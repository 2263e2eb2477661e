-- The line meter's calls: which numbers they give, what a refusal leaves, and bounds of what a log gives.
use mathlib.Core.Path.{◌≡◌, refl}
use mathlib.Core.Bool.{Bool, true, false, not, cond, ◌&&◌, ◌||◌}
use mathlib.Core.List.{List, [], ◌∷◌}
use mathlib.Core.Logic.{◌≢◌}
use Prim.Native.Nat.{ℕ, zero, suc, ◌+◌, ◌≤◌, ◌<◌}
use native.Mathlib.Omega.{arith}
use lib.Dec.{leb, eqb}
use lib.Ieee.{Float}
use lib.ListN.{length, get_or, take, length-take}
use Rattle.plan.specs.Kinds.{Bytes}
use Rattle.plan.specs.Edition.{most_speeds}
use Rattle.plan.specs.Refusal.{wrong_version, wrong_extent, wrong_record_length, wrong_rates, buffer_too_short, too_many_speeds, not_finite, wrong_lowest}
use Rattle.plan.specs.Report.{Report, or_else, fault, done_number, number_of, is_one_of}
use Rattle.fields.specs.Parsers.{is_version}
use Rattle.planfields.specs.Layout.{opening_bytes}
use Rattle.meter.specs.declared.reading.Reading.{Reading}
use Rattle.meter.specs.Speed.{are_finite, lowest_wrong, Told, speed, refused, metered}
use Rattle.meter.specs.Log as log
use Rattle.meter.specs.Log.{log_version, float_bytes, reading_length, reading_of, took, log_read}
use Rattle.meter.proofs.SpeedExactly.{speed_numbers, speed_numbers_lem}
use Rattle.meter.proofs.LogTold.{log_told, log_refused_stays, speeds_within}
use Rattle.gateway.specs.Calls.{told_number, told_speed, log_number, log_count, speed_call, log_call}
use Rattle.promises.specs.FileFaults.{value_at, cut_at, unless_at, length_faults, opening_faults, length_from}
use Rattle.promises.specs.LogFaults.{mean_from, lowest_from, bits_at, reading_from, reading_faults_at, reading_faults, log_fault, LogDecided, rate_wrong, log_wrong, list_short, log_read_lem}
use Rattle.promises.proofs.Hosts.{or_one}
use Rattle.promises.proofs.LogExactly.{log_exactly}

-- A report is empty, or its number is one of some.
abbrev Numbered : List ℕ → Report → Type 0
Numbered numbers F = is_one_of (done_number ∷ numbers) (number_of F) ≡ true

numbered_or : (numbers : List ℕ) (F G : Report) → Numbered numbers F → Numbered numbers G → Numbered numbers (or_else F G)
numbered_or numbers [] G f g = g
numbered_or numbers (number ∷ rest) G f g = f

numbered_fault : (numbers : List ℕ) (b : Bool) (number : ℕ) (rest : Report) → is_one_of (done_number ∷ numbers) number ≡ true → Numbered numbers (fault b (number ∷ rest))
numbered_fault numbers true number rest h = h
numbered_fault numbers false number rest h = refl

-- The refusals that name an offset: 1, 2, 3, 27, 30 and 31.
abbrev pub form_numbers : List ℕ
form_numbers = wrong_version ∷ wrong_extent ∷ wrong_record_length ∷ too_many_speeds ∷ not_finite ∷ wrong_lowest ∷ []

reading_numbered : (file : Bytes) (at : ℕ) → Numbered form_numbers (reading_faults_at file at)
reading_numbered file at =
    numbered_or form_numbers (length_faults file reading_length at) _
    (numbered_or form_numbers (cut_at file 1 at) _ (cut 1 at) (numbered_fault form_numbers (not (eqb (value_at file 1 at) reading_length)) wrong_record_length (at ∷ []) refl))
    (numbered_or form_numbers (cut_at file float_bytes (mean_from at)) _ (cut float_bytes (mean_from at))
    (numbered_or form_numbers (cut_at file float_bytes (lowest_from at)) _ (cut float_bytes (lowest_from at))
    (numbered_or form_numbers (unless_at (are_finite (reading_of (bits_at file at))) not_finite (mean_from at)) _
    (numbered_fault form_numbers (not (are_finite (reading_of (bits_at file at)))) not_finite (mean_from at ∷ []) refl)
    (numbered_fault form_numbers (not (not (lowest_wrong (reading_of (bits_at file at))))) wrong_lowest (mean_from at ∷ []) refl))))
  where
    cut : (w from : ℕ) → Numbered form_numbers (cut_at file w from)
    cut w from = numbered_fault form_numbers (not (leb (from + w) (length file))) wrong_extent (from ∷ []) refl

readings_numbered : (file : Bytes) (room k : ℕ) → Numbered form_numbers (reading_faults file room k)
unfolding reading_faults
readings_numbered file zero k = numbered_fault form_numbers (not (leb (length file) (reading_from k))) too_many_speeds (reading_from k ∷ []) refl
readings_numbered file (suc room) k = by (leb (length file) (reading_from k)) (readings_numbered file room (suc k))
  where
    by : (b : Bool) → Numbered form_numbers (reading_faults file room (suc k)) → Numbered form_numbers (cond b [] (or_else (reading_faults_at file (reading_from k)) (reading_faults file room (suc k))))
    by true later = refl
    by false later = numbered_or form_numbers (reading_faults_at file (reading_from k)) (reading_faults file room (suc k)) (reading_numbered file (reading_from k)) later

log_fault_numbered : (file : Bytes) → Numbered form_numbers (log_fault file)
log_fault_numbered file =
    numbered_or form_numbers (opening_faults log_version file) (reading_faults file most_speeds 0)
    (numbered_or form_numbers (unless_at (leb 1 (length file) && is_version log_version (value_at file 1 0)) wrong_version 0) _
    (numbered_fault form_numbers (not (leb 1 (length file) && is_version log_version (value_at file 1 0))) wrong_version (0 ∷ []) refl)
    (numbered_or form_numbers (cut_at file 4 length_from) _
    (numbered_fault form_numbers (not (leb (length_from + 4) (length file))) wrong_extent (length_from ∷ []) refl)
    (numbered_fault form_numbers (not (eqb (opening_bytes + value_at file 4 length_from) (length file))) wrong_extent (length_from ∷ []) refl)))
    (readings_numbered file most_speeds 0)

-- The refusals of a log: 4, those that name an offset, and 22.
abbrev pub log_numbers : List ℕ
log_numbers = wrong_rates ∷ buffer_too_short ∷ form_numbers

pub log_numbers_lem : (file : Bytes) (n : ℕ) (list : List ℕ) → is_one_of (done_number ∷ log_numbers) (log_number (log_read file n list).answer) ≡ true
log_numbers_lem file n list = by (log_read file n list).answer ((log_exactly file n list (log_read file n list).answer).0 refl)
  where
    more : (x : ℕ) → is_one_of (done_number ∷ form_numbers) x ≡ true → is_one_of (done_number ∷ log_numbers) x ≡ true
    more x = on (eqb x done_number) (is_one_of form_numbers x) (λ h. or_one x wrong_rates (buffer_too_short ∷ form_numbers) (or_one x buffer_too_short form_numbers h))
      where
        on : (a b : Bool) {c : Bool} → (b ≡ true → c ≡ true) → (a || b) ≡ true → (a || c) ≡ true
        on true b f h = refl
        on false b f h = f h

    by : (a : log.Answer) → LogDecided file n list a → is_one_of (done_number ∷ log_numbers) (log_number a) ≡ true
    by a (rate_wrong f) = refl
    by a (log_wrong {number} {offset} p e) = more number (rw e at (log_fault_numbered file))
    by a (list_short p e h) = refl
    by a (log_read_lem p e h) = refl

-- `gateway_speeds`: 0, 4, 22, 1 to 3, 27, 30, 31.
pub host_log_numbers : (file : Bytes) (n : ℕ) (speeds : List ℕ) → is_one_of (done_number ∷ log_numbers) (log_call file n speeds).number ≡ true
unfolding log_call
host_log_numbers file n speeds = log_numbers_lem file n speeds

-- `gateway_meter`: 0, 4, 30, 31.
pub host_speed_numbers : (mean lowest : Float) (n : ℕ) → is_one_of (done_number ∷ speed_numbers) (speed_call mean lowest n).number ≡ true
unfolding speed_call
host_speed_numbers mean lowest n = by (metered r n) refl
  where
    r : Reading
    r = record { mean = mean; lowest = lowest }

    by : (t : Told) → metered r n ≡ t → is_one_of (done_number ∷ speed_numbers) (told_number t) ≡ true
    by (speed v) e = refl
    by (refused k) e = or_one k done_number speed_numbers (speed_numbers_lem r n k e)

-- A refused `gateway_speeds` leaves the speeds as they were, and the count is 0.
pub host_log_leaves : (file : Bytes) (n : ℕ) (speeds : List ℕ) → (log_call file n speeds).number ≢ done_number
    → ((log_call file n speeds).speeds ≡ speeds) × ((log_call file n speeds).count ≡ 0)
unfolding log_call
host_log_leaves file n speeds = by (log_read file n speeds).answer refl
  where
    by : (a : log.Answer) → (log_read file n speeds).answer ≡ a → log_number a ≢ done_number → ((log_read file n speeds).list ≡ speeds) × (log_count a ≡ 0)
    by (log.took count) e other = absurd (other refl)
    by (log.refused report) e other = (log_refused_stays file n speeds e, refl)

-- A refused `gateway_meter` leaves the speed 0.
pub host_speed_leaves : (mean lowest : Float) (n : ℕ) → (speed_call mean lowest n).number ≢ done_number → (speed_call mean lowest n).speed ≡ 0
unfolding speed_call
host_speed_leaves mean lowest n = by (metered (record { mean = mean; lowest = lowest }) n)
  where
    by : (t : Told) → told_number t ≢ done_number → told_speed t ≡ 0
    by (speed v) other = absurd (other refl)
    by (refused k) other = refl

-- A log that is read gives at most as many speeds as a shift may have, and none is above the n that the reader was given.
pub log_speeds_within : (file : Bytes) (n : ℕ) (list : List ℕ) (count : ℕ) → (log_read file n list).answer ≡ took count
    → (length (take count (log_read file n list).list) ≤ most_speeds) × ((k : ℕ) → k < length (take count (log_read file n list).list) → get_or (take count (log_read file n list).list) k 0 ≤ n)
log_speeds_within file n list count e =
    let t = log_told file n list count e in
    (omega (arith, length-take count (log_read file n list).list, t.few), speeds_within n t.readings (take count (log_read file n list).list) t.told)
