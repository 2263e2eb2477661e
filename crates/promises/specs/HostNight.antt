-- A host's night: a start and then further calls for hosts, with whatever words the host lends, and
-- what is promised of it.
use Rattle.std.specs.Prelude.{◌≡◌, ◌≢◌, ◌⊎◌, Bool, true, false, ◌&&◌, ◌||◌, List, [], ◌∷◌, ℕ, ◌+◌, ◌≤◌, ◌<◌, eqb, length, get_or}
use Rattle.base.specs.Sum.{sum, on}
use Rattle.plan.specs.Kinds.{Amount, Position, Words}
use Rattle.plan.specs.Report.{done_number}
use Rattle.plan.specs.Rules.{counted, size, deadline, is_hi}
use Rattle.plan.specs.Same.{Same}
use Rattle.plan.specs.declared.kinds.Plan.{Plan}
use Rattle.dispatch.specs.declared.Run.{Run}
use Rattle.dispatch.specs.Step.{outcome}
use Rattle.dispatch.specs.Shift.{row_start}
use Rattle.hostmemory.specs.Memory.{plan_of, run_of, marks_hold}
use Rattle.gateway.specs.Calls.{met_number, ended_number, ending_number, outcome_call}
use Rattle.gateway.specs.Answers.{HostStarts, HostSteps, HostShifts, HostTells}
use Rattle.promises.specs.Night.{Call, slot, word, is_done, Kept, OutcomesKept}
use Rattle.promises.specs.NightParts.{Part, single, series, part_answer, part_run, part_given, run_after_parts, calls_of}

-- A call of `gateway_start` that returns 0: what the host lends, and what the call leaves.
pub record HostStart : Type 0 where
  pub plan : List ℕ
  pub table : List ℕ
  pub run : List ℕ
  pub location : List ℕ
  pub run_left_lem : List ℕ
  pub location_left : List ℕ

-- A call of `gateway_step`: what the host lends beside the run's words, the number that
-- the call returns, and what it leaves.
pub record HostStep : Type 0 where
  pub plan : List ℕ
  pub table : List ℕ
  pub speed : ℕ
  pub row : List ℕ
  pub number : ℕ
  pub run_left_lem : List ℕ
  pub row_left : List ℕ

-- A call of `gateway_end`: the same.
pub record HostEnd : Type 0 where
  pub plan : List ℕ
  pub position : ℕ
  pub number : ℕ
  pub run_left_lem : List ℕ

-- A call of `gateway_shift`: the same.
pub record HostShift : Type 0 where
  pub plan : List ℕ
  pub table : List ℕ
  pub speeds : List ℕ
  pub rows : List ℕ
  pub numbers : List ℕ
  pub number : ℕ
  pub run_left_lem : List ℕ
  pub rows_left : List ℕ
  pub numbers_left : List ℕ

-- A call of a host's night after its start, by its kind.
pub data HostCall : Type 0 where
  step : HostStep → HostCall
  end : HostEnd → HostCall
  shift : HostShift → HostCall

-- The number that a call returns.
abbrev pub returned : HostCall → ℕ
returned (step c) = c.number
returned (end c) = c.number
returned (shift c) = c.number

-- The run's words that a call leaves.
abbrev pub words_left : HostCall → Words
words_left (step c) = c.run_left_lem
words_left (end c) = c.run_left_lem
words_left (shift c) = c.run_left_lem

-- What a call gave to job i if it returned 0, otherwise 0: of a step the job's entry of the row that it left, of a shift
-- the sum of the job's entries of the rows whose number is 0.
abbrev pub host_given : HostCall → Position → Amount
host_given (step c) i = on (eqb c.number done_number) (get_or c.row_left i 0)
host_given (end c) i = 0
host_given (shift c) i =
    on (eqb c.number done_number)
    (sum (λ k. on (eqb (get_or c.numbers_left k 0) done_number) (get_or c.rows_left (row_start (plan_of c.plan) k + i) 0)) (length c.speeds))

-- A call told that job i has ended: a call of `gateway_end` for it that returned 0.
abbrev pub host_tells : HostCall → Position → Bool
host_tells (step c) i = false
host_tells (end c) i = eqb c.number done_number && eqb c.position i
host_tells (shift c) i = false

-- A call meets its contract on the run's words.
abbrev pub MeetsContract : HostCall → Words → Type 0
MeetsContract (step c) run = HostSteps c.plan c.table run c.speed c.row c.number c.run_left_lem c.row_left
MeetsContract (end c) run = HostTells c.plan run c.position c.number c.run_left_lem
MeetsContract (shift c) run =
    HostShifts c.plan c.table run c.speeds c.rows c.numbers c.number c.run_left_lem c.rows_left c.numbers_left

-- The part of a night that a host's call is, with the plan that its words encode.
abbrev pub part_of : HostCall → Part
part_of (step c) = single (slot (record { plan = plan_of c.plan; table = c.table; speed = c.speed; row = c.row }))
part_of (end c) = single (word (record { plan = plan_of c.plan; position = c.position }))
part_of (shift c) =
    series (record { plan = plan_of c.plan; table = c.table; speeds = c.speeds; rows = c.rows; numbers = c.numbers })

-- The run's words after a start and calls: those that the latest call left. The calls are a list,
-- the latest first.
abbrev pub run_words_left : HostStart → List HostCall → Words
run_words_left s [] = s.run_left_lem
run_words_left s (c ∷ earlier) = words_left c

-- The plan that the start's words encode.
abbrev pub plan_started : HostStart → Plan
plan_started s = plan_of s.plan

-- What is asked of a call that is not refused: words that encode the plan of the start or the same
-- one, for a step a speed v with d ≤ v ≤ n, and for a shift speeds of at least d.
abbrev pub HostAllowed : HostStart → HostCall → Type 0
HostAllowed s (step c) =
    Same (plan_started s) s.table (plan_of c.plan) c.table × ((plan_started s).d.0 ≤ c.speed) × (c.speed ≤ (plan_started s).n.0)
HostAllowed s (end c) = Same (plan_started s) s.table (plan_of c.plan) s.table
HostAllowed s (shift c) =
    Same (plan_started s) s.table (plan_of c.plan) c.table × ((k : ℕ) → k < length c.speeds → (plan_started s).d.0 ≤ get_or c.speeds k 0)

-- A host's night: the start and each call meet their contracts, each call on the run's words that
-- the call before it left; and each call is refused, or what is asked of it holds.
unfoldable pub HostNight : HostStart → List HostCall → Type 0
HostNight s [] = HostStarts s.plan s.table s.run s.location done_number s.run_left_lem s.location_left
HostNight s (c ∷ earlier) =
    HostNight s earlier
    × MeetsContract c (run_words_left s earlier)
    × ((returned c ≢ done_number) ⊎ HostAllowed s c)

-- The night in parts that a list of calls is.
abbrev pub night_of : List HostCall → List Part
night_of [] = []
night_of (c ∷ earlier) = part_of c ∷ night_of earlier

-- The run after them, and their calls one by one.
abbrev pub host_run : HostStart → List HostCall → Run
host_run s calls = run_after_parts (plan_started s) (night_of calls)

abbrev pub host_calls : HostStart → List HostCall → List Call
host_calls s calls = calls_of (plan_started s) (night_of calls)

-- What job i has had from a host's calls.
unfoldable pub host_had : List HostCall → Position → Amount
host_had [] i = 0
host_had (c ∷ earlier) i = host_had earlier i + host_given c i

-- Whether a host's calls told that job i has ended.
unfoldable pub host_told : List HostCall → Position → Bool
host_told [] i = false
host_told (c ∷ earlier) i = host_told earlier i || host_tells c i

-- What the host sees of a call is what the night's part on the run before it does: the words left
-- encode the run that it leaves, with marks that are 0 or 1; 0 is returned exactly if it is done; and
-- what it gives is given.
pub record CallShown (c : HostCall) (run : Run) : Type 0 where
  pub run_left_lem : run_of (words_left c) ≡ part_run (part_of c) run
  pub marks : marks_hold (words_left c) ≡ true
  pub done : eqb (returned c) done_number ≡ is_done (part_answer (part_of c) run)
  pub gives : (i : ℕ) → host_given c i ≡ part_given (part_of c) run i

-- What the host sees after the start and after each call is what the night says.
unfoldable pub Shown : HostStart → List HostCall → Type 0
Shown s [] = (run_of s.run_left_lem ≡ host_run s []) × (marks_hold s.run_left_lem ≡ true)
Shown s (c ∷ earlier) = Shown s earlier × CallShown c (host_run s earlier)

-- What is promised of a host's night.
pub record HostKept (s : HostStart) (calls : List HostCall) : Type 0 where
  -- What the host sees is the night that its words encode.
  pub shown : Shown s calls
  -- What is promised of that night holds, and of its outcomes.
  pub kept : Kept (plan_started s) (host_calls s calls)
  pub outcomes_kept : OutcomesKept (plan_started s) (host_calls s calls)
  -- `gateway_outcome` returns the number of the job's outcome in that night.
  pub endings : (i : ℕ) → outcome_call s.plan (run_words_left s calls) i ≡ ending_number (outcome (plan_started s) (host_run s calls) i)
  -- Hence of a HI job whose deadline the clock in the run's words has reached the host told that it ended, and
  -- `gateway_outcome` returns that; or it has had exactly its size by the rows that the calls left, and `gateway_outcome` returns that it is met.
  pub essential : (i : ℕ) → i < counted (plan_started s) → is_hi (plan_started s) i ≡ true
      → deadline (plan_started s) i ≤ (run_of (run_words_left s calls)).clock.0
      → ((host_told calls i ≡ true) × (outcome_call s.plan (run_words_left s calls) i ≡ ended_number))
      ⊎ ((host_had calls i ≡ size (plan_started s) i) × (outcome_call s.plan (run_words_left s calls) i ≡ met_number))
  -- No job has had more than its size by those rows.
  pub no_more : (i : ℕ) → i < counted (plan_started s) → host_had calls i ≤ size (plan_started s) i
