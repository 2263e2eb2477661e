-- A night: successive calls, what each job has had from them, and what is promised. What one call
-- does is told by its kind, and everything else in terms of that.
use Rattle.std.specs.Prelude.{◌≡◌, ◌≢◌, ◌⊎◌, Bool, true, false, ◌&&◌, ◌||◌, List, [], ◌∷◌, ℕ, suc, ◌+◌, ◌≤◌, ◌<◌, ltb, eqb, length, get_or, replicate}
use Rattle.plan.specs.Kinds.{Amount, Position, Table, Time}
use Rattle.base.specs.Sum.{sum, on}
use Rattle.plan.specs.Rules.{counted, size, deadline, is_hi}
use Rattle.plan.specs.Boundaries.{first_release}
use Rattle.plan.specs.Same.{Same}
use Rattle.plan.specs.declared.kinds.Plan.{Plan}
use Rattle.plan.specs.Report.{Report}
use Rattle.dispatch.specs.declared.Run.{Run}
use Rattle.dispatch.specs.Dues.{in_its_window, slow_at}
use Rattle.dispatch.specs.Step.{SlotEffect, WordEffect, started, stepped, told_ended, met, ended_early, missed, refused, outcome}

-- One slot's call, with any plan, table, speed and grant row.
pub record SlotCall : Type 0 where
  pub plan : Plan
  pub table : List ℕ
  pub speed : ℕ
  pub row : List ℕ

-- One call with the host's word that a job has ended, with any plan and position.
pub record EndCall : Type 0 where
  pub plan : Plan
  pub position : ℕ

-- A call of a night, by its kind.
pub data Call : Type 0 where
  slot : SlotCall → Call
  word : EndCall → Call

-- A call is done if it is not refused.
abbrev pub is_done : Report → Bool
is_done [] = true
is_done (number ∷ places) = false

-- The effect of a slot's call on a run: its answer, the run and the grant row.
abbrev pub slot_effect : SlotCall → Run → SlotEffect
slot_effect c run = stepped c.plan c.table run c.speed c.row

-- The effect of the host's word on a run: its answer and the run.
abbrev pub word_effect : EndCall → Run → WordEffect
word_effect w run = told_ended w.plan run w.position

-- The answer of a call on a run.
abbrev pub answer_of : Call → Run → Report
answer_of (slot c) run = (slot_effect c run).answer
answer_of (word w) run = (word_effect w run).answer

-- The run that a call on a run leaves.
abbrev pub run_left : Call → Run → Run
run_left (slot c) run = (slot_effect c run).run
run_left (word w) run = (word_effect w run).run

-- What a call on a run gives to job i: its entry of the grant row if a slot's call is done, otherwise 0.
abbrev pub given : Call → Run → Position → Amount
given (slot c) run i = on (is_done (slot_effect c run).answer) (get_or (slot_effect c run).grants i 0)
given (word w) run i = 0

-- A call on a run tells that job i has ended if it is the host's word about it, and done.
abbrev pub tells : Call → Run → Position → Bool
tells (slot c) run i = false
tells (word w) run i = is_done (word_effect w run).answer && eqb w.position i

-- A call is a slot if it is a slot's call that is done.
abbrev pub is_slot : Call → Run → Bool
is_slot (slot c) run = is_done (slot_effect c run).answer
is_slot (word w) run = false

-- A slow slot is one with a speed below the lesser of n and the sum of the live jobs' dues, by the plan and table of its
-- call and the goals of the clear mark, whether or not the slow mark is set already.
abbrev pub is_slow : Call → Run → Bool
is_slow (slot c) run = is_slot (slot c) run && slow_at c.plan c.table run c.speed
is_slow (word w) run = false

-- The most that a call may give to all jobs together: a slot's speed; nothing by a word.
abbrev pub most_given : Call → Amount
most_given (slot c) = c.speed
most_given (word w) = 0

-- What is asked of a call that is not refused: the accepted plan and table, or the same ones, and a
-- speed v with d ≤ v ≤ n; of a word the accepted plan, or the same one.
abbrev pub AllowedCall : Plan → Table → Call → Type 0
AllowedCall p table (slot c) = Same p table c.plan c.table × (p.d.0 ≤ c.speed) × (c.speed ≤ p.n.0)
AllowedCall p table (word w) = Same p table w.plan table

-- The run after plan p's start and a night's calls, each on the run that the call before it left. A
-- night is a list of calls, the latest first.
unfoldable pub run_after : Plan → List Call → Run
run_after p [] = started p
run_after p (c ∷ earlier) = run_left c (run_after p earlier)

-- The clock before the latest call.
abbrev pub clock_at : (p : Plan) (earlier : List Call) → Time
clock_at p earlier = (run_after p earlier).clock.0

-- What job i has had: the sum of what the calls gave it.
unfoldable pub had : Plan → List Call → Position → Amount
had p [] i = 0
had p (c ∷ earlier) i = had p earlier i + given c (run_after p earlier) i

-- What job i has had in slots inside its window.
unfoldable pub had_in_window : Plan → List Call → Position → Amount
had_in_window p [] i = 0
had_in_window p (c ∷ earlier) i = had_in_window p earlier i + on (in_its_window p (clock_at p earlier) i) (given c (run_after p earlier) i)

-- Whether the host has told that job i ended.
unfoldable pub told : Plan → List Call → Position → Bool
told p [] i = false
told p (c ∷ earlier) i = told p earlier i || tells c (run_after p earlier) i

-- What job i has had after the host told that it ended.
unfoldable pub had_since_told : Plan → List Call → Position → Amount
had_since_told p [] i = 0
had_since_told p (c ∷ earlier) i = had_since_told p earlier i + on (told p earlier i) (given c (run_after p earlier) i)

-- Whether some slot was slow.
unfoldable pub slowed : Plan → List Call → Bool
slowed p [] = false
slowed p (c ∷ earlier) = slowed p earlier || is_slow c (run_after p earlier)

-- Whether a slow slot began before time D.
unfoldable pub slowed_before : Plan → Time → List Call → Bool
slowed_before p D [] = false
slowed_before p D (c ∷ earlier) = slowed_before p D earlier || is_slow c (run_after p earlier) && ltb (clock_at p earlier) D

-- What job i has had from the first slow slot on.
unfoldable pub had_since_slow : Plan → List Call → Position → Amount
had_since_slow p [] i = 0
had_since_slow p (c ∷ earlier) i = had_since_slow p earlier i + on (slowed p (c ∷ earlier)) (given c (run_after p earlier) i)

-- The condition on a night: each call is refused, or what is asked of it holds.
unfoldable pub Allowed : Plan → Table → List Call → Type 0
Allowed p table [] = Unit {0}
Allowed p table (c ∷ earlier) =
    Allowed p table earlier
    × ((is_done (answer_of c (run_after p earlier)) ≡ false) ⊎ AllowedCall p table c)

-- A regular call is a slot's: the accepted plan and table, or the same ones, a speed from floor to
-- normal, and a grant row with a place for each job.
pub record Regular (p : Plan) (table : Table) (c : SlotCall) : Type 0 where
  pub same : Same p table c.plan c.table
  pub floor : p.d.0 ≤ c.speed
  pub normal : c.speed ≤ p.n.0
  pub room : counted p ≤ length c.row

-- A night of refused calls and k regular ones.
pub data HasRegular (p : Plan) (table : Table) : ℕ → List Call → Type 0 where
  none_yet : HasRegular p table 0 []
  then_refused : {k : ℕ} {c : Call} {earlier : List Call} → is_done (answer_of c (run_after p earlier)) ≡ false → HasRegular p table k earlier
      → HasRegular p table k (c ∷ earlier)
  then_regular : {k : ℕ} {c : SlotCall} {earlier : List Call} → Regular p table c → HasRegular p table k earlier
      → HasRegular p table (suc k) (slot c ∷ earlier)

-- The number of slots of a night.
unfoldable pub slots : Plan → List Call → ℕ
slots p [] = 0
slots p (c ∷ earlier) = slots p earlier + on (is_slot c (run_after p earlier)) 1

-- In every call of a night, what the jobs were given sums to at most what it may give: a slot's
-- speed.
unfoldable pub WithinSpeeds : Plan → List Call → Type 0
WithinSpeeds p [] = Unit {0}
WithinSpeeds p (c ∷ earlier) = WithinSpeeds p earlier × (sum (given c (run_after p earlier)) (counted p) ≤ most_given c)

-- What is promised, at every point of a night.
pub record Kept (p : Plan) (night : List Call) : Type 0 where
  -- A HI job whose deadline the clock has reached was told ended, or it has had
  -- exactly its size, all of it inside its window.
  pub essential : (i : ℕ) → i < counted p → is_hi p i ≡ true → deadline p i ≤ (run_after p night).clock.0
      → (told p night i ≡ true) ⊎ ((had p night i ≡ size p i) × (had_in_window p night i ≡ size p i))
  -- The same for any job, if no slow slot began before its deadline.
  pub others : (i : ℕ) → i < counted p → deadline p i ≤ (run_after p night).clock.0 → slowed_before p (deadline p i) night ≡ false
      → (told p night i ≡ true) ⊎ ((had p night i ≡ size p i) × (had_in_window p night i ≡ size p i))
  -- A LO job has had nothing from the first slow slot on.
  pub discarded : (i : ℕ) → i < counted p → is_hi p i ≡ false → had_since_slow p night i ≡ 0
  -- A job has had nothing after the host told that it ended.
  pub ended : (i : ℕ) → i < counted p → had_since_told p night i ≡ 0
  -- What a job has had, it has had inside its window.
  pub windows : (i : ℕ) → i < counted p → had_in_window p night i ≡ had p night i
  -- No job has had more than its size.
  pub no_more : (i : ℕ) → i < counted p → had p night i ≤ size p i
  -- No slot's grants sum to more than its speed.
  pub speeds : WithinSpeeds p night

-- What is promised of the outcomes, at every point of a night.
pub record OutcomesKept (p : Plan) (night : List Call) : Type 0 where
  -- A HI job whose deadline the clock has reached is met, unless it was told ended.
  pub essential_met : (i : ℕ) → i < counted p → is_hi p i ≡ true → deadline p i ≤ (run_after p night).clock.0
      → told p night i ≡ false → outcome p (run_after p night) i ≡ met
  -- The same for any job, if no slow slot began before its deadline.
  pub others_met : (i : ℕ) → i < counted p → deadline p i ≤ (run_after p night).clock.0 → slowed_before p (deadline p i) night ≡ false
      → told p night i ≡ false → outcome p (run_after p night) i ≡ met
  -- A job that was told ended has that outcome.
  pub told_ended_lem : (i : ℕ) → i < counted p → told p night i ≡ true → outcome p (run_after p night) i ≡ ended_early
  -- No job is missed.
  pub none_missed : (i : ℕ) → outcome p (run_after p night) i ≢ missed
  -- No counted job's outcome is refused.
  pub none_refused : (i number : ℕ) → i < counted p → outcome p (run_after p night) i ≢ refused number

-- The night of one plan and table at given speeds, the latest first,
-- with a grant row of zeros for each call.
abbrev pub night_at : Plan → Table → List ℕ → List Call
night_at p table [] = []
night_at p table (v ∷ speeds) = slot (record { plan = p; table = table; speed = v; row = replicate p.count 0 }) ∷ night_at p table speeds

-- All speeds lie from `low` to `high`.
abbrev pub Between : ℕ → ℕ → List ℕ → Type 0
Between low high [] = Unit {0}
Between low high (v ∷ speeds) = (low ≤ v) × (v ≤ high) × Between low high speeds

-- A correct scheduling strategy for a plan, as Baruah and Guo define it (definition 1): if
-- the speed is always the normal rate, every job has had its size by its deadline; if it is
-- always from floor to normal, every HI job has. By its deadline: in any night of as many slots
-- as there are from the first release to it, or of more.
pub record CorrectStrategy (p : Plan) (table : List ℕ) : Type 0 where
  pub normal : (speeds : List ℕ) → Between p.n.0 p.n.0 speeds → (i : ℕ) → i < counted p
      → deadline p i ≤ first_release p + length speeds → had p (night_at p table speeds) i ≡ size p i
  pub degraded : (speeds : List ℕ) → Between p.d.0 p.n.0 speeds → (i : ℕ) → i < counted p → is_hi p i ≡ true
      → deadline p i ≤ first_release p + length speeds → had p (night_at p table speeds) i ≡ size p i
