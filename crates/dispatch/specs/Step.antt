-- A run: its start, the effects of a slot's call and of the word that a job has ended, and the outcome of each job.
use Rattle.std.specs.Prelude.{Bool, true, false, not, cond, ◌&&◌, ◌||◌, List, [], ◌∷◌, ◌++◌, ℕ, zero, suc, ◌+◌, leb, ltb, eqb, length, get_or, set, drop, replicate}
use Rattle.plan.specs.Kinds.{Position, Row, Speed, Table, Time}
use Rattle.plan.specs.Edition.{most_jobs, places}
use Rattle.plan.specs.Refusal.{clock_at_end, speed_above_normal, unsound, buffer_too_short, no_such_job, cannot_end}
use Rattle.base.specs.Below.{every}
use Rattle.plan.specs.Rules.{jobs_of, counted, release, size, deadline, is_hi, rates_hold, count_holds, grades_hold, bounds_hold}
use Rattle.plan.specs.Boundaries.{first_release, last_deadline}
use Rattle.plan.specs.declared.kinds.Plan.{Plan}
use Rattle.judge.specs.Verdict.{judged}
use Rattle.plan.specs.Report.{Report, or_else, fault}
use Rattle.dispatch.specs.declared.Run.{Run}
use Rattle.dispatch.specs.Dues.{carried_of, ended_of, slow_after, below_after, due}
use Rattle.dispatch.specs.Order.{order, serve}

-- A run at its start: the clock at the first release, nothing carried, no job ended, both marks clear.
unfoldable pub started : Plan → Run
started p =
    record {
      clock = record { 0 = first_release p };
      slow = false;
      below = false;
      carried = replicate most_jobs 0;
      ended = replicate most_jobs false;
    }

-- The all-zero record that comes with a refused start.
abbrev pub no_run : Run
no_run = record { clock = record { 0 = 0 }; slow = false; below = false; carried = replicate most_jobs 0; ended = replicate most_jobs false }

-- The record that a start leaves: the new run if the report is empty, otherwise the record as it was.
abbrev pub start_from : Report → Run → Run → Run
start_from [] run was = run
start_from (number ∷ places) run was = was

-- A lent record after a start.
unfoldable pub start_in : (p : Plan) (table : Table) (was : Run) → Run
start_in p table was = start_from (judged p table) (started p) was

-- A plan is sound for a slot at time t with given carried units: rules 4, 5, 8 and 9 hold, t lies from
-- the first release to the last deadline, both included, and no counted job has more carried than its
-- size.
abbrev pub sound_at : (p : Plan) (t : Time) (carried : Row) → Bool
sound_at p t carried =
    rates_hold p && count_holds (jobs_of p) && grades_hold (jobs_of p) && bounds_hold (jobs_of p) && leb (first_release p) t
    && leb t (last_deadline p) && every (λ i. leb (get_or carried i 0) (size p i)) (counted p)

-- A plan and a run are sound for a slot: the plan is, at the run's clock with its carried units.
unfoldable pub slot_sound : Plan → Run → Bool
slot_sound p run = sound_at p run.clock.0 run.carried

-- The first refusal of a slot's call that applies, in the order 21, 22, 19, 20; empty if none does.
abbrev pub refused_by : Bool → Bool → Bool → Bool → Report
refused_by bad short over fast =
    or_else (fault bad (unsound ∷ []))
    (or_else (fault short (buffer_too_short ∷ [])) (or_else (fault over (clock_at_end ∷ [])) (fault fast (speed_above_normal ∷ []))))

-- The refusal of a slot's call; empty if there is none.
unfoldable pub slot_fault : (p : Plan) (table : Table) (run : Run) (v : Speed) (grants : Row) → Report
slot_fault p table run v grants =
    refused_by (not (slot_sound p run)) (ltb (length table) places || ltb (length grants) (counted p))
    (eqb run.clock.0 (last_deadline p)) (ltb p.n.0 v)

-- The grant row after a slot that is not refused: zeros for the counted jobs, overwritten by what the
-- served jobs get; entries past them are unchanged.
unfoldable pub granted : (p : Plan) (table : Table) (run : Run) (v : Speed) (grants : Row) → Row
granted p table run v grants =
    serve (due p table run (slow_after p table run v)) v (order p run (slow_after p table run v))
    (replicate (counted p) 0 ++ drop (counted p) grants)

-- Adds the first n numbers of a second list to those of l, as far as both lists go; the rest of l is
-- unchanged.
unfoldable pub added : (n : ℕ) (l : List ℕ) (grants : Row) → List ℕ
added zero l grants = l
added (suc n) [] grants = []
added (suc n) (x ∷ l) [] = x ∷ l
added (suc n) (x ∷ l) (g ∷ grants) = (x + g) ∷ added n l grants

-- The run after a slot that is not refused: its clock, marks and carried units. No slot ends a job.
unfoldable pub advanced : (p : Plan) (table : Table) (run : Run) (v : Speed) (grants : Row) → Run
advanced p table run v grants =
    record {
      clock = record { 0 = run.clock.0 + 1 };
      slow = slow_after p table run v;
      below = below_after p run v;
      carried = added (counted p) run.carried (granted p table run v grants);
      ended = run.ended;
    }

-- The effect of a slot's call: its answer (empty if done), the run and the grant row.
pub record SlotEffect : Type 0 where
  pub answer : Report
  pub run : Run
  pub grants : List ℕ

-- The effect by the refusal found: a refused call leaves run and grants as they were.
abbrev pub slot_by : Report → Plan → Table → Run → Speed → Row → SlotEffect
slot_by [] p table run v grants =
    record { answer = []; run = advanced p table run v grants; grants = granted p table run v grants }
slot_by (number ∷ rest) p table run v grants = record { answer = number ∷ rest; run = run; grants = grants }

-- The effect of a slot's call.
unfoldable pub stepped : (p : Plan) (table : Table) (run : Run) (v : Speed) (grants : Row) → SlotEffect
stepped p table run v grants = slot_by (slot_fault p table run v grants) p table run v grants

-- The outcome of a job, or the refusal of the plan, the run or the position.
pub data Ending : Type 0 where
  met : Ending
  ended_early : Ending
  discarded : Ending
  missed : Ending
  still_open : Ending
  refused : ℕ → Ending

-- The refusal that an outcome is, as a report; empty if it is none.
abbrev pub ending_report : Ending → Report
ending_report met = []
ending_report ended_early = []
ending_report discarded = []
ending_report missed = []
ending_report still_open = []
ending_report (refused number) = number ∷ []

-- The outcome of job i: 21 on the grounds of a slot's 21 and for a position not below the count;
-- otherwise the first that applies of met, ended, discarded, missed and open.
unfoldable pub outcome : (p : Plan) (run : Run) (i : Position) → Ending
outcome p run i =
    cond (not (slot_sound p run && ltb i p.count)) (refused unsound)
    (cond (eqb (carried_of run i) (size p i)) met
    (cond (ended_of run i) ended_early
    (cond (not (is_hi p i) && run.slow) discarded
    (cond (leb (deadline p i) run.clock.0) missed still_open))))

-- Whether an outcome is open: neither met, ended, discarded nor missed.
abbrev pub is_open : Ending → Bool
is_open met = false
is_open ended_early = false
is_open discarded = false
is_open missed = false
is_open still_open = true
is_open (refused number) = false

-- The refusal of the host's word that job i has ended, in the order 21, 25, 26; empty if there is none.
unfoldable pub end_fault : (p : Plan) (run : Run) (i : Position) → Report
end_fault p run i =
    or_else (fault (not (slot_sound p run)) (unsound ∷ []))
    (or_else (fault (not (ltb i p.count)) (no_such_job ∷ []))
    (fault (ltb run.clock.0 (release p i) || not (is_open (outcome p run i))) (cannot_end ∷ [])))

-- The run with the mark of job i set, and nothing else changed.
abbrev pub ended_with : (run : Run) (i : Position) → Run
ended_with run i =
    record { clock = run.clock; slow = run.slow; below = run.below; carried = run.carried; ended = set run.ended i true }

-- The effect of such a word: its answer (empty if done) and the run.
pub record WordEffect : Type 0 where
  pub answer : Report
  pub run : Run

-- The effect by the refusal found: a refused word leaves the run as it was.
abbrev pub end_by : Report → (run : Run) (i : Position) → WordEffect
end_by [] run i = record { answer = []; run = ended_with run i }
end_by (number ∷ rest) run i = record { answer = number ∷ rest; run = run }

-- The effect of the host's word that job i has ended.
unfoldable pub told_ended : (p : Plan) (run : Run) (i : Position) → WordEffect
told_ended p run i = end_by (end_fault p run i) run i
