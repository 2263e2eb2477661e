-- For the contracts of internal functions; no promise rests on this file. The
-- readiness of a plan and a run for a slot.
use Rattle.std.specs.Prelude.{Bool, cond, ◌&&◌, List, ℕ, leb, eqb, get_or, Result, Ok, Err}
use Rattle.plan.specs.Rules.{grade_allowed, window_allowed, size_allowed}
use Rattle.plan.specs.Boundaries.{last_deadline}
use Rattle.plan.specs.declared.kinds.Plan.{Plan}
use Rattle.plan.specs.declared.columns.Columns.{Columns}
use Rattle.plan.specs.declared.refusal.Reason.{Reason}
use Rattle.plan.specs.declared.refusal.Reason.TheVariants.{Unsound}
use Rattle.dispatch.specs.Step.{sound_at}
use Rattle.dispatch.specs.declared.soundness.Readiness.{Readiness}
use Rattle.dispatch.specs.declared.soundness.Readiness.TheVariants.{Over, Running}

-- Job i of the columns meets rules 8 and 9, and has no more carried than its size.
abbrev pub job_sound : (cols : Columns) (carried : List ℕ) (i : ℕ) → Bool
job_sound cols carried i =
    grade_allowed (get_or cols.grades i 0) && (window_allowed (get_or cols.releases i 0) (get_or cols.deadlines i 0) && size_allowed (get_or cols.sizes i 0))
    && leb (get_or carried i 0) (get_or cols.sizes i 0)

-- The readiness at a clock with given carried units: unsound; over, at the last deadline; or running.
abbrev pub readiness : Plan → ℕ → List ℕ → Result Readiness Reason
readiness p t carried = cond (sound_at p t carried) (Ok (cond (eqb t (last_deadline p)) Over Running)) (Err Unsound)
