-- When a timetable exists, in closed form: for each time D that is a HI deadline or the common release, and each
-- time E that is a LO deadline or the common release, the link can carry what is asked of it by D and E.
-- (promises/proofs/Timetables, `closed_form_decides`: exactly then some table is accepted.)
use Rattle.std.specs.Prelude.{Bool, true, false, not, ◌&&◌, ◌||◌, [], ◌∷◌, ℕ, suc, ◌+◌, ◌*◌, ◌-◌, leb, ltb, eqb}
use Rattle.base.specs.Sum.{sum, on}
use Rattle.base.specs.Below.{every}
use Rattle.plan.specs.Kinds.{Amount, Time}
use Rattle.plan.specs.Refusal.{no_timetable}
use Rattle.plan.specs.Report.{Report, fault, first}
use Rattle.plan.specs.Rules.{counted, size, deadline}
use Rattle.plan.specs.Boundaries.{boundary, intervals}
use Rattle.plan.specs.declared.kinds.Plan.{Plan}
use Rattle.desk.specs.Timetable.{in_class}

-- The sizes of the LO jobs, or of the HI jobs, that are due at or before a time, together.
abbrev pub sizes_due : (p : Plan) (lo : Bool) (t : Time) → Amount
sizes_due p lo t = sum (λ i. on (in_class p lo i && leb (deadline p i) t) (size p i)) (counted p)

-- A time is the deadline of a counted LO job, or of a HI job.
abbrev pub is_deadline : (p : Plan) (lo : Bool) (t : Time) → Bool
is_deadline p lo t = not (every (λ i. not (in_class p lo i && eqb (deadline p i) t)) (counted p))

-- What is asked of the link by D and E: the HI jobs due by D, and the LO jobs due by E.
abbrev pub asked : (p : Plan) (D E : Time) → Amount
asked p D E = sizes_due p false D + sizes_due p true E

-- What the link carries if it keeps n up to E and drops to d from there to D. The times begin with the first
-- boundary, the common release.
abbrev pub carries : (p : Plan) (D E : Time) → Amount
carries p D E = p.n.0 * (E - boundary p 0) + p.d.0 * (D - E)

-- Boundary m is the common release, or the deadline of a LO job, or of a HI job.
abbrev pub is_end : (p : Plan) (lo : Bool) (m : ℕ) → Bool
is_end p lo m = eqb m 0 || is_deadline p lo (boundary p m)

-- More is asked by boundaries m and k than the link carries.
abbrev pub is_short : (p : Plan) (m k : ℕ) → Bool
is_short p m k = ltb (carries p (boundary p m) (boundary p k)) (asked p (boundary p m) (boundary p k))

-- 29 with D, E, what is asked and what is carried, if boundaries m and k are such times and more is asked.
abbrev pub pair_at : (p : Plan) (m k : ℕ) → Report
pair_at p m k =
    fault (is_end p false m && is_end p true k && is_short p m k)
    (no_timetable ∷ boundary p m ∷ boundary p k ∷ asked p (boundary p m) (boundary p k) ∷ carries p (boundary p m) (boundary p k) ∷ [])

-- The first pair by which no timetable exists: the first by D, of these the first by E; empty if there is none.
unfoldable pub pair_fault : Plan → Report
pair_fault p = first (λ m. first (pair_at p m) (suc (intervals p))) (suc (intervals p))
