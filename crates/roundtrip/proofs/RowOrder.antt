-- The order of rows: places rise exactly if rows rise by job and then by interval.
use mathlib.Core.Logic.{◌⊎◌, inl, inr, ⊎_elim, ◌↔◌}
use mathlib.Core.Path.{◌≡◌}
use Prim.Native.Nat.{ℕ, ◌<◌}
use native.Mathlib.Omega.{arith}
use Rattle.plan.specs.Edition.{most_intervals}
use Rattle.plan.specs.Table.{place}
use Rattle.base.proofs.Logic.{by_order}

-- A row of job i in interval j is before one of job k in interval m, by place, exactly if i is
-- before k, or i is k and j is before m.
pub places_rise_exactly : (i j k m : ℕ) → j < most_intervals → m < most_intervals
    → (place most_intervals i j < place most_intervals k m) ↔ ((i < k) ⊎ ((i ≡ k) × (j < m)))
places_rise_exactly i j k m inside within = (
  λ h. by_order i k (λ e. inr (e, omega arith)) (λ l. inl l) (λ l. absurd (omega arith)),
  λ h. ⊎_elim (λ l. omega arith) (λ w. omega (arith, w.0, w.1)) h,
)
