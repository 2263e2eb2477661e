-- Laws of columns: those into which a plan was put are the plan's if every size has room,
-- and a size without room breaks rule 9.
use mathlib.Core.Path.{◌≡◌, refl, sym, ◌∙◌}
use mathlib.Core.Bool.{true, false, true≢false}
use mathlib.Core.List.{List}
use Prim.Native.Nat.{ℕ, ◌<◌}
use native.Mathlib.Nat.{mod-eq_of_lt}
use native.Mathlib.Omega.{arith}
use borrow.Author.Tests.{ltb-true, leb-true, lt-ltb}
use lib.Dec.{leb}
use lib.ListN.{length, get_or}
use Rattle.base.specs.Fill.{filled}
use Rattle.base.proofs.Below.{every_at, every_all}
use Rattle.base.proofs.FillLaws.{filled_at}
use Rattle.base.proofs.Logic.{if_true, and_right}
use Rattle.plan.specs.Edition.{most_jobs, most_size}
use Rattle.plan.specs.Rules.{window_allowed, size_allowed, jobs_of, release, size, deadline, counted, bounds_hold}
use Rattle.plan.specs.Columns.{HasColumns, columns_over, column_values, in_column, sizes_fit}
use Rattle.plan.specs.declared.columns.Columns.{Columns}
use Rattle.plan.specs.declared.kinds.Plan.{Plan}

-- A number below `column_values` is what a column holds of it.
pub in_column_lem : (x : ℕ) → x < column_values → in_column x ≡ x
in_column_lem x h = mod-eq_of_lt h

-- An entry of a column that was filled from a function of the counted jobs.
column_at : (p : Plan) (f : ℕ → ℕ) (l : List ℕ) → length l ≡ most_jobs → (i : ℕ) → i < counted p → get_or (filled f (counted p) l) i 0 ≡ f i
column_at p f l long i h = filled_at f (counted p) l i (omega arith) h

-- Columns into which a plan whose sizes have room was put are the plan's.
pub columns_put : (p : Plan) (c : Columns) → sizes_fit p ≡ true
    → length c.grades ≡ most_jobs → length c.releases ≡ most_jobs → length c.sizes ≡ most_jobs → length c.deadlines ≡ most_jobs
    → HasColumns p (columns_over p c)
columns_put p c fits g r s d =
    record {
      n = refl;
      d = refl;
      count = refl;
      grade = column_at p _ _ g;
      release = column_at p _ _ r;
      size = λ i h. column_at p _ _ s i h ∙ in_column_lem (size p i) (ltb-true (size p i) column_values (every_at _ (counted p) i fits h));
      deadline = column_at p _ _ d;
    }

-- Rule 9 allows no size without room.
bounds_fit : (p : Plan) → bounds_hold (jobs_of p) ≡ true → sizes_fit p ≡ true
unfolding bounds_hold
bounds_fit p holds =
    every_all _ (counted p)
    (λ i h.
    let allowed = and_right (window_allowed (release p i) (deadline p i)) (size_allowed (size p i)) (every_at _ (counted p) i holds h) in
    lt-ltb (size p i) column_values (omega (arith, leb-true (size p i) most_size (and_right (leb 1 (size p i)) (leb (size p i) most_size) allowed))))

pub sizes_too_large : (p : Plan) → sizes_fit p ≡ false → bounds_hold (jobs_of p) ≡ false
sizes_too_large p large =
    if_true (bounds_hold (jobs_of p)) (λ holds. absurd (true≢false (sym (bounds_fit p holds) ∙ large))) (λ fails. fails)
