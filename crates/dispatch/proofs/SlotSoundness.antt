-- What the soundness of a plan and a run for a slot says, part by part.
use mathlib.Core.Path.{◌≡◌, refl, sym, ◌∙◌, subst}
use Rattle.std.proofs.Common.{Result, Ok, Err}
use mathlib.Core.Bool.{Bool, true, false, ◌&&◌, and-false}
use mathlib.Core.List.{List}
use Prim.Native.Nat.{ℕ, ◌≤◌, ◌<◌}
use borrow.Author.Tests.{leb-true}
use lib.Dec.{leb}
use lib.ListN.{length, replicate, length-replicate}
use Rattle.base.specs.Below.{every}
use Rattle.base.proofs.Logic.{both}
use Rattle.base.proofs.Below.{every_at}
use Rattle.plan.specs.Columns.{HasColumns, PutsColumns, sizes_fit}
use Rattle.plan.specs.Edition.{most_jobs}
use Rattle.plan.specs.Rules.{jobs_of, counted, size, grades_hold, rates_hold, count_holds, bounds_hold}
use Rattle.plan.specs.Boundaries.{first_release, last_deadline}
use Rattle.plan.specs.declared.columns.Columns.{Columns}
use Rattle.plan.specs.declared.kinds.Plan.{Plan}
use Rattle.plan.specs.declared.refusal.Reason.{Reason}
use Rattle.plan.specs.declared.refusal.Reason.TheVariants.{Unsound}
use Rattle.plan.proofs.ColumnLaws.{columns_put, sizes_too_large}
use Rattle.plan.proofs.Soundness.{Bounded, bounded}
use Rattle.dispatch.specs.declared.Run.{Run}
use Rattle.dispatch.specs.Dues.{carried_of}
use Rattle.dispatch.specs.Step.{slot_sound}

pub record SlotSound (p : Plan) (run : Run) : Type 0 where
  pub rules : Bounded p
  pub begun : first_release p ≤ run.clock.0
  pub not_over : run.clock.0 ≤ last_deadline p
  pub carried : (i : ℕ) → i < counted p → carried_of run i ≤ size p i

pub slot_sound_lem : (p : Plan) (run : Run) → slot_sound p run ≡ true → SlotSound p run
unfolding slot_sound
slot_sound_lem p run e =
    let from = leb (first_release p) run.clock.0 in
    let to = leb run.clock.0 (last_deadline p) in
    let l = jobs_of p in
    let s₁ = both (rates_hold p && count_holds l && grades_hold l && bounds_hold l && from && to) (every (λ i. leb (carried_of run i) (size p i)) (counted p)) e in
    let s₂ = both (rates_hold p && count_holds l && grades_hold l && bounds_hold l && from) to s₁.0 in
    let s₃ = both (rates_hold p && count_holds l && grades_hold l && bounds_hold l) from s₂.0 in
    let s₄ = both (rates_hold p && count_holds l && grades_hold l) (bounds_hold l) s₃.0 in
    let s₅ = both (rates_hold p && count_holds l) (grades_hold l) s₄.0 in
    let s₆ = both (rates_hold p) (count_holds l) s₅.0 in
    record {
      rules = bounded p s₆.0 s₆.1 s₄.1;
      begun = leb-true (first_release p) run.clock.0 s₃.1;
      not_over = leb-true run.clock.0 (last_deadline p) s₂.1;
      carried = λ i h. leb-true (carried_of run i) (size p i) (every_at (λ k. leb (carried_of run k) (size p k)) (counted p) i s₁.1 h);
    }

-- A plan that breaks rule 9 is sound for no slot.
pub too_large_unsound : (p : Plan) (run : Run) → bounds_hold (jobs_of p) ≡ false → slot_sound p run ≡ false
unfolding slot_sound
too_large_unsound p run e = rw (e, and-false (rates_hold p && count_holds (jobs_of p) && grades_hold (jobs_of p))) refl

-- Columns of no jobs, at rates of zero.
abbrev empty : Columns
empty =
    let zeros : List ℕ = replicate most_jobs 0 in
    record { n = record { 0 = 0 }; d = record { 0 = 0 }; count = 0; grades = zeros; releases = zeros; sizes = zeros; deadlines = zeros }

module _ (p : Plan) {r : Result Unit Reason} {left : Columns} (puts : PutsColumns p empty r left) where
  -- A plan that has no room in columns is refused with 21, and sound for no slot.
  pub unput_lem : {reason : Reason} → r ≡ Err reason → (reason ≡ Unsound) × ((run : Run) → slot_sound p run ≡ false)
  unput_lem {reason} e = by (sizes_fit p) refl
    where
      by : (b : Bool) → sizes_fit p ≡ b → (reason ≡ Unsound) × ((run : Run) → slot_sound p run ≡ false)
      by true fits = let none : ◌≡◌ {A = Result Unit Reason} (Err reason) (Ok tt) = sym e ∙ puts.0 ∙ rw fits refl in absurd (cc)
      by false large =
          let is : ◌≡◌ {A = Result Unit Reason} (Err reason) (Err Unsound) = sym e ∙ puts.0 ∙ rw large refl in
          (cc, λ run. too_large_unsound p run (sizes_too_large p large))

  -- A plan that was put into columns has them.
  pub put_lem : {u : Unit} → r ≡ Ok u → HasColumns p left
  put_lem {u} e = by (sizes_fit p) refl
    where
      long : length {A = ℕ} (replicate most_jobs 0) ≡ most_jobs
      long = length-replicate {A = ℕ} most_jobs 0

      by : (b : Bool) → sizes_fit p ≡ b → HasColumns p left
      by true fits = subst (λ l. HasColumns p l) (sym puts.1) (columns_put p empty fits long long long long)
      by false large = let none : ◌≡◌ {A = Result Unit Reason} (Ok u) (Err Unsound) = sym e ∙ puts.0 ∙ rw large refl in absurd (cc)
