-- Laws of the job of a line, part by part: the first fault decides the result.
use mathlib.Core.Path.{◌≡◌}
use mathlib.Core.Bool.{true, false, ◌&&◌}
use mathlib.Core.List.{List}
use Prim.Native.Nat.{ℕ}
use Rattle.plan.specs.Refusal.{Refusal, refusal_at, wrong_name_byte, name_taken, wrong_grade, wrong_job_bounds}
use Rattle.plan.specs.Rules.{name_allowed, is_absent, grade_allowed, window_allowed, size_allowed}
use Rattle.plan.specs.declared.kinds.Job.{Job}
use Rattle.fields.specs.Parsers.{Parsed, got, no}
use Rattle.joblist.specs.Import.{Line, line, job_on, one_job}

-- A job is refused with its line, or by the first rule that it breaks.
module _ (earlier text : List ℕ) (at : ℕ) where
  pub job_no_line : {k : Refusal} → line text at ≡ no k → ◌≡◌ {A = Parsed Job} (no k) (one_job earlier text at)
  unfolding one_job
  job_no_line e = rw e

  module _ {l : Line} {next : ℕ} (e : line text at ≡ got l next) where
    pub job_name_byte : name_allowed l.name ≡ false → ◌≡◌ {A = Parsed Job} (no (refusal_at wrong_name_byte at)) (one_job earlier text at)
    unfolding one_job
    job_name_byte t = rw (e, t)

    module _ (t₁ : name_allowed l.name ≡ true) where
      pub job_name_taken : is_absent earlier l.name ≡ false → ◌≡◌ {A = Parsed Job} (no (refusal_at name_taken at)) (one_job earlier text at)
      unfolding one_job
      job_name_taken t = rw (e, t₁, t)

      module _ (t₂ : is_absent earlier l.name ≡ true) where
        pub job_grade : grade_allowed l.grade ≡ false → ◌≡◌ {A = Parsed Job} (no (refusal_at wrong_grade l.grade_at)) (one_job earlier text at)
        unfolding one_job
        job_grade t = rw (e, t₁, t₂, t)

        module _ (t₃ : grade_allowed l.grade ≡ true) where
          pub job_bounds : (window_allowed l.release l.deadline && size_allowed l.size) ≡ false
              → ◌≡◌ {A = Parsed Job} (no (refusal_at wrong_job_bounds l.release_at)) (one_job earlier text at)
          unfolding one_job
          job_bounds t = rw (e, t₁, t₂, t₃, t)

          pub job_whole : (window_allowed l.release l.deadline && size_allowed l.size) ≡ true
              → ◌≡◌ {A = Parsed Job} (got (job_on l) next) (one_job earlier text at)
          unfolding one_job
          job_whole t = rw (e, t₁, t₂, t₃, t)
