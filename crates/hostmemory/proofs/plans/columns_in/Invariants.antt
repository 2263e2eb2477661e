-- `hostmemory::plans::columns_in` meets its contract: after i jobs the columns hold their words, and both disjunctions
-- tell whether the words have room.
use Rattle.std.proofs.Common.{◌≡◌}
use mathlib.Core.Bool.{◌&&◌}
use lib.Dec.{ltb}
use Rattle.base.specs.Below.{every}
use Rattle.base.specs.Fill.{filled}
use Rattle.plan.specs.Columns.{column_values, in_column}
use Rattle.hostmemory.specs.Memory.{plan_of, grade_word, release_word, size_word, deadline_word, grade_values, job_fits}
use Rattle.hostmemory.proofs.plans.columns_in.Given as goal

abbrev pub invariant-loop-i : goal.invariant-loop-i
invariant-loop-i l =
    ((ltb l.grade_bits grade_values && ltb l.bits column_values) ≡ every (job_fits l.words) l.i)
    × (l.columns ≡ record {
      n = (plan_of l.words).n;
      d = (plan_of l.words).d;
      count = (plan_of l.words).count;
      grades = filled (λ k. in_column (grade_word l.words k)) l.i l.fn.columns.grades;
      releases = filled (λ k. in_column (release_word l.words k)) l.i l.fn.columns.releases;
      sizes = filled (λ k. in_column (size_word l.words k)) l.i l.fn.columns.sizes;
      deadlines = filled (λ k. in_column (deadline_word l.words k)) l.i l.fn.columns.deadlines;
    })
