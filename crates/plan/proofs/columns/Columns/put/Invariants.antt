-- `plan::columns::Columns::put` meets its contract: after i jobs the columns hold them, and `bits` has room in 32
-- bits exactly when their sizes have.
use Rattle.std.proofs.Common.{◌≡◌}
use lib.Dec.{ltb}
use Rattle.base.specs.Below.{every}
use Rattle.base.specs.Fill.{filled}
use Rattle.plan.specs.Rules.{job_of, release, size, deadline}
use Rattle.plan.specs.Columns.{column_values, in_column}
use Rattle.plan.proofs.columns.Columns.put.Given as goal

abbrev pub invariant-loop-i : goal.invariant-loop-i
invariant-loop-i l =
    (ltb l.bits column_values ≡ every (λ k. ltb (size l.fn.p k) column_values) l.i)
    × (l.self ≡ record {
      n = l.fn.p.n;
      d = l.fn.p.d;
      count = l.fn.p.count;
      grades = filled (λ k. (job_of l.fn.p k).grade) l.i l.fn.self.grades;
      releases = filled (release l.fn.p) l.i l.fn.self.releases;
      sizes = filled (λ k. in_column (size l.fn.p k)) l.i l.fn.self.sizes;
      deadlines = filled (deadline l.fn.p) l.i l.fn.self.deadlines;
    })
