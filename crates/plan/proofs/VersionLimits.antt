-- As many jobs as a file of a version may have fit into a plan in hand; what is written fits its version.
use mathlib.Core.Path.{◌≡◌}
use mathlib.Core.Bool.{true}
use Prim.Native.Nat.{ℕ, ◌*◌, ◌-◌, ◌≤◌}
use native.Mathlib.Nat.{mul-le-mul}
use native.Mathlib.Omega.{arith}
use borrow.Author.Tests.{leb-true, le-leb}
use lib.Dec.{leb}
use Rattle.plan.specs.Edition.{most_jobs, most_intervals}
use Rattle.plan.specs.Rules.{count_allowed}
use Rattle.plan.specs.Versions.{newest_version, least_jobs_in, most_jobs_in, most_rows_in, count_allowed_in, rows_allowed_in, version_for}
use Rattle.base.proofs.Logic.{both}

-- A count that a version allows is one that a plan in hand may have.
pub count_in_hand : (version count : ℕ) → count_allowed_in version count ≡ true → count_allowed count ≡ true
count_in_hand version count e = e

pub count_some : (version count : ℕ) → count_allowed_in version count ≡ true → 1 ≤ count
count_some version count e = leb-true (least_jobs_in version) count (both (leb (least_jobs_in version) count) (leb count (most_jobs_in version)) e).0

pub count_fits : (version count : ℕ) → count_allowed_in version count ≡ true → count ≤ most_jobs
count_fits version count e = leb-true count (most_jobs_in version) (both (leb (least_jobs_in version) count) (leb count (most_jobs_in version)) e).1

-- A count that a plan in hand may have is allowed in the version in which it is written.
pub count_written : (count : ℕ) → count_allowed count ≡ true → count_allowed_in (version_for count) count ≡ true
count_written count e = e

-- A file's version is the one in which its plan is written.
pub version_written : (version count : ℕ) → 1 ≤ version → version ≤ newest_version → count_allowed_in version count ≡ true → version_for count ≡ version
version_written version count old new e = omega arith

-- A row for each job and interval of a plan is allowed in the version in which it is written: it has at
-- most one interval fewer than twice its jobs.
pub rows_written : (count spans rows : ℕ) → count_allowed count ≡ true → spans ≤ 2 * count - 1 → rows ≤ count * spans
    → rows_allowed_in (version_for count) rows ≡ true
rows_written count spans rows e narrow few =
    let most = count_fits (version_for count) count (count_written count e) in
    let wide : spans ≤ most_intervals = omega (arith, most) in
    let all : count * spans ≤ most_jobs * most_intervals = mul-le-mul most wide in
    le-leb rows (most_rows_in (version_for count)) (omega (arith, few, all))
