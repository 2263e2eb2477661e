-- `runplan::read_file` meets its contract: both reads stay inside the file buffer, and the second
-- leaves the opening as it is.
use mathlib.Core.Path.{sym}
use Prim.Native.Nat.{◌≤◌}
use native.Mathlib.Omega.{arith}
use lib.ListN.{length}
use lib.Seq.{length-take-le}
use Rattle.runplan.proofs.FileSize.{size_fits, size_known}
use Rattle.runplan.proofs.read_file.Goals as goal

pub read_part-requires : goal.read_part-requires
read_part-requires c =
    let first = c.read_part-first in
    let f = size_fits _ _ _ (sym (length-take-le first.result first.new.file (omega arith))) (omega arith) c.file_bytes-size.ensures in
    (omega (arith, f.0), omega (arith, f.1))

pub returns-clause-prefix_len : goal.returns-clause-prefix_len
returns-clause-prefix_len c =
    let first = c.read_part-first in
    let second = c.read_part in
    let f = size_fits _ _ _ (sym (length-take-le first.result first.new.file (omega arith))) (omega arith) c.file_bytes-size.ensures in
    let short : second.result ≤ length second.new.file = omega (arith, f.1) in
    (short, sym (length-take-le second.result second.new.file short))

pub returns-clause-upper_bound : goal.returns-clause-upper_bound
returns-clause-upper_bound c =
    let first = c.read_part-first in
    let second = c.read_part in
    size_known first.new.file second.new.file first.result second.result (omega arith) (omega arith) (omega arith) (omega (arith, c.file_bytes-size.ensures)) second.ensures.2
