-- `planwriter::put::put` meets its contract: the k bytes of `rest`, then the bytes written so far,
-- are the whole field.
use mathlib.Core.List.{◌++◌}
use mathlib.Core.Path.{◌≡◌}
use Prim.Native.Nat.{◌+◌, ◌<◌, ◌^◌}
use lib.ListN.{drop}
use lib.Seq.{sets}
use Rattle.fields.specs.Bytes.{bytes}
use Rattle.planwriter.proofs.put.put.Given as goal

abbrev pub invariant-loop-k : goal.invariant-loop-k
invariant-loop-k l =
    (l.rest < 256 ^ l.k) × (l.out ≡ sets l.initial.out (l.at + l.k) (drop l.k (bytes l.w l.x))) × (bytes l.k l.rest ++ drop l.k (bytes l.w l.x) ≡ bytes l.w l.x)
