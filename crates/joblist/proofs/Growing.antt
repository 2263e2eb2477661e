-- Laws of a text that grows by pieces, where there is room for them.
use Rattle.std.proofs.Common.{◌≡◌, List, [], ◌++◌, ℕ, arith}
use lib.ListN.{length-append}
use Rattle.text.specs.Append.{Adds}
use Rattle.text.proofs.Growth.{adds_grown, grown_by_none, grown_twice}
use Rattle.joblist.specs.declared.export.Draft.{Draft}
use Rattle.joblist.specs.Inner.Growing.{Grows}

pub grows : (d : Draft) (t m : List ℕ) (r : ℕ) → Adds d.bytes d.length t r m → Grows d t (record { bytes = m; length = r })
grows d t m r a = record { grown = λ h. adds_grown h a }

pub grows_none : (d : Draft) → Grows d [] d
grows_none d = record { grown = λ h. grown_by_none d.bytes d.length }

pub grows_twice : {d e f : Draft} {s t : List ℕ} → Grows d s e → Grows e t f → Grows d (s ++ t) f
grows_twice {s = s} {t = t} g h =
    record {
      grown = λ room.
          let long = length-append s t in
          let first = g.grown (omega (arith, long)) in
          grown_twice first (h.grown (omega (arith, long, first.end, first.room)));
    }

pub grows_same : {d e : Draft} {s t : List ℕ} → s ≡ t → Grows d s e → Grows d t e
grows_same e g = rw e at g
