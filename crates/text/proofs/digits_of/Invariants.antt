-- `text::digits_of` meets its contract. Loop invariant: the bytes are zeros and then the digits
-- found, and the rest of the number followed by them is the same text.
use mathlib.Core.Path.{◌≡◌}
use mathlib.Core.List.{List, ◌++◌}
use Prim.Native.Nat.{ℕ, suc, ◌^◌, ◌<◌}
use lib.ListN.{length, replicate}
use Rattle.text.specs.Text.{digits, decimal, most_digits}
use Rattle.text.proofs.digits_of.Given as goal

abbrev pub invariant-loop-rest : goal.invariant-loop-rest
invariant-loop-rest l =
    ((tail : List ℕ) × (l.bytes ≡ replicate (suc l.from) 0 ++ tail) × (digits (suc l.from) l.rest tail ≡ decimal l.number))
    × (l.from < most_digits) × (l.rest < 10 ^ suc l.from) × (length l.bytes ≡ most_digits)

abbrev pub decreases-loop-rest : goal.decreases-loop-rest
decreases-loop-rest l = l.from
