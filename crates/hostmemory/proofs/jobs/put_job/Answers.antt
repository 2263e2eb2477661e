-- `hostmemory::jobs::put_job` meets its contract: each word is written just after the one before.
use mathlib.Core.Path.{◌≡◌, refl}
use Prim.Native.Nat.{suc, ◌+◌}
use native.Mathlib.Omega.{arith}
use native.Mathlib.Numerals.{add-one}
use lib.ListN.{length-set}
use Rattle.hostmemory.proofs.jobs.put_job.Goals as goal

pub bounds-words-at-2 : goal.bounds-words-at-2
bounds-words-at-2 c =
    simp length-set (omega arith)

pub bounds-words-at-3 : goal.bounds-words-at-3
bounds-words-at-3 c =
    simp length-set (omega arith)

pub bounds-words-at-4 : goal.bounds-words-at-4
bounds-words-at-4 c =
    simp length-set (omega arith)

pub bounds-words-at-5 : goal.bounds-words-at-5
bounds-words-at-5 c =
    simp length-set (omega arith)

pub returns : goal.returns
returns c =
    let at = c.args.at in
    let e₂ : at + 2 ≡ suc (suc at) = omega arith in
    let e₃ : at + 3 ≡ suc (suc (suc at)) = omega arith in
    let e₄ : at + 4 ≡ suc (suc (suc (suc at))) = omega arith in
    rw (add-one, e₂, e₃, e₄, c.from.ensures, c.from-2.ensures, c.from-3.ensures) refl
