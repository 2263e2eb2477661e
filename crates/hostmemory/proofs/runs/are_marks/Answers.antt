-- `hostmemory::runs::are_marks` meets its contract.
use Rattle.std.proofs.Common.{arith, ◌∙◌, ap, sym, suc, get_or, drop}
use mathlib.Core.Bool.{◌&&◌, and_assoc, and-true}
use native.Mathlib.Numerals.{add-one}
use lib.Dec.{leb}
use lib.ListN.{drop_of_length-le}
use lib.Seq.{drop-cons}
use Rattle.hostmemory.specs.Memory.{are_marks}
use Rattle.hostmemory.proofs.runs.are_marks.Goals as goal

pub loop-word-preserved : goal.loop-word-preserved
unfolding are_marks
loop-word-preserved c =
    let l = c.loop-word in
    let w = c.args.words.now in
    let next = drop-cons w l.word-index 0 (omega arith) in
    rw add-one (and_assoc l.so_far (leb (get_or w l.word-index 0) 1) (are_marks (drop (suc l.word-index) w)) ∙ sym (ap (λ m. l.so_far && are_marks m) next) ∙ l.invariant)

pub returns : goal.returns
unfolding are_marks
returns c =
    let l = c.loop-word in
    let none = drop_of_length-le c.args.words.now {i = l.word-index} (omega arith) in
    sym (and-true l.so_far) ∙ sym (ap (λ m. l.so_far && are_marks m) none) ∙ l.invariant
