-- `joblist::export::Draft::push_doubled` meets its contract. Loop invariant: the bytes so far are appended.
use Rattle.std.proofs.Common.{take}
use Rattle.joblist.specs.Inner.Growing.{Grows}
use Rattle.joblist.specs.Export.{doubled}
use Rattle.joblist.proofs.export.Draft.push_doubled.Given as goal

abbrev pub invariant-loop-byte : goal.invariant-loop-byte
invariant-loop-byte l = Grows l.initial.self (doubled (take l.byte-index l.bytes)) l.self
