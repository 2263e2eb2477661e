-- `joblist::export::Draft::push_doubled` meets its contract. Loop invariant: the bytes so far are appended.
use Rattle.std.proofs.Common.{[], ◌∷◌, get_or, sym}
use Rattle.joblist.specs.Inner.Growing.{Grows}
use Rattle.joblist.specs.Export.{doubled}
use Rattle.joblist.proofs.Growing.{grows_none, grows_twice, grows_same}
use Rattle.joblist.proofs.ExportLaws.{doubled_none, doubled_other, doubled_quote, doubled_next}
use Rattle.joblist.proofs.export.Draft.push_doubled.Goals as goal
use Rattle.joblist.proofs.export.Draft.push_doubled.Goals.{then-byte-eq34, else-byte-eq34}

pub loop-byte-init : goal.loop-byte-init
loop-byte-init c = grows_same (sym doubled_none) (grows_none c.args.self.now)

pub loop-byte-preserved : goal.loop-byte-preserved
loop-byte-preserved c =
    let byte = get_or c.args.bytes.now c.loop-byte.byte-index 0 in
    let once = c.push.ensures in
    let more : Grows c.loop-byte.self (doubled (byte ∷ [])) c.if-byte-eq34.self
    = elim c.if-byte-eq34.branch [
      | then-byte-eq34 w ↦ rw w.self-is (grows_same (sym (doubled_quote byte w.if-byte-eq34.true)) (grows_twice once w.push-then-byte-eq34.ensures))
      | else-byte-eq34 w ↦ rw w.self-is (grows_same (sym (doubled_other byte w.if-byte-eq34.false)) once)
    ] in
    grows_same (doubled_next c.args.bytes.now c.loop-byte.byte-index c.loop-byte-test.true) (grows_twice c.loop-byte.invariant more)
