-- `hostmemory::runs::put_slot` meets its contract: the clock, the marks, then the carried units.
use Rattle.std.proofs.Common.{arith, ◌≡◌, length}
use borrow.Author.Tests.{le-ltb}
use lib.ListN.{set, length-set}
use Rattle.plan.specs.Edition.{most_jobs}
use Rattle.hostmemory.specs.Memory.{slot_put, mark_out, mark_words}
use Rattle.hostmemory.proofs.Writes.{mark_word, part_put}
use Rattle.hostmemory.proofs.runs.put_slot.Goals as goal

pub returns : goal.returns
unfolding slot_put
returns c =
    let a = c.args in
    let words = set (set (set a.words.now 0 a.at.clock.0) 1 (mark_out a.at.slow)) 2 (mark_out a.at.below) in
    let long : length words ≡ length a.words.now = simp (length-set) in
    rw (le-ltb _ _ c.if-words-lt-RUN.false, c.copy_from_slice.ensures.after, c.from.ensures, c.from-2.ensures, mark_word a.at.slow, mark_word a.at.below)
    (part_put words a.carried.now mark_words most_jobs (omega arith) (omega (arith, long)))
