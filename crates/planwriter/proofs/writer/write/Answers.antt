-- The writer, refusal by refusal, and then the file.
use Rattle.std.proofs.Common.{take, sym, arith}
use Rattle.plan.specs.Edition.{places}
use Rattle.planwriter.proofs.JobAndRowBytes.{count_few}
use Rattle.planwriter.proofs.WrittenFile.{writable, told_sound, ready, writer_short, writer_unsound, writer_tight, writer_whole}
use Rattle.planwriter.proofs.writer.write.Goals as goal

pub returns-then-table-lt-PLACES : goal.returns-then-table-lt-PLACES
returns-then-table-lt-PLACES c =
    writer_short c.args.p c.args.table.now c.args.out.now c.if-table-lt-PLACES.true

pub returns-then-not-sound_within : goal.returns-then-not-sound_within
returns-then-not-sound_within c =
    let a = c.args in
    writer_unsound a.p a.table.now a.out.now c.if-table-lt-PLACES.false
    (told_sound a.p a.table.now c.sound_within.ensures c.intervals_of-spans.ensures c.if-not-sound_within.true)

pub body_bytes-follows-requires : goal.body_bytes-follows-requires
body_bytes-follows-requires c =
    let a = c.args in
    let sounds = told_sound a.p a.table.now c.sound_within.ensures c.intervals_of-spans.ensures c.if-not-sound_within.false in
    let w = writable a.p a.table.now sounds c.if-table-lt-PLACES.false in
    (w.few, omega (arith, c.rows_in-rows.ensures, count_few (take places a.table.now), w.exact))

pub returns-then-out-length : goal.returns-then-out-length
returns-then-out-length c =
    let a = c.args in
    let sounds = told_sound a.p a.table.now c.sound_within.ensures c.intervals_of-spans.ensures c.if-not-sound_within.false in
    let so = ready a.p a.table.now _ _ sounds c.if-table-lt-PLACES.false c.rows_in-rows.ensures c.body_bytes-follows.ensures.exact in
    writer_tight a.p a.table.now a.out.now c.if-table-lt-PLACES.false so.sounds (omega (arith, so.whole))

pub put_file-requires : goal.put_file-requires
put_file-requires c =
    let a = c.args in
    let sounds = told_sound a.p a.table.now c.sound_within.ensures c.intervals_of-spans.ensures c.if-not-sound_within.false in
    let so = ready a.p a.table.now _ _ sounds c.if-table-lt-PLACES.false c.rows_in-rows.ensures c.body_bytes-follows.ensures.exact in
    (omega (arith, so.whole), so.writes, c.rows_in-rows.ensures, so.rest, c.intervals_of-spans.ensures)

pub returns : goal.returns
returns c =
    let a = c.args in
    let sounds = told_sound a.p a.table.now c.sound_within.ensures c.intervals_of-spans.ensures c.if-not-sound_within.false in
    let so = ready a.p a.table.now _ _ sounds c.if-table-lt-PLACES.false c.rows_in-rows.ensures c.body_bytes-follows.ensures.exact in
    writer_whole a.p a.table.now a.out.now c.if-table-lt-PLACES.false so.sounds (sym so.whole) c.if-out-length.false c.put_file.ensures
