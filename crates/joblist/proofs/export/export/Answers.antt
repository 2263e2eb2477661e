-- `joblist::export::export` meets its contract: the text is made in a buffer, and copied if all of it has room.
use Rattle.std.proofs.Common.{sym, ◌∙◌, arith}
use lib.Seq.{length-take-le}
use Rattle.joblist.proofs.RuleParts.{meets, small}
use Rattle.joblist.proofs.ExportLaws.{exported_unsound, exported_short, exported_whole}
use Rattle.joblist.proofs.TextFits.{text_fits, text_made}
use Rattle.joblist.proofs.export.export.Goals as goal

pub returns-then-not-jobs_hold : goal.returns-then-not-jobs_hold
returns-then-not-jobs_hold c = exported_unsound c.args.list c.args.out.now (sym c.jobs_hold.ensures ∙ c.if-not-jobs_hold.true)

pub push_lines-requires : goal.push_lines-requires
push_lines-requires c =
    let m = meets c.args.list (sym c.jobs_hold.ensures ∙ c.if-not-jobs_hold.false) in
    (m.few, small m)

pub returns-then-out-length : goal.returns-then-out-length
returns-then-out-length c =
    let holds = sym c.jobs_hold.ensures ∙ c.if-not-jobs_hold.false in
    let made = text_made c.args.list holds c.push.ensures c.push_lines.ensures in
    exported_short c.args.list c.args.out.now holds (omega (arith, made.end, c.if-out-length.true))

pub shared_ref_as_front-copy_from_slice : goal.shared_ref_as_front-copy_from_slice
shared_ref_as_front-copy_from_slice c =
    let holds = sym c.jobs_hold.ensures ∙ c.if-not-jobs_hold.false in
    let made = text_made c.args.list holds c.push.ensures c.push_lines.ensures in
    omega (arith, made.end, made.room, text_fits c.args.list holds)

pub slice_bounds-copy_from_slice-end-3 : goal.slice_bounds-copy_from_slice-end-3
slice_bounds-copy_from_slice-end-3 c =
    let holds = sym c.jobs_hold.ensures ∙ c.if-not-jobs_hold.false in
    let made = text_made c.args.list holds c.push.ensures c.push_lines.ensures in
    let text = c.push_lines.new.self in
    sym (length-take-le text.length text.bytes (omega (arith, made.end, made.room, text_fits c.args.list holds)))

pub copy_from_slice-requires : goal.copy_from_slice-requires
copy_from_slice-requires c =
    let holds = sym c.jobs_hold.ensures ∙ c.if-not-jobs_hold.false in
    let made = text_made c.args.list holds c.push.ensures c.push_lines.ensures in
    let text = c.push_lines.new.self in
    length-take-le text.length c.args.out.now c.if-out-length.false
    ∙ sym (length-take-le text.length text.bytes (omega (arith, made.end, made.room, text_fits c.args.list holds)))

pub returns : goal.returns
returns c =
    let holds = sym c.jobs_hold.ensures ∙ c.if-not-jobs_hold.false in
    let made = text_made c.args.list holds c.push.ensures c.push_lines.ensures in
    exported_whole c.args.list c.args.out.now holds made c.if-out-length.false c.copy_from_slice.ensures.after
