-- `planwriter::writer::put_file` meets its contract:
-- the version, the length and the body are written one after the other.
use Rattle.fields.specs.Bytes.{bytes}
use mathlib.Core.List.{◌++◌}
use mathlib.Core.Path.{refl, ◌∙◌, ap, ap₂}
use Prim.Native.Nat.{ℕ}
use native.Mathlib.Omega.{arith}
use lib.Seq.{sets}
use Rattle.planwriter.specs.Writing.{body}
use Rattle.planwriter.proofs.Sets.{put_start, put_on}
use Rattle.planwriter.proofs.JobAndRowBytes.{put_field}
use Rattle.planwriter.proofs.WrittenFile.{body_short, written_of, written_long}
use Rattle.planwriter.proofs.writer.put_file.Goals as goal

pub put-after_version-requires : goal.put-after_version-requires
put-after_version-requires c =
    (omega (arith, written_long c.args.p c.args.table.now, c.requires.0), omega (arith, c.version_for-version.ensures))

pub put-after_length-requires : goal.put-after_length-requires
put-after_length-requires c =
    (omega (arith, written_long c.args.p c.args.table.now, c.requires.0, c.put-after_version.ensures.0, c.put-after_version.auto.out), omega (arith, c.requires.3, body_short c.args.p c.args.table.now c.requires.1))

pub put_body-requires : goal.put_body-requires
put_body-requires c =
    (omega (arith, written_long c.args.p c.args.table.now, c.requires.0, c.put-after_version.ensures.0, c.put-after_version.auto.out, c.put-after_length.ensures.0, c.put-after_length.auto.out), c.requires.1, c.requires.2, c.requires.4)

pub returns : goal.returns
returns c =
    let a = c.args in
    let p1 = put_field (put_start a.out.now 0) 1 c.version_for-version.result c.from.ensures c.put-after_version.ensures.0 c.put-after_version.ensures.1 in
    let p2 = put_field p1 4 a.follows refl c.put-after_length.ensures.0 c.put-after_length.ensures.1 in
    let p3 = put_on p2 (body a.p a.table.now) refl c.put_body.ensures in
    p3.stands
    ∙ ap (sets a.out.now 0)
    (ap₂ (λ (v n : ℕ). bytes 1 v ++ bytes 4 n ++ body a.p a.table.now) c.version_for-version.ensures c.requires.3 ∙ written_of a.p a.table.now)
