-- `planwriter::put::put_row` meets its contract: each field is written after the one before.
use mathlib.Core.Path.{refl, ◌∙◌}
use Rattle.planfields.specs.Layout.{row_length}
use Rattle.planwriter.proofs.Sets.{put_start}
use Rattle.planwriter.proofs.JobAndRowBytes.{put_field, row_long}
use Rattle.planwriter.proofs.put.put_row.Goals as goal

pub returns : goal.returns
returns c =
    let a = c.args in
    let p1 = put_field (put_start a.out.now a.at) 1 row_length refl c.put-after_length.ensures.0 c.put-after_length.ensures.1 in
    let p2 = put_field p1 8 a.name refl c.put-after_name.ensures.0 c.put-after_name.ensures.1 in
    let p3 = put_field p2 2 a.interval refl c.put-after_interval.ensures.0 c.put-after_interval.ensures.1 in
    let p4 = put_field p3 4 a.units c.from.ensures c.put.ensures.0 c.put.ensures.1 in
    (p4.ends ∙ rw (row_long a.name a.interval a.units) refl, p4.stands)
