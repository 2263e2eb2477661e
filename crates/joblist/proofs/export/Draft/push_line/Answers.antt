-- `joblist::export::Draft::push_line` meets its contract, piece by piece.
use Rattle.joblist.proofs.Growing.{grows_twice, grows_same}
use Rattle.joblist.proofs.ExportLaws.{line_joined}
use Rattle.joblist.proofs.export.Draft.push_line.Goals as goal

pub returns : goal.returns
returns c =
    let g₁ = c.push_name.ensures in
    let g₂ = grows_twice g₁ c.push.ensures in
    let g₃ = grows_twice g₂ (grows_same c.letter_of.ensures c.push-2.ensures) in
    let g₄ = grows_twice g₃ c.push-3.ensures in
    let g₅ = grows_twice g₄ c.push_number.ensures in
    let g₆ = grows_twice g₅ c.push-4.ensures in
    let g₇ = grows_twice g₆ c.push_number-2.ensures in
    let g₈ = grows_twice g₇ c.push-5.ensures in
    let g₉ = grows_twice g₈ c.push_number-3.ensures in
    grows_same (line_joined c.args.job) (grows_twice g₉ c.push-6.ensures)
