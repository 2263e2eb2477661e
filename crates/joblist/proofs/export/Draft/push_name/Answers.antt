-- `joblist::export::Draft::push_name` meets its contract: the name as it is, or in quotes.
use Rattle.std.proofs.Common.{sym, ◌∙◌, ap}
use Rattle.joblist.specs.Export.{field_text}
use Rattle.joblist.proofs.Growing.{grows_twice, grows_same}
use Rattle.joblist.proofs.ExportLaws.{field_plain, field_quoted}
use Rattle.joblist.proofs.export.Draft.push_name.Goals as goal

pub returns-then-not-needs_quotes : goal.returns-then-not-needs_quotes
returns-then-not-needs_quotes c =
    let named = c.name_text-bytes in
    let plain = field_plain named.result (sym c.needs_quotes.ensures ∙ c.if-not-needs_quotes.true) in
    grows_same (sym plain ∙ ap field_text named.ensures) c.push.ensures

pub returns : goal.returns
returns c =
    let named = c.name_text-bytes in
    let quoted = field_quoted named.result (sym c.needs_quotes.ensures ∙ c.if-not-needs_quotes.false) in
    grows_same (sym quoted ∙ ap field_text named.ensures) (grows_twice (grows_twice c.push-2.ensures c.push_doubled.ensures) c.push-3.ensures)
