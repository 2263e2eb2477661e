-- `desk::pairs::short_pair` meets its contract: the pair that asks too much is the first.
use Rattle.std.proofs.Common.{rules}
use Rattle.desk.proofs.CodeLaws.{first_told}
use Rattle.desk.proofs.pairs.short_pair.Goals as goal

pub returns-in_err-short_from : goal.returns-in_err-short_from
returns-in_err-short_from c =
    let items = c.times-due-items.ensures.are in
    let view = c.in_err-short_from.ensures in
    let test = c.loop-m-test.true in
    let short = rw items at view in
    let below = rw items at test in
    let told = first_told _ _ _ _ c.loop-m.invariant below short in
    search (rules, told)
