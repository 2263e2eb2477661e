use Rattle.std.proofs.Common.{◌∙◌, ap, length, arith, rules, append_assoc}
use Rattle.text.specs.Text.{decimal, most_digits, text}
use Rattle.text.specs.Line.{pushed}
use Rattle.text.proofs.Lines.{nothing_yet, and_then, few_digits_of}
use Rattle.lines.specs.Lines.{longest_line}
use Rattle.lines.proofs.pieces.push_times.Goals as goal

pub returns : goal.returns
returns c =
    let clock = and_then {n = longest_line} (nothing_yet c.requires) (decimal c.args.clock.0) most_digits (few_digits_of _ (search rules)) (omega arith) c.push_number.ensures in
    let space = and_then clock (text " ") 1 (omega arith) (omega arith) c.push.ensures in
    let speed = and_then space (decimal c.args.speed) most_digits (few_digits_of _ (omega arith)) (omega arith) (c.push_number-2.ensures ∙ ap (λ x. pushed longest_line c.push.new.self (decimal x)) c.from.ensures) in
    let end = and_then speed (text " ") 1 (omega arith) (omega arith) c.push-2.ensures in
    record { times = end.is ∙ simp append_assoc; few = omega (arith, end.few, ap length end.is) }
