use Rattle.std.proofs.Common.{◌∙◌, ap, sym, length, arith, append_assoc}
use Rattle.text.specs.Text.{decimal, most_digits, text}
use Rattle.text.specs.Line.{pushed}
use Rattle.text.proofs.Lines.{nothing_yet, and_then, few_digits_of}
use Rattle.lines.specs.Lines.{longest_line}
use Rattle.lines.proofs.refused_line.Goals as goal

pub returns : goal.returns
returns c =
    let word = and_then {n = longest_line} (nothing_yet c.new-line.ensures) (text "refused ") 8 (omega arith) (omega arith) c.push.ensures in
    let number = and_then word (decimal c.args.number) most_digits (few_digits_of _ (omega arith)) (omega arith)
    (c.push_number.ensures ∙ ap (λ x. pushed longest_line c.push.new.self (decimal x)) c.from.ensures) in
    let end = and_then number (text "\n") 1 (omega arith) (omega arith) c.push-2.ensures in
    let is = end.is ∙ append_assoc (text "refused ") (decimal c.args.number) (text "\n") in
    record {
      prints = rw (c.as_slice.ensures ∙ is) at c.print.ensures;
      fits = omega (arith, end.few, ap length (sym end.is ∙ is));
    }
