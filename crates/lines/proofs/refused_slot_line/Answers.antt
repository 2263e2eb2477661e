use Rattle.std.proofs.Common.{◌≡◌, ◌∙◌, ap, sym, length, arith, append_assoc}
use Rattle.text.specs.Text.{decimal, most_digits, text}
use Rattle.text.specs.Line.{pushed}
use Rattle.text.proofs.Lines.{Says, and_then, few_digits_of}
use Rattle.lines.specs.Lines.{longest_line, refused_slot_line}
use Rattle.lines.proofs.refused_slot_line.Goals as goal

pub returns : goal.returns
unfolding refused_slot_line
returns c =
    let times : Says longest_line c.push_times.new.line _ 22 = record { is = c.push_times.ensures.times; few = omega (arith, c.push_times.ensures.few, ap length c.push_times.ensures.times) } in
    let mode = and_then times (text "R ") 2 (omega arith) (omega arith) c.push.ensures in
    let number = and_then mode (decimal c.args.number) most_digits (few_digits_of _ (omega arith)) (omega arith)
    (c.push_number.ensures ∙ ap (λ x. pushed longest_line c.push.new.self (decimal x)) c.from.ensures) in
    let end = and_then number (text "\n") 1 (omega arith) (omega arith) c.push-2.ensures in
    let is : _ ≡ refused_slot_line c.args.clock.0 c.args.speed c.args.number = end.is ∙ simp append_assoc in
    record {
      prints = rw (c.as_slice.ensures ∙ is) at c.print.ensures;
      fits = omega (arith, end.few, ap length (sym end.is ∙ is));
    }
