-- A line is made only for an outcome; its word is short.
use Rattle.std.proofs.Common.{◌≡◌, ◌∙◌, ap, sym, arith, append_assoc}
use Rattle.std.specs.Prelude.{Ok}
use Rattle.plan.specs.Edition.{name_bytes}
use Rattle.text.specs.Text.{decimal, most_digits, text, name_text}
use Rattle.text.specs.Line.{pushed}
use Rattle.text.proofs.Lines.{nothing_yet, and_then, few_digits_of}
use Rattle.dispatch.specs.Answers.{outcome_by}
use Rattle.lines.specs.Answers.{outcome_printed}
use Rattle.lines.specs.Lines.{longest_line, outcome_line, ending_word}
use Rattle.lines.proofs.Lines.{short_word, told_printed, outcome_fits}
use Rattle.lines.proofs.outcome_line.Goals as goal

pub returns-in_err-outcome-clause-fits : goal.returns-in_err-outcome-clause-fits
returns-in_err-outcome-clause-fits g c = outcome_fits c.args.name.0 (outcome_by g.E.Numbered.number c.args.outcome) c.args.carried (few_digits_of _ (omega arith))

pub returns-clause-fits : goal.returns-clause-fits
returns-clause-fits g c = outcome_fits c.args.name.0 (outcome_by g.E.Numbered.number c.args.outcome) c.args.carried (few_digits_of _ (omega arith))

pub returns-clause-prints : goal.returns-clause-prints
unfolding outcome_line
returns-clause-prints g c =
    let a = c.args in
    let number = g.E.Numbered.number in
    let e = outcome_by number (Ok c.in_ok-outcome.field-0) in
    let name = and_then {n = longest_line} (nothing_yet c.new-line.ensures) (name_text a.name.0) name_bytes (omega arith) (omega arith) c.push_name.ensures in
    let space = and_then name (text " ") 1 (omega arith) (omega arith) c.push.ensures in
    let word = and_then space (ending_word e) most_digits (short_word e) (omega arith) (c.push-2.ensures ∙ ap (pushed longest_line c.push.new.self) c.word_of-word.ensures) in
    let again = and_then word (text " ") 1 (omega arith) (omega arith) c.push-3.ensures in
    let carried = and_then again (decimal a.carried) most_digits (few_digits_of _ (omega arith)) (omega arith) c.push_number.ensures in
    let end = and_then carried (text "\n") 1 (omega arith) (omega arith) c.push-4.ensures in
    let is : _ ≡ outcome_line a.name.0 (ending_word e) a.carried = end.is ∙ simp append_assoc in
    let printed : _ ≡ outcome_printed a.name.0 e a.carried a.out.now
    = rw (c.as_slice.ensures ∙ is) at c.print.ensures ∙ sym (told_printed number a.name.0 c.in_ok-outcome.field-0 a.carried a.out.now) in
    rw c.in_ok-outcome.was printed
