-- A grant is a space, the name, an equals sign and the units.
use Rattle.std.proofs.Common.{◌∙◌, ap, refl, length, arith, append_assoc}
use borrow.Author.Tests.{ne_eqb}
use Rattle.plan.specs.Edition.{name_bytes}
use Rattle.text.specs.Text.{decimal, most_digits, text, name_text}
use Rattle.text.proofs.Lines.{Says, and_then, few_digits_of}
use Rattle.lines.specs.Lines.{longest_line}
use Rattle.lines.proofs.pieces.push_grant.Goals as goal

pub returns : goal.returns
returns c =
    let a = c.args in
    let begun : Says longest_line a.line.now a.line.now (length a.line.now) = record { is = refl; few = omega arith } in
    let space = and_then begun (text " ") 1 (omega arith) (omega (arith, c.requires)) c.push.ensures in
    let name = and_then space (name_text a.name.0) name_bytes (omega arith) (omega (arith, c.requires)) c.push_name.ensures in
    let equals = and_then name (text "=") 1 (omega arith) (omega (arith, c.requires)) c.push-2.ensures in
    let units = and_then equals (decimal a.units) most_digits (few_digits_of _ (omega arith)) (omega (arith, c.requires)) c.push_number.ensures in
    record {
      grant = units.is ∙ rw (ne_eqb _ _ c.if-units-eq0.false) (simp append_assoc);
      few = omega (arith, units.few, ap length units.is);
    }
