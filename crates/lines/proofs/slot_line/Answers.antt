use Rattle.std.proofs.Common.{◌≡◌, ◌+◌, ◌++◌, ◌∙◌, ap, sym, length, arith, append_assoc}
use Rattle.plan.specs.Rules.{counted}
use Rattle.text.specs.Text.{text}
use Rattle.text.specs.Line.{pushed}
use Rattle.text.proofs.Lines.{Says, and_then}
use Rattle.lines.specs.Lines.{longest_line, mode_text, grants_text, or_dash, slot_line}
use Rattle.lines.proofs.Lines.{one_letter}
use Rattle.lines.proofs.slot_line.Goals as goal

pub returns : goal.returns
unfolding slot_line
returns c =
    let a = c.args in
    let grants = or_dash (grants_text a.p a.grants.now (counted a.p)) in
    let times : Says longest_line c.push_times.new.line _ 22 = record { is = c.push_times.ensures.times; few = omega (arith, c.push_times.ensures.few, ap length c.push_times.ensures.times) } in
    let mode = and_then times (mode_text a.slow) 1 (one_letter a.slow) (omega arith) (c.push.ensures ∙ ap (pushed longest_line c.push_times.new.line) c.mode_of.ensures) in
    let granted : Says longest_line c.push_grants.new.line _ (22 + 1 + 640)
    = record { is = c.push_grants.ensures.grants ∙ ap (λ l. l ++ grants) mode.is; few = omega (arith, c.push_grants.ensures.few, mode.few, ap length mode.is, ap length (c.push_grants.ensures.grants ∙ ap (λ l. l ++ grants) mode.is)) } in
    let end = and_then granted (text "\n") 1 (omega arith) (omega arith) c.push-2.ensures in
    let is : _ ≡ slot_line a.clock.0 a.speed a.slow a.p a.grants.now = end.is ∙ simp append_assoc in
    record {
      prints = rw (c.as_slice.ensures ∙ is) at c.print.ensures;
      fits = omega (arith, end.few, ap length (sym end.is ∙ is));
    }
