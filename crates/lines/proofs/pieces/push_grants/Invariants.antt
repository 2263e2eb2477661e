-- After i jobs the line has the grants of the first i, of which each is short.
use Rattle.std.proofs.Common.{◌≡◌, ◌++◌, ◌+◌, ◌*◌, ◌≤◌, length}
use Rattle.lines.specs.Lines.{grants_text, grant_bytes}
use Rattle.lines.proofs.pieces.push_grants.Given as goal

abbrev pub invariant-loop-i : goal.invariant-loop-i
invariant-loop-i l = record {
  grants : l.line ≡ l.initial.line ++ grants_text l.p l.grants l.i;
  few : length l.line ≤ length l.initial.line + l.i * grant_bytes;
}
