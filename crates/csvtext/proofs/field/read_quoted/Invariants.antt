-- `csvtext::field::read_quoted` meets its contract. Loop invariant: what is left to read, added to what
-- is known, gives the whole field.
use Rattle.std.proofs.Common.{◌≡◌, false, drop}
use Rattle.csvtext.specs.Grammar.{quoted}
use Rattle.csvtext.specs.Inner.Seen.{nothing, seen_at}
use Rattle.csvtext.proofs.field.read_quoted.Given as goal

abbrev pub invariant-loop-next : goal.invariant-loop-next
invariant-loop-next l = seen_at l.next l.seen (quoted l.closed (drop l.next l.text)) ≡ seen_at l.at nothing (quoted false (drop l.at l.text))
