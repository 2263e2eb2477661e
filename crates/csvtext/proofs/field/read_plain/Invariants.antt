-- `csvtext::field::read_plain` meets its contract. Loop invariant: what is left to read, added to what
-- is known, gives the whole field.
use Rattle.std.proofs.Common.{◌≡◌, drop}
use Rattle.csvtext.specs.Grammar.{plain}
use Rattle.csvtext.specs.Inner.Seen.{nothing, seen_at}
use Rattle.csvtext.proofs.field.read_plain.Given as goal

abbrev pub invariant-loop-next : goal.invariant-loop-next
invariant-loop-next l = seen_at l.next l.seen (plain (drop l.next l.text)) ≡ seen_at l.at nothing (plain (drop l.at l.text))
