-- The test of each byte of a name, over the bytes' positions.
use Rattle.std.proofs.Common.{ℕ, Bool, ◌&&◌, leb, ◌∙◌, rules, tests}
use Rattle.std.proofs.lemmas.Iterator.{YieldsList-from_slice}
use Rattle.std.proofs.lemmas.Iterator.Search.{all_from_yields_List}
use Rattle.plan.specs.Rules.{name_allowed}
use Rattle.plan.proofs.Names.{every_byte}
use Rattle.plan.proofs.rules.name_allowed.Goals as goal

pub returns : goal.returns
unfolding name_allowed
returns c =
    let test : ℕ → Bool = λ b. leb 0x21 b && leb b 0x7E in
    let bytes = c.to_le_bytes.result in
    all_from_yields_List test _ _ _ c.all.ensures.ran (YieldsList-from_slice bytes cc) (λ x b q k. search (rules, tests))
    ∙ every_byte test c.args.name.0 bytes c.to_le_bytes.ensures
