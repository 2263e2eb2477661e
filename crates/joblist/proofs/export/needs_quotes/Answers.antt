-- `joblist::export::needs_quotes` meets its contract.
use Rattle.std.proofs.Common.{◌≡◌, ◌||◌, Bool, ℕ, List, [], ◌∷◌, refl, ◌∙◌, ap, rules, tests}
use lib.Dec.{eqb}
use Rattle.std.specs.List.{list_any}
use Rattle.std.proofs.lemmas.Iterator.{YieldsList-from_slice}
use Rattle.std.proofs.lemmas.Iterator.Search.{any_from_yields_List}
use Rattle.csvtext.specs.Grammar.{comma, quote, carriage_return, line_feed}
use Rattle.joblist.specs.Export.{needs_quotes}
use Rattle.joblist.proofs.export.needs_quotes.Goals as goal

special : ℕ → Bool
special b = eqb b quote || eqb b comma || eqb b carriage_return || eqb b line_feed

any_is : (l : List ℕ) → list_any special l ≡ needs_quotes l
unfolding needs_quotes special
any_is [] = refl
any_is (b ∷ l) = ap (λ t. special b || t) (any_is l)

pub returns : goal.returns
unfolding special
returns c =
    any_from_yields_List special _ _ c.any.result c.any.ensures.ran (YieldsList-from_slice c.args.bytes.now cc) (λ x b q k. search (rules, tests)) ∙ any_is c.args.bytes.now
