-- `desk::same_release` meets its contract.
use Rattle.std.proofs.Common.{◌≡◌, ◌∙◌, ap, sym, refl, arith, rules, tests, ℕ, suc, zero, ◌≤◌, List, [], ◌∷◌, Bool, get_or, take, length}
use Rattle.std.proofs.lemmas.Iterator.{YieldsList-from_slice}
use Rattle.std.proofs.lemmas.Iterator.Search.{all_from_yields_List}
use Rattle.std.specs.List.{list_all}
use lib.Dec.{eqb}
use mathlib.Core.Bool.{◌&&◌}
use Rattle.base.specs.Below.{every}
use Rattle.base.proofs.Below.{every_shift}
use Rattle.desk.proofs.same_release.Goals as goal

-- A test of the first entries of a list, one after the other, is one of the numbers below.
list_every : (test : ℕ → Bool) (l : List ℕ) (n : ℕ) → n ≤ length l → list_all test (take n l) ≡ every (λ k. test (get_or l k 0)) n
unfolding every
list_every test l zero h = refl
list_every test (x ∷ l) (suc n) h =
    ap (λ b. test x && b) (list_every test l n (omega (arith, h))) ∙ sym (every_shift (λ k. test (get_or (x ∷ l) k 0)) n)
list_every test [] (suc n) h = absurd (omega (arith, h))

pub returns : goal.returns
returns c =
    let a = c.args in
    all_from_yields_List (λ r. eqb r a.begin) _ _ c.all.result c.all.ensures.ran (YieldsList-from_slice (take a.jobs a.releases.now) c.iter.ensures.rest) (λ x b q k. search (rules, tests))
    ∙ list_every (λ r. eqb r a.begin) a.releases.now a.jobs (omega arith)
