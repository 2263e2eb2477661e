-- `hostmemory::runs::ended_of` meets its contract. Loop invariant: the first i marks are read.
use mathlib.Core.Path.{◌≡◌, refl, sym, ◌∙◌, ap}
use mathlib.Core.List.{[], ◌∷◌, map, map-append}
use native.Mathlib.Numerals.{add-one}
use native.Mathlib.Omega.{arith}
use lib.ListN.{get_or, take, length-set}
use lib.Seq.{take-suc, take-suc-set, take_all}
use Rattle.plan.specs.Edition.{most_jobs}
use Rattle.hostmemory.specs.Memory.{is_set}
use Rattle.hostmemory.proofs.runs.ended_of.Goals as goal

pub loop-i-init : goal.loop-i-init
loop-i-init c =
    (refl, refl)

pub loop-i-preserved : goal.loop-i-preserved
loop-i-preserved c =
    let l = c.loop-i in
    let w = c.args.words.now in
    let inv = l.invariant in (
      simp length-set inv.0,
      rw (add-one, take-suc-set l.ended l.i _ (omega arith), inv.1, take-suc w l.i 0 (omega arith)) (sym (map-append is_set (take l.i w) (get_or w l.i 0 ∷ []))),
    )

pub returns : goal.returns
returns c =
    let l = c.loop-i in
    let w = c.args.words.now in
    let whole : l.i ≡ most_jobs = omega arith in
    sym (take_all most_jobs l.ended (omega (arith, l.invariant.0))) ∙ ap (λ i. take i l.ended) (sym whole) ∙ l.invariant.1 ∙ ap (λ i. map is_set (take i w)) whole
    ∙ ap (map is_set) (take_all most_jobs w (omega arith))
