-- After i iterations `differ` says whether the first i names are pairwise different.
use Rattle.std.proofs.Common.{◌≡◌, refl, ◌∙◌, ap, arith}
use Rattle.base.specs.Below.{every}
use Rattle.plan.specs.Rules.{names_differ, counted}
use Rattle.plan.proofs.Names.{name_at_lem}
use Rattle.base.proofs.Below.{every_ext}
use Rattle.plan.proofs.rules.names_differ.Goals as goal

pub returns : goal.returns
unfolding names_differ
returns c =
    let p = c.args.p in
    let whole : c.loop-i.i ≡ counted p = omega arith in
    rw c.names_of-names.ensures at c.loop-i.invariant ∙ ap (every _) whole
    ∙ every_ext _ _ (counted p)
    (λ j l. every_ext _ _ j (λ k m. rw (name_at_lem p k (omega arith), name_at_lem p j l) refl))
