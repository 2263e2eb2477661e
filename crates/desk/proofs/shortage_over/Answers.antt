-- `desk::shortage_over` meets its contract: releases that differ, or else the first pair over the ends of both classes.
use Rattle.std.proofs.Common.{◌∙◌, ap, sym, not, [], ◌∷◌}
use Rattle.plan.specs.Refusal.{releases_differ}
use Rattle.plan.specs.Report.{or_else, fault}
use Rattle.desk.specs.Pairs.{pair_fault}
use Rattle.desk.proofs.CodeLaws.{one_release_lem, pairs_told}
use Rattle.desk.proofs.shortage_over.Goals as goal

pub returns-then-not-same_release : goal.returns-then-not-same_release
returns-then-not-same_release c =
    λ p is.
    let same = rw c.times.ensures.are at c.same_release.ensures in
    ap (λ b. or_else (fault b (releases_differ ∷ [])) (pair_fault p)) (sym (ap not c.if-not-same_release.true) ∙ ap not (same ∙ one_release_lem p is c.counted_within-jobs.ensures))

pub returns : goal.returns
returns c =
    λ p is.
    let same = rw c.times.ensures.are at c.same_release.ensures in
    c.short_pair.ensures
    ∙ pairs_told p _ _ is c.ends_of-highs.ensures.0 c.ends_of-lows.ensures.0
    ∙ ap (λ b. or_else (fault b (releases_differ ∷ [])) (pair_fault p)) (sym (ap not c.if-not-same_release.false) ∙ ap not (same ∙ one_release_lem p is c.counted_within-jobs.ensures))
