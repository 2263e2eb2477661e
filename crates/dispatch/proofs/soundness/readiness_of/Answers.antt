-- `dispatch::soundness::readiness_of` meets its contract: each return
-- by the tests before it.
use mathlib.Core.Path.{◌≡◌, sym, ◌∙◌, ap, ap₂}
use mathlib.Core.Bool.{true, ◌&&◌, ◌||◌}
use Prim.Native.Nat.{min}
use lib.Dec.{ltb}
use lib.ListN.{get_or}
use Rattle.base.specs.Below.{every, least, greatest}
use Rattle.plan.specs.Edition.{most_jobs}
use Rattle.dispatch.proofs.SoundColumns.{rules_on, outside, told_broken, told_outside, told_over, told_running}
use Rattle.dispatch.proofs.soundness.readiness_of.Goals as goal

pub returns-then-not-rules : goal.returns-then-not-rules
returns-then-not-rules c =
    let rules : (c.rates_allowed.result && c.count_allowed.result && c.jobs_sound.result) ≡ rules_on c.args.cols.now c.args.clock.0 c.args.carried.now
    = ap₂ ◌&&◌ (ap₂ ◌&&◌ c.rates_allowed.ensures c.count_allowed.ensures)
    (c.jobs_sound.ensures ∙ ap (every _) c.counted_within-jobs.ensures) in
    sym (told_broken c.args.cols.now c.args.clock.0 c.args.carried.now
    (sym rules ∙ c.if-not-rules.true))

pub returns-then-clock-first : goal.returns-then-clock-first
returns-then-clock-first c =
    let jobs : c.counted_within-jobs.result ≡ min c.args.cols.now.count most_jobs = c.counted_within-jobs.ensures in
    let first : c.first_of-first.result.0 ≡ least (λ i. get_or c.args.cols.now.releases i 0) (min c.args.cols.now.count most_jobs)
    = c.first_of-first.ensures ∙ ap (least _) jobs in
    let last : c.last_of-last.result.0 ≡ greatest (λ i. get_or c.args.cols.now.deadlines i 0) (min c.args.cols.now.count most_jobs)
    = c.last_of-last.ensures ∙ ap (greatest _) jobs in
    let clock : (ltb c.args.clock.0 c.first_of-first.result.0 || ltb c.last_of-last.result.0 c.args.clock.0) ≡ outside c.args.cols.now c.args.clock.0 c.args.carried.now
    = ap₂ (λ x y. ltb c.args.clock.0 x || ltb y c.args.clock.0) first last in
    sym (told_outside c.args.cols.now c.args.clock.0 c.args.carried.now
    (sym clock ∙ c.if-clock-first.true))

pub returns-then-clock-last : goal.returns-then-clock-last
returns-then-clock-last c =
    let rules : (c.rates_allowed.result && c.count_allowed.result && c.jobs_sound.result) ≡ rules_on c.args.cols.now c.args.clock.0 c.args.carried.now
    = ap₂ ◌&&◌ (ap₂ ◌&&◌ c.rates_allowed.ensures c.count_allowed.ensures)
    (c.jobs_sound.ensures ∙ ap (every _) c.counted_within-jobs.ensures) in
    let rules-hold : rules_on c.args.cols.now c.args.clock.0 c.args.carried.now ≡ true
    = sym rules ∙ c.if-not-rules.false in
    let jobs : c.counted_within-jobs.result ≡ min c.args.cols.now.count most_jobs = c.counted_within-jobs.ensures in
    let last : c.last_of-last.result.0 ≡ greatest (λ i. get_or c.args.cols.now.deadlines i 0) (min c.args.cols.now.count most_jobs)
    = c.last_of-last.ensures ∙ ap (greatest _) jobs in
    let first : c.first_of-first.result.0 ≡ least (λ i. get_or c.args.cols.now.releases i 0) (min c.args.cols.now.count most_jobs)
    = c.first_of-first.ensures ∙ ap (least _) jobs in
    let clock : (ltb c.args.clock.0 c.first_of-first.result.0 || ltb c.last_of-last.result.0 c.args.clock.0) ≡ outside c.args.cols.now c.args.clock.0 c.args.carried.now
    = ap₂ (λ x y. ltb c.args.clock.0 x || ltb y c.args.clock.0) first last in
    sym (told_over c.args.cols.now c.args.clock.0 c.args.carried.now
    rules-hold (sym clock ∙ c.if-clock-first.false) (c.if-clock-last.true ∙ last))

pub returns : goal.returns
returns c =
    let rules : (c.rates_allowed.result && c.count_allowed.result && c.jobs_sound.result) ≡ rules_on c.args.cols.now c.args.clock.0 c.args.carried.now
    = ap₂ ◌&&◌ (ap₂ ◌&&◌ c.rates_allowed.ensures c.count_allowed.ensures)
    (c.jobs_sound.ensures ∙ ap (every _) c.counted_within-jobs.ensures) in
    let rules-hold : rules_on c.args.cols.now c.args.clock.0 c.args.carried.now ≡ true
    = sym rules ∙ c.if-not-rules.false in
    let jobs : c.counted_within-jobs.result ≡ min c.args.cols.now.count most_jobs = c.counted_within-jobs.ensures in
    let last : c.last_of-last.result.0 ≡ greatest (λ i. get_or c.args.cols.now.deadlines i 0) (min c.args.cols.now.count most_jobs)
    = c.last_of-last.ensures ∙ ap (greatest _) jobs in
    let first : c.first_of-first.result.0 ≡ least (λ i. get_or c.args.cols.now.releases i 0) (min c.args.cols.now.count most_jobs)
    = c.first_of-first.ensures ∙ ap (least _) jobs in
    let clock : (ltb c.args.clock.0 c.first_of-first.result.0 || ltb c.last_of-last.result.0 c.args.clock.0) ≡ outside c.args.cols.now c.args.clock.0 c.args.carried.now
    = ap₂ (λ x y. ltb c.args.clock.0 x || ltb y c.args.clock.0) first last in
    sym (told_running c.args.cols.now c.args.clock.0 c.args.carried.now
    rules-hold (sym clock ∙ c.if-clock-first.false) (λ e. c.if-clock-last.false (e ∙ sym last)))
