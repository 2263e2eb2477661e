-- `hostmemory::runs::put_ended` meets its contract. Loop invariant: the first i marks are written.
use mathlib.Core.Path.{◌≡◌, refl, ◌∙◌, ap}
use mathlib.Core.Bool.{false}
use mathlib.Core.List.{[], ◌∷◌, map, map-append}
use native.Mathlib.Numerals.{add-one}
use native.Mathlib.Omega.{arith}
use lib.ListN.{length, take, get_or, length-map}
use lib.Seq.{sets, length-sets, length-take-le, take-suc, take_all}
use Rattle.plan.specs.Edition.{most_jobs}
use Rattle.hostmemory.specs.Memory.{ended_start, mark_out}
use Rattle.base.proofs.Stores.{sets_snoc}
use Rattle.hostmemory.proofs.Writes.{mark_word}
use Rattle.hostmemory.proofs.runs.put_ended.Goals as goal

pub loop-i-init : goal.loop-i-init
loop-i-init c =
    refl

pub bounds-words-i : goal.bounds-words-i
bounds-words-i c =
    let long : length c.loop-i.words ≡ length c.args.words.now
    = ap length c.loop-i.invariant ∙ length-sets c.args.words.now ended_start (map mark_out (take c.loop-i.i c.args.ended.now)) in
    omega (arith, long)

pub loop-i-preserved : goal.loop-i-preserved
loop-i-preserved c =
    let l = c.loop-i in
    let a = c.args in
    let part = map mark_out (take l.i a.ended.now) in
    let there : length part ≡ l.i = length-map (take l.i a.ended.now) mark_out ∙ length-take-le l.i a.ended.now (omega arith) in
    rw (l.invariant, add-one, take-suc a.ended.now l.i false (omega arith), map-append mark_out (take l.i a.ended.now) (get_or a.ended.now l.i false ∷ []), c.from.ensures, mark_word)
    (rw there at (sets_snoc part a.words.now ended_start (mark_out (get_or a.ended.now l.i false))))

pub shape_of-words : goal.shape_of-words
shape_of-words c =
    let long : length c.loop-i.words ≡ length c.args.words.now
    = ap length c.loop-i.invariant ∙ length-sets c.args.words.now ended_start (map mark_out (take c.loop-i.i c.args.ended.now)) in
    long

pub returns : goal.returns
returns c =
    let l = c.loop-i in
    let a = c.args in
    let whole : l.i ≡ most_jobs = omega arith in
    l.invariant ∙ ap (λ i. sets a.words.now ended_start (map mark_out (take i a.ended.now))) whole
    ∙ ap (λ m. sets a.words.now ended_start (map mark_out m)) (take_all most_jobs a.ended.now (omega arith))
