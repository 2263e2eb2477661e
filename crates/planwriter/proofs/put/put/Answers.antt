-- The k bytes of `rest`, then the bytes written so far, are the whole field.
use Rattle.std.proofs.Common.{◌≡◌, suc, ◌-◌, ◌%◌, [], drop, refl, arith}
use mathlib.Core.List.{append-nil}
use lib.ListN.{drop_of_length-le}
use Rattle.fields.specs.Bytes.{bytes}
use Rattle.fields.proofs.ByteLaws.{length_bytes, bytes_turn}
use Rattle.planwriter.proofs.Sets.{put_turn}
use Rattle.planwriter.proofs.put.put.Goals as goal

pub loop-k-init : goal.loop-k-init
loop-k-init c =
    let a = c.args in
    let none : drop a.w (bytes a.w a.x) ≡ [] = drop_of_length-le (bytes a.w a.x) {i = a.w} (omega (arith, length_bytes a.w a.x)) in
    (c.requires.1, rw none refl, rw none (append-nil (bytes a.w a.x)))

pub loop-k-preserved : goal.loop-k-preserved
loop-k-preserved c =
    let a = c.args in
    let l = c.loop-k in
    let one : l.k ≡ suc (l.k - 1) = omega arith in
    let turn = bytes_turn a.w a.x l.rest (l.k - 1) (rw one at l.invariant.0) (rw one at l.invariant.2) in
    (turn.0, rw turn.1 (put_turn a.out.now l.out (drop (suc (l.k - 1)) (bytes a.w a.x)) a.at (l.k - 1) (l.rest % 256) (rw one at l.invariant.1)), turn.2)
