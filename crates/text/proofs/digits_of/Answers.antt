-- `text::digits_of` meets its contract. Loop invariant: the bytes are zeros and then the digits
-- found, and the rest of the number followed by them is the same text.
use mathlib.Core.Path.{◌≡◌, refl, sym, ◌∙◌, ap}
use mathlib.Core.List.{[], ◌∷◌, ◌++◌}
use Prim.Native.Nat.{ℕ, zero, suc, ◌-◌, ◌%◌, ◌^◌, ◌<◌, ◌≤◌}
use native.Mathlib.Omega.{arith}
use lib.ListN.{set, replicate, length-set}
use Rattle.text.specs.Text.{digit}
use Rattle.text.proofs.Decimal.{digits_one, digits_more, digits_ten, digit_before, digits_found, shorter}
use Rattle.text.proofs.digits_of.Goals as goal

-- While the rest has more than one digit, `from` is above 0.
more_left : (rest from : ℕ) → 10 ≤ rest → rest < 10 ^ suc from → 0 < from
more_left rest zero l h = absurd (omega arith)
more_left rest (suc k) l h = omega arith

pub loop-rest-init : goal.loop-rest-init
loop-rest-init c =
    (([], refl, digits_ten c.args.number (omega arith)), omega arith, omega arith, refl)

pub loop-rest-preserved : goal.loop-rest-preserved
loop-rest-preserved c =
    let more : 0 < c.loop-rest.from
    = more_left c.loop-rest.rest c.loop-rest.from (omega arith) c.loop-rest.invariant.2 in
    let w = c.loop-rest in
    let d = digit (w.rest % 10) in
    let e : suc (w.from - 1) ≡ w.from = omega (arith, more) in (
      (
        d ∷ w.invariant.0.0,
        ap (λ l. set l w.from d) w.invariant.0.1 ∙ digit_before w.from d w.invariant.0.0
            ∙ ap (λ k. replicate k 0 ++ (d ∷ w.invariant.0.0)) (sym e),
        rw e (sym (digits_more w.from w.rest w.invariant.0.0 c.loop-rest-test.true) ∙ w.invariant.0.2),
      ),
      omega arith,
      rw e (shorter w.from w.rest w.invariant.2),
      length-set w.bytes w.from d ∙ w.invariant.3,
    )

pub returns : goal.returns
returns c =
    let w = c.loop-rest in
    let d = digit w.rest in
    digits_found c.args.number w.from (set w.bytes w.from d)
    (ap (λ l. set l w.from d) w.invariant.0.1 ∙ digit_before w.from d w.invariant.0.0
    ∙ ap (λ l. replicate w.from 0 ++ l) (sym (digits_one w.from w.rest w.invariant.0.0 c.loop-rest-test.false) ∙ w.invariant.0.2))
    (length-set w.bytes w.from d ∙ w.invariant.3)
