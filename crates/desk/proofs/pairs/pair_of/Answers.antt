-- `desk::pairs::pair_of` meets its contract: what is carried at a rate has room.
use Rattle.std.proofs.Common.{arith, ℕ, ◌*◌, ◌^◌, ◌<◌, ap}
use native.Mathlib.Nat.{mul-le-mul}
use Rattle.plan.specs.declared.kinds.Units.{Units}
use Rattle.desk.proofs.pairs.pair_of.Goals as goal

within : (rate time : ℕ) → rate < 2 ^ 16 → time < 2 ^ 32 → rate * time < 2 ^ 48
within rate time r t = omega (arith, mul-le-mul {n₁ = rate} {m₁ = time} {n₂ = 65535} {m₂ = 4294967295} (omega arith) (omega arith))

pub overflow_add-carried : goal.overflow_add-carried
overflow_add-carried c =
    let normal = ap (λ (u : Units). u.0) c.over-normal.ensures in
    let floor = ap (λ (u : Units). u.0) c.over-floor.ensures in
    let most = within c.args.n.0 c.elapsed.result.0 (omega arith) (omega arith) in
    let least = within c.args.d.0 c.elapsed-2.result.0 (omega arith) (omega arith) in
    record { fits = omega (arith, normal, floor, most, least) }
