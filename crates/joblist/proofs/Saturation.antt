-- A number that counts as `most_number` breaks rule 9 as it would by itself: no verdict hangs on it, and what is
-- taken has its exact numbers.
use mathlib.Core.Path.{◌≡◌, refl, sym, ◌∙◌, ap}
use mathlib.Core.Bool.{◌&&◌, and-false}
use Prim.Native.Nat.{ℕ, ◌≤◌, ◌<◌, min}
use native.Mathlib.Omega.{arith}
use borrow.Author.Tests.{le-ltb, lt-leb}
use lib.Dec.{leb, ltb}
use Rattle.base.proofs.Logic.{if_less}
use Rattle.plan.specs.Edition.{most_deadline, most_size}
use Rattle.plan.specs.Rules.{window_allowed, size_allowed}
use Rattle.csvtext.specs.Decimals.{most_number}

exact : (x : ℕ) → x < most_number → min x most_number ≡ x
exact x h = omega arith

most : (x : ℕ) → most_number ≤ x → min x most_number ≡ most_number
most x h = omega arith

pub size_as_exact : (u : ℕ) → size_allowed (min u most_number) ≡ size_allowed u
size_as_exact u =
    if_less u most_number
    (λ h. rw (exact u h) refl)
    (λ h. rw (most u h) (sym (ap (λ t. leb 1 u && t) (lt-leb u most_size (omega arith)) ∙ and-false (leb 1 u))))

-- A release counts the same before a deadline that does not count as `most_number`.
before_as_exact : (from to : ℕ) → to < most_number → ltb (min from most_number) to ≡ ltb from to
before_as_exact from to h =
    if_less from most_number
    (λ l. rw (exact from l) refl)
    (λ l. rw (most from l) (le-ltb most_number to (omega arith) ∙ sym (le-ltb from to (omega arith))))

pub window_as_exact : (from to : ℕ) → window_allowed (min from most_number) (min to most_number) ≡ window_allowed from to
window_as_exact from to =
    if_less to most_number
    (λ h. rw (exact to h) (ap (λ t. t && leb to most_deadline) (before_as_exact from to h)))
    (λ h. rw (most to h) (and-false (ltb (min from most_number) most_number)
    ∙ sym (ap (λ t. ltb from to && t) (lt-leb to most_deadline (omega arith)) ∙ and-false (ltb from to))))
