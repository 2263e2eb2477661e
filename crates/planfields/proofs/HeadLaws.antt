-- A head whose fields are all read and pass their tests.
use mathlib.Core.Path.{◌≡◌}
use mathlib.Core.Bool.{Bool, true}
use mathlib.Core.List.{List}
use Prim.Native.Nat.{ℕ}
use Rattle.plan.specs.Versions.{newest_version, count_allowed_in}
use Rattle.plan.specs.Rules.{rates_allowed}
use Rattle.fields.specs.Parsers.{Parsed, got, field, opening}
use Rattle.planfields.specs.Records.{Head, head}

-- A head whose fields are all read and pass their tests is read.
pub head_whole : (compared : Bool) (file : List ℕ) (at : ℕ) {v n d count a₁ a₂ a₃ a₄ : ℕ} → opening newest_version compared file at ≡ got v a₁
    → field 2 file a₁ ≡ got n a₂ → field 2 file a₂ ≡ got d a₃ → rates_allowed n d ≡ true → field 1 file a₃ ≡ got count a₄
    → count_allowed_in v count ≡ true
    → ◌≡◌ {A = Parsed Head} (got (record { version = v; n = n; d = d; count = count }) a₄) (head compared file at)
unfolding head
head_whole compared file at e₁ e₂ e₃ t e₄ u = rw (e₁, e₂, e₃, t, e₄, u)
