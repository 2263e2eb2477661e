-- The views of the reader's answers and effects are injective, and an effect of the reader that is refused only for reasons is the view of some answer.
use mathlib.Core.Path.{◌≡◌, refl, ap}
use mathlib.Core.List.{List, [], ◌∷◌}
use Prim.Native.Nat.{ℕ}
use native.Mathlib.Omega.{arith}
use Rattle.std.specs.Prelude.{map, Result, Ok, Err}
use Rattle.plan.specs.Refusal.{Refusal, number_of}
use Rattle.plan.specs.declared.kinds.Plan.{Plan}
use Rattle.plan.specs.declared.refusal.Reason.{Reason}
use Rattle.plan.proofs.Reasons.{refusal_one, refusal_some}
use Rattle.fields.specs.Parsers.{Parsed, got, no}
use Rattle.fields.proofs.Only.{Only}
use lib.Dec.{ltb}
use lib.ListN.{length}
use mathlib.Core.Bool.{Bool, true, false, cond}
use Rattle.plan.specs.Edition.{places}
use Rattle.plan.specs.Refusal.{buffer_too_short}
use Rattle.plan.specs.Rules.{no_plan}
use Rattle.planfile.specs.Reader.{ReadEffect, Contents, leaves, read_file, reader}
use Rattle.planfile.specs.Answers.{answer_view, plan_given, read_view, Reads}
use Rattle.planfile.specs.declared.reader.ReadFault.{ReadFault}
use Rattle.planfile.specs.declared.reader.ReadFault.TheVariants as fault

-- The answer is told by its view, and by the plan where one was read.
answer_one : (a b : Result Plan ReadFault) → answer_view a ≡ answer_view b → plan_given a ≡ plan_given b → a ≡ b
answer_one (Ok p) (Ok q) e same = ap Ok same
answer_one (Ok p) (Err fault.TooShort) e same = absurd (let z : ◌≡◌ {A = ℕ} 0 1 = cc in omega arith)
answer_one (Ok p) (Err (fault.Refused n)) e same = absurd (let z : ◌≡◌ {A = ℕ} 0 1 = cc in omega arith)
answer_one (Err fault.TooShort) (Ok q) e same = absurd (let z : ◌≡◌ {A = ℕ} 0 1 = cc in omega arith)
answer_one (Err fault.TooShort) (Err fault.TooShort) e same = refl
answer_one (Err fault.TooShort) (Err (fault.Refused n)) e same = absurd (let z : ◌≡◌ {A = ℕ} 0 1 = cc in omega arith)
answer_one (Err (fault.Refused m)) (Ok q) e same = absurd (let z : ◌≡◌ {A = ℕ} 0 1 = cc in omega arith)
answer_one (Err (fault.Refused m)) (Err fault.TooShort) e same = absurd (let z : ◌≡◌ {A = ℕ} 0 1 = cc in omega arith)
answer_one (Err (fault.Refused m)) (Err (fault.Refused n)) e same =
    let number : number_of m.reason ≡ number_of n.reason = cc in
    let offset : m.offset ≡ n.offset = cc in
    ap (λ k. Err (fault.Refused k)) (refusal_one m n (λ i. record { number = number i; offset = offset i }))

pub read_view_injective : (r s : Result Plan ReadFault) (t u : List ℕ) → read_view r t ≡ read_view s u → (r ≡ s) × (t ≡ u)
read_view_injective r s t u e =
    (answer_one r s (ap (λ (l : ReadEffect). l.answer) e) (ap (λ (l : ReadEffect). l.plan) e), ap (λ (l : ReadEffect). l.table) e)

-- What a file leaves that is read, or refused only for reasons, is the view of an answer, and so is what the reader leaves.
left_some : (some : List Reason) (s : Parsed Contents) (table : List ℕ) → Only (map number_of some) s
    → (r : Result Plan ReadFault) × (left : List ℕ) × (read_view r left ≡ leaves s table)
left_some some (got contents next) table h = (Ok contents.plan, (leaves (got contents next) table).table, refl)
left_some some (no k) table h =
    let r = refusal_some some k h in
    (Err (fault.Refused r.0), (leaves (no k) table).table, ap (λ (x : Refusal). leaves (no x) table) r.1)

pub reading_some : (some : List Reason) (file table : List ℕ) → Only (map number_of some) (read_file file)
    → (r : Result Plan ReadFault) × (left : List ℕ) × Reads file table r left
unfolding reader
reading_some some file table h = by (ltb (length table) places) (left_some some (read_file file) table h)
  where
    by : (b : Bool) → (r : Result Plan ReadFault) × (left : List ℕ) × (read_view r left ≡ leaves (read_file file) table)
        → (r : Result Plan ReadFault) × (left : List ℕ)
        × (read_view r left ≡ cond b (record { answer = buffer_too_short ∷ []; plan = no_plan; table = table }) (leaves (read_file file) table))
    by true l = (Err fault.TooShort, table, refl)
    by false l = l
