-- The views are injective: verdicts with equal reports are equal, and
-- slack answers with equal figures are equal.
use Rattle.std.proofs.Common.{◌≡◌, refl, sym, ◌∙◌, ap, cond, [], ◌∷◌, eqb, Option, None, Some, Result, Ok, Err}
use Rattle.plan.specs.Refusal.{outside_window, wrong_total, buffer_too_short}
use Rattle.plan.specs.Report.{Report}
use Rattle.judge.specs.Slack.{Figure, none_essential, least, refused}
use Rattle.judge.specs.Answers.{report_of, verdict_view, slack_view}
use Rattle.judge.specs.declared.answers.Least.{Least}
use Rattle.judge.specs.declared.answers.Fault.{Fault}
use Rattle.judge.specs.declared.answers.Fault.TheVariants.{BufferTooShort, Unsound, OutsideWindow, WrongTotal, OverCapacity, BelowFloor}

-- Left inverses of `report_of` and of `verdict_view`.
abbrev fault_of : Report → Fault
fault_of [] = Unsound
fault_of (number ∷ []) = cond (eqb number buffer_too_short) BufferTooShort Unsound
fault_of (number ∷ i ∷ []) = cond (eqb number wrong_total) (WrongTotal i) (OverCapacity i)
fault_of (number ∷ i ∷ j ∷ rest) = cond (eqb number outside_window) (OutsideWindow i j) (BelowFloor i (record { 0 = j }))

fault_back : (f : Fault) → fault_of (report_of f) ≡ f
fault_back BufferTooShort = refl
fault_back Unsound = refl
fault_back (OutsideWindow i j) = refl
fault_back (WrongTotal i) = refl
fault_back (OverCapacity j) = refl
fault_back (BelowFloor l D) = refl

abbrev verdict_of : Report → Result (Unit {0}) Fault
verdict_of [] = Ok tt
verdict_of (number ∷ places) = Err (fault_of (number ∷ places))

verdict_back : (v : Result (Unit {0}) Fault) → verdict_of (verdict_view v) ≡ v
verdict_back (Ok accepted) = refl
verdict_back (Err f) = from_some f ∙ ap Err (fault_back f)
  where
    from_some : (f : Fault) → verdict_of (report_of f) ≡ Err (fault_of (report_of f))
    from_some BufferTooShort = refl
    from_some Unsound = refl
    from_some (OutsideWindow i j) = refl
    from_some (WrongTotal i) = refl
    from_some (OverCapacity j) = refl
    from_some (BelowFloor l D) = refl

pub verdict_view_injective : (v w : Result (Unit {0}) Fault) → verdict_view v ≡ verdict_view w → v ≡ w
verdict_view_injective v w e = sym (verdict_back v) ∙ ap verdict_of e ∙ verdict_back w

-- A left inverse of `slack_view`.
abbrev slack_answer : Figure → Result (Option Least) Fault
slack_answer none_essential = Ok None
slack_answer (least s l D) = Ok (Some (record { slack = s; interval = l; deadline = record { 0 = D } }))
slack_answer (refused r) = Err (fault_of r)

slack_back : (s : Result (Option Least) Fault) → slack_answer (slack_view s) ≡ s
slack_back (Ok None) = refl
slack_back (Ok (Some found)) = refl
slack_back (Err f) = ap Err (fault_back f)

pub slack_view_injective : (s t : Result (Option Least) Fault) → slack_view s ≡ slack_view t → s ≡ t
slack_view_injective s t e = sym (slack_back s) ∙ ap slack_answer e ∙ slack_back t
