-- What a start leaves: after a refusal the record as it was, otherwise the new run.
use mathlib.Core.Path.{◌≡◌, refl, sym}
use mathlib.Core.Bool.{true, false, true≢false}
use mathlib.Core.List.{[], ◌∷◌}
use Rattle.plan.specs.Report.{Report, is_none}
use Rattle.judge.specs.Answers.{report_of}
use Rattle.judge.specs.declared.answers.Fault.{Fault}
use Rattle.judge.specs.declared.answers.Fault.TheVariants.{BufferTooShort, Unsound, OutsideWindow, WrongTotal, OverCapacity, BelowFloor}
use Rattle.dispatch.specs.declared.Run.{Run}
use Rattle.dispatch.specs.Step.{start_from}

pub stays : (r : Report) (run was : Run) → is_none r ≡ false → start_from r run was ≡ was
stays [] run was e = absurd (true≢false e)
stays (number ∷ places) run was e = refl

pub starts : (r : Report) (run was : Run) → is_none r ≡ true → start_from r run was ≡ run
starts [] run was e = refl
starts (number ∷ places) run was e = absurd (true≢false (sym e))

-- A fault is a refusal, after which the record stays.
pub fault_stays : (fault : Fault) (run was : Run) → start_from (report_of fault) run was ≡ was
fault_stays BufferTooShort run was = refl
fault_stays Unsound run was = refl
fault_stays (OutsideWindow i j) run was = refl
fault_stays (WrongTotal i) run was = refl
fault_stays (OverCapacity j) run was = refl
fault_stays (BelowFloor l D) run was = refl
