-- `desk::draw_over` meets its contract: the table is cleared, and if nothing is short the jobs are placed in it, first
-- those from the back.
use Rattle.std.proofs.Common.{◌≡◌, ◌∙◌, false, true, ap, ap₂, sym, refl, List, [], ◌++◌, drop, ℕ}
use lib.ListN.{replicate}
use lib.Seq.{length-take-le}
use Rattle.plan.specs.Edition.{places}
use Rattle.plan.specs.Report.{number_of}
use Rattle.plan.specs.declared.kinds.Plan.{Plan}
use Rattle.desk.specs.Timetable.{Draft, class_placed, all_room, cleared, timetable}
use Rattle.desk.specs.Answers.{answer_view, shortage_view}
use Rattle.desk.specs.Desk.{jobs_fault, table_after}
use Rattle.desk.specs.Inner.Tasks.{IsTaskOf, rooms_in}
use Rattle.desk.specs.declared.answers.Shortage.{Shortage}
use Rattle.desk.specs.declared.answers.Shortage.TheVariants.{Unsound, ReleasesDiffer, Pair}
use Rattle.desk.specs.declared.task.Task.{Task}
use Rattle.desk.proofs.draw_over.Goals as goal

-- The rooms of a task are those of its plan.
rooms-are : (p : Plan) {t : Task} → IsTaskOf p t → rooms_in t ≡ all_room p
unfolding all_room
rooms-are p is = rw (is.times, ← is.columns.n) refl

-- A refusal of the jobs leaves the table cleared.
refused : (s : Shortage) (p : Plan) (table : List ℕ) → cleared table ≡ table_after p table [] (shortage_view s)
refused Unsound p table = refl
refused ReleasesDiffer p table = refl
refused (Pair D E asked carries) p table = refl

pub returns-in-Err : goal.returns-in-Err
returns-in-Err c =
    λ p is.
    let table = c.args.table.now in
    let own = ap (λ l. l ++ drop places table) (c.clear.ensures ∙ ap (λ n. replicate n 0) (length-take-le places table c.requires)) in
    let short = c.in-Err.ensures p is in
    (c.reason.ensures ∙ ap number_of short, own ∙ refused c.in-Err.short p table ∙ ap (table_after p table []) short)

pub returns : goal.returns
unfolding timetable
returns c =
    λ p is.
    let table = c.args.table.now in
    let own = ap (λ l. l ++ drop places table) (c.clear.ensures ∙ ap (λ n. replicate n 0) (length-take-le places table c.requires)) in
    let none : [] ≡ jobs_fault p = ap answer_view (sym c.in_default.is) ∙ c.shortage_over.ensures p is in
    let draft : List ℕ → List ℕ → Draft = λ rooms cells. record { rooms = rooms; table = cells } in (
      ap number_of none,
      ap (λ (d : Draft). d.table)
          (c.place_class-2.ensures p is
          ∙ ap (class_placed p false) (c.place_class.ensures p is ∙ ap₂ (λ rooms cells. class_placed p true (draft rooms cells)) (c.rooms_of-rooms.ensures ∙ rooms-are p is) own))
          ∙ ap (table_after p table []) none,
    )
