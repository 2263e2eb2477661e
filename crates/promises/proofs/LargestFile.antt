-- The largest plan file: no file that is taken or written is longer, and one has its length.
use mathlib.Core.Path.{◌≡◌, refl, ◌∙◌, ap}
use mathlib.Core.Bool.{Bool, true, false, not, cond}
use mathlib.Core.List.{List, [], ◌∷◌, ◌++◌}
use Prim.Native.Nat.{ℕ, zero, suc, ◌+◌, ◌≤◌, ◌<◌}
use native.Mathlib.Omega.{arith}
use borrow.Author.Tests.{leb-true, ltb-false}
use lib.Dec.{ltb, lit≤}
use lib.ListN.{length, get_or, take, drop, replicate}
use lib.Seq.{take_all}
use Rattle.plan.specs.Edition.{most_jobs, places}
use Rattle.plan.specs.Versions.{most_rows_in, version_for}
use Rattle.base.specs.Below
use Rattle.plan.specs.Refusal.{unsound, buffer_too_short}
use Rattle.plan.specs.Rules.{hi, name_allowed, names_hold, names_differ, grades_hold, bounds_hold, rules_hold}
use Rattle.plan.specs.Boundaries.{insert, boundaries_to}
use Rattle.plan.specs.Table.{no_stray, sound}
use Rattle.plan.specs.declared.kinds.Job.{Job}
use Rattle.plan.specs.declared.kinds.Plan.{Plan}
use Rattle.planfile.specs.Reader.{reader}
use Rattle.planwriter.specs.Writing.{wrote, withheld, row_count, written, writer}
use Rattle.plan.proofs.Soundness.{sound_bounded}
use Rattle.planwriter.proofs.WrittenFile.{rows_allowed, body_long, written_long}
use Rattle.roundtrip.proofs.WriteAfterRead.{write_after_read}
use Rattle.roundtrip.proofs.ReadSound.{read_proper}
use Rattle.planfields.specs.Layout.{largest_file}
use Rattle.promises.proofs.Cases.{job}
use Rattle.promises.proofs.Demand2.{taken_is, sound_writer}

-- The largest file has 30,956 bytes.
pub largest_file_is : largest_file ≡ 30_956
largest_file_is = refl

-- The file of a sound plan is at most the largest file.
file_fits : (p : Plan) (table : List ℕ) → sound p table ≡ true → places ≤ length table → length (written p (take places table)) ≤ largest_file
file_fits p table e long =
    let own = take places table in
    let few = (sound_bounded p table e).few in
    let rows = leb-true (row_count own) (most_rows_in (version_for p.count)) (rows_allowed p table e long) in
    omega (arith, written_long p own, body_long p own few, few, rows)

-- So is every file that the reader takes.
pub taken_file_fits : (file table : List ℕ) → ((k : ℕ) → get_or file k 0 < 256) → (reader file table).answer ≡ [] → length file ≤ largest_file
taken_file_fits file table octets e =
    let t = taken_is file table e in
    let proper = read_proper file octets t.2 in
    omega (
      arith,
      ap length (write_after_read file octets t.2),
      ap (λ l. length (written t.0.plan l)) (take_all places t.0.table (omega (arith, proper.exact))),
      file_fits t.0.plan t.0.table proper.is (omega (arith, proper.exact)),
    )

-- And every file that the writer writes.
pub written_file_fits : (p : Plan) (table out : List ℕ) (n : ℕ) → (writer p table out).answer ≡ wrote n → n ≤ largest_file
unfolding writer
written_file_fits p table out n e = by (ltb (length table) places) refl (sound p table) refl (ltb (length out) (length file)) e
  where
    file : List ℕ
    file = written p (take places table)

    by : (a : Bool) → ltb (length table) places ≡ a → (b : Bool) → sound p table ≡ b → (c : Bool)
        → (cond a (withheld buffer_too_short out)
        (cond (not b) (withheld unsound out)
        (cond c (withheld buffer_too_short out) (record { answer = wrote (length file); out = file ++ drop (length file) out })))
        ).answer ≡ wrote n → n ≤ largest_file
    by true l b s c e = absurd (let z : ◌≡◌ {A = ℕ} 0 1 = cc in omega arith)
    by false l false s c e = absurd (let z : ◌≡◌ {A = ℕ} 0 1 = cc in omega arith)
    by false l true s true e = absurd (let z : ◌≡◌ {A = ℕ} 0 1 = cc in omega arith)
    by false l true s false e =
        let is : length file ≡ n = cc in
        omega (arith, file_fits p table s (ltb-false (length table) places l))

-- `job----!`; the names of the plan below count on from it.
abbrev first_name : ℕ
first_name = 0x6A6F_622D_2D2D_2D21

-- A plan of as many jobs as there can be, no two of whose releases and deadlines are equal, with a
-- unit in every place of its table.
abbrev full_jobs : ℕ → ℕ → List Job
full_jobs i zero = []
full_jobs i (suc more) = job (first_name + i) hi i 1 (most_jobs + i) ∷ full_jobs (suc i) more

abbrev pub full_plan : Plan
full_plan = record { n = record { 0 = 2 }; d = record { 0 = 1 }; count = most_jobs; jobs = full_jobs 0 most_jobs }

abbrev pub full_table : List ℕ
full_table = replicate places 1

-- It is sound.
pub full_sound : sound full_plan full_table ≡ true
unfolding Below.every name_allowed names_hold names_differ grades_hold bounds_hold rules_hold insert boundaries_to no_stray sound
full_sound = refl

full_rows : row_count (take places full_table) ≡ places
unfolding row_count
full_rows = refl

full_long : length (written full_plan (take places full_table)) ≡ largest_file
full_long =
    omega (arith, written_long full_plan (take places full_table), body_long full_plan (take places full_table) (lit≤ tt), full_rows)

-- Its file is the largest.
pub full_file_is_largest : (out : List ℕ) → largest_file ≤ length out → (writer full_plan full_table out).answer ≡ wrote largest_file
full_file_is_largest out room =
    ap (λ w. w.answer) (sound_writer full_plan full_table out full_sound (lit≤ tt) (omega (arith, full_long))) ∙ ap wrote full_long
