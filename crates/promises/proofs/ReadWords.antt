-- If `gateway_read` returns 0, the words that it leaves encode the reader's plan.
use mathlib.Core.Path.{◌≡◌, refl, sym, ◌∙◌, ap}
use mathlib.Core.Bool.{Bool, true, false, cond, false≢true}
use mathlib.Core.List.{List, [], ◌∷◌}
use Prim.Native.Nat.{ℕ, ◌-◌, ◌≤◌, ◌<◌}
use native.Mathlib.Omega.{arith}
use borrow.Author.Tests.{le-ltb, ltb-false, eqb-true}
use lib.Dec.{eqb}
use lib.ListN.{length, length-map, get_or-eq_default}
use Rattle.base.proofs.Below.{every_at}
use Rattle.base.proofs.Logic.{if_true, if_less}
use Rattle.base.proofs.Padding.{get_or_pad}
use Rattle.plan.specs.Edition.{most_jobs}
use Rattle.plan.specs.Refusal.{wrong_version, wrong_extent, wrong_record_length, wrong_rates, wrong_job_count, wrong_name_byte, name_taken, wrong_grade, wrong_job_bounds, too_many_rows, row_without_job, row_without_interval, row_without_units, row_out_of_order, buffer_too_short}
use Rattle.plan.specs.Report.{Report, done_number, number_of}
use Rattle.plan.specs.Rules.{lo, hi, counted, job_of, no_job, grade_allowed, grades_hold, rules_hold}
use Rattle.plan.specs.declared.kinds.Job.{Job}
use Rattle.plan.specs.declared.kinds.Plan.{Plan}
use Rattle.plan.proofs.Soundness.{Bounded, rules_parts, rules_bounded}
use Rattle.planfile.specs.Reader.{Contents, ReadEffect, plan_from, leaves, reader}
use Rattle.planfile.proofs.WholeFile.{reader_long}
use Rattle.fields.proofs.ByteLaws.{Octets}
use Rattle.roundtrip.proofs.ReadSound.{read_proper, rules_read}
use Rattle.roundtrip.proofs.WriteAfterRead.{FileRead, file_read}
use Rattle.hostmemory.specs.Memory.{most8, most32, plan_words, short_plan, Fits, plan_of}
use Rattle.hostmemory.proofs.RoundTrip.{plan_back}
use Rattle.gateway.specs.Calls.{HostReadEffect, read_words, read_call}
use Rattle.gateway.specs.Answers.{HostReads}
use Rattle.plan.specs.Report.{is_one_of}
use Rattle.promises.proofs.Cases.{plan_e, file_e}
use Rattle.promises.proofs.Demand2.{taken_is, read_e, octets_e}
use Rattle.promises.proofs.RefusalNumbers.{reader_numbers}

-- A plan that meets the rules, with zero records from its count on, has numbers of their types' widths.
module _ (p : Plan) (rules : rules_hold p ≡ true) (zeros : (i : ℕ) → counted p ≤ i → job_of p i ≡ no_job) where
  within : Bounded p
  within = rules_bounded p rules

  -- A fact of every counted record and of the zero record is one of every record.
  each : (f : Job → ℕ) (most : ℕ) → ((i : ℕ) → i < counted p → f (job_of p i) ≤ most) → f no_job ≤ most → (i : ℕ) → f (job_of p i) ≤ most
  each f most some none i = if_less i (counted p) (some i) (λ l. rw (zeros i l) none)

  grade_small : (i : ℕ) → i < counted p → (job_of p i).grade ≤ most8
  unfolding grades_hold
  grade_small i h = known (job_of p i).grade (every_at (λ k. grade_allowed (job_of p k).grade) (counted p) i (rules_parts p rules).grades h)
    where
      known : (g : ℕ) → grade_allowed g ≡ true → g ≤ most8
      known g e =
          if_true (eqb g lo)
          (λ l. omega (arith, eqb-true g lo l))
          (λ l. omega (arith, eqb-true g hi (rw l at e)))

  fits : length p.jobs ≡ most_jobs → Fits p
  fits all =
      record {
        n = omega (arith, within.rate);
        d = omega (arith, within.rates, within.rate);
        jobs = record {
          all = all;
          grade = each (λ j. j.grade) most8 grade_small (omega arith);
          release = each (λ j. j.release.0) most32 (λ i h. omega (arith, within.windows i h, within.deadlines i h)) (omega arith);
          deadline = each (λ j. j.deadline.0) most32 (λ i h. omega (arith, within.deadlines i h)) (omega arith);
        };
      }

-- The plan of a file that is read is such a plan.
read_fits : (file : List ℕ) → Octets file → {held : Contents} → FileRead file held → length held.plan.jobs ≡ most_jobs → Fits held.plan
read_fits file octets {held} r all =
    let p = plan_from r.h r.jobs in
    let many : length r.jobs ≡ r.h.count = sym (length-map r.jobs (λ (j : Job). j.name.0)) ∙ r.fine.many in
    let zeros : (i : ℕ) → counted p ≤ i → job_of p i ≡ no_job
    = λ i l. get_or_pad r.jobs (most_jobs - length r.jobs) i no_job
    ∙ get_or-eq_default r.jobs no_job (omega (arith, many, l, r.fine.few)) in
    moved r.is (fits p (rules_read file octets r) zeros (rw r.is at all))
  where
    moved : {a b : Plan} → a ≡ b → Fits b → Fits a
    moved e x = rw e x

-- A read that returns 0 has enough words for the plan, and the reader took the file.
record Taken (file plan table : List ℕ) : Type 0 where
  plan_long : plan_words ≤ length plan
  answer : (reader file table).answer ≡ []

read_done : (file plan table : List ℕ) (was : ℕ) → (read_call file plan table was).number ≡ done_number → Taken file plan table
unfolding read_call
read_done file plan table was e = go (short_plan plan) refl e
  where
    numbers : List ℕ
    numbers =
        wrong_version ∷ wrong_extent ∷ wrong_record_length ∷ wrong_rates ∷ wrong_job_count ∷ wrong_name_byte ∷ name_taken ∷ wrong_grade ∷ wrong_job_bounds
        ∷ too_many_rows ∷ row_without_job ∷ row_without_interval ∷ row_without_units ∷ row_out_of_order ∷ buffer_too_short ∷ []

    told : (r : Report) → (reader file table).answer ≡ r → number_of r ≡ done_number → (reader file table).answer ≡ []
    told [] a e = a
    told (number ∷ rest) a e = absurd (false≢true (sym (ap (is_one_of numbers) e) ∙ reader_numbers file table number rest a))

    go : (b : Bool) → short_plan plan ≡ b
        → (cond b (record { number = buffer_too_short; plan = plan; table = table; offset = was }) (read_words (reader file table) plan)).number ≡ done_number
        → Taken file plan table
    go true s e = absurd (omega (arith, e))
    go false s e = record { plan_long = ltb-false (length plan) plan_words s; answer = told (reader file table).answer refl e }

-- If `gateway_read` returns 0, the reader takes the file, the words that are left encode its plan,
-- and the table that is left is its table.
pub words_are_the_plan : (file : List ℕ) → Octets file → (plan table plan_left table_left_lem : List ℕ) (was offset : ℕ)
    → HostReads file plan table was done_number plan_left table_left_lem offset
    → ((reader file table).answer ≡ []) × (plan_of plan_left ≡ (reader file table).plan) × (table_left_lem ≡ (reader file table).table)
unfolding read_call
words_are_the_plan file octets plan table plan_left table_left_lem was offset contract =
    let t = read_done file plan table was (sym (ap (λ (x : HostReadEffect). x.number) contract)) in
    let taken = taken_is file table t.answer in
    let contents = taken.0 in
    let plan_is : (reader file table).plan ≡ contents.plan = ap (λ (x : ReadEffect). x.plan) taken.4 in
    let fit : Fits (reader file table).plan
    = moved plan_is (read_fits file octets (file_read file taken.2) (read_proper file octets taken.2).records) in
    let long = le-ltb (length plan) plan_words t.plan_long in (
      t.answer,
      ap (λ (x : HostReadEffect). plan_of x.plan) contract ∙ rw long (plan_back plan (reader file table).plan fit t.plan_long),
      ap (λ (x : HostReadEffect). x.table) contract ∙ rw long refl,
    )
  where
    moved : {a b : Plan} → a ≡ b → Fits b → Fits a
    moved e x = rw e x

-- Instance: plan E's file.
read_words_e : (plan table plan_left table_left_lem : List ℕ) (was offset : ℕ) → HostReads file_e plan table was done_number plan_left table_left_lem offset
    → plan_of plan_left ≡ plan_e
read_words_e plan table plan_left table_left_lem was offset contract =
    let so = words_are_the_plan file_e octets_e plan table plan_left table_left_lem was offset contract in
    so.1 ∙ ap (λ (x : ReadEffect). x.plan) (sym (reader_long file_e table (taken_is file_e table so.0).3) ∙ ap (λ c. leaves c table) read_e)
