-- Laws of what a host's words encode: a list's jobs, and the columns that are filled from a plan's words.
use mathlib.Core.Path.{◌≡◌, refl, sym, ◌∙◌, ap, ap₂}
use mathlib.Core.Bool.{Bool, true, false, true≢false, cond, ◌&&◌, ◌||◌, and-false, and_assoc}
use mathlib.Core.List.{List, [], ◌∷◌}
use Prim.Native.Nat.{ℕ, zero, suc, ◌+◌, ◌≤◌, ◌<◌, ◌^◌, min}
use native.Mathlib.Nat.{mod-eq_of_lt}
use native.Mathlib.Omega.{arith}
use borrow.Author.Tests.{lt-ltb, le-ltb, ltb-true, leb-true, eqb-true}
use lib.Bits.{bit_or}
use lib.Dec.{leb, ltb, eqb, lit<}
use lib.ListN.{length, get_or, length-append, get_or-append, get_or-eq_default}
use lib.Seq.{get_or_at}
use Rattle.base.specs.Below.{every}
use Rattle.base.proofs.Below.{every_next, every_at, every_all}
use Rattle.base.proofs.BitLaws.{or_below}
use Rattle.base.proofs.FillLaws.{filled_at}
use Rattle.base.proofs.Logic.{if_true, if_less, both, below-or-last}
use Rattle.base.proofs.Padding.{get_or_replicate}
use Rattle.plan.specs.Edition.{most_jobs, most_deadline, most_size}
use Rattle.plan.specs.JobLists.{list_of}
use Rattle.plan.specs.Rules.{no_job, no_plan, job_in, job_of, jobs_of, counted, release, size, deadline, lo, hi, grade_allowed, window_allowed, size_allowed, rates_hold, count_holds, grades_hold, bounds_hold}
use Rattle.plan.specs.Columns.{HasColumns, column_values, in_column}
use Rattle.plan.specs.declared.columns.Columns.{Columns}
use Rattle.plan.specs.declared.kinds.Job.{Job}
use Rattle.dispatch.specs.Step.{slot_sound}
use Rattle.dispatch.specs.declared.Run.{Run}
use Rattle.hostmemory.specs.Memory.{count_words, head_words, plan_words, short_list, short_plan, job_index, job_start, job_at, jobs_to, list_in, list_held, plan_in, plan_of, grade_word, release_word, size_word, deadline_word, grade_values, job_fits, words_fit}
use Rattle.hostmemory.specs.Answers.{column_in, columns_over}

-- The tests so far (a, b) and those of one job (g, r, s, d), regrouped so that the job's stand together.
regroup : (a b g r s d : Bool) → (a && g && (b && r && s && d)) ≡ (a && b && (g && r && s && d))
regroup false b g r s d = refl
regroup true true true r s d = refl
regroup true true false r s d = refl
regroup true false true r s d = refl
regroup true false false r s d = refl

-- The test of the words of the first i + 1 jobs, from that of the first i, as the loop computes it.
pub fits_next : (w : List ℕ) (i grades others : ℕ) → (ltb grades grade_values && ltb others column_values) ≡ every (job_fits w) i
    → (ltb (bit_or grades (grade_word w i)) grade_values
    && ltb (bit_or (bit_or (bit_or others (release_word w i)) (size_word w i)) (deadline_word w i)) column_values)
    ≡ every (job_fits w) (i + 1)
fits_next w i grades others e =
    let r = release_word w i in
    let s = size_word w i in
    let d = deadline_word w i in
    ap₂ ◌&&◌ (or_below 8 grades (grade_word w i))
    (or_below 32 (bit_or (bit_or others r) s) d
    ∙ ap (λ t. t && ltb d column_values) (or_below 32 (bit_or others r) s ∙ ap (λ t. t && ltb s column_values) (or_below 32 others r)))
    ∙ regroup (ltb grades grade_values) (ltb others column_values) (ltb (grade_word w i) grade_values) (ltb r column_values) (ltb s column_values) (ltb d column_values)
    ∙ every_next (job_fits w) i e refl

-- The first n jobs that words encode are n jobs, and job i is the one whose words begin at its index.
jobs_count : (w : List ℕ) (from n : ℕ) → length (jobs_to w from n) ≡ n
unfolding jobs_to
jobs_count w from zero = refl
jobs_count w from (suc n) = omega (arith, length-append (jobs_to w from n) (job_at w (job_index from n) ∷ []), jobs_count w from n)

job_read : (w : List ℕ) (from n i : ℕ) → i < n → get_or (jobs_to w from n) i no_job ≡ job_at w (job_index from i)
unfolding jobs_to
job_read w from (suc n) i h =
    below-or-last i n h
    (λ l. get_or-append (jobs_to w from n) (job_at w (job_index from n) ∷ []) no_job i (omega (arith, jobs_count w from n)) ∙ job_read w from n i l)
    (λ q. rw q (get_or_at (jobs_to w from n) (job_at w (job_index from n)) [] no_job n (jobs_count w from n)))
job_read w from zero i h = elim h [ ]

-- The job list that words encode has all its records, and names of eight bytes if the words have 64 bits.
pub list_records : (w : List ℕ) → length (list_held w).jobs ≡ most_jobs
unfolding list_in list_held
list_records w = go (short_list w)
  where
    go : (t : Bool) → length (cond t (list_of []) (list_in w)).jobs ≡ most_jobs
    go true = refl
    go false = jobs_count w count_words most_jobs

pub list_name : (w : List ℕ) → ((k : ℕ) → get_or w k 0 < 256 ^ 8) → (i : ℕ) → (job_in (list_held w) i).name.0 < 256 ^ 8
unfolding list_in list_held
list_name w narrow i = go (short_list w)
  where
    none : no_job.name.0 < 256 ^ 8
    none = lit< tt

    go : (t : Bool) → (job_in (cond t (list_of []) (list_in w)) i).name.0 < 256 ^ 8
    go true = rw (get_or_replicate most_jobs i no_job) none
    go false =
        if_less i most_jobs
        (λ h. rw (job_read w count_words most_jobs i h) (narrow (job_index count_words i)))
        (λ h. rw (get_or-eq_default (jobs_to w count_words most_jobs) no_job {n = i} (omega (arith, jobs_count w count_words most_jobs))) none)

-- A counted job of the plan that words encode.
pub job_of_words : (w : List ℕ) (i : ℕ) → i < counted (plan_of w) → job_of (plan_of w) i ≡ job_at w (job_start i)
unfolding plan_in plan_of
job_of_words w i h = go (short_plan w) h
  where
    go : (t : Bool) → i < counted (cond t no_plan (plan_in w)) → job_of (cond t no_plan (plan_in w)) i ≡ job_at w (job_start i)
    go true h = absurd (omega arith)
    go false h = job_read w head_words most_jobs i (omega arith)

-- The number of counted jobs of the plan that words encode, for too few words and for enough.
pub counted_short : (w : List ℕ) → length w < plan_words → counted (plan_of w) ≡ 0
unfolding plan_of
counted_short w h = rw (lt-ltb (length w) plan_words h) refl

pub counted_words : (w : List ℕ) → plan_words ≤ length w → counted (plan_of w) ≡ min (get_or w 2 0) most_jobs
unfolding plan_in plan_of
counted_words w h = rw (le-ltb (length w) plan_words h) refl

-- A column holds the word of every counted job, if it has room for it.
column_read : (w column : List ℕ) (word : ℕ → ℕ) (i : ℕ) → length column ≡ most_jobs → i < counted (plan_of w)
    → word i < column_values → get_or (column_in w word column) i 0 ≡ word i
column_read w column word i long h room =
    filled_at (λ k. in_column (word k)) (counted (plan_of w)) column i (omega (arith, long)) h ∙ mod-eq_of_lt room

-- What it says that the words of job i have room.
record Room (w : List ℕ) (i : ℕ) : Type 0 where
  grade : grade_word w i < grade_values
  release : release_word w i < column_values
  size : size_word w i < column_values
  deadline : deadline_word w i < column_values

room_of : (w : List ℕ) (i : ℕ) → job_fits w i ≡ true → Room w i
room_of w i e =
    let g = ltb (grade_word w i) grade_values in
    let r = ltb (release_word w i) column_values in
    let s = ltb (size_word w i) column_values in
    let d = ltb (deadline_word w i) column_values in
    let s₁ = both (g && r && s) d e in
    let s₂ = both (g && r) s s₁.0 in
    let s₃ = both g r s₂.0 in
    record {
      grade = ltb-true (grade_word w i) grade_values s₃.0;
      release = ltb-true (release_word w i) column_values s₃.1;
      size = ltb-true (size_word w i) column_values s₂.1;
      deadline = ltb-true (deadline_word w i) column_values s₁.1;
    }

-- If the words have room, the columns into which the words' plan was put are the plan's.
pub columns_read : (w : List ℕ) (c : Columns) → words_fit w ≡ true
    → length c.grades ≡ most_jobs → length c.releases ≡ most_jobs → length c.sizes ≡ most_jobs → length c.deadlines ≡ most_jobs
    → HasColumns (plan_of w) (columns_over w c)
columns_read w c fits g r s d =
    let room : (i : ℕ) → i < counted (plan_of w) → Room w i
    = λ i h. room_of w i (every_at (job_fits w) (counted (plan_of w)) i fits h) in
    let job = job_of_words w in
    record {
      n = refl;
      d = refl;
      count = refl;
      grade = λ i h. omega (arith, column_read w c.grades (grade_word w) i g h (omega (arith, (room i h).grade)), (room i h).grade, ap (λ (j : Job). j.grade) (job i h));
      release = λ i h. omega (arith, column_read w c.releases (release_word w) i r h (room i h).release, (room i h).release, ap (λ (j : Job). j.release.0) (job i h));
      size = λ i h. column_read w c.sizes (size_word w) i s h (room i h).size ∙ sym (ap (λ (j : Job). j.size.0) (job i h));
      deadline = λ i h. omega (arith, column_read w c.deadlines (deadline_word w) i d h (room i h).deadline, (room i h).deadline, ap (λ (j : Job). j.deadline.0) (job i h));
    }

-- An allowed grade fits in 8 bits.
grade_small : (g : ℕ) → grade_allowed g ≡ true → g ≤ 1
grade_small g e = go (eqb g lo) refl (eqb g hi) refl e
  where
    go : (a : Bool) → eqb g lo ≡ a → (b : Bool) → eqb g hi ≡ b → (a || b) ≡ true → g ≤ 1
    go true s b t e = omega (arith, eqb-true g lo s)
    go false s true t e = omega (arith, eqb-true g hi t)
    go false s false t e = absurd (true≢false (sym e))

-- The words of a counted job that rules 8 and 9 allow have room.
allowed_fits : (w : List ℕ) (i : ℕ) → i < counted (plan_of w) → grade_allowed (job_of (plan_of w) i).grade ≡ true
    → (window_allowed (release (plan_of w) i) (deadline (plan_of w) i) && size_allowed (size (plan_of w) i)) ≡ true → job_fits w i ≡ true
allowed_fits w i h g b =
    let p = plan_of w in
    let job = job_of_words w i h in
    let parts = both (window_allowed (release p i) (deadline p i)) (size_allowed (size p i)) b in
    let window = both (ltb (release p i) (deadline p i)) (leb (deadline p i) most_deadline) parts.0 in
    let before = ltb-true (release p i) (deadline p i) window.0 in
    let end = leb-true (deadline p i) most_deadline window.1 in
    let most = leb-true (size p i) most_size (both (leb 1 (size p i)) (leb (size p i) most_size) parts.1).1 in
    let grade : grade_word w i < grade_values = omega (arith, grade_small (job_of p i).grade g, ap (λ (j : Job). j.grade) job) in
    let to : deadline_word w i < column_values = omega (arith, end, ap (λ (j : Job). j.deadline.0) job) in
    let from : release_word w i < column_values = omega (arith, before, end, ap (λ (j : Job). j.release.0) job) in
    let units : size_word w i < column_values = omega (arith, most, ap (λ (j : Job). j.size.0) job) in
    rw (lt-ltb (grade_word w i) grade_values grade, lt-ltb (release_word w i) column_values from, lt-ltb (size_word w i) column_values units, lt-ltb (deadline_word w i) column_values to) refl

-- If the words have no room, rules 8 and 9 do not both hold, and no run is sound with the plan.
pub words_too_large : (w : List ℕ) → words_fit w ≡ false → (grades_hold (jobs_of (plan_of w)) && bounds_hold (jobs_of (plan_of w))) ≡ false
unfolding grades_hold bounds_hold
words_too_large w e =
    let p = plan_of w in
    let grades = grades_hold (jobs_of p) in
    let bounds = bounds_hold (jobs_of p) in
    if_true (grades && bounds)
    (λ t.
    let parts = both grades bounds t in
    absurd (true≢false (sym (every_all (job_fits w) (counted p) (λ i h.
    allowed_fits w i h (every_at (λ k. grade_allowed (job_of p k).grade) (counted p) i parts.0 h)
    (every_at (λ k. window_allowed (release p k) (deadline p k) && size_allowed (size p k)) (counted p) i parts.1 h))) ∙ e)))
    (λ f. f)

pub too_large_unsound : (w : List ℕ) (run : Run) → words_fit w ≡ false → slot_sound (plan_of w) run ≡ false
unfolding slot_sound
too_large_unsound w run e =
    let p = plan_of w in
    let l = jobs_of p in
    let rules = rates_hold p && count_holds l in
    let broken : (rules && grades_hold l && bounds_hold l) ≡ false
    = and_assoc rules (grades_hold l) (bounds_hold l) ∙ ap (λ t. rules && t) (words_too_large w e) ∙ and-false rules in
    rw broken refl
