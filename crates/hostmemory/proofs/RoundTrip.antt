-- Round trips: decoding the words of a run, a plan or a job list gives it back, and encoding a decoded run
-- gives back words whose marks are 0 or 1. The words of a plan from its job count on encode the list of its jobs.
use mathlib.Core.Path.{◌≡◌, refl, sym, ◌∙◌, ap, ap₂}
use mathlib.Core.Bool.{Bool, true, false, cond, ◌&&◌}
use mathlib.Core.List.{List, [], ◌∷◌, ◌++◌, map, append_assoc}
use Prim.Native.Nat.{ℕ, zero, suc, ◌+◌, ◌*◌, ◌≤◌, ◌<◌, min}
use native.Mathlib.Nat.{add-zero}
use native.Mathlib.Omega.{arith}
use borrow.Author.Tests.{leb-true, ltb-true, ltb-false, lt-ltb, le-ltb}
use lib.Dec.{leb, ltb, eqb}
use lib.ListN.{length, get_or, take, drop, length-append, length-map, length-drop, take-append-drop, get_or-append}
use lib.Seq.{sets, length-sets, take_at, drop_at, drop-drop, take-suc, take_all, length-take-le, get_or-append-add}
use Rattle.plan.specs.Edition.{most_jobs}
use Rattle.plan.specs.Rules.{jobs_of, no_job}
use Rattle.plan.specs.declared.kinds.Job.{Job}
use Rattle.plan.specs.declared.kinds.JobList.{JobList}
use Rattle.plan.specs.declared.kinds.Plan.{Plan}
use Rattle.base.proofs.Logic.{both}
use Rattle.base.proofs.Stores.{sets_append, sets_whole}
use Rattle.dispatch.specs.Answers.{run_at}
use Rattle.dispatch.specs.declared.Moment.{Moment}
use Rattle.dispatch.specs.declared.Run.{Run}
use Rattle.dispatch.specs.Step.{no_run}
use Rattle.hostmemory.specs.Memory.{rate_words, count_words, head_words, job_words, list_words, plan_words, run_words, most8, most16, most32, job_index, job_at, jobs_to, short_run, list_in, list_held, plan_in, plan_of, job_out, jobs_out, list_out, list_put, plan_out, plan_put, mark_words, ended_start, are_marks, ended_part, marks_in, marks_hold, is_set, run_in, run_of, moment_of, mark_out, slot_out, run_out, slot_put, run_put, JobsFit, Fits}
use Rattle.hostmemory.proofs.Writes.{jobs_long}

-- A mark is recovered from its word, and a word that is 0 or 1 from its mark.
mark_back : (b : Bool) → eqb (mark_out b) 1 ≡ b
mark_back true = refl
mark_back false = refl

mark_again : (x : ℕ) → x ≤ 1 → mark_out (eqb x 1) ≡ x
mark_again zero h = refl
mark_again (suc zero) h = refl
mark_again (suc (suc x)) h = absurd (omega arith)

marks_back : (l : List Bool) → map is_set (map mark_out l) ≡ l
marks_back [] = refl
marks_back (b ∷ l) = λ t. mark_back b t ∷ marks_back l t

marks_again : (l : List ℕ) → are_marks l ≡ true → map mark_out (map is_set l) ≡ l
unfolding are_marks
marks_again [] h = refl
marks_again (x ∷ l) h =
    let so = both (leb x 1) (are_marks l) h in
    λ t. mark_again x (leb-true x 1 so.0) t ∷ marks_again l so.1 t

-- The parts of a run among its words: the carried units and the ended marks.
carried_part : (a b c : ℕ) (carried marks rest : List ℕ) → length carried ≡ most_jobs
    → take most_jobs (drop mark_words ((a ∷ b ∷ c ∷ carried ++ marks) ++ rest)) ≡ carried
carried_part a b c carried marks rest e = rw (append_assoc carried marks rest) (take_at carried (marks ++ rest) most_jobs e)

ended_part_lem : (a b c : ℕ) (carried marks rest : List ℕ) → length carried ≡ most_jobs → length marks ≡ most_jobs
    → ended_part ((a ∷ b ∷ c ∷ carried ++ marks) ++ rest) ≡ marks
ended_part_lem a b c carried marks rest e f =
    let n : ended_start ≡ suc (suc (suc most_jobs)) = refl in
    rw (append_assoc carried marks rest, drop_at carried (marks ++ rest) most_jobs e) (take_at marks rest most_jobs f)

-- A run is written in whole.
run_whole_put : (w : List ℕ) (r : Run) → length r.carried ≡ most_jobs
    → sets (sets w 0 (slot_out (moment_of r) r.carried)) ended_start (map mark_out r.ended) ≡ sets w 0 (run_out r)
unfolding run_out
run_whole_put w r e =
    let head = slot_out (moment_of r) r.carried in
    let long : length head ≡ ended_start = omega (arith, e) in
    rw long at (sets_append head (map mark_out r.ended) w 0)

-- Decoding the words of a run gives that run.
run_whole_back : (w : List ℕ) (r : Run) → length r.carried ≡ most_jobs → length r.ended ≡ most_jobs → run_words ≤ length w → run_in (sets w 0 (run_out r)) ≡ r
unfolding run_in run_out
run_whole_back w r e f h =
    let marks = map mark_out r.ended in
    let long : length marks ≡ most_jobs = length-map r.ended mark_out ∙ f in
    let out = r.clock.0 ∷ mark_out r.slow ∷ mark_out r.below ∷ (r.carried ++ marks) in
    let rest = drop (length out) w in
    rw (
      sets_whole out w (omega (arith, length-append r.carried marks)),
      mark_back r.slow,
      mark_back r.below,
      carried_part r.clock.0 (mark_out r.slow) (mark_out r.below) r.carried marks rest e,
      ended_part_lem r.clock.0 (mark_out r.slow) (mark_out r.below) r.carried marks rest e long,
      marks_back r.ended,
    ) refl

pub run_back : (w : List ℕ) (r : Run) → length r.carried ≡ most_jobs → length r.ended ≡ most_jobs → run_words ≤ length w → run_of (run_put w r) ≡ r
unfolding run_of run_put
run_back w r e f h =
    rw (le-ltb (length w) run_words h, run_whole_put w r e, length-sets w 0 (run_out r), le-ltb (length w) run_words h) (run_whole_back w r e f h)

-- The words of a run have good marks.
mark_small : (b : Bool) → leb (mark_out b) 1 ≡ true
mark_small true = refl
mark_small false = refl

marks_small : (l : List Bool) → are_marks (map mark_out l) ≡ true
unfolding are_marks
marks_small [] = refl
marks_small (b ∷ l) = ap₂ ◌&&◌ (mark_small b) (marks_small l)

whole_marks : (w : List ℕ) (r : Run) → length r.carried ≡ most_jobs → length r.ended ≡ most_jobs → run_words ≤ length w
    → marks_in (sets w 0 (run_out r)) ≡ true
unfolding run_out
whole_marks w r e f h =
    let marks = map mark_out r.ended in
    let long : length marks ≡ most_jobs = length-map r.ended mark_out ∙ f in
    let out = r.clock.0 ∷ mark_out r.slow ∷ mark_out r.below ∷ (r.carried ++ marks) in
    rw (
      sets_whole out w (omega (arith, length-append r.carried marks)),
      mark_small r.slow,
      mark_small r.below,
      ended_part_lem r.clock.0 (mark_out r.slow) (mark_out r.below) r.carried marks (drop (length out) w) e long,
      marks_small r.ended,
    ) refl

pub put_marks : (w : List ℕ) (r : Run) → length r.carried ≡ most_jobs → length r.ended ≡ most_jobs → run_words ≤ length w
    → marks_hold (run_put w r) ≡ true
unfolding marks_hold run_put
put_marks w r e f h =
    rw (le-ltb (length w) run_words h, run_whole_put w r e, length-sets w 0 (run_out r), le-ltb (length w) run_words h) (whole_marks w r e f h)

-- Words encode a run with an ended mark for each job.
pub ended_all : (w : List ℕ) → length (run_of w).ended ≡ most_jobs
unfolding run_of run_in
ended_all w = go (short_run w) refl
  where
    go : (t : Bool) → short_run w ≡ t → length (cond t no_run (run_in w)).ended ≡ most_jobs
    go true e = refl
    go false e =
        length-map (ended_part w) is_set
        ∙ length-take-le most_jobs (drop ended_start w) (omega (arith, length-drop ended_start w, ltb-false (length w) run_words e))

-- Writing what a slot changes leaves the ended marks, so it writes the run with the marks that the words encode, if they are marks.
slot_whole_put : (w : List ℕ) (at : Moment) (carried : List ℕ) → marks_in w ≡ true → run_words ≤ length w → length carried ≡ most_jobs
    → sets w 0 (slot_out at carried) ≡ sets w 0 (run_out (run_at at carried (map is_set (ended_part w))))
unfolding run_out
slot_whole_put w at carried m h e =
    let marks = ended_part w in
    let good = (both (leb (get_or w 1 0) 1 && leb (get_or w 2 0) 1) (are_marks marks) m).1 in
    let long : length marks ≡ most_jobs = length-take-le most_jobs (drop ended_start w) (omega (arith, length-drop ended_start w)) in
    let head = slot_out at carried in
    let head_long : length head ≡ ended_start = omega (arith, e) in
    let all_long : ended_start + most_jobs ≡ length (head ++ marks) = omega (arith, e, long, length-append head marks) in
    let there : drop (length head) w ≡ marks ++ drop (length (head ++ marks)) w
    = ap (λ n. drop n w) head_long
    ∙ sym (take-append-drop most_jobs (drop ended_start w))
    ∙ ap (λ l. marks ++ l) (drop-drop most_jobs ended_start w ∙ ap (λ n. drop n w) all_long) in
    rw (marks_again marks good)
    (sets_whole head w (omega (arith, e)) ∙ ap (λ l. head ++ l) there ∙ sym (append_assoc head marks (drop (length (head ++ marks)) w))
    ∙ sym (sets_whole (head ++ marks) w (omega (arith, e, long, length-append head marks))))

pub slot_put_lem : (w : List ℕ) (at : Moment) (carried : List ℕ) → marks_hold w ≡ true → length carried ≡ most_jobs
    → slot_put w at carried ≡ run_put w (run_at at carried (run_of w).ended)
unfolding run_in run_of slot_put run_put marks_hold
slot_put_lem w at carried m e = go (short_run w) refl m
  where
    go : (t : Bool) → short_run w ≡ t → cond t false (marks_in w) ≡ true
        → cond t w (sets w 0 (slot_out at carried))
        ≡ cond t w (sets (sets w 0 (slot_out at carried)) ended_start (map mark_out (cond t no_run (run_in w)).ended))
    go true s m = refl
    go false s m =
        slot_whole_put w at carried m (ltb-false (length w) run_words s) e ∙ sym (run_whole_put w (run_at at carried (map is_set (ended_part w))) e)

-- Encoding the run that words encode gives those words, if all marks are 0 or 1.
run_whole_again : (w : List ℕ) → marks_in w ≡ true → run_words ≤ length w → sets w 0 (run_out (run_in w)) ≡ w
unfolding run_in
run_whole_again [] m h = absurd (omega arith)
run_whole_again (a ∷ []) m h = absurd (omega arith)
run_whole_again (a ∷ b ∷ []) m h = absurd (omega arith)
run_whole_again (a ∷ b ∷ c ∷ l) m h =
    let w = a ∷ b ∷ c ∷ l in
    let so = both (leb b 1) (leb c 1) (both (leb b 1 && leb c 1) (are_marks (ended_part w)) m).0 in
    let carried = take most_jobs l in
    let n : length carried ≡ most_jobs = length-take-le most_jobs l (omega arith) in
    let at : Moment = moment_of (run_in w) in
    sym (slot_whole_put w at carried m h n)
    ∙ rw (mark_again b (leb-true b 1 so.0), mark_again c (leb-true c 1 so.1))
    (sets_whole (a ∷ b ∷ c ∷ carried) w (omega (arith, n)) ∙ rw (n, take-append-drop most_jobs l) refl)

carried_long : (w : List ℕ) → run_words ≤ length w → length (run_in w).carried ≡ most_jobs
unfolding run_in
carried_long w h = length-take-le most_jobs (drop mark_words w) (omega (arith, length-drop mark_words w))

-- A run that words encode has all its carried units.
pub carried_all : (w : List ℕ) → length (run_of w).carried ≡ most_jobs
unfolding run_of
carried_all w = go (short_run w) refl
  where
    go : (t : Bool) → short_run w ≡ t → length (cond t no_run (run_in w)).carried ≡ most_jobs
    go true e = refl
    go false e = carried_long w (ltb-false (length w) run_words e)

pub run_again : (w : List ℕ) → marks_hold w ≡ true → run_put w (run_of w) ≡ w
unfolding run_of run_put marks_hold
run_again w m = go (short_run w) refl m
  where
    put : Run → List ℕ
    put r = sets (sets w 0 (slot_out (moment_of r) r.carried)) ended_start (map mark_out r.ended)

    go : (t : Bool) → short_run w ≡ t → cond t false (marks_in w) ≡ true → cond t w (put (cond t no_run (run_in w))) ≡ w
    go true e m = refl
    go false e m =
        let h = ltb-false (length w) run_words e in
        run_whole_put w (run_in w) (carried_long w h) ∙ run_whole_again w m h

-- The words of n + 1 jobs are those of the first n, followed by those of job n.
jobs_split : (jobs : List Job) (n : ℕ) (rest : List ℕ) → jobs_out jobs (suc n) ++ rest ≡ jobs_out jobs n ++ (job_out (get_or jobs n no_job) ++ rest)
unfolding jobs_out
jobs_split jobs n rest = append_assoc (jobs_out jobs n) (job_out (get_or jobs n no_job)) rest

-- The words of job i among those of n + 1 jobs, given the same for n.
word_next : (jobs : List Job) (n i k : ℕ) (rest : List ℕ)
    → (i < n → get_or (jobs_out jobs n ++ (job_out (get_or jobs n no_job) ++ rest)) (job_words * i + k) 0 ≡ get_or (job_out (get_or jobs i no_job)) k 0) → i < suc n
    → k < job_words → get_or (jobs_out jobs (suc n) ++ rest) (job_words * i + k) 0 ≡ get_or (job_out (get_or jobs i no_job)) k 0
word_next jobs n i k rest before h f = go (ltb i n) refl
  where
    go : (t : Bool) → ltb i n ≡ t → get_or (jobs_out jobs (suc n) ++ rest) (job_words * i + k) 0 ≡ get_or (job_out (get_or jobs i no_job)) k 0
    go true e = rw (jobs_split jobs n rest) (before (ltb-true i n e))
    go false e =
        let same : i ≡ n = omega (arith, ltb-false i n e) in
        ap (λ j. get_or (jobs_out jobs (suc n) ++ rest) (job_words * j + k) 0) same ∙ ap (λ l. get_or l (job_words * n + k) 0) (jobs_split jobs n rest)
        ∙ (rw (jobs_long jobs n) at (get_or-append-add (jobs_out jobs n) (job_out (get_or jobs n no_job) ++ rest) k 0))
        ∙ get_or-append (job_out (get_or jobs n no_job)) rest 0 k f
        ∙ ap (λ j. get_or (job_out (get_or jobs j no_job)) k 0) (sym same)

-- Word k of job i is at index `jobWords * i + k`.
word_of : (jobs : List Job) (n i k : ℕ) (rest : List ℕ) → i < n → k < job_words
    → get_or (jobs_out jobs n ++ rest) (job_words * i + k) 0 ≡ get_or (job_out (get_or jobs i no_job)) k 0
word_of jobs zero i k rest h f = absurd (omega arith)
word_of jobs (suc n) i k rest h f = word_next jobs n i k rest (λ l. word_of jobs n i k (job_out (get_or jobs n no_job) ++ rest) l f) h f

-- Decoding the words of jobs that stand after `head` gives the jobs.
module _ (jobs : List Job) (fit : JobsFit jobs) (head rest : List ℕ) where
  abbrev words : List ℕ
  words = head ++ (jobs_out jobs most_jobs ++ rest)

  word_back : (i k : ℕ) → i < most_jobs → k < job_words → get_or words (job_index (length head) i + k) 0 ≡ get_or (job_out (get_or jobs i no_job)) k 0
  word_back i k h f =
      let e : job_index (length head) i + k ≡ length head + (job_words * i + k) = omega arith in
      ap (λ x. get_or words x 0) e ∙ get_or-append-add head (jobs_out jobs most_jobs ++ rest) (job_words * i + k) 0 ∙ word_of jobs most_jobs i k rest h f

  job_back : (i : ℕ) → i < most_jobs → job_at words (job_index (length head) i) ≡ get_or jobs i no_job
  job_back i h =
      let j = get_or jobs i no_job in
      let from = job_index (length head) i in
      let e₀ : get_or words from 0 ≡ j.name.0 = ap (λ at. get_or words at 0) (sym (add-zero from)) ∙ word_back i 0 h (omega arith) in
      let m₁ : min j.grade most8 ≡ j.grade = omega (arith, fit.grade i) in
      let m₂ : min j.release.0 most32 ≡ j.release.0 = omega (arith, fit.release i) in
      let m₄ : min j.deadline.0 most32 ≡ j.deadline.0 = omega (arith, fit.deadline i) in
      let e₁ = ap (λ x. min x most8) (word_back i 1 h (omega arith)) ∙ m₁ in
      let e₂ = ap (λ x. min x most32) (word_back i 2 h (omega arith)) ∙ m₂ in
      let e₃ = word_back i 3 h (omega arith) in
      let e₄ = ap (λ x. min x most32) (word_back i 4 h (omega arith)) ∙ m₄ in
      λ t. record { name = record { 0 = e₀ t }; grade = e₁ t; release = record { 0 = e₂ t }; size = record { 0 = e₃ t }; deadline = record { 0 = e₄ t } }

  jobs_to_lem : (n : ℕ) → n ≤ most_jobs → jobs_to words (length head) n ≡ take n jobs
  unfolding jobs_to
  jobs_to_lem zero h = refl
  jobs_to_lem (suc n) h = rw (jobs_to_lem n (omega arith), job_back n h, take-suc jobs n no_job (omega (arith, fit.all))) refl

  jobs_back : jobs_to words (length head) most_jobs ≡ jobs
  jobs_back = jobs_to_lem most_jobs (omega arith) ∙ take_all most_jobs jobs (omega (arith, fit.all))

-- Decoding the words of a plan gives that plan.
plan_whole_back : (w : List ℕ) (p : Plan) → Fits p → plan_words ≤ length w → plan_in (sets w 0 (plan_out p)) ≡ p
unfolding plan_in plan_out
plan_whole_back w p fit h =
    let n : min p.n.0 most16 ≡ p.n.0 = omega (arith, fit.n) in
    let d : min p.d.0 most16 ≡ p.d.0 = omega (arith, fit.d) in
    let out = p.n.0 ∷ p.d.0 ∷ p.count ∷ jobs_out p.jobs most_jobs in
    let jobs = jobs_back p.jobs fit.jobs (p.n.0 ∷ p.d.0 ∷ p.count ∷ []) (drop (length out) w) in
    rw (sets_whole out w (omega (arith, jobs_long p.jobs most_jobs)), n, d, jobs) refl

pub plan_back : (w : List ℕ) (p : Plan) → Fits p → plan_words ≤ length w → plan_of (plan_put w p) ≡ p
unfolding plan_of plan_put
plan_back w p fit h =
    rw (le-ltb (length w) plan_words h, length-sets w 0 (plan_out p), le-ltb (length w) plan_words h) (plan_whole_back w p fit h)

-- The same for a job list.
list_whole_back : (w : List ℕ) (l : JobList) → JobsFit l.jobs → list_words ≤ length w → list_in (sets w 0 (list_out l)) ≡ l
unfolding list_in
list_whole_back w l fit h =
    let jobs = jobs_back l.jobs fit (l.count ∷ []) (drop (length (list_out l)) w) in
    rw (sets_whole (list_out l) w (omega (arith, jobs_long l.jobs most_jobs)), jobs) refl

pub list_back : (w : List ℕ) (l : JobList) → JobsFit l.jobs → list_words ≤ length w → list_held (list_put w l) ≡ l
unfolding list_held list_put
list_back w l fit h =
    rw (le-ltb (length w) list_words h, length-sets w 0 (list_out l), le-ltb (length w) list_words h) (list_whole_back w l fit h)

-- A job whose words stand k words further on.
job_further : (a b : ℕ) (w : List ℕ) (at : ℕ) → job_at (a ∷ b ∷ w) (rate_words + at) ≡ job_at w at
job_further a b w at =
    let e : (k : ℕ) → rate_words + at + k ≡ suc (suc (at + k)) = λ k. omega arith in
    let e₀ : rate_words + at ≡ suc (suc at) = omega arith in
    rw (e 1, e 2, e 3, e 4, e₀) refl

jobs_further : (a b : ℕ) (w : List ℕ) (n : ℕ) → jobs_to (a ∷ b ∷ w) head_words n ≡ jobs_to w count_words n
unfolding jobs_to
jobs_further a b w zero = refl
jobs_further a b w (suc n) =
    let e : job_index head_words n ≡ rate_words + job_index count_words n = omega arith in
    rw (jobs_further a b w n, e, job_further a b w (job_index count_words n)) refl

-- The words of a plan from its job count on encode the list of its jobs.
pub list_in_plan : (a b : ℕ) (w : List ℕ) → jobs_of (plan_of (a ∷ b ∷ w)) ≡ list_held w
unfolding plan_of plan_in list_held list_in
list_in_plan a b w = go (ltb (length w) list_words) refl
  where
    go : (t : Bool) → ltb (length w) list_words ≡ t → jobs_of (plan_of (a ∷ b ∷ w)) ≡ list_held w
    go true e = rw (lt-ltb (length (a ∷ b ∷ w)) plan_words (omega (arith, ltb-true (length w) list_words e)), e) refl
    go false e =
        rw (le-ltb (length (a ∷ b ∷ w)) plan_words (omega (arith, ltb-false (length w) list_words e)), e, jobs_further a b w most_jobs) refl
