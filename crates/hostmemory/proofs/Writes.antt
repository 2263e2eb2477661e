-- Laws of consecutive writes, for the words of plans and runs.
use mathlib.Core.Path.{◌≡◌, refl}
use mathlib.Core.Bool.{Bool, true, false}
use mathlib.Core.List.{List}
use mir.Val.{bool_byte}
use Prim.Native.Nat.{ℕ, zero, suc, ◌+◌, ◌*◌, ◌≤◌}
use native.Mathlib.Omega.{arith}
use lib.ListN.{length, get_or, length-append}
use lib.Seq.{sets, sets-eq}
use borrow.Rule.Slice.PartMut.{put_mid}
use Rattle.std.proofs.lemmas.List.{append_assoc, drop-drop}
use Rattle.plan.specs.Rules.{no_job}
use Rattle.plan.specs.declared.kinds.Job.{Job}
use Rattle.base.proofs.Stores.{sets_append}
use Rattle.hostmemory.specs.Memory.{job_words, job_index, job_out, jobs_out, mark_out}

-- n jobs have `jobWords * n` words.
pub jobs_long : (jobs : List Job) (n : ℕ) → length (jobs_out jobs n) ≡ job_words * n
unfolding jobs_out
jobs_long jobs zero = refl
jobs_long jobs (suc n) = rw (length-append (jobs_out jobs n) (job_out (get_or jobs n no_job)), jobs_long jobs n) (omega arith)

-- The words of one more job are written just after those of the first n.
pub jobs_next : (jobs : List Job) (w : List ℕ) (from n : ℕ)
    → sets (sets w from (jobs_out jobs n)) (job_index from n) (job_out (get_or jobs n no_job)) ≡ sets w from (jobs_out jobs (suc n))
unfolding jobs_out
jobs_next jobs w from n = rw (jobs_long jobs n) at (sets_append (jobs_out jobs n) (job_out (get_or jobs n no_job)) w from)

-- The word of a mark, as code converts it.
pub mark_word : (mark : Bool) → bool_byte mark ≡ mark_out mark
mark_word true = refl
mark_word false = refl

-- A part of a list that a call has written, as consecutive writes.
pub part_put : (l vs : List ℕ) (i k : ℕ) → length vs ≡ k → i + k ≤ length l → put_mid i k l vs ≡ sets l i vs
part_put l vs i k e h =
    let long : i + length vs ≤ length l = omega (arith, e, h) in
    rw (sets-eq vs l i long, e, append_assoc, drop-drop k i l) refl
