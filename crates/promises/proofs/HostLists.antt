-- The calls for hosts on job lists: they return only the numbers that the rules give them, a refusal leaves
-- the buffers as it must, and what is exported imports to the same jobs.
use mathlib.Core.Path.{◌≡◌, refl, sym, ◌∙◌, ap}
use mathlib.Core.Bool.{Bool, true, false, false≢true, cond}
use mathlib.Core.List.{List, [], ◌∷◌}
use mathlib.Core.Logic.{◌≢◌}
use Prim.Native.Nat.{ℕ, ◌≤◌, ◌<◌, ◌^◌}
use native.Mathlib.Omega.{arith}
use borrow.Author.Tests.{le-ltb}
use lib.ListN.{length, get_or, take}
use Rattle.plan.specs.JobLists.{list_of}
use Rattle.plan.specs.Refusal.{wrong_job_count, wrong_name_byte, name_taken, wrong_grade, wrong_job_bounds, wrong_line, wrong_header, unsound, buffer_too_short}
use Rattle.plan.specs.Report.{Report, done_number, number_of, is_one_of}
use Rattle.plan.specs.declared.kinds.JobList.{JobList}
use Rattle.joblist.specs.Import.{ImportEffect, imported}
use Rattle.joblist.specs.Export as export
use Rattle.joblist.specs.Export.{exported}
use Rattle.joblist.proofs.Numbers.{import_numbers, export_numbers, import_numbers_lem, export_numbers_lem, export_refused_leaves, import_refused_yields_none}
use Rattle.joblist.proofs.RoundTrip.{exported_and_imported}
use Rattle.hostmemory.specs.Memory.{list_words, short_list, list_held, list_put}
use Rattle.hostmemory.proofs.ColumnLaws.{list_records, list_name}
use Rattle.gateway.specs.Calls.{HostImportEffect, HostExportEffect, import_words, exported_number, exported_length, export_words, import_call, export_call}
use Rattle.promises.proofs.Hosts.{or_one, report_one}

-- `gateway_import`: 0, 24, 5, 23, 6 to 9, 22.
pub host_import_numbers : (text list : List ℕ) (was : ℕ)
    → is_one_of
    (done_number ∷ buffer_too_short ∷ wrong_header ∷ wrong_job_count ∷ wrong_line ∷ wrong_name_byte ∷ name_taken ∷ wrong_grade ∷ wrong_job_bounds ∷ [])
    (import_call text list was).number
    ≡ true
unfolding import_call
host_import_numbers text list was = by (short_list list)
  where
    numbers : List ℕ
    numbers = buffer_too_short ∷ import_numbers

    by : (b : Bool)
        → is_one_of (done_number ∷ numbers) (cond b (record { number = buffer_too_short; list = list; offset = was }) (import_words (imported text) list)).number ≡ true
    by true = refl
    by false =
        report_one numbers (imported text).answer (λ number rest e. or_one number buffer_too_short import_numbers (import_numbers_lem text number rest e))

-- `gateway_export`: 0, 21, 22.
pub host_export_numbers : (list out : List ℕ) (was : ℕ)
    → is_one_of (done_number ∷ unsound ∷ buffer_too_short ∷ []) (export_call list out was).number ≡ true
unfolding export_call
host_export_numbers list out was = by (short_list list)
  where
    numbers : List ℕ
    numbers = unsound ∷ buffer_too_short ∷ []

    by_answer : (a : export.Answer) → (exported (list_held list) out).answer ≡ a → is_one_of (done_number ∷ numbers) (exported_number a) ≡ true
    by_answer (export.wrote n) e = refl
    by_answer (export.refused number) e = or_one number done_number numbers (export_numbers_lem (list_held list) out number e)

    by : (b : Bool)
        → is_one_of (done_number ∷ numbers)
        (cond b (record { number = buffer_too_short; length = was; out = out }) (export_words (exported (list_held list) out))).number
        ≡ true
    by true = refl
    by false = by_answer (exported (list_held list) out).answer refl

-- `gateway_import`: 22 leaves list and offset as they were; any other refusal leaves the words of no jobs.
pub host_import_22_leaves : (text list : List ℕ) (was : ℕ) → (import_call text list was).number ≡ buffer_too_short
    → ((import_call text list was).list ≡ list) × ((import_call text list was).offset ≡ was)
unfolding import_call
host_import_22_leaves text list was = by (short_list list)
  where
    left : Bool → HostImportEffect
    left b = cond b (record { number = buffer_too_short; list = list; offset = was }) (import_words (imported text) list)

    by_answer : (r : Report) → (imported text).answer ≡ r → number_of r ≡ buffer_too_short → ((left false).list ≡ list) × ((left false).offset ≡ was)
    by_answer [] e n = absurd (omega (arith, n))
    by_answer (number ∷ rest) e n =
        absurd (false≢true (sym (ap (is_one_of import_numbers) n) ∙ import_numbers_lem text number rest e))

    by : (b : Bool) → (left b).number ≡ buffer_too_short → ((left b).list ≡ list) × ((left b).offset ≡ was)
    by true n = (refl, refl)
    by false n = by_answer (imported text).answer refl n

pub host_import_other_leaves : (text list : List ℕ) (was : ℕ) → (import_call text list was).number ≢ done_number → (import_call text list was).number ≢ buffer_too_short
    → (import_call text list was).list ≡ list_put list (list_of [])
unfolding import_call
host_import_other_leaves text list was = by (short_list list)
  where
    left : Bool → HostImportEffect
    left b = cond b (record { number = buffer_too_short; list = list; offset = was }) (import_words (imported text) list)

    by_answer : (r : Report) → (imported text).answer ≡ r → number_of r ≢ done_number → list_put list (imported text).list ≡ list_put list (list_of [])
    by_answer [] e busy = absurd (busy refl)
    by_answer (number ∷ rest) e busy = ap (list_put list) (import_refused_yields_none text number rest e)

    by : (b : Bool) → (left b).number ≢ done_number → (left b).number ≢ buffer_too_short → (left b).list ≡ list_put list (list_of [])
    by true busy other = absurd (other refl)
    by false busy other = by_answer (imported text).answer refl busy

-- `gateway_export`: a refusal leaves the output unchanged.
pub host_export_leaves : (list out : List ℕ) (was : ℕ) → (export_call list out was).number ≢ done_number → (export_call list out was).out ≡ out
unfolding export_call
host_export_leaves list out was = by (short_list list)
  where
    left : Bool → HostExportEffect
    left b = cond b (record { number = buffer_too_short; length = was; out = out }) (export_words (exported (list_held list) out))

    by_answer : (a : export.Answer) → (exported (list_held list) out).answer ≡ a → exported_number a ≢ done_number → (exported (list_held list) out).out ≡ out
    by_answer (export.wrote n) e busy = absurd (busy refl)
    by_answer (export.refused number) e busy = export_refused_leaves (list_held list) out number e

    by : (b : Bool) → (left b).number ≢ done_number → (left b).out ≡ out
    by true busy = refl
    by false busy = by_answer (exported (list_held list) out).answer refl busy

-- What `gateway_export` writes of words of 64 bits, `gateway_import` reads into any words that are enough: it
-- is done, and leaves the words of the same jobs in the same order, then zeros.
pub host_exported_and_imported : (list out into : List ℕ) (was at : ℕ) → ((k : ℕ) → get_or list k 0 < 256 ^ 8) → (export_call list out was).number ≡ done_number
    → list_words ≤ length into
    → import_call (take (export_call list out was).length (export_call list out was).out) into at
    ≡ record { number = done_number; list = list_put into (list_of (take (list_held list).count (list_held list).jobs)); offset = 0 }
unfolding import_call export_call
host_exported_and_imported list out into was at narrow done room = by (short_list list) done
  where
    l : JobList
    l = list_held list

    left : Bool → HostExportEffect
    left b = cond b (record { number = buffer_too_short; length = was; out = out }) (export_words (exported l out))

    call : List ℕ → HostImportEffect
    call text = cond (short_list into) (record { number = buffer_too_short; list = into; offset = at }) (import_words (imported text) into)

    whole : HostImportEffect
    whole = record { number = done_number; list = list_put into (list_of (take l.count l.jobs)); offset = 0 }

    by_answer : (a : export.Answer) → (exported l out).answer ≡ a → exported_number a ≡ done_number
        → call (take (exported_length a) (exported l out).out) ≡ whole
    by_answer (export.wrote n) e d =
        rw (le-ltb (length into) list_words room)
        (ap (λ (x : ImportEffect). import_words x into)
        (exported_and_imported l out n (list_records list) (λ i h. list_name list narrow i) e))
    by_answer (export.refused number) e d =
        absurd (false≢true (sym (ap (is_one_of export_numbers) d) ∙ export_numbers_lem l out number e))

    by : (b : Bool) → (left b).number ≡ done_number → call (take (left b).length (left b).out) ≡ whole
    by true d = absurd (omega (arith, d))
    by false d = by_answer (exported l out).answer refl d
