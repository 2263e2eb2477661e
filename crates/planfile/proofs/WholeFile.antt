-- Laws of a whole file, part by part: the first fault decides the result.
use mathlib.Core.Logic.{◌≢◌}
use mathlib.Core.Path.{◌≡◌, refl, sym, ◌∙◌, ap}
use mathlib.Core.List.{List, [], ◌∷◌, ◌++◌, append-nil}
use Prim.Native.Nat.{ℕ, ◌+◌, ◌≤◌, ◌<◌}
use native.Mathlib.Omega.{arith}
use borrow.Author.Tests.{lt-ltb, le-ltb}
use lib.ListN.{length, take, drop, replicate}
use Rattle.std.specs.Prelude.{Result, Ok, Err}
use Rattle.plan.specs.Edition.{most_intervals, places}
use Rattle.plan.specs.Refusal.{Refusal, refusal_view}
use Rattle.plan.specs.Boundaries.{intervals}
use Rattle.plan.specs.declared.kinds.Plan.{Plan}
use Rattle.plan.specs.declared.refusal.Refusal as code
use Rattle.fields.specs.Parsers.{Parsed, got, no, ended}
use Rattle.plan.specs.Rules.{no_plan}
use Rattle.planfile.specs.Reader.{Preamble, preamble, all_rows, Contents, plan_file, read_file, ReadEffect, leaves, reader, shown_by, found_by}
use Rattle.base.proofs.Logic.{if_less}
use Rattle.planfields.specs.Layout.{name_at}
use Rattle.planfile.specs.Answers.{read_view}
use Rattle.planfile.specs.Inner.Parts.{RowsAnswer, FillAnswer, count_of}
use Rattle.planfile.specs.declared.reader.ReadFault.{ReadFault}
use Rattle.planfile.specs.declared.reader.ReadFault.TheVariants as fault
use Rattle.planfile.proofs.Offsets.{shown_inside}
use Rattle.planfile.proofs.Rows.{only_passed, rows_only}

-- What the answer of `store_rows` says about the parser result.
rows_none : (s : Parsed (List ℕ)) (k : code.Refusal) (left : List ℕ) → RowsAnswer s (Err k) left → s ≡ no (refusal_view k)
rows_none (got t next) k left a = absurd a
rows_none (no refusal) k left a = ap no (sym a)

rows_all : (s : Parsed (List ℕ)) (after : ℕ) (left : List ℕ) → RowsAnswer s (Ok after) left → s ≡ got left after
rows_all (got t next) after left a = rw (a.0, a.1) refl
rows_all (no refusal) after left a = absurd a

-- The rows of a preamble, read into a table from an offset on.
abbrev pub rows_of : (f : Preamble) (table file : List ℕ) (at : ℕ) → Parsed (List ℕ)
rows_of f table file at = all_rows f.rows most_intervals f.names (intervals f.plan) 0 table file at

-- A parser result from what is left of it without its value.
only_no : (s : Parsed (List ℕ)) {k : Refusal} → only_passed s ≡ no k → s ≡ no k
only_no (got t next) e = absurd (let z : ◌≡◌ {A = ℕ} 0 1 = cc in omega arith)
only_no (no refusal) e = cc

only_got : (s : Parsed (List ℕ)) {next : ℕ} → only_passed s ≡ got tt next → (t : List ℕ) × (s ≡ got t next)
only_got (got t next) e = (t, cc)
only_got (no refusal) e = absurd (let z : ◌≡◌ {A = ℕ} 0 1 = cc in omega arith)

-- The file is refused by the first of preamble, rows and end that is refused; otherwise it is read.
module _ (file : List ℕ) where
  pub no_preamble : {k : Refusal} → preamble file 0 ≡ no k → read_file file ≡ no k
  unfolding plan_file
  no_preamble e = rw e refl

  module _ {f : Preamble} {at : ℕ} (e : preamble file 0 ≡ got f at) where
    no_rows : {k : Refusal} → rows_of f (replicate places 0) file at ≡ no k → read_file file ≡ no k
    unfolding plan_file
    no_rows e' = rw (e, e') refl

    module _ {table : List ℕ} {last : ℕ} (e' : rows_of f (replicate places 0) file at ≡ got table last) where
      no_end : {k : Refusal} → ended file last ≡ no k → read_file file ≡ no k
      unfolding plan_file
      no_end t = rw (e, e', t) refl

      pub file_whole : {u : Unit {0}} {end : ℕ} → ended file last ≡ got u end → read_file file ≡ got (record { plan = f.plan; table = table }) end
      unfolding plan_file
      file_whole t = rw (e, e', t) refl

-- What `fill` gives, by what its parts give.
module _ (file table left : List ℕ) where
  pub fill_no_preamble : (k : code.Refusal) → preamble file 0 ≡ no (refusal_view k) → FillAnswer (read_file file) table (Err k) left
  fill_no_preamble k e = rw (no_preamble file e) refl

  module _ {f : Preamble} {at : ℕ} (e : preamble file 0 ≡ got f at) where
    -- Whether rows are refused, and where they end, does not depend on the table.
    same : only_passed (rows_of f (replicate places 0) file at) ≡ only_passed (rows_of f table file at)
    same = rows_only f.rows most_intervals f.names (intervals f.plan) 0 (replicate places 0) table file at

    pub fill_no_rows : (k : code.Refusal) → RowsAnswer (rows_of f table file at) (Err k) left → FillAnswer (read_file file) table (Err k) left
    fill_no_rows k a = rw (no_rows file e (only_no _ (same ∙ ap only_passed (rows_none _ k left a)))) refl

    module _ (last : ℕ) (a : RowsAnswer (rows_of f table file at) (Ok last) left) where
      into_zeros : (t : List ℕ) × (rows_of f (replicate places 0) file at ≡ got t last)
      into_zeros = only_got _ (same ∙ ap only_passed (rows_all _ last left a))

      pub fill_no_end : (k : code.Refusal) → ended file last ≡ no (refusal_view k) → FillAnswer (read_file file) table (Err k) left
      fill_no_end k t = rw (no_end file e into_zeros.1 t) refl

      pub fill_whole : {u : Unit {0}} {end : ℕ} → ended file last ≡ got u end → FillAnswer (read_file file) table (Ok f.plan) left
      fill_whole t =
          rw (file_whole file e into_zeros.1 t)
          (refl, λ zeros. cc (sym (rows_all _ last left a) ∙ ap (λ l. rows_of f l file at) zeros ∙ into_zeros.1))

-- What the reader leaves, by the answer of `fill` and by the length of the table.
pub whole_read : (s : Parsed Contents) (table left : List ℕ) (plan : Plan) → FillAnswer s table (Ok plan) left → table ≡ replicate places 0
    → read_view (Ok plan) left ≡ leaves s []
whole_read (got contents next) table left plan a zeros =
    λ t. record { answer = []; plan = a.0 t; table = (a.1 zeros ∙ sym (append-nil contents.table)) t }
whole_read (no refusal) table left plan a zeros = absurd a

pub whole_refused : (s : Parsed Contents) (table left zeros : List ℕ) (k : code.Refusal) → FillAnswer s table (Err k) left → zeros ≡ replicate places 0
    → read_view (Err (fault.Refused k)) zeros ≡ leaves s []
whole_refused (got contents next) table left zeros k a z = absurd a
whole_refused (no refusal) table left zeros k a z =
    λ t. record {
      answer = (ap (λ (x : Refusal). x.number ∷ x.offset ∷ []) a) t;
      plan = no_plan;
      table = (z ∙ sym (append-nil (replicate places 0))) t;
    }

pub whole_beyond : (s : Parsed Contents) (r : Result Plan ReadFault) (left table : List ℕ) → read_view r left ≡ leaves s []
    → read_view r (left ++ drop places table) ≡ leaves s table
whole_beyond (got contents next) r left table e =
    λ t. record {
      answer = (ap (λ (l : ReadEffect). l.answer) e) t;
      plan = (ap (λ (l : ReadEffect). l.plan) e) t;
      table = (ap (λ l. l ++ drop places table) (ap (λ (l : ReadEffect). l.table) e ∙ append-nil contents.table)) t;
    }
whole_beyond (no refusal) r left table e =
    λ t. record {
      answer = (ap (λ (l : ReadEffect). l.answer) e) t;
      plan = (ap (λ (l : ReadEffect). l.plan) e) t;
      table = (ap (λ l. l ++ drop places table) (ap (λ (l : ReadEffect). l.table) e ∙ append-nil (replicate places 0))) t;
    }

pub reader_short : (file table : List ℕ) → length table < places → read_view (Err fault.TooShort) table ≡ reader file table
unfolding reader
reader_short file table h = rw (lt-ltb (length table) places h) refl

pub reader_long : (file table : List ℕ) → places ≤ length table → leaves (read_file file) table ≡ reader file table
unfolding reader
reader_long file table h = rw (le-ltb (length table) places h)

-- So the places behind the table's own are not lent to `read_whole`.
pub read_beyond : (file table : List ℕ) (r : Result Plan ReadFault) (left : List ℕ) → places ≤ length table → read_view r left ≡ leaves (read_file file) []
    → read_view r (left ++ drop places table) ≡ reader file table
read_beyond file table r left h e = whole_beyond (read_file file) r left table e ∙ reader_long file table h

-- The job count by the answer of `fill`.
pub count_read : (s : Parsed Contents) (table left : List ℕ) (plan : Plan) → FillAnswer s table (Ok plan) left → plan.count ≡ count_of s
count_read (got contents next) table left plan a = ap (λ (p : Plan). p.count) a.0
count_read (no refusal) table left plan a = absurd a

pub count_refused : (s : Parsed Contents) (table left : List ℕ) (k : code.Refusal) → FillAnswer s table (Err k) left → 0 ≡ count_of s
count_refused (got contents next) table left k a = absurd a
count_refused (no refusal) table left k a = refl

-- What the name lookup finds and shows: nothing from the job count on, eight bytes below it.
pub found_none : (s : Parsed Contents) (k : ℕ) → count_of s ≤ k → found_by s k ≡ 0
found_none (got contents next) k h = rw (le-ltb k contents.plan.count h)
found_none (no refusal) k h = refl

pub found_name : (s : Parsed Contents) (k : ℕ) → k < count_of s → found_by s k ≡ name_at k
found_name (got contents next) k h = rw (lt-ltb k contents.plan.count h)
found_name (no refusal) k h = absurd (omega arith)

pub found_above : (s : Parsed Contents) (k : ℕ) → found_by s k ≡ 0 → count_of s ≤ k
found_above s k none = if_less k (count_of s) (λ l. absurd (omega (arith, found_name s k l))) (λ m. m)

pub found_below : (s : Parsed Contents) (k : ℕ) → found_by s k ≢ 0 → k < count_of s
found_below s k some = if_less k (count_of s) (λ l. l) (λ m. absurd (some (found_none s k m)))

-- A name that is found lies inside the file.
pub found_inside : (file : List ℕ) (k : ℕ) → found_by (read_file file) k ≢ 0 → found_by (read_file file) k + 8 ≤ length file
found_inside file k some =
    let below = found_below (read_file file) k some in
    omega (arith, found_name (read_file file) k below, shown_inside file k below)

pub shown_none : (s : Parsed Contents) (file : List ℕ) (k : ℕ) → count_of s ≤ k → shown_by s file k ≡ []
shown_none (got contents next) file k h = rw (le-ltb k contents.plan.count h)
shown_none (no refusal) file k h = refl

pub shown_part : (s : Parsed Contents) (file : List ℕ) (k : ℕ) → k < count_of s → shown_by s file k ≡ take 8 (drop (name_at k) file)
shown_part (got contents next) file k h = rw (lt-ltb k contents.plan.count h)
shown_part (no refusal) file k h = absurd (omega arith)
