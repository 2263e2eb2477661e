-- Laws of names: the list of a plan's names, and the equality of names byte by byte.
use mathlib.Core.Path.{◌≡◌, refl, sym, ◌∙◌, ap, ap₂}
use mathlib.Core.Bool.{Bool, not}
use mathlib.Core.List.{List, map}
use mathlib.Core.Logic.{◌↔◌}
use Prim.Native.Nat.{ℕ, zero, suc, ◌+◌, ◌*◌, ◌-◌, ◌%◌, ◌^◌, ◌≤◌, ◌<◌}
use native.Mathlib.Nat.{add-zero, div-one, mod-eq_of_lt, mod-one, one-le-pow, pow-succ'}
use lib.Arith.{mod-mul}
use native.Mathlib.Omega.{arith}
use lib.Dec.{eqb, lit<}
use lib.ListN.{length, get_or, take, replicate, length-append, length-map, length-take, length-replicate, get_or-map, get_or-eq_default}
use lib.Seq.{length-take-le, get_or-take, ext_get_or}
use Rattle.base.specs.Below.{every}
use Rattle.plan.specs.Rules.{names, name, counted, no_job, is_absent, byte_of}
use Rattle.plan.specs.declared.kinds.Job.{Job}
use Rattle.plan.specs.declared.kinds.Plan.{Plan}
use Rattle.std.specs.Int.{w64, byte_at, bytes_low_first, to_le_bytes}
use Rattle.std.specs.List.{list_all, list_any}
use Rattle.base.proofs.Logic.{if_less}
use Rattle.base.proofs.Below.{every_ext, every_element, every_but}
use Rattle.base.proofs.Padding.{get_or_replicate, get_or_pad}
use Rattle.plan.specs.Edition.{most_jobs, name_bytes}

-- The names of the first records, without what follows them.
pub prefix_at : (p : Plan) (k : ℕ) → get_or (names p) k 0 ≡ (get_or (take (counted p) p.jobs) k no_job).name.0
unfolding names
prefix_at p k =
    let of : Job → ℕ = λ j. j.name.0 in
    get_or_pad (map of (take (counted p) p.jobs)) (most_jobs - counted p) k 0 ∙ get_or-map of (take (counted p) p.jobs) k no_job

-- Entry k of `names p` is the name of job k, and 0 from the job count on.
pub name_at_lem : (p : Plan) (k : ℕ) → k < counted p → get_or (names p) k 0 ≡ name p k
name_at_lem p k h = prefix_at p k ∙ ap (λ (j : Job). j.name.0) (get_or-take (counted p) p.jobs k no_job h)

pub name_past : (p : Plan) (k : ℕ) → counted p ≤ k → get_or (names p) k 0 ≡ 0
name_past p k h =
    prefix_at p k
    ∙ ap (λ (j : Job). j.name.0) (get_or-eq_default (take (counted p) p.jobs) no_job {n = k} (omega (arith, length-take (counted p) p.jobs)))

pub names_long : (p : Plan) → length p.jobs ≡ most_jobs → length (names p) ≡ most_jobs
unfolding names
names_long p records =
    let of : Job → ℕ = λ j. j.name.0 in
    length-append (map of (take (counted p) p.jobs)) (replicate (most_jobs - counted p) 0)
    ∙ omega (arith, length-map (take (counted p) p.jobs) of, length-take-le (counted p) p.jobs (omega (arith, records)), length-replicate {A = ℕ} (most_jobs - counted p) 0)

-- The first i entries of a row are the names of the first i jobs, and the others are 0.
pub record NamedTo (p : Plan) (row : List ℕ) (i : ℕ) : Type 0 where
  pub long : length row ≡ most_jobs
  pub named : (k : ℕ) → k < i → get_or row k 0 ≡ name p k
  pub rest : (k : ℕ) → i ≤ k → get_or row k 0 ≡ 0

pub none_named : (p : Plan) → NamedTo p (replicate most_jobs 0) 0
none_named p = record { long = refl; named = λ k h. absurd (omega arith); rest = λ k h. get_or_replicate most_jobs k 0 }

pub all_named : (p : Plan) (row : List ℕ) (i : ℕ) → NamedTo p row i → i ≡ counted p → length p.jobs ≡ most_jobs → row ≡ names p
all_named p row i so e records =
    ext_get_or 0 row (names p) (so.long ∙ sym (names_long p records))
    (λ k h. if_less k i
    (λ l. so.named k l ∙ sym (name_at_lem p k (omega arith)))
    (λ m. so.rest k m ∙ sym (name_past p k (omega arith))))

-- x is absent from the prefix of length i exactly when none of the first i elements is x.
pub absent_before : (l : List ℕ) (i x : ℕ) → i ≤ length l → is_absent (take i l) x ≡ every (λ k. not (eqb (get_or l k 0) x)) i
unfolding is_absent
absent_before l i x h = rw (length-take-le i l h) (every_ext _ _ i (λ k l'. rw (get_or-take i l k 0 l') refl))

-- If the lowest w bytes of x and y agree, x and y are equal modulo 256^w.
same_below : (x y w : ℕ) → ((k : ℕ) → k < w → byte_of x k ≡ byte_of y k) → x % 256 ^ w ≡ y % 256 ^ w
same_below x y zero h = mod-one x ∙ sym (mod-one y)
same_below x y (suc w) h =
    rw (pow-succ' 256 w, mod-mul x (lit< tt) (one-le-pow w 256 (lit< tt)), mod-mul y (lit< tt) (one-le-pow w 256 (lit< tt)))
    (ap₂ (λ a b. a * 256 ^ w + b) (h w (omega arith)) (same_below x y w (λ k l. h k (omega arith))))

-- Two names of eight bytes are equal exactly when all their bytes are.
pub equal_by_bytes : (x y : ℕ) → x < 256 ^ 8 → y < 256 ^ 8 → (((k : ℕ) → k < 8 → byte_of x k ≡ byte_of y k) ↔ (x ≡ y))
equal_by_bytes x y hx hy =
    (λ h. sym (mod-eq_of_lt hx) ∙ same_below x y 8 h ∙ mod-eq_of_lt hy, λ e k l. ap (λ n. byte_of n k) e)

-- x is absent from a list exactly when the list has no element that equals it.
pub absent_any : (l : List ℕ) (x : ℕ) → not (list_any (λ y. eqb y x) l) ≡ is_absent l x
unfolding is_absent
absent_any l x = every_but (λ y. eqb y x) 0 l

-- A test of every byte of a name, over the bytes' positions from the lowest on.
at_byte : (x i : ℕ) → byte_at i x ≡ byte_of x i
at_byte x zero = ap (λ n. n % 256) (sym (div-one x))
at_byte x (suc i) = refl

low_byte : (x n i k : ℕ) → k < n → get_or (bytes_low_first i n x) k 0 ≡ byte_of x (i + k)
low_byte x (suc n) i zero h = at_byte x i ∙ ap (byte_of x) (sym (add-zero i))
low_byte x (suc n) i (suc k) h = low_byte x n (suc i) k (omega arith) ∙ ap (byte_of x) (omega arith)
low_byte x zero i k h = elim h [ ]

pub every_byte : (test : ℕ → Bool) (x : ℕ) (bytes : List ℕ) → bytes ≡ to_le_bytes w64 x → list_all test bytes ≡ every (λ k. test (byte_of x k)) name_bytes
every_byte test x bytes e =
    rw e (every_element test 0 (to_le_bytes w64 x) ∙ every_ext _ _ 8 (λ k l. ap test (low_byte x 8 0 k l ∙ ap (byte_of x) (omega arith))))
