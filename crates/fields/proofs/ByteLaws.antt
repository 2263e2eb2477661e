-- Laws of numbers as bytes, for any width: `bytes` and `value` are inverse to each other.
use mathlib.Core.Path.{◌≡◌, refl, sym, ◌∙◌, ap, ap₂}
use mathlib.Core.List.{List, [], ◌∷◌, ◌++◌, append_assoc}
use Prim.Native.Nat.{ℕ, zero, suc, ◌+◌, ◌*◌, ◌/◌, ◌%◌, ◌^◌, ◌≤◌, ◌<◌}
use native.Mathlib.Nat.{pow-suc, pow-succ', pow-le-pow_right, one-le-pow, mod-lt, mod-eq_of_lt, div-one, div-add-mod', div-div-eq-div-mul, mul_assoc, add-mul, add_assoc, zero-mul, div-lt_iff_lt-mul}
use native.Mathlib.Omega.{arith}
use lib.Arith.{digits_lt, digits_div, digits_mod, mod-mul}
use lib.Dec.{lit<}
use lib.ListN.{length, get_or, take, drop, length-drop}
use lib.Seq.{length-take-le, drop-cons, drop_at}
use Rattle.fields.specs.Bytes.{bytes, value}

pub length_bytes : (w x : ℕ) → length (bytes w x) ≡ w
unfolding bytes
length_bytes zero x = refl
length_bytes (suc w) x = ap suc (length_bytes w (x % 256 ^ w))

-- The w + 1 bytes of x are the w bytes of x / 256, then x % 256, as a loop writes them.
pub bytes_snoc : (w x : ℕ) → x < 256 ^ suc w → bytes (suc w) x ≡ bytes w (x / 256) ++ (x % 256 ∷ [])
unfolding bytes
bytes_snoc zero x h = rw (div-one x, mod-eq_of_lt h)
bytes_snoc (suc w) x h =
    let split : x % 256 ^ suc w ≡ x / 256 % 256 ^ w * 256 + x % 256
    = rw (pow-suc 256 w) (mod-mul x (one-le-pow w 256 (lit< tt)) (lit< tt)) in
    let quot : x % 256 ^ suc w / 256 ≡ x / 256 % 256 ^ w = rw split (digits_div (x / 256 % 256 ^ w) (mod-lt x (lit< tt))) in
    let last : x % 256 ^ suc w % 256 ≡ x % 256 = rw split (digits_mod (x / 256 % 256 ^ w) (mod-lt x (lit< tt))) in
    let first : x / 256 ^ suc w ≡ x / 256 / 256 ^ w = rw (pow-succ' 256 w) (sym (div-div-eq-div-mul x 256 (256 ^ w))) in
    ap₂ (λ (q : ℕ) (l : List ℕ). q ∷ l) first
    (bytes_snoc w (x % 256 ^ suc w) (mod-lt x (one-le-pow (suc w) 256 (lit< tt)))
    ∙ ap₂ (λ (y z : ℕ). bytes w y ++ (z ∷ [])) quot last)

-- The value of the w bytes of x, after bytes of value a, is a × 256^w + x.
pub value_bytes_on : (w a x : ℕ) → x < 256 ^ w → value a (bytes w x) ≡ a * 256 ^ w + x
unfolding bytes value
value_bytes_on zero a x h = omega arith
value_bytes_on (suc w) a x h =
    let p = 256 ^ w in
    value_bytes_on w (a * 256 + x / p) (x % p) (mod-lt x (one-le-pow w 256 (lit< tt)))
    ∙ rw (add-mul (a * 256) (x / p) p, mul_assoc a 256 p, ← (pow-succ' 256 w), add_assoc (a * 256 ^ suc w) (x / p * p) (x % p), div-add-mod' x p) refl

pub value_bytes : (w x : ℕ) → x < 256 ^ w → value 0 (bytes w x) ≡ x
value_bytes w x h = value_bytes_on w 0 x h ∙ omega (arith, zero-mul (256 ^ w))

-- Every element of the list is a byte.
abbrev pub Octets : List ℕ → Type 0
Octets l = (k : ℕ) → get_or l k 0 < 256

-- The value of l after bytes of value a is a × 256^(length l) plus the value of l.
pub value_on : (l : List ℕ) (a : ℕ) → value a l ≡ a * 256 ^ length l + value 0 l
unfolding value
value_on [] a = omega arith
value_on (b ∷ l) a =
    let p = 256 ^ length l in
    value_on l (a * 256 + b)
    ∙ rw (add-mul (a * 256) b p, mul_assoc a 256 p, ← (pow-succ' 256 (length l)), add_assoc (a * 256 ^ suc (length l)) (b * p) (value 0 l))
    (ap (λ v. a * 256 ^ suc (length l) + v) (sym (value_on l (0 * 256 + b) ∙ ap (λ c. c * p + value 0 l) (omega arith))))

-- The value of n bytes is below 256^n.
pub value_below : (l : List ℕ) → Octets l → value 0 l < 256 ^ length l
unfolding value
value_below [] h = lit< tt
value_below (b ∷ l) h =
    rw (value_on l (0 * 256 + b), pow-succ' 256 (length l))
    (digits_lt {q = 0 * 256 + b} {m = 256} {r = value 0 l} {c = 256 ^ length l} (omega (arith, h 0)) (value_below l (λ k. h (suc k))))

-- The bytes of the value of l are l.
pub bytes_value : (l : List ℕ) → Octets l → bytes (length l) (value 0 l) ≡ l
unfolding bytes value
bytes_value [] h = refl
bytes_value (b ∷ l) h =
    let v = value 0 l in
    let p = 256 ^ length l in
    let low : v < p = value_below l (λ k. h (suc k)) in
    let is : value (0 * 256 + b) l ≡ b * p + v = value_on l (0 * 256 + b) ∙ ap (λ c. c * p + v) (omega arith) in
    rw is
    (ap₂ (λ (q : ℕ) (r : List ℕ). q ∷ r) (digits_div b low)
    (ap (bytes (length l)) (digits_mod b low) ∙ bytes_value l (λ k. h (suc k))))

-- The value of no bytes is 0.
pub value_start : (l : List ℕ) → 0 ≡ value 0 (take 0 l)
unfolding value
value_start l = refl

-- The value of n + 1 bytes from that of the last n,
-- as a loop that starts at the lowest byte reads them.
pub value_turn : (file : List ℕ) (at n : ℕ) {v : ℕ} → at + n < length file → v ≡ value 0 (take n (drop (suc at) file))
    → v + get_or file at 0 * 256 ^ n ≡ value 0 (take (suc n) (drop at file))
unfolding value
value_turn file at n {v} h e =
    let b = get_or file at 0 in
    let l = take n (drop (suc at) file) in
    let long : length l ≡ n = length-take-le n (drop (suc at) file) (rw length-drop (omega arith)) in
    let whole : value 0 (take (suc n) (drop at file)) ≡ b * 256 ^ n + value 0 l
    = ap (λ r. value 0 (take (suc n) r)) (drop-cons file at 0 (omega arith)) ∙ value_on l (0 * 256 + b)
    ∙ ap₂ (λ (c m : ℕ). c * 256 ^ m + value 0 l) (omega arith) long in
    omega (arith, whole, e)

-- If v is below 256^n and b is a byte, v + b × 256^n is below 256^(n + 1).
pub within : {v b : ℕ} (n : ℕ) → v < 256 ^ n → b < 256 → v + b * 256 ^ n < 256 ^ suc n
within {v} {b} n h l = rw (pow-succ' 256 n) (omega (arith, digits_lt l h))

-- While fewer than eight bytes have been read, one more fits in 64 bits.
pub room : {v b : ℕ} (n : ℕ) → v < 256 ^ n → b < 256 → n < 8 → v + b * 256 ^ n < 2 ^ 64
room n h l few =
    let more : 256 ^ suc n ≤ 256 ^ 8 = pow-le-pow_right (lit< tt) few in
    omega (arith, within n h l, more)

-- One iteration of a loop that writes the w bytes of x from the last to the first.
pub bytes_turn : (w x rest k : ℕ) → rest < 256 ^ suc k → bytes (suc k) rest ++ drop (suc k) (bytes w x) ≡ bytes w x
    → (rest / 256 < 256 ^ k) × (drop k (bytes w x) ≡ rest % 256 ∷ drop (suc k) (bytes w x))
    × (bytes k (rest / 256) ++ drop k (bytes w x) ≡ bytes w x)
bytes_turn w x rest k h e =
    let b = bytes w x in
    let whole : bytes k (rest / 256) ++ (rest % 256 ∷ drop (suc k) b) ≡ b
    = sym (append_assoc (bytes k (rest / 256)) (rest % 256 ∷ []) (drop (suc k) b))
    ∙ ap (λ l. l ++ drop (suc k) b) (sym (bytes_snoc k rest h)) ∙ e in
    let tail : drop k b ≡ rest % 256 ∷ drop (suc k) b
    = ap (drop k) (sym whole) ∙ drop_at (bytes k (rest / 256)) (rest % 256 ∷ drop (suc k) b) k (length_bytes k (rest / 256)) in
    ((div-lt_iff_lt-mul (lit< tt)).1 (rw (pow-suc 256 k) at h), tail, ap (λ l. bytes k (rest / 256) ++ l) tail ∙ whole)
