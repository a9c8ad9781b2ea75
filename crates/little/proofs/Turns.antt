-- The loops of `put`, `get`, `put_all` and `get_all`: that the invariant of each holds at the start and after a turn, and what it says at the end. Each is a
-- step along the definition of what is written or read. Assumes nothing.
use mathlib.Core.Path.{◌≡◌, ap, ◌∙◌}
use mathlib.Core.List.{List, [], ◌∷◌, ◌++◌, append_assoc, append-nil}
use Prim.Native.Nat.{ℕ, suc, ◌+◌, ◌-◌, ◌*◌, ◌/◌, ◌%◌, ◌^◌, ◌≤◌, ◌<◌}
use native.Mathlib.Nat.{suc-mul, zero-mul, mul_assoc, mul-add, mul-le-mul_right, pow-succ', one-le-pow, add-sub_cancel_left, sub-zero}
use native.Mathlib.Numerals.{add-one}
use native.Mathlib.Omega.{arith}
use lib.ListN.{length, take, drop, get_or, set, length-append, drop_of_length-le}
use lib.Seq.{length-take-le, take_all, take-suc-set, take_at, drop-cons, drop-drop}
use borrow.Rule.Slice.PartMut.{mid_of, put_mid, mid_len}
use Rattle.little.specs.Little.{bytes_of, number_of, bytes_of_all, numbers_of, AllBelow}
use Rattle.little.proofs.Laws.{bytes_of-length, number_of-below}

-- ---- `put`: what is written, and then the bytes of what is left of x, are the bytes of x

pub put-start : (out : List ℕ) (n x : ℕ) → take 0 out ++ bytes_of (n - 0) x ≡ bytes_of n x
put-start out n x = rw sub-zero

pub put-turn : (out all : List ℕ) (n i rest : ℕ) → i < n → length out ≡ n → take i out ++ bytes_of (n - i) rest ≡ all
    → take (i + 1) (set out i (rest % 256)) ++ bytes_of (n - (i + 1)) (rest / 256) ≡ all
unfolding bytes_of
put-turn out all n i rest h l e =
    let k : n - i ≡ suc (n - (i + 1)) = omega arith in
    let j : i < length out = omega arith in
    rw (add-one, take-suc-set, append_assoc) (rw (k, add-one) at e)

pub put-end : (out all : List ℕ) (n i rest : ℕ) → n ≤ i → length out ≡ n → take i out ++ bytes_of (n - i) rest ≡ all → out ≡ all
unfolding bytes_of
put-end out all n i rest h l e =
    let k : n - i ≡ 0 = omega arith in
    let j : length out ≤ i = omega arith in
    rw (k, append-nil, take_all) at e

-- ---- `get`: the number of the bytes that are left, and above them r, are the number of all bytes

number_of-last : (bs : List ℕ) (b : ℕ) → number_of (bs ++ (b ∷ [])) ≡ number_of bs + 256 ^ length bs * b
unfolding number_of
number_of-last [] b = omega arith
number_of-last (x ∷ bs) b = rw (number_of-last bs b, pow-succ', mul_assoc) (omega arith)

-- a turn takes the last of the bytes that are left
pub get-turn : (bs left all : List ℕ) (b r : ℕ) → bs ≡ left ++ (b ∷ []) → number_of bs + 256 ^ length bs * r ≡ number_of all
    → number_of left + 256 ^ length left * (r * 256 + b) ≡ number_of all
get-turn bs left all b r e h =
    let k : length (left ++ (b ∷ [])) ≡ suc (length left) = simp length-append (add-one (length left)) in
    let p = 256 ^ length left in
    let turned = rw (e, number_of-last left b, k, pow-succ', mul_assoc) at h in
    omega (arith, turned, mul-add p (r * 256) b, mul_assoc p r 256)

-- what then stands above the bytes that are left is at most the number of all, which at most 8 bytes spell
pub get-room : (bs left all : List ℕ) (b r : ℕ) → length all ≤ 8 → AllBelow 256 all → bs ≡ left ++ (b ∷ []) → number_of bs + 256 ^ length bs * r ≡ number_of all
    → r * 256 + b < 2 ^ 64
get-room bs left all b r l below e h =
    omega (
      arith,
      get-turn bs left all b r e h,
      number_of-below 8 all l below,
      mul-le-mul_right (r * 256 + b) (one-le-pow (length left) 256 (omega arith)),
    )

pub get-end : (left all : List ℕ) (r : ℕ) → length left ≡ 0 → number_of left + 256 ^ length left * r ≡ number_of all → r ≡ number_of all
unfolding number_of
get-end [] all r z h = omega (arith, h)
get-end (x ∷ left) all r z h = absurd (omega arith)

-- ---- `put_all` and `get_all`: part i of w bytes lies within n parts

pub part-within : (w i n : ℕ) → i < n → i * w + w ≤ n * w
part-within w i n h = rw suc-mul at (mul-le-mul_right w h)

-- ---- `put_all`: the parts written, and then the bytes of the numbers from i on, are all bytes

pub put_all-start : (w : ℕ) (out xs : List ℕ) → take (0 * w) out ++ bytes_of_all w (drop 0 xs) ≡ bytes_of_all w xs
put_all-start w out xs = rw zero-mul

pub put_all-turn : (w i : ℕ) (out xs all ys : List ℕ) → i < length xs → length out ≡ length xs * w
    → ys ≡ bytes_of (length (mid_of (i * w) (i * w + w - i * w) out)) (get_or xs i 0)
    → take (i * w) out ++ bytes_of_all w (drop i xs) ≡ all
    → take ((i + 1) * w) (put_mid (i * w) (i * w + w - i * w) out ys) ++ bytes_of_all w (drop (i + 1) xs) ≡ all
unfolding bytes_of_all
put_all-turn w i out xs all ys h l y e =
    let f : i * w + w ≤ length out = rw l (part-within w i (length xs) h) in
    let m : length (mid_of (i * w) (i * w + w - i * w) out) ≡ w = mid_len (i * w) (i * w + w) out f ∙ add-sub_cancel_left (i * w) w in
    let y' : ys ≡ bytes_of w (get_or xs i 0) = rw m at y in
    let n : length ys ≡ w = ap length y' ∙ bytes_of-length w (get_or xs i 0) in
    let p : length (take (i * w) out ++ ys) ≡ suc i * w = rw (length-append, length-take-le (i * w) out (omega arith), n, suc-mul) in
    rw (add-one, ← append_assoc, take_at (take (i * w) out ++ ys) _ (suc i * w) p, append_assoc, y') (rw (drop-cons xs i 0) at e)

pub put_all-end : (w i : ℕ) (out xs all : List ℕ) → length xs ≤ i → length out ≡ length xs * w
    → take (i * w) out ++ bytes_of_all w (drop i xs) ≡ all → out ≡ all
unfolding bytes_of_all
put_all-end w i out xs all h l e =
    let j : length out ≤ i * w = rw l (mul-le-mul_right w h) in
    rw (drop_of_length-le xs h, append-nil, take_all) at e

-- ---- `get_all`: the numbers read, and then those that the bytes from part i on spell, are all numbers

pub get_all-start : (w n : ℕ) (xs bs : List ℕ) → take 0 xs ++ numbers_of w (n - 0) (drop (0 * w) bs) ≡ numbers_of w n bs
get_all-start w n xs bs = rw (sub-zero, zero-mul)

pub get_all-turn : (w i n x : ℕ) (xs bs all : List ℕ) → i < n → length xs ≡ n → x ≡ number_of (mid_of (i * w) (i * w + w - i * w) bs)
    → take i xs ++ numbers_of w (n - i) (drop (i * w) bs) ≡ all
    → take (i + 1) (set xs i x) ++ numbers_of w (n - (i + 1)) (drop ((i + 1) * w) bs) ≡ all
unfolding numbers_of
get_all-turn w i n x xs bs all h l y e =
    let k : n - i ≡ suc (n - (i + 1)) = omega arith in
    let j : i < length xs = omega arith in
    let y' : x ≡ number_of (take w (drop (i * w) bs)) = rw (add-sub_cancel_left (i * w) w) at y in
    rw (add-one, take-suc-set, append_assoc, y', suc-mul) (rw (k, add-one, drop-drop) at e)

pub get_all-end : (w i n : ℕ) (xs bs all : List ℕ) → n ≤ i → length xs ≡ n
    → take i xs ++ numbers_of w (n - i) (drop (i * w) bs) ≡ all → xs ≡ all
unfolding numbers_of
get_all-end w i n xs bs all h l e =
    let k : n - i ≡ 0 = omega arith in
    let j : length xs ≤ i = omega arith in
    rw (k, append-nil, take_all) at e
