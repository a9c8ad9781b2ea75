-- Laws of numbers as bytes, for any width w: how many bytes there are, how large a number they spell, and that writing and reading
-- undo each other, for one number and for a list of them. Each is an induction over the width or the list. Assumes nothing.
use mathlib.Core.Path.{◌≡◌, refl, sym, ap, ◌∙◌}
use mathlib.Core.List.{List, [], ◌∷◌}
use mathlib.Core.Logic.{dite}
use Prim.Native.Nat.{ℕ, zero, suc, ◌+◌, ◌*◌, ◌/◌, ◌^◌, ◌≤◌, ◌<◌}
use native.Mathlib.Nat.{add_comm, suc-mul, zero-mul, pow-suc, div-add-mod', not-suc-le-zero, le_of_suc-le-suc, one-le-pow}
use native.Mathlib.Decide.{dec_lt}
use native.Mathlib.Omega.{arith}
use lib.Arith.{digits_div, digits_mod}
use lib.ListN.{length, take, drop, length-append, length-take, length-drop, take-append-drop, drop_of_length-le, get_or-eq_default}
use lib.Seq.{length-take-le, get_or-take, get_or-drop, take_at, drop_at}
use Rattle.little.specs.Little.{bytes_of, number_of, bytes_of_all, numbers_of, AllBelow}

-- ---- a part of a list

pub all_below-drop : (n k : ℕ) (xs : List ℕ) → AllBelow n xs → AllBelow n (drop k xs)
unfolding AllBelow
all_below-drop n k xs b i = rw get_or-drop (b (k + i))

pub all_below-take : (n k : ℕ) (xs : List ℕ) → AllBelow n xs → AllBelow n (take k xs)
unfolding AllBelow
all_below-take n k xs b i =
    dite
    (dec_lt i k)
    (λ h. rw get_or-take (b i))
    (λ h. rw (get_or-eq_default (take k xs) 0 {n = i} (simp length-take (omega arith))) (omega (arith, b 0)))

-- ---- one number

pub bytes_of-length : (w x : ℕ) → length (bytes_of w x) ≡ w
unfolding bytes_of
bytes_of-length zero x = refl
bytes_of-length (suc w) x = ap suc (bytes_of-length w (x / 256))

-- at most k bytes spell a number below 256 ^ k
pub number_of-below : (k : ℕ) (bs : List ℕ) → length bs ≤ k → AllBelow 256 bs → number_of bs < 256 ^ k
unfolding number_of AllBelow
number_of-below k [] h b = one-le-pow k 256 (omega arith)
number_of-below zero (x ∷ bs) h b = absurd (not-suc-le-zero h)
number_of-below (suc k) (x ∷ bs) h b = omega (arith, number_of-below k bs (le_of_suc-le-suc h) (λ i. b (suc i)), pow-suc 256 k, b 0)

-- a number that fits w bytes is spelt by them
pub number_of-bytes_of : (w x : ℕ) → x < 256 ^ w → number_of (bytes_of w x) ≡ x
unfolding bytes_of number_of
number_of-bytes_of zero x h = omega arith
number_of-bytes_of (suc w) x h = rw (number_of-bytes_of w (x / 256) (omega (arith, pow-suc 256 w)), div-add-mod')

-- bytes are those of the number that they spell
pub bytes_of-number_of : (bs : List ℕ) → AllBelow 256 bs → bytes_of (length bs) (number_of bs) ≡ bs
unfolding bytes_of number_of AllBelow
bytes_of-number_of [] b = refl
bytes_of-number_of (x ∷ bs) b =
    rw (digits_mod (number_of bs) (b 0), digits_div (number_of bs) (b 0), bytes_of-number_of bs (λ i. b (suc i)))

-- ---- a list of numbers

pub bytes_of_all-length : (w : ℕ) (xs : List ℕ) → length (bytes_of_all w xs) ≡ length xs * w
unfolding bytes_of_all
bytes_of_all-length w [] = sym (zero-mul w)
bytes_of_all-length w (x ∷ xs) =
    length-append (bytes_of w x) (bytes_of_all w xs) ∙ rw (bytes_of-length, bytes_of_all-length w xs, suc-mul) (add_comm w (length xs * w))

-- numbers that fit w bytes each are spelt by them
pub numbers_of-bytes_of_all : (w : ℕ) (xs : List ℕ) → AllBelow (256 ^ w) xs → numbers_of w (length xs) (bytes_of_all w xs) ≡ xs
unfolding bytes_of_all numbers_of AllBelow
numbers_of-bytes_of_all w [] b = refl
numbers_of-bytes_of_all w (x ∷ xs) b =
    let l : length (bytes_of w x) ≡ w = bytes_of-length w x in
    rw (take_at _ _ w l, drop_at _ _ w l, number_of-bytes_of w x (b 0), numbers_of-bytes_of_all w xs (λ i. b (suc i)))

-- bytes are those of the numbers that they spell
pub bytes_of_all-numbers_of : (w n : ℕ) (bs : List ℕ) → length bs ≡ n * w → AllBelow 256 bs → bytes_of_all w (numbers_of w n bs) ≡ bs
unfolding bytes_of_all numbers_of
bytes_of_all-numbers_of w zero bs h b = sym (drop_of_length-le bs {i = 0} (omega (arith, zero-mul w)))
bytes_of_all-numbers_of w (suc n) bs h b =
    let k : length (take w bs) ≡ w = length-take-le w bs (omega (arith, suc-mul n w)) in
    let e : bytes_of w (number_of (take w bs)) ≡ take w bs = rw k at (bytes_of-number_of (take w bs) (all_below-take 256 w bs b)) in
    let d : length (drop w bs) ≡ n * w = simp length-drop (omega (arith, suc-mul n w)) in
    rw (e, bytes_of_all-numbers_of w n (drop w bs) d (all_below-drop 256 w bs b), take-append-drop)
