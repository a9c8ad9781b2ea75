-- Laws of plain lists.
--     front-stays    what stands first is at the front
--     remove_at-append, remove_at-seam, insert_at-seam    taking out of and putting into two lists, one behind the other
--     remove_at-length, down_from-length    how long a list is
--     down_from-drop    the frames below n without the first k of them
--     drop-next, drop-take-next, drop-take-end    what a loop at place i has still to read: the element there and what is behind it, or nothing
--     turned-right, turned-left    what stands at a place is turned to the front of what is before it, or behind what follows
-- Assumes nothing.
use mathlib.Core.Path.{◌≡◌, refl, ap, ◌∙◌}
use mathlib.Core.List.{List, [], ◌∷◌, ◌++◌}
use Prim.Native.Nat.{ℕ, zero, suc, ◌+◌, ◌-◌, ◌≤◌, ◌<◌}
use native.Mathlib.Nat.{le_of_suc-le-suc, not-suc-le-zero, sub-zero}
use native.Mathlib.Numerals.{add-one}
use native.Mathlib.Omega.{arith}
use lib.ListN.{length, get_or, set, take, drop, length-take, drop_of_length-le}
use lib.Seq.{drop-cons, get_or-take}
use Rattle.order.specs.Lists.{remove_at, insert_at, move_to_front, down_from}

-- ---- what stands first

pub front-stays : (xs : List ℕ) (i : ℕ) → i ≡ 0 → 0 < length xs → xs ≡ move_to_front i xs
front-stays [] i z h = absurd (not-suc-le-zero h)
front-stays (x ∷ xs) i z h = rw z refl

-- ---- two lists, one behind the other

pub remove_at-append : (xs ys : List ℕ) (i : ℕ) → i < length xs → remove_at i (xs ++ ys) ≡ remove_at i xs ++ ys
remove_at-append [] ys i h = absurd (not-suc-le-zero h)
remove_at-append (x ∷ xs) ys zero h = refl
remove_at-append (x ∷ xs) ys (suc i) h = ap (λ (r : List ℕ). x ∷ r) (remove_at-append xs ys i (le_of_suc-le-suc h))

pub remove_at-seam : (xs : List ℕ) (y : ℕ) (ys : List ℕ) → remove_at (length xs) (xs ++ y ∷ ys) ≡ xs ++ ys
remove_at-seam [] y ys = refl
remove_at-seam (x ∷ xs) y ys = ap (λ (r : List ℕ). x ∷ r) (remove_at-seam xs y ys)

pub insert_at-seam : (xs : List ℕ) (y : ℕ) (ys : List ℕ) → insert_at (length xs) y (xs ++ ys) ≡ xs ++ y ∷ ys
insert_at-seam [] y ys = refl
insert_at-seam (x ∷ xs) y ys = ap (λ (r : List ℕ). x ∷ r) (insert_at-seam xs y ys)

-- ---- lengths

pub remove_at-length : (xs : List ℕ) (i : ℕ) → i < length xs → suc (length (remove_at i xs)) ≡ length xs
remove_at-length [] i h = absurd (not-suc-le-zero h)
remove_at-length (x ∷ xs) zero h = refl
remove_at-length (x ∷ xs) (suc i) h = ap suc (remove_at-length xs i (le_of_suc-le-suc h))

pub down_from-length : (n : ℕ) → length (down_from n) ≡ n
down_from-length zero = refl
down_from-length (suc n) = ap suc (down_from-length n)

pub down_from-drop : (n k : ℕ) → k ≤ n → drop k (down_from n) ≡ down_from (n - k)
down_from-drop n zero h = rw sub-zero
down_from-drop zero (suc k) h = absurd (omega arith)
down_from-drop (suc n) (suc k) h = let e : suc n - suc k ≡ n - k = omega arith in rw e (down_from-drop n k (omega arith))

-- ---- what is still to be read

module _ (xs : List ℕ) where
  pub drop-next : (i : ℕ) → i < length xs → drop i xs ≡ get_or xs i 0 ∷ drop (i + 1) xs
  drop-next i h = rw (add-one, drop-cons xs i 0)

  pub drop-take-next : (n i : ℕ) → n ≤ length xs → i < n → drop i (take n xs) ≡ get_or xs i 0 ∷ drop (i + 1) (take n xs)
  drop-take-next n i l h =
      let k : i < length (take n xs) = simp length-take (omega arith) in
      rw (add-one, drop-cons (take n xs) i 0, get_or-take)

  pub drop-take-end : (n i : ℕ) → n ≤ i → drop i (take n xs) ≡ []
  drop-take-end n i h = let k : length (take n xs) ≤ i = simp length-take (omega arith) in drop_of_length-le (take n xs) k

-- ---- a turn of a part by one place

remove_at-split : (i : ℕ) (xs : List ℕ) → remove_at i xs ≡ take i xs ++ drop (suc i) xs
remove_at-split zero [] = refl
remove_at-split zero (x ∷ xs) = refl
remove_at-split (suc i) [] = refl
remove_at-split (suc i) (x ∷ xs) = ap (λ (r : List ℕ). x ∷ r) (remove_at-split i xs)

last-taken : (i : ℕ) (xs : List ℕ) → i < length xs → drop i (take (suc i) xs) ≡ get_or xs i 0 ∷ []
last-taken i [] h = absurd (not-suc-le-zero h)
last-taken zero (x ∷ xs) h = refl
last-taken (suc i) (x ∷ xs) h = last-taken i xs (le_of_suc-le-suc h)

before-last : (i : ℕ) (xs : List ℕ) → take i (take (suc i) xs) ≡ take i xs
before-last zero xs = refl
before-last (suc i) [] = refl
before-last (suc i) (x ∷ xs) = ap (λ (r : List ℕ). x ∷ r) (before-last i xs)

-- ys is the first i + 1 elements, turned
pub turned-right : (xs ys : List ℕ) (i n : ℕ) → i < length xs → n ≡ i → ys ≡ drop n (take (i + 1) xs) ++ take n (take (i + 1) xs)
    → ys ++ drop (i + 1) xs ≡ move_to_front i xs
turned-right xs ys i n h e t =
    let s : ys ≡ get_or xs i 0 ∷ take i xs = t ∙ rw (e, add-one, last-taken i xs h, before-last i xs) in
    rw (s, add-one, remove_at-split i xs)

put-behind : (x : ℕ) (xs : List ℕ) (k : ℕ) → k ≤ length xs → set ((take k xs ++ x ∷ []) ++ drop k xs) k 0 ≡ insert_at k 0 xs
put-behind x xs zero h = refl
put-behind x [] (suc k) h = absurd (not-suc-le-zero h)
put-behind x (y ∷ xs) (suc k) h = ap (λ (r : List ℕ). y ∷ r) (put-behind x xs k (le_of_suc-le-suc h))

-- what stands at `at` is turned behind the k elements that follow, at m, and 0 takes its place
pub turned-left : (xs : List ℕ) (at k m : ℕ) → m ≡ at + k → m < length xs
    → set (take at xs ++ ((drop 1 (take (suc k) (drop at xs)) ++ take 1 (take (suc k) (drop at xs))) ++ drop (suc k) (drop at xs))) m 0
    ≡ insert_at m 0 (remove_at at xs)
turned-left [] at k m e h = absurd (not-suc-le-zero h)
turned-left (x ∷ xs) zero k m e h = let d : m ≡ k = omega arith in rw d (put-behind x xs k (omega arith))
turned-left (x ∷ xs) (suc at) k zero e h = absurd (omega arith)
turned-left (x ∷ xs) (suc at) k (suc m) e h = ap (λ (r : List ℕ). x ∷ r) (turned-left xs at k m (omega arith) (omega arith))
