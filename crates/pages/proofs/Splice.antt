-- Laws of `splice`: a stretch of a list is replaced by another of its length.
-- Assumes nothing.
use mathlib.Core.Path.{◌≡◌, sym, ap, ◌∙◌}
use mathlib.Core.List.{List, [], ◌∷◌, ◌++◌, append_assoc, append-nil}
use Prim.Native.Nat.{ℕ, ◌+◌, ◌-◌, ◌≤◌, ◌<◌}
use native.Mathlib.Numerals.{add-one}
use native.Mathlib.Omega.{arith}
use lib.ListN.{length, take, drop, set, length-append, length-take, length-drop, take-append-drop, drop_of_length-le}
use lib.Seq.{length-take-le, take-append-le, drop-append-le, take-append_seam, drop-append_seam, set_split, take_at, drop_at, drop-drop, take-add}
use Rattle.pages.specs.Pages.{splice}

-- ---- lengths

pub part-length : (a n : ℕ) (xs : List ℕ) → a + n ≤ length xs → length (take n (drop a xs)) ≡ n
part-length a n xs h = simp (length-take, length-drop) (omega arith)

pub splice-length : (at : ℕ) (ys xs : List ℕ) → at + length ys ≤ length xs → length (splice at ys xs) ≡ length xs
unfolding splice
splice-length at ys xs h = simp (length-append, length-take, length-drop) (omega arith)

pub splice-part-length : (a n at : ℕ) (ys xs : List ℕ) → at + length ys ≤ n → a + n ≤ length xs → length (splice at ys (take n (drop a xs))) ≡ n
splice-part-length a n at ys xs h k =
    let l : length (take n (drop a xs)) ≡ n = part-length a n xs k in
    splice-length at ys (take n (drop a xs)) (omega arith) ∙ l

-- ---- what was spliced in is read back, and what lies before it and after it is as it was

-- nothing of a list is left that is no longer than what goes over it
pub splice-all : (ys xs : List ℕ) → length xs ≤ length ys → splice 0 ys xs ≡ ys
unfolding splice
splice-all ys xs h = rw (drop_of_length-le xs {i = length ys} h, append-nil ys)

-- from the stretch on
splice-rest : (at : ℕ) (ys xs : List ℕ) → at ≤ length xs → drop at (splice at ys xs) ≡ ys ++ drop (length ys) (drop at xs)
unfolding splice
splice-rest at ys xs h = drop_at (take at xs) _ at (length-take-le at xs h)

pub splice-here : (at : ℕ) (ys xs : List ℕ) → at ≤ length xs → take (length ys) (drop at (splice at ys xs)) ≡ ys
splice-here at ys xs h = rw (splice-rest, take-append_seam)

-- a part that ends within xs, whatever follows xs
part-append : (a n : ℕ) (xs ys : List ℕ) → a + n ≤ length xs → take n (drop a (xs ++ ys)) ≡ take n (drop a xs)
part-append a n xs ys h =
    let k : a ≤ length xs = omega arith in
    let l : n ≤ length (drop a xs) = simp length-drop (omega arith) in
    rw (drop-append-le, take-append-le)

pub splice-before : (a n at : ℕ) (ys xs : List ℕ) → a + n ≤ at → at ≤ length xs → take n (drop a (splice at ys xs)) ≡ take n (drop a xs)
unfolding splice
splice-before a n at ys xs h k =
    let l : a + n ≤ length (take at xs) = simp length-take (omega arith) in
    part-append a n (take at xs) _ l
    ∙ sym (part-append a n (take at xs) (drop at xs) l)
    ∙ ap (λ (zs : List ℕ). take n (drop a zs)) (take-append-drop at xs)

-- up to the end of the stretch
pub splice-front : (at : ℕ) (ys xs : List ℕ) → at ≤ length xs → take (at + length ys) (splice at ys xs) ≡ take at xs ++ ys
splice-front at ys xs h = rw (take-add, splice-here) (ap (λ (zs : List ℕ). zs ++ ys) (splice-before 0 at at ys xs (omega arith) h))

pub splice-after : (a at : ℕ) (ys xs : List ℕ) → at + length ys ≤ a → at ≤ length xs → drop a (splice at ys xs) ≡ drop a xs
splice-after a at ys xs h k =
    let e : at + length ys + (a - (at + length ys)) ≡ a = omega arith in
    let d : (zs : List ℕ) → drop a zs ≡ drop (a - (at + length ys)) (drop (length ys) (drop at zs)) = λ zs. simp (drop-drop, e) in
    d (splice at ys xs) ∙ rw (splice-rest, drop-append_seam) (sym (d xs))

-- ---- a stretch of a part, spliced into the whole or into the part

splice-append : (at : ℕ) (ys xs zs : List ℕ) → at + length ys ≤ length xs → splice at ys (xs ++ zs) ≡ splice at ys xs ++ zs
unfolding splice
splice-append at ys xs zs h =
    let k : at ≤ length xs = omega arith in
    let l : length ys ≤ length (drop at xs) = simp length-drop (omega arith) in
    simp (take-append-le, drop-append-le, append_assoc)

splice-add : (a at : ℕ) (ys xs : List ℕ) → splice (a + at) ys xs ≡ take a xs ++ splice at ys (drop a xs)
unfolding splice
splice-add a at ys xs = rw (take-add, ← drop-drop at a xs, append_assoc)

splice-is : (at n : ℕ) (ys xs : List ℕ) → length ys ≡ n → take at xs ++ (ys ++ drop n (drop at xs)) ≡ splice at ys xs
unfolding splice
splice-is at n ys xs e = rw e

pub splice-within : (a n at : ℕ) (ys xs : List ℕ) → at + length ys ≤ n → a + n ≤ length xs
    → splice (a + at) ys xs ≡ splice a (splice at ys (take n (drop a xs))) xs
splice-within a n at ys xs h k =
    let l : at + length ys ≤ length (take n (drop a xs)) = omega (arith, part-length a n xs k) in
    let e = rw take-append-drop at (splice-append at ys (take n (drop a xs)) (drop n (drop a xs)) l) in
    rw (splice-add, e) (splice-is a n (splice at ys (take n (drop a xs))) xs (splice-part-length a n at ys xs h k))

-- ---- one element, and a stretch behind a stretch

pub splice-set : (at a : ℕ) (xs : List ℕ) → at < length xs → set xs at a ≡ splice at (a ∷ []) xs
unfolding splice
splice-set at a xs h = rw (drop-drop, add-one) (set_split xs at a h)

pub splice-join : (at n : ℕ) (ys zs xs : List ℕ) → length ys ≡ n → at ≤ length xs → splice (at + n) zs (splice at ys xs) ≡ splice at (ys ++ zs) xs
unfolding splice
splice-join at n ys zs xs e h =
    let f : take at (splice at ys xs) ≡ take at xs = take_at (take at xs) _ at (length-take-le at xs h) in
    rw (splice-add, f, splice-rest, ← e, take-append_seam, drop-append_seam, length-append, ← drop-drop, append_assoc)
