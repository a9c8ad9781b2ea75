-- Laws of a list in 64 places: what an operation on the places does to the list that they hold.
--     pad-length, pad-set, pad-get_or    a padded list
--     none-in-places, in-places-length, in-places-take, in-places-get_or    the empty list, how many places there are, and what is read out of them
--     front-in-places, remove-in-places, cons-in-places, tail-in-places    an operation on the places is one on the list
--     list_of-in-places, list_of-held, list_of-put_front    the list that the code holds, and a frame more at its front
--     turn-in-places, rest-in-places    places are filled with a list, one after the other
-- Assumes nothing.
use mathlib.Core.Path.{◌≡◌, refl, sym, ap, subst, ◌∙◌}
use mathlib.Core.List.{List, [], ◌∷◌, ◌++◌, append_assoc}
use Prim.Native.Nat.{ℕ, zero, suc, ◌+◌, ◌-◌, ◌≤◌, ◌<◌}
use native.Mathlib.Nat.{add-zero}
use native.Mathlib.Numerals.{add-one}
use native.Mathlib.Omega.{arith}
use lib.ListN.{length, get_or, set, take, drop, replicate, length-append, length-replicate, length-set, get_or-append}
use lib.Seq.{set-append_seam, set-append_left, take-append_seam, take-suc, get_or-drop, drop-drop}
use Rattle.order.specs.Lists.{remove_at, insert_at, move_to_front}
use Rattle.order.specs.Places.{places, pad, InPlaces, list_of}
use Rattle.order.specs.declared.FrameList.{FrameList}
use Rattle.order.proofs.Lists.{remove_at-append, remove_at-seam, insert_at-seam, remove_at-length}

-- ---- a padded list

pub pad-length : (xs : List ℕ) → length xs ≤ places → length (pad xs) ≡ places
pad-length xs h = simp (length-append, length-replicate) (omega arith)

pub pad-set : (xs : List ℕ) (i x : ℕ) → i < length xs → set (pad xs) i x ≡ pad (set xs i x)
pad-set xs i x h = rw (set-append_left xs _ i x h, length-set)

-- behind a list there is 0, as where there is no place
get_or-zeros : (xs : List ℕ) (n i : ℕ) → get_or (xs ++ replicate n 0) i 0 ≡ get_or xs i 0
get_or-zeros [] zero i = refl
get_or-zeros [] (suc n) zero = refl
get_or-zeros [] (suc n) (suc i) = get_or-zeros [] n i
get_or-zeros (x ∷ xs) n zero = refl
get_or-zeros (x ∷ xs) n (suc i) = get_or-zeros xs n i

pub pad-get_or : (xs : List ℕ) (i : ℕ) → get_or (pad xs) i 0 ≡ get_or xs i 0
pad-get_or xs = get_or-zeros xs (places - length xs)

-- behind a list that leaves a place free stands a 0
pad-free : (xs : List ℕ) → length xs < places → pad xs ≡ xs ++ 0 ∷ replicate (places - suc (length xs)) 0
pad-free xs h = let e : places - length xs ≡ suc (places - suc (length xs)) = omega arith in rw e

pad-front : (xs : List ℕ) (i : ℕ) → i < length xs → move_to_front i (pad xs) ≡ pad (move_to_front i xs)
pad-front xs i h = rw (get_or-append xs _ 0 i h, remove_at-append xs _ i h, remove_at-length xs i h)

pad-remove : (xs : List ℕ) (i : ℕ) → i < length xs → length xs ≤ places → insert_at (length xs - 1) 0 (remove_at i (pad xs)) ≡ pad (remove_at i xs)
pad-remove xs i h l =
    let k : length xs - 1 ≡ length (remove_at i xs) = omega (arith, remove_at-length xs i h) in
    let e : suc (places - length xs) ≡ places - length (remove_at i xs) = omega arith in
    rw (remove_at-append xs _ i h, k, insert_at-seam (remove_at i xs), ← e)

pad-cons : (xs : List ℕ) (x : ℕ) → length xs < places → x ∷ remove_at (length xs) (pad xs) ≡ pad (x ∷ xs)
pad-cons xs x h = rw (pad-free xs h, remove_at-seam xs)

pad-tail : (xs : List ℕ) (x : ℕ) → length xs < places → set (pad xs) (length xs) x ≡ pad (xs ++ (x ∷ []))
pad-tail xs x h =
    let e : length (xs ++ (x ∷ [])) ≡ suc (length xs) = simp length-append (omega arith) in
    rw (pad-free xs h, set-append_seam xs 0 _ x, e, append_assoc)

-- ---- places that hold a list

pub none-in-places : InPlaces (replicate places 0) 0 []
none-in-places = record { is = refl; len = refl; fits = omega arith }

module _ {list : List ℕ} {n : ℕ} {xs : List ℕ} (h : InPlaces list n xs) where
  pub in-places-length : length list ≡ places
  in-places-length = rw h.is (pad-length xs (omega (arith, h.len, h.fits)))

  pub in-places-take : take n list ≡ xs
  in-places-take = rw (h.is, ← h.len) (take-append_seam xs _)

  pub in-places-get_or : (i : ℕ) → i < n → get_or list i 0 ≡ get_or xs i 0
  in-places-get_or i l = let k : i < length xs = omega (arith, h.len) in rw h.is (get_or-append xs _ 0 i k)

  pub front-in-places : (i : ℕ) → i < n → InPlaces (move_to_front i list) n (move_to_front i xs)
  front-in-places i l =
      let k : i < length xs = omega (arith, h.len) in
      record { is = rw h.is (pad-front xs i k); len = omega (arith, h.len, remove_at-length xs i k); fits = h.fits }

  pub remove-in-places : (i : ℕ) → i < n → InPlaces (insert_at (n - 1) 0 (remove_at i list)) (n - 1) (remove_at i xs)
  remove-in-places i l =
      let k : i < length xs = omega (arith, h.len) in
      let f : length xs ≤ places = omega (arith, h.len, h.fits) in
      record {
        is = rw (h.is, ← h.len) (pad-remove xs i k f);
        len = omega (arith, h.len, remove_at-length xs i k);
        fits = omega (arith, h.fits);
      }

  pub cons-in-places : (x : ℕ) → n < places → InPlaces (x ∷ remove_at n list) (n + 1) (x ∷ xs)
  cons-in-places x l =
      let k : length xs < places = omega (arith, h.len) in
      record { is = rw (h.is, ← h.len) (pad-cons xs x k); len = omega (arith, h.len); fits = omega arith }

  pub tail-in-places : (x : ℕ) → n < places → InPlaces (set list n x) (n + 1) (xs ++ (x ∷ []))
  tail-in-places x l =
      let k : length xs < places = omega (arith, h.len) in
      record {
        is = rw (h.is, ← h.len) (pad-tail xs x k);
        len = simp length-append (omega (arith, h.len));
        fits = omega arith;
      }

-- ---- a list of frames, as the code holds it

-- what a method leaves, by what it promises
pub as-promised : {l m : FrameList} {xs : List ℕ} → l ≡ m → InPlaces m.places m.len xs → InPlaces l.places l.len xs
as-promised {xs = xs} e h = subst (λ (l : FrameList). InPlaces l.places l.len xs) (sym e) h

pub list_of-in-places : (xs : List ℕ) → length xs ≤ places → InPlaces (list_of xs).places (list_of xs).len xs
list_of-in-places xs h = record { is = refl; len = refl; fits = h }

pub list_of-held : {l : FrameList} {xs : List ℕ} → InPlaces l.places l.len xs → l ≡ list_of xs
list_of-held h = λ i. record { places = h.is i; len = sym h.len i }

pub list_of-put_front : (xs : List ℕ) (x : ℕ) → length xs < places
    → ◌≡◌ {A = FrameList} (record { places = x ∷ remove_at (length xs) (pad xs); len = length xs + 1 }) (list_of (x ∷ xs))
list_of-put_front xs x h =
    let n : length xs + 1 ≡ suc (length xs) = add-one (length xs) in
    λ i. record { places = pad-cons xs x h i; len = n i }

-- ---- places that are filled with a list, one after the other

pub turn-in-places : {r : List ℕ} {k x : ℕ} (xs rest : List ℕ) → k < length xs → k < places → drop k xs ≡ x ∷ rest → InPlaces r k (take k xs)
    → InPlaces (set r k x) (k + 1) (take (k + 1) xs)
turn-in-places {k = k} {x} xs rest l f e h =
    let is : get_or xs k 0 ≡ x = ap (λ (n : ℕ). get_or xs n 0) (sym (add-zero k)) ∙ sym (get_or-drop k xs 0 0) ∙ ap (λ (z : List ℕ). get_or z 0 0) e in
    rw (add-one, take-suc xs k 0 l, is, ← add-one) (tail-in-places h x f)

pub rest-in-places : (k : ℕ) {x : ℕ} (xs rest : List ℕ) → drop k xs ≡ x ∷ rest → drop (k + 1) xs ≡ rest
rest-in-places k xs rest e = sym (drop-drop 1 k xs) ∙ ap (drop 1) e
