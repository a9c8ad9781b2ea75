-- Places that hold a list, and 0 behind it. Assumes nothing.
use mathlib.Core.Path.{◌≡◌, refl, sym, ap, ◌∙◌}
use mathlib.Core.Bool.{true, and-eq-true_iff}
use mathlib.Core.List.{List, [], ◌∷◌}
use Prim.Native.Nat.{ℕ, zero, suc, ◌-◌, ◌≤◌}
use native.Mathlib.Omega.{arith}
use lib.ListN.{length, take, drop, replicate, length-drop, take-append-drop}
use lib.Seq.{length-take-le, drop_at}
use borrow.Author.Tests.{eqb-true}
use Rattle.order.specs.Places.{places, InPlaces}
use Rattle.checks.specs.Tests.{every, is_zero}

zeros-are : (xs : List ℕ) → every is_zero xs ≡ true → replicate (length xs) 0 ≡ xs
zeros-are [] e = refl
zeros-are (x ∷ xs) e = let a = (and-eq-true_iff _ _).0 e in rw (zeros-are xs a.1, eqb-true x 0 a.0)

zeros-pass : (n : ℕ) → every is_zero (replicate n 0) ≡ true
zeros-pass zero = refl
zeros-pass (suc n) = zeros-pass n

pub zeros-in-places : (list : List ℕ) (n : ℕ) → length list ≡ places → n ≤ places → every is_zero (drop n list) ≡ true → InPlaces list n (take n list)
zeros-in-places list n l h e =
    let k : length (take n list) ≡ n = length-take-le n list (omega arith) in
    let d : places - n ≡ length (drop n list) = simp length-drop (omega arith) in
    record { is = rw (k, d, zeros-are (drop n list) e) (sym (take-append-drop n list)); len = k; fits = h }

module _ {list : List ℕ} {n : ℕ} (h : InPlaces list n (take n list)) where
  pub in-places-zeros : every is_zero (drop n list) ≡ true
  in-places-zeros = rw (ap (drop n) h.is ∙ drop_at (take n list) _ n h.len) (zeros-pass (places - length (take n list)))
