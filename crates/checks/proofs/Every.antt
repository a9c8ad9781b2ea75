-- Laws of a test of every element.
--     every-spoilt, every-kept, every-end    one turn of a loop that keeps in a flag whether all elements so far have passed
--     every-means, every-of    every element passes: place by place
--     every-front, every-both    the first elements, and the others too
-- Assumes nothing.
use mathlib.Core.Path.{◌≡◌, refl, sym, ◌∙◌}
use mathlib.Core.Bool.{Bool, true, false, ◌&&◌, and-true, and-false, and-eq-true_iff}
use mathlib.Core.List.{List, [], ◌∷◌}
use Prim.Native.Nat.{ℕ, zero, suc, ◌<◌}
use native.Mathlib.Nat.{le_of_suc-le-suc, not-suc-le-zero}
use native.Mathlib.Omega.{arith}
use lib.ListN.{length, get_or, take, drop}
use Rattle.checks.specs.Tests.{every}

module _ (t : ℕ → Bool) where
  module _ {xs : List ℕ} (ok all : Bool) where
    pub every-spoilt : {x : ℕ} {rest : List ℕ} → xs ≡ x ∷ rest → t x ≡ false → (ok && every t xs) ≡ all → false ≡ all
    every-spoilt e f k = sym (rw (e, f, and-false)) ∙ k

    pub every-kept : {x : ℕ} {rest : List ℕ} → xs ≡ x ∷ rest → t x ≡ true → (ok && every t xs) ≡ all → (ok && every t rest) ≡ all
    every-kept e f k = sym (rw (e, f)) ∙ k

    pub every-end : xs ≡ [] → (ok && every t xs) ≡ all → ok ≡ all
    every-end e k = sym (rw (e, and-true)) ∙ k

  pub every-means : (xs : List ℕ) → every t xs ≡ true → (i : ℕ) → i < length xs → t (get_or xs i 0) ≡ true
  every-means [] e i h = absurd (not-suc-le-zero h)
  every-means (x ∷ xs) e zero h = ((and-eq-true_iff (t x) (every t xs)).0 e).0
  every-means (x ∷ xs) e (suc i) h = every-means xs ((and-eq-true_iff (t x) (every t xs)).0 e).1 i (le_of_suc-le-suc h)

  pub every-of : (xs : List ℕ) → ((i : ℕ) → i < length xs → t (get_or xs i 0) ≡ true) → every t xs ≡ true
  every-of [] p = refl
  every-of (x ∷ xs) p = (and-eq-true_iff (t x) (every t xs)).1 (p 0 (omega arith), every-of xs (λ i h. p (suc i) (omega arith)))

  pub every-front : (n : ℕ) (xs : List ℕ) → every t xs ≡ true → every t (take n xs) ≡ true
  every-front zero xs e = refl
  every-front (suc n) [] e = refl
  every-front (suc n) (x ∷ xs) e =
      let a = (and-eq-true_iff (t x) (every t xs)).0 e in (and-eq-true_iff (t x) (every t (take n xs))).1 (a.0, every-front n xs a.1)

  pub every-both : (n : ℕ) (xs : List ℕ) → every t (take n xs) ≡ true → every t (drop n xs) ≡ true → every t xs ≡ true
  every-both zero xs e k = k
  every-both (suc n) [] e k = refl
  every-both (suc n) (x ∷ xs) e k =
      let a = (and-eq-true_iff (t x) (every t (take n xs))).0 e in (and-eq-true_iff (t x) (every t xs)).1 (a.0, every-both n xs a.1 k)
