-- Tests that are true exactly when something holds, and how they are put together.
--     exact-iff, exact-self    the same said in other words
--     exact-eqb, exact-leb, exact-ltb    two numbers
--     exact-and, exact-not, exact-where    tests of tests
--     exact-every_below, exact-every, exact-places    every number below n; every element of a list; every place of the first n
-- Assumes nothing.
use mathlib.Core.Path.{◌≡◌, refl}
use mathlib.Core.Bool.{Bool, true, false, not, ◌&&◌, ◌||◌, false≢true, and-eq-true_iff}
use mathlib.Core.Logic.{⊎_elim, dite}
use mathlib.Core.List.{List, [], ◌∷◌}
use Prim.Native.Nat.{ℕ, zero, suc, ◌≤◌, ◌<◌}
use native.Mathlib.Nat.{le_of_suc-le-suc, not-suc-le-zero, eq-or-lt_of_le, pos_of_ne-zero}
use native.Mathlib.Decide.{ℕ_discrete}
use native.Mathlib.Omega.{arith}
use lib.ListN.{length, get_or, take}
use lib.Seq.{length-take-le, get_or-take}
use lib.Dec.{eqb, leb, ltb}
use borrow.Author.Tests.{eqb-true, eq-eqb, ne_eqb, leb-true, le-leb, ltb-true, lt-ltb}
use Rattle.std.proofs.lemmas.List.{get_or_default}
use Rattle.std.proofs.lemmas.List.Sums.{AllPass-from_list_all, list_all-from_AllPass}
use Rattle.order.specs.Count.{count}
use Rattle.order.proofs.Count.{bit-same, count-cons}
use Rattle.checks.specs.Tests.{every, every_below}

-- t is true exactly when A holds
pub record Exact (t : Bool) (A : Type 0) : Type 0 where
  pub means : t ≡ true → A
  pub test : A → t ≡ true

pub exact-iff : {t : Bool} {A B : Type 0} → (A → B) → (B → A) → Exact t A → Exact t B
exact-iff f g a = record { means = λ e. f (a.means e); test = λ b. a.test (g b) }

pub exact-self : (t : Bool) → Exact t (t ≡ true)
exact-self t = record { means = λ e. e; test = λ e. e }

pub exact-and : {s t : Bool} {A B : Type 0} → Exact s A → Exact t B → Exact (s && t) (A × B)
exact-and {s} {t} a b =
    record {
      means = λ e. let x = (and-eq-true_iff s t).0 e in (a.means x.0, b.means x.1);
      test = λ x. (and-eq-true_iff s t).1 (a.test x.0, b.test x.1);
    }

pub exact-not : {t : Bool} {A : Type 0} → Exact t A → Exact (not t) (A → ⊥)
exact-not {t} {A} = go t
  where
    go : (t : Bool) → Exact t A → Exact (not t) (A → ⊥)
    go true a = record { means = λ e. absurd (false≢true e); test = λ n. absurd (n (a.means refl)) }
    go false a = record { means = λ e x. false≢true (a.test x); test = λ n. refl }

pub exact-eqb : (m n : ℕ) → Exact (eqb m n) (m ≡ n)
exact-eqb m n = record { means = eqb-true m n; test = eq-eqb m n }

pub exact-leb : (m n : ℕ) → Exact (leb m n) (m ≤ n)
exact-leb m n = record { means = leb-true m n; test = le-leb m n }

pub exact-ltb : (m n : ℕ) → Exact (ltb m n) (m < n)
exact-ltb m n = record { means = ltb-true m n; test = lt-ltb m n }

-- only where n is not 0
pub exact-where : (n : ℕ) {t : Bool} {A : Type 0} → Exact t A → Exact (eqb n 0 || t) (1 ≤ n → A)
exact-where n {t} {A} a =
    dite (ℕ_discrete n 0)
    (λ e. rw (eq-eqb n 0 e) (record { means = λ _ h. absurd (omega arith); test = λ _. refl }))
    (λ m. rw (ne_eqb n 0 m) (record { means = λ e _. a.means e; test = λ x. a.test (x (pos_of_ne-zero m)) }))

module _ {t : ℕ → Bool} {A : ℕ → Type 0} (d : (f : ℕ) → Exact (t f) (A f)) where
  pub exact-every_below : (n : ℕ) → Exact (every_below n t) ((f : ℕ) → f < n → A f)
  exact-every_below zero = record { means = λ e f h. absurd (not-suc-le-zero h); test = λ x. refl }
  exact-every_below (suc n) =
      exact-iff
      (λ x f h. ⊎_elim (λ (e : f ≡ n). rw e x.0) (λ l. x.1 f l) (eq-or-lt_of_le (le_of_suc-le-suc h)))
      (λ x. (x n (omega arith), λ f h. x f (omega arith)))
      (exact-and (d n) (exact-every_below n))

  pub exact-every : (xs : List ℕ) → Exact (every t xs) ((f : ℕ) → 1 ≤ count f xs → A f)
  exact-every [] = record { means = λ e f h. absurd (not-suc-le-zero h); test = λ x. refl }
  exact-every (x ∷ xs) =
      exact-iff
      (λ y. count-cons A x xs y.0 y.1)
      (λ y. (y x (omega (arith, bit-same x)), λ f h. y f (omega arith)))
      (exact-and (d x) (exact-every xs))

pub exact-places : {B : Type 0} (t : B → Bool) (xs : List B) (d : B) (n : ℕ) {A : ℕ → Type 0} → n ≤ length xs
    → ((i : ℕ) → Exact (t (get_or xs i d)) (A i)) → Exact (every t (take n xs)) ((i : ℕ) → i < n → A i)
exact-places t xs d n l a =
    let long : length (take n xs) ≡ n = length-take-le n xs l in
    record {
      means = λ e i h. (a i).means (rw (get_or-take n xs i d h) at (AllPass-from_list_all t (take n xs) e i d (omega arith)));
      test = λ x.
          list_all-from_AllPass t (take n xs)
          (λ i o h.
          let k : i < n = omega arith in
          rw (get_or_default (take n xs) i o d h, get_or-take n xs i d k) ((a i).test (x i k)));
    }
