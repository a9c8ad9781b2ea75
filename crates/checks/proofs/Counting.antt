-- More laws of how often a number stands in a list.
--     count-three    three lists, one behind the other
--     count-cons-le    one element more, where a list counts less than another
--     count-more    the longer of two lists counts something more often
--     count-all    the pigeonhole: b numbers, every number below b among them, are the numbers below b, each once
--     keep-in, keep-out    the elements of a list that pass a test
-- Assumes nothing.
use mathlib.Core.Path.{subst, ◌≡◌, refl, sym, ap, ◌∙◌}
use mathlib.Core.Logic.{◌≢◌, dite}
use mathlib.Core.Bool.{Bool, true, false, false≢true, cond as if-else}
use mathlib.Core.List.{List, [], ◌∷◌, ◌++◌}
use Prim.Native.Nat.{ℕ, ◌+◌, ◌≤◌, ◌<◌}
use native.Mathlib.Nat.{not-suc-le-zero}
use native.Mathlib.Decide.{dec_lt, ℕ_discrete}
use native.Mathlib.Omega.{arith}
use lib.ListN.{length}
use Rattle.order.specs.Count.{count}
use Rattle.order.specs.Lists.{remove_at, down_from}
use Rattle.order.proofs.Lists.{remove_at-length, down_from-length}
use Rattle.order.proofs.Count.{bit-same, bit-other, count-append, count-remove_at, count-place, count-down_from-below, count-down_from-above, count-length-le}

pub count-three : (f : ℕ) (xs ys zs : List ℕ) → count f (xs ++ (ys ++ zs)) ≡ count f xs + (count f ys + count f zs)
count-three f xs ys zs = omega (arith, count-append f xs (ys ++ zs), count-append f ys zs)

-- ---- two lists compared

pub count-cons-le : (f : ℕ) (xs ys : List ℕ) → ((g : ℕ) → count g xs ≤ count g ys) → count f xs < count f ys
    → (g : ℕ) → count g (f ∷ xs) ≤ count g ys
count-cons-le f xs ys le more g =
    dite (ℕ_discrete f g) (λ e. subst (λ (k : ℕ). count k (f ∷ xs) ≤ count k ys) e (omega (arith, bit-same f))) (λ n. omega (arith, bit-other f g n, le g))

-- a number that stands more often in ys than in xs
pub record More (xs ys : List ℕ) : Type 0 where
  pub what : ℕ
  pub more : count what xs < count what ys

-- in the longer of two lists something stands more often: take each element of ys out of xs, until one is not there
pub count-more : (xs ys : List ℕ) → length xs < length ys → More xs ys
count-more xs [] h = absurd (not-suc-le-zero h)
count-more xs (y ∷ ys) h =
    dite (dec_lt 0 (count y xs))
    (λ p.
    let s = count-place y xs p in
    let m = count-more (remove_at s.index xs) ys (omega (arith, remove_at-length xs s.index s.inside)) in
    record { what = m.what; more = omega (arith, m.more, rw s.is at (count-remove_at m.what xs s.index s.inside)) })
    (λ n. record { what = y; more = omega (arith, bit-same y) })

-- a number that stood too often, or was not below b, could be put before those below b, and they would be too many
pub count-all : (b : ℕ) (xs : List ℕ) → length xs ≡ b → ((f : ℕ) → f < b → 1 ≤ count f xs) → (f : ℕ) → count f xs ≡ count f (down_from b)
count-all b xs len each f =
    dite (dec_lt (count f (down_from b)) (count f xs))
    (λ l. absurd (omega (arith, count-length-le (f ∷ down_from b) xs (count-cons-le f (down_from b) xs le l), down_from-length b)))
    (λ n. omega (arith, le f))
  where
    le : (g : ℕ) → count g (down_from b) ≤ count g xs
    le g =
        dite (dec_lt g b)
        (λ l. omega (arith, count-down_from-below b g l, each g l))
        (λ n. omega (arith, count-down_from-above b g (omega arith)))

-- ---- the elements of a list that pass

abbrev pub keep : (ℕ → Bool) → List ℕ → List ℕ
keep t [] = []
keep t (x ∷ xs) = if-else (t x) (x ∷ keep t xs) (keep t xs)

module _ (t : ℕ → Bool) (f : ℕ) where
  pub keep-in : t f ≡ true → (xs : List ℕ) → count f (keep t xs) ≡ count f xs
  keep-in e [] = refl
  keep-in e (x ∷ xs) = go (t x) (λ h q. false≢true (sym h ∙ ap t q ∙ e)) (keep-in e xs)
    where
      go : (s : Bool) → (s ≡ false → x ≢ f) → count f (keep t xs) ≡ count f xs
          → count f (if-else s (x ∷ keep t xs) (keep t xs)) ≡ count f (x ∷ xs)
      go true n ih = omega arith
      go false n ih = omega (arith, bit-other x f (n refl))

  pub keep-out : t f ≡ false → (xs : List ℕ) → count f (keep t xs) ≡ 0
  keep-out e [] = refl
  keep-out e (x ∷ xs) = go (t x) (λ h q. false≢true (sym e ∙ ap t (sym q) ∙ h)) (keep-out e xs)
    where
      go : (s : Bool) → (s ≡ true → x ≢ f) → count f (keep t xs) ≡ 0 → count f (if-else s (x ∷ keep t xs) (keep t xs)) ≡ 0
      go true n ih = omega (arith, bit-other x f (n refl))
      go false n ih = ih
