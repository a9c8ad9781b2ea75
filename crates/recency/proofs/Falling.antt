-- What the test of numbers that fall finds out: of a list, and of two by their merge (`merge-exact`).
-- Assumes nothing.
use mathlib.Core.List.{List, [], ◌∷◌}
use Prim.Native.Nat.{ℕ, ◌+◌, ◌≤◌, ◌<◌}
use native.Mathlib.Omega.{arith}
use lib.ListN.{get_or}
use Rattle.order.specs.Count.{count}
use Rattle.order.specs.Merge.{Under, Falls, merged, Ordered}
use Rattle.order.proofs.Count.{bit-same, count-cons}
use Rattle.order.proofs.Merged.{ordered-merged, merged-ordered}
use Rattle.checks.proofs.Exact.{Exact, exact-iff, exact-and, exact-ltb}
use Rattle.recency.specs.Recency.{falls_from}

module _ (reference : List ℕ) where
  abbrev number : ℕ → ℕ
  number f = get_or reference f 0

  -- numbers that fall from below n on, and end above 0
  record FallsIn (n : ℕ) (xs : List ℕ) : Type 0 where
    some : 0 < n
    under : Under reference n xs
    falls : Falls reference xs
    low : (f : ℕ) → 1 ≤ count f xs → 1 ≤ number f

  falls_from-exact : (n : ℕ) (xs : List ℕ) → Exact (falls_from reference n xs) (FallsIn n xs)
  falls_from-exact n [] =
      exact-iff
      (λ l. record { some = l; under = λ f c. absurd (omega arith); falls = tt; low = λ f c. absurd (omega arith) })
      (λ x. x.some)
      (exact-ltb 0 n)
  falls_from-exact n (x ∷ xs) =
      exact-iff
      (λ y.
      record {
        some = omega (arith, y.0);
        under = count-cons (λ f. number f < n) x xs y.0 (λ f c. omega (arith, y.0, y.1.under f c));
        falls = (y.1.under, y.1.falls);
        low = count-cons (λ f. 1 ≤ number f) x xs y.1.some y.1.low;
      })
      (λ y. (
        y.under x (omega (arith, bit-same x)),
        record { some = y.low x (omega (arith, bit-same x)); under = y.falls.0; falls = y.falls.1; low = λ f c. y.low f (omega arith) },
      ))
      (exact-and (exact-ltb (number x) n) (falls_from-exact (number x) xs))

  pub merge-exact : (top : ℕ) (xs ys : List ℕ) → Exact (falls_from reference (top + 1) (merged reference xs ys)) (Ordered reference top xs ys)
  merge-exact top xs ys =
      exact-iff
      (λ x.
      merged-ordered reference top xs ys
      (record {
        first_falls = x.falls;
        second_falls = tt;
        apart = λ f g c d. absurd (omega arith);
        low = λ f c. x.low f (omega arith);
        high = λ f c. omega (arith, x.under f (omega arith));
      }))
      (λ o.
      let m = ordered-merged o top (omega arith) in
      record { some = omega arith; under = λ f c. omega (arith, m.high f (omega arith)); falls = m.first_falls; low = λ f c. m.low f (omega arith) })
      (falls_from-exact (top + 1) (merged reference xs ys))
