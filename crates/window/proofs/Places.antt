-- Laws of the places of one window: which of them hold 0, and their sum. Assumes nothing.
use mathlib.Core.Path.{◌≡◌, refl, ap}
use mathlib.Core.Bool.{true, not}
use mathlib.Core.List.{List, [], ◌∷◌}
use Prim.Native.Nat.{ℕ, zero, suc, ◌+◌, ◌*◌, ◌≤◌, ◌<◌, zero-le, suc-le-suc}
use native.Mathlib.Nat.{not-suc-le-zero, le_of_suc-le-suc}
use native.Mathlib.Omega.{arith}
use lib.Dec.{eqb}
use lib.ListN.{length, get_or, set, take, drop, replicate, get_or-eq_default}
use borrow.Author.Tests.{not-true, eqb-true, eqb-false, eq-eqb, ne_eqb}
use Rattle.model.specs.Times.{most_time}
use Rattle.model.proofs.Refusals.{and-both}
use Rattle.model.proofs.Limits.{both-and}
use Rattle.window.specs.Window.{sum_of, none_zero, all_zero}

-- ---- none or all of them 0, place by place

pub none_zero-means : (fill : ℕ) (ts : List ℕ) → fill ≤ length ts → none_zero (take fill ts) ≡ true → (i : ℕ) → i < fill → get_or ts i 0 ≡ 0 → ⊥
none_zero-means zero ts l e i h = absurd (not-suc-le-zero h)
none_zero-means (suc fill) [] l e i h = absurd (not-suc-le-zero l)
none_zero-means (suc fill) (t ∷ ts) l e zero h = eqb-false t 0 (not-true _ (and-both _ _ e).0)
none_zero-means (suc fill) (t ∷ ts) l e (suc i) h = none_zero-means fill ts (le_of_suc-le-suc l) (and-both (not (eqb t 0)) _ e).1 i (le_of_suc-le-suc h)

pub means-none_zero : (fill : ℕ) (ts : List ℕ) → ((i : ℕ) → i < fill → get_or ts i 0 ≡ 0 → ⊥) → none_zero (take fill ts) ≡ true
means-none_zero zero ts some = refl
means-none_zero (suc fill) [] some = refl
means-none_zero (suc fill) (t ∷ ts) some =
    both-and (ap not (ne_eqb t 0 (some 0 (omega arith)))) (means-none_zero fill ts (λ i h. some (suc i) (suc-le-suc h)))

pub all_zero-means : (fill : ℕ) (ts : List ℕ) → all_zero (drop fill ts) ≡ true → (i : ℕ) → fill ≤ i → get_or ts i 0 ≡ 0
all_zero-means fill [] e i h = refl
all_zero-means zero (t ∷ ts) e zero h = eqb-true t 0 (and-both _ _ e).0
all_zero-means zero (t ∷ ts) e (suc i) h = all_zero-means zero ts (and-both (eqb t 0) _ e).1 i zero-le
all_zero-means (suc fill) (t ∷ ts) e zero h = absurd (not-suc-le-zero h)
all_zero-means (suc fill) (t ∷ ts) e (suc i) h = all_zero-means fill ts e i (le_of_suc-le-suc h)

pub means-all_zero : (fill : ℕ) (ts : List ℕ) → ((i : ℕ) → fill ≤ i → get_or ts i 0 ≡ 0) → all_zero (drop fill ts) ≡ true
means-all_zero zero [] none = refl
means-all_zero (suc fill) [] none = refl
means-all_zero zero (t ∷ ts) none = both-and (eq-eqb t 0 (none 0 zero-le)) (means-all_zero zero ts (λ i h. none (suc i) zero-le))
means-all_zero (suc fill) (t ∷ ts) none = means-all_zero fill ts (λ i h. none (suc i) (suc-le-suc h))

-- ---- sums

pub sum-set : (ts : List ℕ) (i t : ℕ) → i < length ts → sum_of (set ts i t) + get_or ts i 0 ≡ sum_of ts + t
sum-set [] i t h = absurd (not-suc-le-zero h)
sum-set (a ∷ ts) zero t h = omega arith
sum-set (a ∷ ts) (suc i) t h = omega (arith, sum-set ts i t (le_of_suc-le-suc h))

-- filled places hold 1 or more each, the rest 0
pub sum-low : (fill : ℕ) (ts : List ℕ) → fill ≤ length ts → ((i : ℕ) → i < fill → get_or ts i 0 ≡ 0 → ⊥) → fill ≤ sum_of ts
sum-low zero ts l some = zero-le
sum-low (suc fill) [] l some = absurd (not-suc-le-zero l)
sum-low (suc fill) (t ∷ ts) l some =
    let z : t ≡ 0 → ⊥ = some 0 (omega arith) in
    omega (arith, sum-low fill ts (le_of_suc-le-suc l) (λ i h. some (suc i) (suc-le-suc h)))

pub sum-high : (fill : ℕ) (ts : List ℕ) → ((i : ℕ) → fill ≤ i → get_or ts i 0 ≡ 0) → ((i : ℕ) → get_or ts i 0 ≤ most_time) → sum_of ts ≤ fill * most_time
sum-high fill [] none most = zero-le
sum-high zero (t ∷ ts) none most = omega (arith, none 0 zero-le, sum-high zero ts (λ i h. none (suc i) zero-le) (λ i. most (suc i)))
sum-high (suc fill) (t ∷ ts) none most = omega (arith, most 0, sum-high fill ts (λ i h. none (suc i) (suc-le-suc h)) (λ i. most (suc i)))

-- so many times of 16 bits have no larger sum
pub sum-most : (ts : List ℕ) → ((i : ℕ) → get_or ts i 0 < 65536) → sum_of ts ≤ length ts * most_time
sum-most ts below = sum-high (length ts) ts (λ i h. get_or-eq_default ts 0 h) (λ i. omega (arith, below i))

-- ---- places that were never filled

pub zeros-zero : (n i : ℕ) → get_or {A = ℕ} (replicate n 0) i 0 ≡ 0
zeros-zero zero i = refl
zeros-zero (suc n) zero = refl
zeros-zero (suc n) (suc i) = zeros-zero n i

pub zeros-sum : (n : ℕ) → 0 ≡ sum_of (replicate n 0)
zeros-sum zero = refl
zeros-sum (suc n) = omega (arith, zeros-sum n)
