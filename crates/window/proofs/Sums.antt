-- Laws of the sum of times, and of the mark that says whether one of them is 0.
--     sum-next, marks-next    one turn of a loop that adds up and marks
--     sum-least    a time is at most the sum
--     sum-parts    a sum is that of the first times and that of the others
--     all_zero-sum  all are 0 just if their sum is
-- Assumes nothing.
use mathlib.Core.Path.{◌≡◌, refl}
use mathlib.Core.Bool.{not, ◌&&◌, and_assoc}
use mathlib.Core.Logic.{◌≢◌, dite}
use mathlib.Core.List.{List, [], ◌∷◌}
use Prim.Native.Nat.{ℕ, zero, suc, ◌+◌, ◌-◌, ◌*◌, ◌^◌, ◌≤◌, ◌<◌, zero-le}
use native.Mathlib.Decide.{ℕ_discrete, dec_le}
use native.Mathlib.Omega.{arith}
use lib.Bits.{bit_and, and_block, and_le_l, and_le_r}
use lib.Dec.{eqb, leb}
use lib.ListN.{length, get_or, take, drop}
use borrow.Author.Tests.{eq-eqb, ne_eqb, le-leb, lt-leb}
use Rattle.order.proofs.Lists.{drop-next}
use Rattle.model.specs.Times.{most_time}
use Rattle.window.specs.Window.{sum_of, none_zero, all_zero}

-- ---- the mark, which is the bit that is worth 65,536

-- both have it, so it stays
mark-stays : (m t : ℕ) → 65536 ≤ m → m < 131072 → 0 < t → t ≤ most_time → 65536 ≤ bit_and m (t + most_time)
mark-stays m t h k p q =
    let a : m ≡ 1 * 2 ^ 16 + (m - 65536) = omega arith in
    let b : t + most_time ≡ 1 * 2 ^ 16 + (t - 1) = omega arith in
    let e = and_block 16 1 1 (m - 65536) (t - 1) (omega arith) (omega arith) in
    rw (a, b, e) (omega arith)

-- what was marked stays so just if the time is not 0
mark-next : (m t : ℕ) → m < 131072 → t ≤ most_time → leb 65536 (bit_and m (t + most_time)) ≡ (leb 65536 m && not (eqb t 0))
mark-next m t k q =
    dite (dec_le 65536 m)
    (λ h. dite (ℕ_discrete t 0)
    (λ z. let l : bit_and m (t + most_time) < 65536 = omega (arith, and_le_r m (t + most_time)) in rw (lt-leb _ _ l, le-leb _ _ h, eq-eqb t 0 z))
    (λ z. let l = mark-stays m t h k (omega arith) q in rw (le-leb _ _ l, le-leb _ _ h, ne_eqb t 0 z)))
    (λ h.
    let a : m < 65536 = omega arith in
    let b : bit_and m (t + most_time) < 65536 = omega (arith, and_le_l m (t + most_time)) in
    rw (lt-leb _ _ a, lt-leb _ _ b))

-- ---- one time more

module _ (ts : List ℕ) (i : ℕ) (h : i < length ts) where
  pub sum-next : sum_of (drop i ts) ≡ get_or ts i 0 + sum_of (drop (i + 1) ts)
  sum-next = rw (drop-next ts i h)

  pub marks-next : (m : ℕ) → m < 131072 → get_or ts i 0 ≤ most_time
      → (leb 65536 (bit_and m (get_or ts i 0 + most_time)) && none_zero (drop (i + 1) ts)) ≡ (leb 65536 m && none_zero (drop i ts))
  marks-next m k q = rw (drop-next ts i h, mark-next m (get_or ts i 0) k q, and_assoc)

-- ---- sums

pub sum-least : (ts : List ℕ) (i : ℕ) → get_or ts i 0 ≤ sum_of ts
sum-least [] i = zero-le
sum-least (t ∷ ts) zero = omega arith
sum-least (t ∷ ts) (suc i) = omega (arith, sum-least ts i)

pub sum-parts : (k : ℕ) (ts : List ℕ) → sum_of ts ≡ sum_of (take k ts) + sum_of (drop k ts)
sum-parts zero ts = omega arith
sum-parts (suc k) [] = refl
sum-parts (suc k) (t ∷ ts) = omega (arith, sum-parts k ts)

pub all_zero-sum : (ts : List ℕ) → all_zero ts ≡ eqb (sum_of ts) 0
all_zero-sum [] = refl
all_zero-sum (t ∷ ts) =
    dite (ℕ_discrete t 0)
    (λ z. let e : t + sum_of ts ≡ sum_of ts = omega arith in rw (eq-eqb t 0 z, e) (all_zero-sum ts))
    (λ z. let d : t + sum_of ts ≢ 0 = λ e. z (omega arith) in rw (ne_eqb t 0 z, ne_eqb (t + sum_of ts) 0 d))
