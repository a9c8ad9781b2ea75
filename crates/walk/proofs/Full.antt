-- Laws of the walk along the pages where each has a mark of its own, and of what either walk shows.
--     turn-fresh    one turn of the walk
--     near-once    where no page met a mark, none comes twice
--     low-place    the page of a frame, where all are low
--     once-right    where the pages are low and none comes twice, they are right
-- Assumes nothing.
use mathlib.Core.Path.{◌≡◌, refl, sym, ◌∙◌}
use mathlib.Core.Bool.{true, and-eq-true_iff}
use mathlib.Core.Logic.{◌≢◌, dite}
use mathlib.Core.List.{List, [], ◌∷◌}
use Prim.Native.Nat.{ℕ, zero, suc, ◌-◌, ◌≤◌, ◌<◌}
use native.Mathlib.Nat.{le_of_suc-le-suc, not-suc-le-zero}
use native.Mathlib.Decide.{dec_lt, ℕ_discrete}
use native.Mathlib.Omega.{arith}
use lib.ListN.{length, get_or, set, take, replicate, length-set}
use lib.Seq.{get_or-set_same, get_or-set_other, get_or-take, length-take-le}
use lib.Bits.{bit_or, or_add_and, and_le_l, and_le_r}
use lib.Dec.{eqb}
use borrow.Author.Tests.{eqb-true, eq-eqb}
use Rattle.order.specs.Count.{bit, count}
use Rattle.order.specs.Places.{places}
use Rattle.order.proofs.Count.{bit-same, bit-other, count-here}
use Rattle.checks.specs.Tests.{every, is_at_most, PagesRight}
use Rattle.checks.proofs.Exact.{exact-leb, exact-places}
use Rattle.walk.specs.Walk.{fresh}

-- ---- marks

-- a turn of the walk: the page q is next
pub turn-fresh : (marks : List ℕ) {xs rest : List ℕ} {q all : ℕ} {A : Type 0} → xs ≡ q ∷ rest → (all ≡ 0 → fresh xs marks ≡ true → A)
    → bit_or all (get_or marks q 0) ≡ 0 → fresh rest (set marks q 1) ≡ true → A
turn-fresh marks {rest = rest} {q = q} {all = all} e k z h =
    let m : ℕ = get_or marks q 0 in
    let new : m ≡ 0 = omega (arith, or_add_and all m, and_le_l all m) in
    k (omega (arith, or_add_and all m, and_le_r all m))
    (rw e ((and-eq-true_iff (eqb m 0) (fresh rest (set marks q 1))).1 (eq-eqb m 0 new, h)))

-- a number with a mark does not come, and any other comes once at the most
fresh-once : (qs marks : List ℕ) → fresh qs marks ≡ true → (q : ℕ) → q < length marks
    → (count q qs ≤ 1) × (get_or marks q 0 ≢ 0 → count q qs ≡ 0)
fresh-once [] marks h q l = (omega arith, λ n. refl)
fresh-once (x ∷ qs) marks h q l =
    let a = (and-eq-true_iff (eqb (get_or marks x 0) 0) (fresh qs (set marks x 1))).0 h in
    let ih = fresh-once qs (set marks x 1) a.1 q (rw length-set l) in
    dite (ℕ_discrete x q)
    (λ e.
    let here : get_or (set marks x 1) q 0 ≡ 1 = rw e (get_or-set_same marks q 1 0 l) in
    let none : count q qs ≡ 0 = ih.1 (λ z. omega arith) in
    (rw e (omega (arith, bit-same q)), λ n. absurd (n (rw (← e) (eqb-true (get_or marks x 0) 0 a.0)))))
    (λ d.
    let other : bit (eqb x q) ≡ 0 = bit-other x q d in
    let same : get_or (set marks x 1) q 0 ≡ get_or marks q 0 = get_or-set_other marks x q 1 0 (λ e. d (sym e)) in
    (omega (arith, ih.0), λ n. let z = ih.1 (λ y. n (sym same ∙ y)) in omega arith))

pub near-once : (qs : List ℕ) → fresh qs (replicate 1024 0) ≡ true → (q : ℕ) → q < 1024 → count q qs ≤ 1
near-once qs h q l = (fresh-once qs (replicate 1024 0) h q l).0

-- ---- right pages

pub low-place : (xs : List ℕ) (top : ℕ) → length xs ≡ places → every (is_at_most top) (take places xs) ≡ true → (i : ℕ) → i < places → get_or xs i 0 ≤ top
low-place xs top l e = (exact-places (is_at_most top) xs 0 places (omega arith) (λ i. exact-leb (get_or xs i 0) top)).means e

-- what stands at two places counts twice
count-two : (q : ℕ) (xs : List ℕ) (i j : ℕ) → i < j → j < length xs → get_or xs i 0 ≡ q → get_or xs j 0 ≡ q → 2 ≤ count q xs
count-two q [] i j h l a b = absurd (not-suc-le-zero l)
count-two q (x ∷ xs) i zero h l a b = absurd (not-suc-le-zero h)
count-two q (x ∷ xs) zero (suc j) h l a b =
    let one : 1 ≤ count q xs = rw b at (count-here xs j (le_of_suc-le-suc l)) in rw a (omega (arith, bit-same q))
count-two q (x ∷ xs) (suc i) (suc j) h l a b = omega (arith, count-two q xs i j (le_of_suc-le-suc h) (le_of_suc-le-suc l) a b)

module _ (b N : ℕ) (page : List ℕ) (small : b ≤ places) (some : 1 ≤ N) (l : length page ≡ places)
    (low : every (is_at_most (N - 1)) (take places page) ≡ true) (once : (f : ℕ) → f < b → count (get_or page f 0) (take b page) ≤ 1) where
  -- a page that two frames have comes twice
  never-two : (f g : ℕ) → f < g → g < b → get_or page f 0 ≡ get_or page g 0 → ⊥
  never-two f g h k e =
      let long = length-take-le b page (omega arith) in
      let first = get_or-take b page f 0 (omega arith) in
      omega (arith, once f (omega arith), count-two (get_or page f 0) (take b page) f g h (omega (arith, long)) first (get_or-take b page g 0 k ∙ sym e))

  pub once-right : PagesRight b N [] page
  once-right =
      record {
        blank = λ f h. absurd (not-suc-le-zero h);
        inside = λ f h z. omega (arith, low-place page (N - 1) l low f (omega arith));
        apart = λ f g h k y z e.
            dite (dec_lt f g) (λ m. absurd (never-two f g m k e))
            (λ n. dite (dec_lt g f) (λ m. absurd (never-two g f m h (sym e))) (λ o. omega arith));
      }
