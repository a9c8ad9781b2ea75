-- Laws of `page_of` and `with_page`, for any page size, index and bytes.
-- Assumes nothing.
use mathlib.Core.Path.{◌≡◌, refl, ap}
use mathlib.Core.Logic.{◌≢◌, dite}
use mathlib.Core.List.{List}
use Prim.Native.Nat.{ℕ, ◌+◌, ◌-◌, ◌*◌, ◌≤◌, ◌<◌}
use native.Mathlib.Nat.{add-sub_cancel_left, suc-mul, mul-le-mul_right}
use native.Mathlib.Decide.{dec_lt}
use native.Mathlib.Omega.{arith}
use lib.ListN.{length, take, length-take}
use borrow.Rule.Slice.PartMut.{mid_of, put_mid}
use Rattle.pages.specs.Pages.{splice, page_of, with_page, InPages}
use Rattle.pages.proofs.Splice.{part-length, splice-length, splice-part-length, splice-here, splice-before, splice-after, splice-within}

-- ---- the bytes of a part that was lent and returned, and of a part that is read

pub part-back : (a n : ℕ) (xs ys : List ℕ) → length ys ≡ n → put_mid a (a + n - a) xs ys ≡ splice a ys xs
unfolding splice
part-back a n xs ys e = rw (add-sub_cancel_left, ← e)

pub page-back : (P p : ℕ) (xs ys : List ℕ) → length ys ≡ P → put_mid (p * P) (p * P + P - p * P) xs ys ≡ with_page P p ys xs
unfolding with_page
page-back P p xs ys e = part-back (p * P) P xs ys e

pub page-is : (P p : ℕ) (xs : List ℕ) → mid_of (p * P) (p * P + P - p * P) xs ≡ page_of P p xs
unfolding page_of
page-is P p xs = rw add-sub_cancel_left

-- ---- where pages lie

-- a page of N pages lies within them
pub page-in : (P p N n : ℕ) → n ≡ N * P → p < N → InPages P p n
page-in P p N n e h = rw (e, ← suc-mul) (mul-le-mul_right P h)

-- a page ends where a later one begins, or before
pages-apart : (P p q : ℕ) → p < q → InPages P p (q * P)
pages-apart P p q h = page-in P p q (q * P) refl h

-- ---- lengths

pub page_of-length : (P p : ℕ) (xs : List ℕ) → InPages P p (length xs) → length (page_of P p xs) ≡ P
unfolding page_of
page_of-length P p xs h = part-length (p * P) P xs h

-- also where it is not within the bytes
pub page_of-fits : (P p : ℕ) (xs : List ℕ) → length (page_of P p xs) ≤ P
unfolding page_of
page_of-fits P p xs = simp length-take (omega arith)

pub with_page-length : (P p : ℕ) (ys xs : List ℕ) → length ys ≡ P → InPages P p (length xs) → length (with_page P p ys xs) ≡ length xs
unfolding with_page
with_page-length P p ys xs e h = splice-length (p * P) ys xs (omega arith)

-- a page keeps its length when a stretch of it is replaced
pub splice-page_of-length : (P p at : ℕ) (ys xs : List ℕ) → at + length ys ≤ P → InPages P p (length xs) → length (splice at ys (page_of P p xs)) ≡ P
unfolding page_of
splice-page_of-length P p at ys xs h k = splice-part-length (p * P) P at ys xs h k

-- ---- the page just written is read back, and any other is as it was, be it within the bytes or not

pub page_of-same : (P p : ℕ) (ys xs : List ℕ) → length ys ≡ P → InPages P p (length xs) → page_of P p (with_page P p ys xs) ≡ ys
unfolding page_of with_page
page_of-same P p ys xs e h = rw e at (splice-here (p * P) ys xs (omega arith))

pub page_of-other : (P p q : ℕ) (ys xs : List ℕ) → length ys ≡ P → InPages P p (length xs) → q ≢ p → page_of P q (with_page P p ys xs) ≡ page_of P q xs
unfolding page_of with_page
page_of-other P p q ys xs e h n =
    dite (dec_lt q p)
    (λ l. splice-before (q * P) P (p * P) ys xs (pages-apart P q p l) (omega arith))
    (λ m. ap (take P) (splice-after (q * P) (p * P) ys xs (omega (arith, pages-apart P p q (omega arith))) (omega arith)))

-- ---- a stretch of a page is replaced, in the whole or in the page

pub with_page-overlay : (P p at : ℕ) (ys xs : List ℕ) → at + length ys ≤ P → InPages P p (length xs)
    → splice (p * P + at) ys xs ≡ with_page P p (splice at ys (page_of P p xs)) xs
unfolding with_page page_of
with_page-overlay P p at ys xs h k = splice-within (p * P) P at ys xs h k
