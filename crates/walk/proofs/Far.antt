-- Laws of the walk along the pages where two may share a mark.
--     far-once    where each page met no mark or stands alone, none comes twice
-- Assumes nothing.
use mathlib.Core.Path.{◌≡◌, refl, sym, ap, ◌∙◌}
use mathlib.Core.Bool.{Bool, true, false}
use mathlib.Core.Logic.{◌≢◌, dite}
use mathlib.Core.List.{List, [], ◌∷◌}
use Prim.Native.Nat.{ℕ, zero, suc, ◌%◌, ◌≤◌}
use native.Mathlib.Decide.{ℕ_discrete}
use native.Mathlib.Omega.{arith}
use lib.ListN.{length, get_or, set, take, replicate, length-set}
use lib.Seq.{get_or-set_same, get_or-set_other, take_all}
use Rattle.order.specs.Count.{count}
use Rattle.order.specs.Places.{places}
use Rattle.order.proofs.Count.{bit-same, bit-other}
use Rattle.walk.specs.Walk.{Apart}

-- a page that does not stand alone met no mark wherever it came, so it came once at the most
apart-once : (page : List ℕ) (q : ℕ) → count q (take places page) ≢ 1 → (qs : List ℕ) (marks : List Bool) → Apart page qs marks → length marks ≡ 2048
    → (count q qs ≤ 1) × (get_or marks (q % 2048) false ≡ true → count q qs ≡ 0)
apart-once page q many [] marks h l = (omega arith, λ n. refl)
apart-once page q many (x ∷ qs) marks h l =
    let s : ℕ = x % 2048 in
    let ih = apart-once page q many qs (set marks s true) h.1 (length-set marks s true ∙ l) in
    dite (ℕ_discrete x q)
    (λ e.
    let t : s ≡ q % 2048 = ap (λ (n : ℕ). n % 2048) e in
    let here : get_or (set marks s true) (q % 2048) false ≡ true = rw t (get_or-set_same marks (q % 2048) true false (omega arith)) in
    let none : count q qs ≡ 0 = ih.1 here in
    (rw e (omega (arith, bit-same q)), λ n. absurd (many (rw e at (h.0 (rw t n))))))
    (λ d.
    let other = bit-other x q d in
    (omega (arith, other, ih.0), λ n. let z = ih.1 (stays s n) in omega (arith, other, z)))
  where
    stays : (s : ℕ) → get_or marks (q % 2048) false ≡ true → get_or (set marks s true) (q % 2048) false ≡ true
    stays s n =
        dite (ℕ_discrete s (q % 2048))
        (λ e. rw e (get_or-set_same marks (q % 2048) true false (omega arith)))
        (λ d. get_or-set_other marks s (q % 2048) true false (λ e. d (sym e)) ∙ n)

count-front : (q n : ℕ) (xs : List ℕ) → count q (take n xs) ≤ count q xs
count-front q zero xs = omega arith
count-front q (suc n) [] = omega arith
count-front q (suc n) (x ∷ xs) = omega (arith, count-front q n xs)

-- a page that stands once in all places comes no more often among the first b
pub far-once : (b : ℕ) (page : List ℕ) → length page ≡ places → Apart page (take b page) (replicate 2048 false) → (q : ℕ) → count q (take b page) ≤ 1
far-once b page l h q =
    dite (ℕ_discrete (count q (take places page)) 1)
    (λ e. omega (arith, count-front q b page, rw (take_all places page (omega arith)) at e))
    (λ n. (apart-once page q n (take b page) (replicate 2048 false) h refl).0)
