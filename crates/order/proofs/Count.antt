-- Laws of how often a number stands in a list.
--     bit-same, bit-other    the test of one element
--     count-append, count-cons, count-remove_at, count-move_to_front, count-other    a list put together and taken apart
--     count-alone, count-here, count-place, count-below    what stands in a list counts there, and what counts stands there
--     count-down_from-below, count-down_from-above    the numbers below b, each once
--     count-length-le, count-length, count-once    the pigeonhole: b numbers below b, none of them twice, are all of them
-- Assumes nothing.
use mathlib.Core.Path.{◌≡◌, refl, sym, subst, ◌∙◌}
use mathlib.Core.Logic.{dite, ◌≢◌, ⊎_elim}
use mathlib.Core.List.{List, [], ◌∷◌, ◌++◌}
use Prim.Native.Nat.{ℕ, zero, suc, ◌+◌, ◌≤◌, ◌<◌}
use native.Mathlib.Nat.{le_of_suc-le-suc, not-suc-le-zero, eq-or-lt_of_le}
use native.Mathlib.Decide.{dec_lt, ℕ_discrete}
use native.Mathlib.Omega.{arith}
use lib.ListN.{length, get_or}
use lib.Dec.{eqb}
use borrow.Author.Tests.{eq-eqb, ne_eqb}
use Rattle.order.specs.Count.{bit, count}
use Rattle.order.specs.Lists.{remove_at, move_to_front, down_from}
use Rattle.order.proofs.Lists.{remove_at-length, down_from-length}

pub bit-same : (f : ℕ) → bit (eqb f f) ≡ 1
bit-same f = rw (eq-eqb f f refl)

pub bit-other : (f g : ℕ) → f ≢ g → bit (eqb f g) ≡ 0
bit-other f g n = rw (ne_eqb f g n)

pub count-append : (f : ℕ) (xs ys : List ℕ) → count f (xs ++ ys) ≡ count f xs + count f ys
count-append f [] ys = omega arith
count-append f (x ∷ xs) ys = omega (arith, count-append f xs ys)

-- what counts in a list is its first, or one of the others
pub count-cons : (P : ℕ → Type 0) (x : ℕ) (xs : List ℕ) → P x → ((f : ℕ) → 1 ≤ count f xs → P f) → (f : ℕ) → 1 ≤ count f (x ∷ xs) → P f
count-cons P x xs first others f c = dite (ℕ_discrete x f) (λ e. rw e at first) (λ n. others f (omega (arith, bit-other x f n)))

-- ---- one place

pub count-remove_at : (f : ℕ) (xs : List ℕ) (i : ℕ) → i < length xs → bit (eqb (get_or xs i 0) f) + count f (remove_at i xs) ≡ count f xs
count-remove_at f [] i h = absurd (not-suc-le-zero h)
count-remove_at f (x ∷ xs) zero h = refl
count-remove_at f (x ∷ xs) (suc i) h = omega (arith, count-remove_at f xs i (le_of_suc-le-suc h))

pub count-move_to_front : (f : ℕ) (xs : List ℕ) (i : ℕ) → i < length xs → count f (move_to_front i xs) ≡ count f xs
count-move_to_front = count-remove_at

pub count-other : (f : ℕ) (xs : List ℕ) (i : ℕ) → i < length xs → get_or xs i 0 ≢ f → count f (remove_at i xs) ≡ count f xs
count-other f xs i h n = omega (arith, count-remove_at f xs i h, bit-other (get_or xs i 0) f n)

-- where two lists have a number once at the most, what stands at a place stands nowhere else
pub count-alone : (xs ys : List ℕ) → ((f : ℕ) → count f xs + count f ys ≤ 1) → (i : ℕ) → i < length xs
    → (count (get_or xs i 0) (remove_at i xs) ≡ 0) × (count (get_or xs i 0) ys ≡ 0)
count-alone xs ys once i h =
    let f : ℕ = get_or xs i 0 in
    let c = count-remove_at f xs i h in
    (omega (arith, c, bit-same f, once f), omega (arith, c, bit-same f, once f))

pub count-here : (xs : List ℕ) (i : ℕ) → i < length xs → 1 ≤ count (get_or xs i 0) xs
count-here xs i h = omega (arith, count-remove_at (get_or xs i 0) xs i h, bit-same (get_or xs i 0))

pub count-below : (b : ℕ) (xs : List ℕ) → ((f : ℕ) → b ≤ f → count f xs ≡ 0) → (i : ℕ) → i < length xs → get_or xs i 0 < b
count-below b xs past i h =
    dite (dec_lt (get_or xs i 0) b) (λ l. l)
    (λ n. let l : b ≤ get_or xs i 0 = omega arith in absurd (omega (arith, past (get_or xs i 0) l, count-here xs i h)))

-- a place of the list where f stands
pub record Stands (f : ℕ) (xs : List ℕ) : Type 0 where
  pub index : ℕ
  pub inside : index < length xs
  pub is : get_or xs index 0 ≡ f

pub count-place : (f : ℕ) (xs : List ℕ) → 1 ≤ count f xs → Stands f xs
count-place f [] h = absurd (not-suc-le-zero h)
count-place f (x ∷ xs) h =
    dite (ℕ_discrete x f)
    (λ e. record { index = 0; inside = omega arith; is = e })
    (λ n.
    let p = count-place f xs (omega (arith, bit-other x f n)) in
    record { index = suc p.index; inside = omega (arith, p.inside); is = p.is })

-- ---- the numbers below b

pub count-down_from-above : (b f : ℕ) → b ≤ f → count f (down_from b) ≡ 0
count-down_from-above zero f h = refl
count-down_from-above (suc b) f h = omega (arith, bit-other b f (λ e. omega arith), count-down_from-above b f (omega arith))

pub count-down_from-below : (b f : ℕ) → f < b → count f (down_from b) ≡ 1
count-down_from-below zero f h = absurd (not-suc-le-zero h)
count-down_from-below (suc b) f h =
    ⊎_elim
    (λ (e : f ≡ b).
    let here : bit (eqb b f) ≡ 1 = rw (eq-eqb b f (sym e)) in
    omega (arith, here, count-down_from-above b f (omega arith)))
    (λ (l : f < b). omega (arith, bit-other b f (λ e. omega arith), count-down_from-below b f l))
    (eq-or-lt_of_le (le_of_suc-le-suc h))

-- ---- the pigeonhole

-- where each number stands at least as often in ys as in xs, ys is at least as long: take each element of xs out of ys
pub count-length-le : (xs ys : List ℕ) → ((f : ℕ) → count f xs ≤ count f ys) → length xs ≤ length ys
count-length-le [] ys h = omega arith
count-length-le (x ∷ xs) ys h =
    let p = count-place x ys (omega (arith, h x, bit-same x)) in
    let rest : List ℕ = remove_at p.index ys in
    let less : (f : ℕ) → count f xs ≤ count f rest = λ f. omega (arith, h f, rw p.is at (count-remove_at f ys p.index p.inside)) in
    omega (arith, remove_at-length ys p.index p.inside, count-length-le xs rest less)

module _ (b : ℕ) (xs : List ℕ) where
  pub count-length : ((f : ℕ) → f < b → count f xs ≡ 1) → ((f : ℕ) → b ≤ f → count f xs ≡ 0) → length xs ≡ b
  count-length one past =
      omega (
        arith,
        down_from-length b,
        count-length-le xs (down_from b) (λ f. omega (arith, same f)),
        count-length-le (down_from b) xs (λ f. omega (arith, same f)),
      )
    where
      same : (f : ℕ) → count f xs ≡ count f (down_from b)
      same f =
          dite (dec_lt f b)
          (λ l. one f l ∙ sym (count-down_from-below b f l))
          (λ n. let l : b ≤ f = omega arith in past f l ∙ sym (count-down_from-above b f l))

  -- a number below b that stood nowhere could be put in front, and the list would be too long
  pub count-once : ((f : ℕ) → b ≤ f → count f xs ≡ 0) → ((f : ℕ) → f < b → count f xs ≤ 1) → length xs ≡ b
      → (f : ℕ) → f < b → count f xs ≡ 1
  count-once past most len f h =
      dite (dec_lt 0 (count f xs))
      (λ p. omega (arith, most f h))
      (λ n. absurd (omega (arith, count-length-le (f ∷ xs) (down_from b) (one-more (omega arith)), down_from-length b)))
    where
      others : (g : ℕ) → count g xs ≤ count g (down_from b)
      others g =
          dite (dec_lt g b)
          (λ l. omega (arith, most g l, count-down_from-below b g l))
          (λ n. omega (arith, past g (omega arith)))

      one-more : count f xs ≡ 0 → (g : ℕ) → count g (f ∷ xs) ≤ count g (down_from b)
      one-more z g =
          dite (ℕ_discrete f g)
          (λ e. subst (λ (k : ℕ). count k (f ∷ xs) ≤ count k (down_from b)) e (omega (arith, bit-same f, z, count-down_from-below b f h)))
          (λ n. omega (arith, bit-other f g n, others g))
