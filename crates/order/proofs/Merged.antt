-- Laws of lists by falling numbers, and of their merge.
--     falls-once, falls-apart, falls-places, falls-remove_at, falls-same    numbers that fall down a list
--     merged-none, merged-first, merged-second, takes-first, takes-second    which frame a merge takes
--     takes-none, takes-only, takes-later, takes-inside, takes-outside    the same of lists in their places
--     rest-first, rest-second, rest-takes-first, rest-takes-second    and the merge of what is left of them
--     count-merged, merged-length, merged-before    a merge keeps every frame; where all of one list are later, that one stands first
--     merged-same    other numbers that are the same
--     falls-merged, merged-falls    numbers fall down a merge exactly when they fall down both lists and none stands in both
--     merging-first, merging-second, merging-end    a merge in its places
--     ordered-same, ordered-swap, ordered-later, ordered-once    two lists by falling numbers
--     ordered-remove_at, ordered-latest, ordered-merged, merged-ordered    and what a move or a merge makes of them
-- Assumes nothing.
use mathlib.Core.Path.{◌≡◌, refl, sym, ap, ◌∙◌}
use mathlib.Core.Logic.{◌≢◌, dite}
use mathlib.Core.Bool.{Bool, true, false, false≢true}
use mathlib.Core.List.{List, [], ◌∷◌, ◌++◌}
use Prim.Native.Nat.{ℕ, zero, suc, ◌+◌, ◌≤◌, ◌<◌}
use native.Mathlib.Nat.{le_of_suc-le-suc, not-suc-le-zero}
use native.Mathlib.Decide.{dec_lt, ℕ_discrete}
use native.Mathlib.Omega.{arith}
use lib.ListN.{length, get_or, set, take, drop}
use lib.Dec.{ltb}
use lib.Seq.{get_or-set_same, get_or-set_other, length-take-le, take_all}
use borrow.Author.Tests.{lt-ltb, le-ltb}
use Rattle.order.specs.Count.{count}
use Rattle.order.specs.Lists.{remove_at}
use Rattle.order.specs.Places.{places, InPlaces}
use Rattle.order.specs.Merge.{Under, Falls, merged, takes_first, Ordered}
use Rattle.order.proofs.Lists.{drop-take-next, drop-take-end}
use Rattle.order.proofs.Places.{turn-in-places, rest-in-places}
use Rattle.order.proofs.Count.{bit-same, bit-other, count-cons, count-remove_at, count-here}

module _ (reference : List ℕ) where
  abbrev number : ℕ → ℕ
  number f = get_or reference f 0

  -- ---- one list

  under-less : {n m : ℕ} (xs ys : List ℕ) → Under reference n ys → n ≤ m → ((f : ℕ) → count f xs ≤ count f ys) → Under reference m xs
  under-less xs ys u l few f c = omega (arith, u f (omega (arith, few f)))

  pub falls-once : (xs : List ℕ) → Falls reference xs → (f : ℕ) → count f xs ≤ 1
  falls-once [] h f = omega arith
  falls-once (x ∷ xs) h f =
      dite (ℕ_discrete x f)
      (λ e. dite (dec_lt 0 (count f xs)) (λ c. absurd (omega (arith, h.0 f c, ap number e))) (λ n. rw e (omega (arith, bit-same f))))
      (λ n. omega (arith, bit-other x f n, falls-once xs h.1 f))

  -- frames of one number are the same
  falls-apart : (xs : List ℕ) → Falls reference xs → (f g : ℕ) → 1 ≤ count f xs → 1 ≤ count g xs → number f ≡ number g → f ≡ g
  falls-apart [] h f g c d e = absurd (omega arith)
  falls-apart (x ∷ xs) h f g c d e =
      dite (ℕ_discrete x f)
      (λ a. dite (ℕ_discrete x g) (λ b. sym a ∙ b) (λ n. absurd (omega (arith, h.0 g (omega (arith, bit-other x g n)), ap number a))))
      (λ m.
      let k : 1 ≤ count f xs = omega (arith, bit-other x f m) in
      dite (ℕ_discrete x g) (λ b. absurd (omega (arith, h.0 f k, ap number b))) (λ n. falls-apart xs h.1 f g k (omega (arith, bit-other x g n)) e))

  -- what stands further down has the smaller number
  pub falls-places : (xs : List ℕ) → Falls reference xs → (i j : ℕ) → i < j → j < length xs → number (get_or xs j 0) < number (get_or xs i 0)
  falls-places [] h i j l k = absurd (not-suc-le-zero k)
  falls-places (x ∷ xs) h i zero l k = absurd (not-suc-le-zero l)
  falls-places (x ∷ xs) h zero (suc j) l k = h.0 (get_or xs j 0) (count-here xs j (le_of_suc-le-suc k))
  falls-places (x ∷ xs) h (suc i) (suc j) l k = falls-places xs h.1 i j (le_of_suc-le-suc l) (le_of_suc-le-suc k)

  falls-remove_at : (xs : List ℕ) (i : ℕ) → i < length xs → Falls reference xs → Falls reference (remove_at i xs)
  falls-remove_at [] i l h = tt
  falls-remove_at (x ∷ xs) zero l h = h.1
  falls-remove_at (x ∷ xs) (suc i) l h =
      let k = le_of_suc-le-suc l in
      (under-less (remove_at i xs) xs h.0 (omega arith) (λ f. omega (arith, count-remove_at f xs i k)), falls-remove_at xs i k h.1)

  -- ---- which frame a merge takes

  merged-none : (xs : List ℕ) → merged reference xs [] ≡ xs
  merged-none [] = refl
  merged-none (x ∷ xs) = refl

  merged-first : (x : ℕ) (xs : List ℕ) (y : ℕ) (ys : List ℕ) → number y < number x
      → merged reference (x ∷ xs) (y ∷ ys) ≡ x ∷ merged reference xs (y ∷ ys)
  merged-first x xs y ys h = rw (lt-ltb (number y) (number x) h)

  merged-second : (x : ℕ) (xs : List ℕ) (y : ℕ) (ys : List ℕ) → number x ≤ number y
      → merged reference (x ∷ xs) (y ∷ ys) ≡ y ∷ merged reference (x ∷ xs) ys
  merged-second x xs y ys h = rw (le-ltb (number y) (number x) h)

  -- the two ways of a merge: what is shown of both holds of it
  merged-by : (P : List ℕ → Type 0) (x : ℕ) (xs : List ℕ) (y : ℕ) (ys : List ℕ)
      → (number y < number x → P (x ∷ merged reference xs (y ∷ ys))) → (number x ≤ number y → P (y ∷ merged reference (x ∷ xs) ys))
      → P (merged reference (x ∷ xs) (y ∷ ys))
  merged-by P x xs y ys p q =
      dite (dec_lt (number y) (number x))
      (λ l. rw (merged-first x xs y ys l) (p l))
      (λ n. let l : number x ≤ number y = omega arith in rw (merged-second x xs y ys l) (q l))

  takes-first : {xs : List ℕ} (ys : List ℕ) {x : ℕ} {rest : List ℕ} → xs ≡ x ∷ rest → takes_first reference xs ys ≡ true
      → merged reference xs ys ≡ x ∷ merged reference rest ys
  takes-first ys {x} {rest} e = rw e (go ys)
    where
      go : (l : List ℕ) → takes_first reference (x ∷ rest) l ≡ true → merged reference (x ∷ rest) l ≡ x ∷ merged reference rest l
      go [] t = ap (λ (l : List ℕ). x ∷ l) (sym (merged-none rest))
      go (y ∷ l) t = rw t

  takes-second : (xs : List ℕ) {ys : List ℕ} {y : ℕ} {rest : List ℕ} → ys ≡ y ∷ rest → takes_first reference xs ys ≡ false
      → merged reference xs ys ≡ y ∷ merged reference xs rest
  takes-second xs {y = y} {rest} e = rw e (go xs)
    where
      go : (l : List ℕ) → takes_first reference l (y ∷ rest) ≡ false → merged reference l (y ∷ rest) ≡ y ∷ merged reference l rest
      go [] t = refl
      go (x ∷ l) t = rw t

  -- ---- two lists in their places, at i of m and at j of n

  module _ (first : List ℕ) (i m : ℕ) (second : List ℕ) (j n : ℕ) (lf : m ≤ length first) (ls : n ≤ length second) where
    abbrev takes : Bool
    takes = takes_first reference (drop i (take m first)) (drop j (take n second))

    pub takes-none : m ≤ i → takes ≡ false
    takes-none h = rw (drop-take-end first m i h)

    pub takes-only : i < m → n ≤ j → takes ≡ true
    takes-only h k = rw (drop-take-next first m i lf h, drop-take-end second n j k)

    pub takes-later : i < m → j < n → takes ≡ ltb (number (get_or second j 0)) (number (get_or first i 0))
    takes-later h k = rw (drop-take-next first m i lf h, drop-take-next second n j ls k)

    takes-inside : takes ≡ true → i < m
    takes-inside t = dite (dec_lt i m) (λ l. l) (λ k. absurd (false≢true (sym (takes-none (omega arith)) ∙ t)))

    takes-outside : takes ≡ false → i + j < m + n → j < n
    takes-outside t s = dite (dec_lt j n) (λ l. l) (λ k. absurd (false≢true (sym t ∙ takes-only (omega arith) (omega arith))))

    -- the merge of what is left of both

    abbrev rest : List ℕ
    rest = merged reference (drop i (take m first)) (drop j (take n second))

    pub rest-first : m ≤ i → rest ≡ drop j (take n second)
    rest-first h = rw (drop-take-end first m i h)

    pub rest-second : n ≤ j → rest ≡ drop i (take m first)
    rest-second h = rw (drop-take-end second n j h, merged-none)

    pub rest-takes-first : i < m → j < n → number (get_or second j 0) < number (get_or first i 0)
        → rest ≡ get_or first i 0 ∷ merged reference (drop (i + 1) (take m first)) (drop j (take n second))
    rest-takes-first h k l =
        takes-first (drop j (take n second)) (drop-take-next first m i lf h)
        (takes-later h k ∙ lt-ltb (number (get_or second j 0)) (number (get_or first i 0)) l)

    pub rest-takes-second : i < m → j < n → number (get_or first i 0) ≤ number (get_or second j 0)
        → rest ≡ get_or second j 0 ∷ merged reference (drop i (take m first)) (drop (j + 1) (take n second))
    rest-takes-second h k l =
        takes-second (drop i (take m first)) (drop-take-next second n j ls k)
        (takes-later h k ∙ le-ltb (number (get_or second j 0)) (number (get_or first i 0)) l)

  -- ---- what a merge keeps

  pub count-merged : (f : ℕ) (xs ys : List ℕ) → count f (merged reference xs ys) ≡ count f xs + count f ys
  count-merged f [] ys = omega arith
  count-merged f (x ∷ xs) [] = omega arith
  count-merged f (x ∷ xs) (y ∷ ys) =
      merged-by (λ l. count f l ≡ count f (x ∷ xs) + count f (y ∷ ys)) x xs y ys
      (λ l. omega (arith, count-merged f xs (y ∷ ys))) (λ l. omega (arith, count-merged f (x ∷ xs) ys))

  pub merged-length : (xs ys : List ℕ) → length (merged reference xs ys) ≡ length xs + length ys
  merged-length [] ys = omega arith
  merged-length (x ∷ xs) [] = omega arith
  merged-length (x ∷ xs) (y ∷ ys) =
      merged-by (λ l. length l ≡ length (x ∷ xs) + length (y ∷ ys)) x xs y ys
      (λ l. omega (arith, merged-length xs (y ∷ ys))) (λ l. omega (arith, merged-length (x ∷ xs) ys))

  pub merged-before : (xs ys : List ℕ) → ((f g : ℕ) → 1 ≤ count f xs → 1 ≤ count g ys → number g < number f) → merged reference xs ys ≡ xs ++ ys
  merged-before [] ys h = refl
  merged-before (x ∷ xs) [] h = ap (λ (l : List ℕ). x ∷ l) (sym (merged-none xs) ∙ merged-before xs [] (λ f g c d. absurd (omega arith)))
  merged-before (x ∷ xs) (y ∷ ys) h =
      merged-first x xs y ys (h x y (omega (arith, bit-same x)) (omega (arith, bit-same y)))
      ∙ ap (λ (l : List ℕ). x ∷ l) (merged-before xs (y ∷ ys) (λ f g c d. h f g (omega arith) d))

  -- ---- numbers fall down a merge

  abbrev Apart : List ℕ → List ℕ → Type 0
  Apart xs ys = (f g : ℕ) → 1 ≤ count f xs → 1 ≤ count g ys → number f ≢ number g

  under-merged : {n : ℕ} (xs ys : List ℕ) → Under reference n xs → Under reference n ys → Under reference n (merged reference xs ys)
  under-merged xs ys u v f c = dite (dec_lt 0 (count f xs)) (λ l. u f l) (λ n. v f (omega (arith, count-merged f xs ys)))

  -- a list that falls is under what is above its first
  under-first : {n : ℕ} (x : ℕ) (xs : List ℕ) → Falls reference (x ∷ xs) → number x < n → Under reference n (x ∷ xs)
  under-first {n} x xs h l = count-cons (λ f. number f < n) x xs l (under-less xs xs h.0 (omega arith) (λ f. omega arith))

  pub falls-merged : (xs ys : List ℕ) → Falls reference xs → Falls reference ys → Apart xs ys → Falls reference (merged reference xs ys)
  falls-merged [] ys a b p = b
  falls-merged (x ∷ xs) [] a b p = a
  falls-merged (x ∷ xs) (y ∷ ys) a b p =
      merged-by (Falls reference) x xs y ys
      (λ l. (under-merged xs (y ∷ ys) a.0 (under-first y ys b l), falls-merged xs (y ∷ ys) a.1 b (λ f g c d. p f g (omega arith) d)))
      (λ l.
      let n = p x y (omega (arith, bit-same x)) (omega (arith, bit-same y)) in
      let k : number x < number y = omega (arith, n) in
      (under-merged (x ∷ xs) ys (under-first x xs a k) b.0, falls-merged (x ∷ xs) ys a b.1 (λ f g c d. p f g c (omega arith))))

  pub merged-falls : (xs ys : List ℕ) → Falls reference (merged reference xs ys) → (Falls reference xs) × (Falls reference ys) × Apart xs ys
  merged-falls [] ys = λ h. (tt, h, λ f g c d. absurd (omega arith))
  merged-falls (x ∷ xs) [] = λ h. (h, tt, λ f g c d. absurd (omega arith))
  merged-falls (x ∷ xs) (y ∷ ys) =
      merged-by (λ l. Falls reference l → (Falls reference (x ∷ xs)) × (Falls reference (y ∷ ys)) × Apart (x ∷ xs) (y ∷ ys)) x xs y ys
      (λ l h.
      let r = merged-falls xs (y ∷ ys) h.1 in
      let u : (f : ℕ) → 1 ≤ count f xs + count f (y ∷ ys) → number f < number x = λ f c. h.0 f (omega (arith, count-merged f xs (y ∷ ys))) in (
        (λ f c. u f (omega arith), r.0),
        r.1,
        λ f g c d. count-cons (λ z. number z ≢ number g) x xs (λ e. omega (arith, u g (omega arith))) (λ z k. r.2 z g k d) f c,
      ))
      (λ l h.
      let r = merged-falls (x ∷ xs) ys h.1 in
      let u : (f : ℕ) → 1 ≤ count f (x ∷ xs) + count f ys → number f < number y = λ f c. h.0 f (omega (arith, count-merged f (x ∷ xs) ys)) in (
        r.0,
        (λ f c. u f (omega arith), r.1),
        λ f g c d. count-cons (λ z. number f ≢ number z) y ys (λ e. omega (arith, u f (omega arith))) (λ z k. r.2 f z c k) g d,
      ))

-- ---- a merge in its places

-- the places r hold the first frames of a merge, i of m and j of n; what is left of it is the merge of what is left of both lists
pub record Merging (reference first : List ℕ) (m : ℕ) (second : List ℕ) (n : ℕ) (r : List ℕ) (i j : ℕ) : Type 0 where
  pub inside_first : i ≤ m
  pub inside_second : j ≤ n
  pub there : InPlaces r (i + j) (take (i + j) (merged reference (take m first) (take n second)))
  pub left : drop (i + j) (merged reference (take m first) (take n second)) ≡ merged reference (drop i (take m first)) (drop j (take n second))

module _ (reference first : List ℕ) (m : ℕ) (second : List ℕ) (n : ℕ) (lf : m ≤ length first) (ls : n ≤ length second) (room : m + n ≤ places) where
  abbrev all : List ℕ
  all = merged reference (take m first) (take n second)

  all-length : length all ≡ m + n
  all-length = omega (arith, merged-length reference (take m first) (take n second), length-take-le m first lf, length-take-le n second ls)

  module _ {r : List ℕ} {i j : ℕ} (h : Merging reference first m second n r i j) (more : i + j < m + n) where
    pub merging-first : takes_first reference (drop i (take m first)) (drop j (take n second)) ≡ true
        → Merging reference first m second n (set r (i + j) (get_or first i 0)) (i + 1) j
    merging-first t =
        let l = takes-inside reference first i m second j n lf ls t in
        let e = h.left ∙ takes-first reference (drop j (take n second)) (drop-take-next first m i lf l) t in
        let k : i + 1 + j ≡ i + j + 1 = omega arith in
        record {
          inside_first = omega arith;
          inside_second = h.inside_second;
          there = rw k (turn-in-places all _ (omega (arith, all-length)) (omega arith) e h.there);
          left = rw k (rest-in-places (i + j) all _ e);
        }

    pub merging-second : takes_first reference (drop i (take m first)) (drop j (take n second)) ≡ false
        → Merging reference first m second n (set r (i + j) (get_or second j 0)) i (j + 1)
    merging-second t =
        let l = takes-outside reference first i m second j n lf ls t more in
        let e = h.left ∙ takes-second reference (drop i (take m first)) (drop-take-next second n j ls l) t in
        let k : i + (j + 1) ≡ i + j + 1 = omega arith in
        record {
          inside_first = h.inside_first;
          inside_second = omega arith;
          there = rw k (turn-in-places all _ (omega (arith, all-length)) (omega arith) e h.there);
          left = rw k (rest-in-places (i + j) all _ e);
        }

  pub merging-end : {r : List ℕ} {i j : ℕ} → Merging reference first m second n r i j → m + n ≤ i + j → InPlaces r (m + n) all
  merging-end {r} {i} {j} h l =
      let e : i + j ≡ m + n = omega (arith, h.inside_first, h.inside_second) in
      rw (e, take_all (m + n) all (omega (arith, all-length))) at h.there

-- ---- other numbers

pub merged-same : (reference other : List ℕ) → ((f : ℕ) → get_or other f 0 ≡ get_or reference f 0) → (xs ys : List ℕ)
    → merged other xs ys ≡ merged reference xs ys
merged-same reference other e [] ys = refl
merged-same reference other e (x ∷ xs) [] = refl
merged-same reference other e (x ∷ xs) (y ∷ ys) =
    rw (e x, e y, merged-same reference other e xs (y ∷ ys), merged-same reference other e (x ∷ xs) ys)

-- numbers that are the same for the frames of a list fall as before
falls-same : (reference other : List ℕ) (xs : List ℕ) → ((f : ℕ) → 1 ≤ count f xs → get_or other f 0 ≡ get_or reference f 0) → Falls reference xs
    → Falls other xs
falls-same reference other [] e h = tt
falls-same reference other (x ∷ xs) e h = (
  λ f c. omega (arith, h.0 f c, e f (omega arith), e x (omega (arith, bit-same x))),
  falls-same reference other xs (λ f c. e f (omega arith)) h.1,
)

-- ---- two lists by falling numbers

pub ordered-same : (reference other : List ℕ) (top : ℕ) (xs ys : List ℕ)
    → ((f : ℕ) → 1 ≤ count f xs + count f ys → get_or other f 0 ≡ get_or reference f 0)
    → Ordered reference top xs ys → Ordered other top xs ys
ordered-same reference other top xs ys e o =
    record {
      first_falls = falls-same reference other xs (λ f c. e f (omega arith)) o.first_falls;
      second_falls = falls-same reference other ys (λ f c. e f (omega arith)) o.second_falls;
      apart = λ f g c d k. o.apart f g c d (sym (e f (omega arith)) ∙ k ∙ e g (omega arith));
      low = λ f c. omega (arith, e f c, o.low f c);
      high = λ f c. omega (arith, e f c, o.high f c);
    }

module _ {reference : List ℕ} {top : ℕ} {xs ys : List ℕ} (o : Ordered reference top xs ys) where
  pub ordered-swap : Ordered reference top ys xs
  ordered-swap =
      record {
        first_falls = o.second_falls;
        second_falls = o.first_falls;
        apart = λ f g c d e. o.apart g f d c (sym e);
        low = λ f c. o.low f (omega arith);
        high = λ f c. o.high f (omega arith);
      }

  -- the top may be a later one
  pub ordered-later : (more : ℕ) → top ≤ more → Ordered reference more xs ys
  ordered-later more h =
      record {
        first_falls = o.first_falls;
        second_falls = o.second_falls;
        apart = o.apart;
        low = o.low;
        high = λ f c. omega (arith, o.high f c);
      }

  -- none twice
  pub ordered-once : (f g : ℕ) → 1 ≤ count f xs + count f ys → 1 ≤ count g xs + count g ys → get_or reference f 0 ≡ get_or reference g 0 → f ≡ g
  ordered-once f g c d =
      falls-apart reference (merged reference xs ys) (falls-merged reference xs ys o.first_falls o.second_falls o.apart) f g
      (omega (arith, count-merged reference f xs ys)) (omega (arith, count-merged reference g xs ys))

  pub ordered-remove_at : (i : ℕ) → i < length xs → Ordered reference top (remove_at i xs) ys
  ordered-remove_at i l =
      let less : (f : ℕ) → count f (remove_at i xs) ≤ count f xs = λ f. omega (arith, count-remove_at f xs i l) in
      record {
        first_falls = falls-remove_at reference xs i l o.first_falls;
        second_falls = o.second_falls;
        apart = λ f g c d. o.apart f g (omega (arith, less f)) d;
        low = λ f c. o.low f (omega (arith, less f));
        high = λ f c. o.high f (omega (arith, less f));
      }

  -- a frame of neither list is referenced, and goes to the front
  pub ordered-latest : (f : ℕ) → f < length reference → count f xs ≡ 0 → count f ys ≡ 0 → Ordered (set reference f (top + 1)) (top + 1) (f ∷ xs) ys
  ordered-latest f l a b =
      record {
        first_falls = (
          λ g c. omega (arith, here, o.high g (omega arith), off g (omega arith)),
          falls-same reference other xs (λ g c. off g (omega arith)) o.first_falls,
        );
        second_falls = falls-same reference other ys (λ g c. off g (omega arith)) o.second_falls;
        apart = λ g h c d.
            count-cons (λ z. get_or other z 0 ≢ get_or other h 0) f xs (λ e. omega (arith, here, o.high h (omega arith), off h (omega arith)))
            (λ z k e. o.apart z h k d (sym (off z (omega arith)) ∙ e ∙ off h (omega arith))) g c;
        low = λ g c. dite (dec_lt 0 (count g xs + count g ys)) (λ k. omega (arith, o.low g k, off g k)) (λ n. omega (arith, itself g c n));
        high = λ g c. dite (dec_lt 0 (count g xs + count g ys)) (λ k. omega (arith, o.high g k, off g k)) (λ n. omega (arith, itself g c n));
      }
    where
      other : List ℕ
      other = set reference f (top + 1)

      here : get_or other f 0 ≡ top + 1
      here = get_or-set_same reference f (top + 1) 0 l

      -- what stands in neither list is the frame
      itself : (g : ℕ) → 1 ≤ count g (f ∷ xs) + count g ys → (1 ≤ count g xs + count g ys → ⊥) → get_or other g 0 ≡ top + 1
      itself g c n = dite (ℕ_discrete f g) (λ e. rw (← e) here) (λ d. absurd (n (omega (arith, bit-other f g d))))

      off : (g : ℕ) → 1 ≤ count g xs + count g ys → get_or other g 0 ≡ get_or reference g 0
      off g c = get_or-set_other reference f g (top + 1) 0 (λ e. let z : count g xs + count g ys ≡ 0 = rw e (omega arith) in omega arith)

  pub ordered-merged : (more : ℕ) → top ≤ more → Ordered reference more (merged reference xs ys) []
  ordered-merged more l =
      record {
        first_falls = falls-merged reference xs ys o.first_falls o.second_falls o.apart;
        second_falls = tt;
        apart = λ f g c d. absurd (omega arith);
        low = λ f c. o.low f (omega (arith, count-merged reference f xs ys));
        high = λ f c. omega (arith, o.high f (omega (arith, count-merged reference f xs ys)));
      }

pub merged-ordered : (reference : List ℕ) (top : ℕ) (xs ys : List ℕ) → Ordered reference top (merged reference xs ys) [] → Ordered reference top xs ys
merged-ordered reference top xs ys o =
    let r = merged-falls reference xs ys o.first_falls in
    record {
      first_falls = r.0;
      second_falls = r.1;
      apart = r.2;
      low = λ f c. o.low f (omega (arith, count-merged reference f xs ys));
      high = λ f c. o.high f (omega (arith, count-merged reference f xs ys));
    }
