-- The test of the pages is exact. Where every empty frame has page 0, one more frame may have it, so the frames with page 0 are counted against the
-- empty ones; no other page stands twice.
--     PagesTest, pages-test, test-pages    what the test finds out, and that right pages are those that pass it
--     blank-exact    frames of a list that all have 0
--     low-front, low-all    pages that are low, among the first b or among all, where the others are 0
--     empty-below, empty-in-places    the numbers of the list of empty frames are frames, and so they have a place
--     pages-decides    the answer of the four tests
-- Assumes nothing.
use mathlib.Core.Path.{◌≡◌, refl, sym, ap, ◌∙◌}
use mathlib.Core.Logic.{◌≢◌, dite}
use mathlib.Core.Bool.{Bool, true, false, ◌&&◌, and-eq-true_iff, cond as if-else}
use mathlib.Core.List.{List, [], ◌∷◌}
use Prim.Native.Nat.{ℕ, zero, suc, ◌+◌, ◌-◌, ◌≤◌, ◌<◌}
use native.Mathlib.Decide.{dec_lt, ℕ_discrete}
use native.Mathlib.Omega.{arith}
use lib.ListN.{length, get_or, take, drop}
use lib.Seq.{take-suc, take_all, get_or-take, length-take-le}
use lib.Dec.{eqb, leb}
use borrow.Author.Tests.{eqb-true, eq-eqb, ne_eqb, le-leb}
use Rattle.std.specs.List.{All}
use Rattle.std.proofs.lemmas.List.Elements.{All-from_get_or}
use Rattle.order.specs.Count.{bit, count}
use Rattle.order.specs.Lists.{down_from}
use Rattle.order.specs.Places.{places}
use Rattle.order.proofs.Count.{bit-other, count-append, count-down_from-below, count-down_from-above, count-below, count-length-le}
use Rattle.checks.specs.Tests.{every, is_zero, is_at_most, blank_all, nonzero_apart, EmptyRight, PagesRight, Decides}
use Rattle.checks.proofs.Every.{every-front, every-both}
use Rattle.checks.proofs.Apart.{nonzero_apart-means, nonzero_apart-of}
use Rattle.checks.proofs.Counting.{count-cons-le, count-more, keep, keep-in, keep-out}
use Rattle.checks.proofs.Decides.{decides-of}
use Rattle.checks.proofs.Exact.{Exact, exact-iff, exact-self, exact-and, exact-eqb, exact-leb, exact-every, exact-places}

-- ---- the frames with page 0

abbrev blanks : List ℕ → ℕ → List ℕ
blanks page b = keep (λ f. eqb (get_or page f 0) 0) (down_from b)

module _ (page : List ℕ) where
  blanks-length : (b : ℕ) → b ≤ length page → length (blanks page b) ≡ count 0 (take b page)
  blanks-length zero h = refl
  blanks-length (suc b) h =
      rw (take-suc page b 0 h, count-append 0 (take b page)) (go (eqb (get_or page b 0) 0) (blanks-length b (omega arith)))
    where
      go : (s : Bool) → length (blanks page b) ≡ count 0 (take b page)
          → length (if-else s (b ∷ blanks page b) (blanks page b)) ≡ count 0 (take b page) + (bit s + 0)
      go true ih = omega arith
      go false ih = omega arith

  blanks-here : (b f : ℕ) → f < b → get_or page f 0 ≡ 0 → count f (blanks page b) ≡ 1
  blanks-here b f h z = keep-in (λ g. eqb (get_or page g 0) 0) f (eq-eqb _ _ z) (down_from b) ∙ count-down_from-below b f h

  blanks-means : (b f : ℕ) → 1 ≤ count f (blanks page b) → (f < b) × (get_or page f 0 ≡ 0)
  blanks-means b f h =
      dite (ℕ_discrete (get_or page f 0) 0)
      (λ z.
      let c : count f (blanks page b) ≡ count f (down_from b) = keep-in (λ g. eqb (get_or page g 0) 0) f (eq-eqb _ _ z) (down_from b) in
      dite (dec_lt f b) (λ l. (l, z)) (λ n. absurd (omega (arith, count-down_from-above b f (omega arith)))))
      (λ n. absurd (omega (arith, keep-out (λ g. eqb (get_or page g 0) 0) f (ne_eqb _ _ n) (down_from b))))

-- ---- the test

-- of pages, and of any other numbers that frames have
pub blank-exact : (page E : List ℕ) → Exact (blank_all page E) ((f : ℕ) → 1 ≤ count f E → get_or page f 0 ≡ 0)
blank-exact page E = exact-every (λ f. exact-eqb (get_or page f 0) 0) E

pub record PagesTest (b N : ℕ) (E page : List ℕ) : Type 0 where
  pub low : every (is_at_most (N - 1)) (take b page) ≡ true
  pub blank : blank_all page E ≡ true
  pub few : count 0 (take b page) ≤ length E + 1
  pub apart : nonzero_apart page b ≡ true

module _ (b N : ℕ) (E page : List ℕ) (some : 1 ≤ N) (long : b ≤ length page) where
  low-exact : Exact (every (is_at_most (N - 1)) (take b page)) ((f : ℕ) → f < b → get_or page f 0 ≤ N - 1)
  low-exact = exact-places (is_at_most (N - 1)) page 0 b long (λ f. exact-leb (get_or page f 0) (N - 1))

  -- two more frames with page 0 than empty ones would be two frames that are not empty
  pub pages-test : PagesRight b N E page → PagesTest b N E page
  pages-test p =
      record {
        low = low-exact.test
            (λ f h. dite (dec_lt 0 (count f E)) (λ k. omega (arith, p.blank f k)) (λ n. omega (arith, p.inside f h (omega arith))));
        blank = (blank-exact page E).test p.blank;
        few = dite (dec_lt (length E + 1) (length (blanks page b))) (λ l. absurd (two l)) (λ n. omega (arith, blanks-length page b long));
        apart = nonzero_apart-of page b (λ f g h k e n. p.apart f g h k (full f n) (full g (λ z. n (e ∙ z))) e);
      }
    where
      full : (f : ℕ) → get_or page f 0 ≢ 0 → count f E ≡ 0
      full f n = dite (dec_lt 0 (count f E)) (λ k. absurd (n (p.blank f k))) (λ m. omega arith)

      two : length E + 1 < length (blanks page b) → ⊥
      two l =
          let x = count-more E (blanks page b) (omega arith) in
          let y = count-more (x.what ∷ E) (blanks page b) (omega arith) in
          let f = blanks-means page b x.what (omega (arith, x.more)) in
          let g = blanks-means page b y.what (omega (arith, y.more)) in
          let cx : count x.what E ≡ 0 = omega (arith, x.more, blanks-here page b x.what f.0 f.1) in
          let cy : bit (eqb x.what y.what) + count y.what E ≡ 0 = omega (arith, y.more, blanks-here page b y.what g.0 g.1) in
          let same : x.what ≡ y.what = p.apart x.what y.what f.0 g.0 cx (omega arith) (f.1 ∙ sym g.1) in
          omega (arith, ap bit (eq-eqb x.what y.what same))

  pub test-pages : EmptyRight b E → PagesTest b N E page → PagesRight b N E page
  test-pages right t =
      record {
        blank = blank;
        inside = λ f h c. omega (arith, low-exact.means t.low f h);
        apart = λ f g h k c d e.
            dite (ℕ_discrete (get_or page f 0) 0)
            (λ z. dite (ℕ_discrete f g) (λ s. s) (λ n. absurd (omega (arith, t.few, blanks-length page b long, more f g h k c d z (sym e ∙ z) n))))
            (λ n. nonzero_apart-means page b t.apart f g h k e n);
      }
    where
      blank : (f : ℕ) → 1 ≤ count f E → get_or page f 0 ≡ 0
      blank = (blank-exact page E).means t.blank

      within : (f : ℕ) → count f E ≤ count f (blanks page b)
      within f =
          dite (dec_lt f b)
          (λ l. dite (dec_lt 0 (count f E)) (λ k. omega (arith, right.once f, blanks-here page b f l (blank f k))) (λ n. omega arith))
          (λ n. omega (arith, right.others f (omega arith)))

      -- two frames with page 0 that are not empty
      more : (f g : ℕ) → f < b → g < b → count f E ≡ 0 → count g E ≡ 0 → get_or page f 0 ≡ 0 → get_or page g 0 ≡ 0 → f ≢ g
          → length E + 2 ≤ length (blanks page b)
      more f g h k c d y z n =
          let here : count f (blanks page b) ≡ 1 = blanks-here page b f h y in
          let there : count g (blanks page b) ≡ 1 = blanks-here page b g k z in
          omega (
            arith,
            count-length-le (f ∷ g ∷ E) (blanks page b)
                (count-cons-le f (g ∷ E) (blanks page b) (count-cons-le g E (blanks page b) within (omega arith))
                (omega (arith, bit-other g f (λ e. n (sym e))))),
          )

pub empty-below : (b : ℕ) (e : List ℕ) (en : ℕ) → en ≤ length e → EmptyRight b (take en e) → (k : ℕ) → k < en → get_or e k 0 < b
empty-below b e en l right k h =
    rw (get_or-take en e k 0 h) at (count-below b (take en e) right.others k (omega (arith, length-take-le en e l)))

pub empty-in-places : (b : ℕ) (E : List ℕ) → b ≤ places → EmptyRight b E → All (λ f. f < places) E
empty-in-places b E fits right = All-from_get_or (λ f. f < places) E 0 (λ k h. omega (arith, count-below b E right.others k h))

-- ---- low pages

module _ (b top : ℕ) (page : List ℕ) (l : length page ≡ places) where
  pub low-front : every (is_at_most top) (take places page) ≡ true → every (is_at_most top) (take b page) ≡ true
  low-front e = every-front (is_at_most top) b page (rw (take_all places page (omega arith)) at e)

  pub low-all : every is_zero (drop b page) ≡ true → every (is_at_most top) (take b page) ≡ true → every (is_at_most top) (take places page) ≡ true
  low-all z e = rw (take_all places page (omega arith)) (every-both (is_at_most top) b page e (zeros-low (drop b page) z))
    where
      zeros-low : (xs : List ℕ) → every is_zero xs ≡ true → every (is_at_most top) xs ≡ true
      zeros-low [] h = refl
      zeros-low (x ∷ xs) h =
          let a = (and-eq-true_iff (is_zero x) (every is_zero xs)).0 h in
          let zero_is : x ≡ 0 = eqb-true x 0 a.0 in
          (and-eq-true_iff (is_at_most top x) (every (is_at_most top) xs)).1 (le-leb x top (omega arith), zeros-low xs a.1)

-- the answer, where it is that of the four tests
pub pages-decides : (b N : ℕ) (E page : List ℕ) → 1 ≤ N → b ≤ places → length page ≡ places → EmptyRight b E
    → every is_zero (drop b page) ≡ true → (t : Bool)
    → t ≡ (every (is_at_most (N - 1)) (take places page) && blank_all page E && leb (count 0 (take b page)) (length E + 1) && nonzero_apart page b)
    → Decides t (PagesRight b N E page)
pages-decides b N E page some fits l right zeros t e =
    let long : b ≤ length page = omega arith in
    rw e
    (decides-of _
    (exact-iff
    (λ x.
    test-pages b N E page some long right
    (record { low = low-front b (N - 1) page l x.0.0.0; blank = x.0.0.1; few = omega (arith, x.0.1); apart = x.1 }))
    (λ p.
    let q = pages-test b N E page some long p in (((low-all b (N - 1) page l zeros q.low, q.blank), omega (arith, q.few)), q.apart))
    (exact-and (exact-and (exact-and (exact-self _) (exact-self _)) (exact-leb _ _)) (exact-self _))))
