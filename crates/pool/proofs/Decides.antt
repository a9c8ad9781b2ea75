-- A test's answer and what it tells, and that `sound_test` says whether a pool is sound.
--     test-passed, test-refuted, decides-passed, decides-refuted    behind `if !test`
--     decides-of, decides-iff, decides-same    a test's answer
--     limits-decides    the numbers
--     in_places_test-exact, sound_test-exact, sound_test-decides    a list in its places, and the whole pool
-- Assumes nothing.
use mathlib.Core.Path.{◌≡◌, refl, sym}
use mathlib.Core.Bool.{Bool, ◌&&◌, or_assoc}
use mathlib.Core.Logic.{◌≢◌, dite}
use mathlib.Core.List.{List, [], ◌∷◌, ◌++◌}
use Prim.Native.Nat.{ℕ, ◌+◌, ◌*◌, ◌≤◌, ◌<◌}
use native.Mathlib.Decide.{dec_lt}
use native.Mathlib.Omega.{arith}
use lib.ListN.{length, take, drop}
use Rattle.order.specs.Count.{count}
use Rattle.order.specs.Places.{places, InPlaces}
use Rattle.order.specs.Merge.{Falls, Ordered}
use Rattle.order.proofs.Count.{count-append}
use Rattle.checks.specs.Tests.{Decides, every, is_zero, FramesRight}
use Rattle.checks.proofs.Counting.{count-three}
use Rattle.checks.proofs.Exact.{Exact, exact-iff, exact-self, exact-and, exact-not, exact-eqb, exact-leb, exact-ltb, exact-where, exact-every_below}
use Rattle.checks.proofs.Exact.{exact-every}
use Rattle.checks.proofs.Frames.{frames-below}
use Rattle.order.proofs.Places.{in-places-length}
use Rattle.checks.proofs.Zeros.{zeros-in-places, in-places-zeros}
use Rattle.checks.proofs.Decides.{decides-of}
use Rattle.model.specs.Numbers.{Numbers, unit, most_served, in_limits, Limits}
use Rattle.model.specs.State.{State, page_in, number_in, resident, standing, frames_of}
use Rattle.model.specs.Frames.{Blank}
use Rattle.model.specs.Good.{Numbered, Good}
use Rattle.model.proofs.Limits.{in_limits-limits, limits-in_limits}
use Rattle.model.proofs.Good.{standing-below}
use Rattle.pool.specs.Test.{CountsRight, frames_test, apart_test, falls_test, ordered_test, numbered_test, counts_test, good_test, blank_test, in_places_test}
use Rattle.pool.specs.Test.{sound_test}
use Rattle.pool.specs.Pool.{state_of, Sound}
use Rattle.pool.specs.declared.Pool.{Pool}
use Rattle.pool.proofs.Parts.{lists-whole, sound-lists}

-- ---- the numbers

limits-exact : (n : Numbers) → Exact (in_limits n) (Limits n)
limits-exact n = record { means = in_limits-limits n; test = limits-in_limits n }

pub limits-decides : (n : Numbers) (t : Bool) → t ≡ in_limits n → Decides t (Limits n)
limits-decides n t e = rw e (decides-of (in_limits n) (limits-exact n))

-- ---- the parts of the test

pub in_places_test-exact : (list : List ℕ) (n : ℕ) → Exact (in_places_test list n) (InPlaces list n (take n list))
in_places_test-exact list n =
    exact-iff
    (λ x. zeros-in-places list n x.0 x.1.0 x.1.1)
    (λ h. (in-places-length h, (h.fits, in-places-zeros h)))
    (exact-and (exact-eqb (length list) places) (exact-and (exact-leb n places) (exact-self (every is_zero (drop n list)))))

module _ (s : State) where
  frames_test-exact : Exact (frames_test s) (FramesRight s.numbers.b s.lists.E s.lists.C s.lists.D)
  frames_test-exact =
      exact-iff
      (λ x.
      record {
        once = x.0;
        others = λ f h. dite (dec_lt 0 (standing s.lists f)) (λ p. let l = x.1 f (omega (arith, all f)) in absurd (omega arith)) (λ n. omega arith);
      })
      (λ r. (r.once, λ f h. frames-below r f (omega (arith, all f))))
      (exact-and
      (exact-every_below (λ f. exact-eqb (standing s.lists f) 1) s.numbers.b)
      (exact-every (λ f. exact-ltb f s.numbers.b) (s.lists.E ++ (s.lists.C ++ s.lists.D))))
    where
      all : (f : ℕ) → count f (s.lists.E ++ (s.lists.C ++ s.lists.D)) ≡ standing s.lists f
      all f = count-three f s.lists.E s.lists.C s.lists.D

  counts_test-exact : Exact (counts_test s) (CountsRight s.numbers.b s.target s.counts.served s.counts.nR s.counts.nW)
  counts_test-exact =
      exact-iff
      (λ x. record { target_high = x.0; served_high = x.1.0; reads_high = x.1.1.0; writes_high = x.1.1.1 })
      (λ r. (r.target_high, (r.served_high, (r.reads_high, r.writes_high))))
      (exact-and (exact-leb s.target (s.numbers.b * unit))
      (exact-and (exact-leb s.counts.served most_served)
      (exact-and (exact-leb s.counts.nR s.counts.served) (exact-leb s.counts.nW (s.numbers.b * s.counts.served)))))

  apart_test-exact : (f g : ℕ) → Exact (apart_test s f g) (1 ≤ resident s.lists f → 1 ≤ resident s.lists g → page_in s f ≢ page_in s g)
  apart_test-exact f g =
      rw or_assoc (exact-where (resident s.lists f) (exact-where (resident s.lists g) (exact-not (exact-eqb (page_in s f) (page_in s g)))))

  falls_test-exact : (fs : List ℕ) → Exact (falls_test s fs) (Falls s.reference fs)
  falls_test-exact [] = record { means = λ e. tt; test = λ x. refl }
  falls_test-exact (f ∷ fs) = exact-and (exact-every (λ g. exact-ltb (number_in s g) (number_in s f)) fs) (falls_test-exact fs)

  ordered_test-exact : Exact (ordered_test s) (Ordered s.reference s.counts.served s.lists.C s.lists.D)
  ordered_test-exact =
      exact-iff
      (λ x.
      record {
        first_falls = x.0.0;
        second_falls = x.0.1;
        apart = λ f g c d. x.1.0 f c g d;
        low = λ f c. (x.1.1 f (omega (arith, both f))).0;
        high = λ f c. (x.1.1 f (omega (arith, both f))).1;
      })
      (λ o. (
        (o.first_falls, o.second_falls),
        (λ f c g d. o.apart f g c d, λ f c. (o.low f (omega (arith, both f)), o.high f (omega (arith, both f)))),
      ))
      (exact-and
      (exact-and (falls_test-exact s.lists.C) (falls_test-exact s.lists.D))
      (exact-and
      (exact-every (λ f. exact-every (λ g. exact-not (exact-eqb (number_in s f) (number_in s g))) s.lists.D) s.lists.C)
      (exact-every (λ f. exact-and (exact-leb 1 (number_in s f)) (exact-leb (number_in s f) s.counts.served)) (s.lists.C ++ s.lists.D))))
    where
      both : (f : ℕ) → count f (s.lists.C ++ s.lists.D) ≡ count f s.lists.C + count f s.lists.D
      both f = count-append f s.lists.C s.lists.D

  numbered_test-exact : Exact (numbered_test s) (Numbered s.numbers.b s.counts.served s.reference s.lists)
  numbered_test-exact =
      exact-iff
      (λ x. record { each = x.0; ordered = x.1.0; blank = x.1.1 })
      (λ n. (n.each, (n.ordered, n.blank)))
      (exact-and (exact-eqb (length s.reference) s.numbers.b)
      (exact-and ordered_test-exact (exact-every (λ f. exact-eqb (number_in s f) 0) s.lists.E)))

  good_test-exact : Exact (good_test s) (Good s)
  good_test-exact =
      exact-iff
      (λ x.
      let below : (f : ℕ) → 1 ≤ resident s.lists f → f < s.numbers.b = λ f h. frames-below x.1.0 f (omega arith) in
      record {
        limits = x.0;
        placed = record {
          once = x.1.0.once;
          others = x.1.0.others;
          paged = x.1.1.0.0;
          inside = λ f h. x.1.1.0.1.0 f (below f h) h;
          apart = λ f g h k e.
              dite (dec_lt g f) (λ l. absurd (x.1.1.0.1.1 f (below f h) g l h k e))
              (λ n. dite (dec_lt f g) (λ l. absurd (x.1.1.0.1.1 g (below g k) f l k h (sym e))) (λ m. omega arith));
        };
        numbered = x.1.1.1.0;
        target_high = x.1.1.1.1.target_high;
        counts = record { served_high = x.1.1.1.1.served_high; reads_high = x.1.1.1.1.reads_high; writes_high = x.1.1.1.1.writes_high };
      })
      (λ g. (
        g.limits,
        (
          record { once = g.placed.once; others = g.placed.others },
          (
            (g.placed.paged, (λ f l h. g.placed.inside f h, λ f l h n i k e. let m = g.placed.apart f h i k e in omega arith)),
            (
              g.numbered,
              let k = g.counts in
                  record { target_high = g.target_high; served_high = k.served_high; reads_high = k.reads_high; writes_high = k.writes_high },
            ),
          ),
        ),
      ))
      (exact-and (limits-exact s.numbers)
      (exact-and frames_test-exact
      (exact-and
      (exact-and (exact-eqb (length s.page) s.numbers.b)
      (exact-and
      (exact-every_below (λ f. exact-where (resident s.lists f) (exact-ltb (page_in s f) s.numbers.N)) s.numbers.b)
      (exact-every_below (λ f. exact-every_below (apart_test-exact f) f) s.numbers.b)))
      (exact-and numbered_test-exact counts_test-exact))))

  -- a frame that is empty stands in a list, and so is one of those that are tested
  blank_test-exact : Exact (good_test s && blank_test s) (Good s × Blank (frames_of s))
  blank_test-exact =
      exact-iff
      (λ x. (x.0, λ f h. x.1 f (standing-below s x.0 f (omega arith)) h))
      (λ x. (x.0, λ f l h. x.1 f h))
      (exact-and good_test-exact (exact-every_below (λ f. exact-where (count f s.lists.E) (exact-eqb (page_in s f) 0)) s.numbers.b))

-- ---- the whole

pub sound_test-exact : (p : Pool) → Exact (sound_test p) (Sound p)
unfolding sound_test
sound_test-exact p =
    exact-iff
    (λ x.
    record {
      good = x.1.0;
      blank = x.1.1;
      whole = lists-whole p (record { empty = x.0.0; clean = x.0.1.0; dirty = x.0.1.1.0; page = x.0.1.1.1.0; reference = x.0.1.1.1.1 });
    })
    (λ s. let h = sound-lists p s in ((h.empty, (h.clean, (h.dirty, (h.page, h.reference)))), (s.good, s.blank)))
    (exact-and
    (exact-and (in_places_test-exact p.lists.empty.places p.lists.empty.len)
    (exact-and (in_places_test-exact p.lists.clean.places p.lists.clean.len)
    (exact-and (in_places_test-exact p.lists.dirty.places p.lists.dirty.len)
    (exact-and (in_places_test-exact p.page p.numbers.frames) (in_places_test-exact p.reference p.numbers.frames)))))
    (blank_test-exact (state_of p)))

pub sound_test-decides : (p : Pool) → Decides (sound_test p) (Sound p)
sound_test-decides p = decides-of (sound_test p) (sound_test-exact p)
