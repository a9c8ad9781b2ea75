-- Laws of the test of frames and numbers together.
--     low-exact    the frames of two lists are below b
--     frames-in-places    frames below b have a place
--     empty-below, clean-below, dirty-below    where frames are right, those of all lists are below b
--     full-decides    where no frame is empty: frames of which none stands twice, and as many as there are, are all of them
--     standing-decides    where some are, and all frames stand once
-- Assumes nothing.
use mathlib.Core.Path.{◌≡◌}
use mathlib.Core.Bool.{Bool, true}
use mathlib.Core.Logic.{dite}
use mathlib.Core.List.{List, []}
use Prim.Native.Nat.{ℕ, ◌+◌, ◌-◌, ◌≤◌, ◌<◌}
use native.Mathlib.Decide.{dec_lt}
use native.Mathlib.Omega.{arith}
use lib.ListN.{length, get_or, take, drop}
use lib.Seq.{take_all}
use borrow.Author.Tests.{eqb-true, le-leb}
use Rattle.std.specs.List.{All}
use Rattle.std.proofs.lemmas.List.Elements.{All-from_get_or}
use Rattle.order.specs.Count.{count}
use Rattle.order.specs.Places.{places, listed}
use Rattle.order.specs.declared.FrameList.{FrameList}
use Rattle.order.specs.Merge.{merged, Ordered}
use Rattle.order.proofs.Count.{count-here, count-once}
use Rattle.order.proofs.Merged.{count-merged, merged-length, falls-once, falls-merged}
use Rattle.checks.specs.Tests.{Decides, every, is_zero, is_at_most, blank_all, FramesRight}
use Rattle.checks.proofs.Pages.{blank-exact}
use Rattle.checks.proofs.Every.{every-means, every-of, every-front, every-both}
use Rattle.checks.proofs.Exact.{Exact, exact-iff, exact-leb, exact-every}
use Rattle.checks.proofs.Frames.{frames-below}
use Rattle.checks.proofs.Decides.{decides-of, decides-iff}
use Rattle.recency.specs.Recency.{falls_from, StandingRight}
use Rattle.recency.proofs.Falling.{merge-exact}

-- ---- the frames of a list

abbrev pub Below : ℕ → List ℕ → Type 0
Below b xs = (f : ℕ) → 1 ≤ count f xs → f < b

pub frames-in-places : (b : ℕ) (xs : List ℕ) → b ≤ places → Below b xs → All (λ f. f < places) xs
frames-in-places b xs small h = All-from_get_or (λ f. f < places) xs 0 (λ i l. omega (arith, h (get_or xs i 0) (count-here xs i l)))

-- all places are at most b - 1, those behind the list since they are 0
pub low-exact : (b : ℕ) (l : FrameList) → 1 ≤ b → length l.places ≡ places → every is_zero (drop l.len l.places) ≡ true
    → Exact (every (is_at_most (b - 1)) (take places l.places)) (Below b (listed l))
low-exact b l some long z =
    rw (take_all places l.places (omega arith))
    (record {
      means = λ e f c. omega (arith, front.means (every-front (is_at_most (b - 1)) l.len l.places e) f c);
      test = λ h. every-both (is_at_most (b - 1)) l.len l.places (front.test (λ f c. omega (arith, h f c))) behind;
    })
  where
    front : Exact (every (is_at_most (b - 1)) (listed l)) ((f : ℕ) → 1 ≤ count f (listed l) → f ≤ b - 1)
    front = exact-every (λ f. exact-leb f (b - 1)) (listed l)

    behind : every (is_at_most (b - 1)) (drop l.len l.places) ≡ true
    behind = every-of (is_at_most (b - 1)) (drop l.len l.places)
        (λ i h. le-leb _ (b - 1) (omega (arith, eqb-true (get_or (drop l.len l.places) i 0) 0 (every-means is_zero (drop l.len l.places) z i h))))

-- right frames are below b
module _ {b : ℕ} {E C D : List ℕ} (r : FramesRight b E C D) where
  pub empty-below : Below b E
  empty-below f c = frames-below r f (omega arith)

  pub clean-below : Below b C
  clean-below f c = frames-below r f (omega arith)

  pub dirty-below : Below b D
  dirty-below f c = frames-below r f (omega arith)

-- ---- frames and numbers

module _ (b served : ℕ) (C D reference : List ℕ) where
  full-exact : length C + length D ≡ b → Below b C → Below b D → Exact (falls_from reference (served + 1) (merged reference C D))
      (StandingRight b served [] C D reference)
  full-exact sum hc hd =
      exact-iff
      (λ o.
      let once = count-once b (merged reference C D) (λ f l. omega (arith, past f l)) (λ f l. most o f) (omega (arith, merged-length reference C D)) in
      record {
        frames = record {
          once = λ f l. omega (arith, once f l, count-merged reference f C D);
          others = λ f l. omega (arith, past f l, count-merged reference f C D);
        };
        ordered = o;
        blank = λ f c. absurd (omega arith);
      })
      (λ s. s.ordered)
      (merge-exact reference served C D)
    where
      past : (f : ℕ) → b ≤ f → count f (merged reference C D) ≡ 0
      past f l =
          dite (dec_lt 0 (count f C)) (λ c. absurd (omega (arith, hc f c)))
          (λ n. dite (dec_lt 0 (count f D)) (λ c. absurd (omega (arith, hd f c))) (λ m. omega (arith, count-merged reference f C D)))

      most : Ordered reference served C D → (f : ℕ) → count f (merged reference C D) ≤ 1
      most o = falls-once reference (merged reference C D) (falls-merged reference C D o.first_falls o.second_falls o.apart)

  pub full-decides : (l : FrameList) → l.len ≡ 0 → length C + length D ≡ b → Below b C → Below b D
      → (t : Bool) → t ≡ falls_from reference (served + 1) (merged reference C D) → Decides t (StandingRight b served (listed l) C D reference)
  full-decides l z sum hc hd t x = rw (z, x) (decides-of _ (full-exact sum hc hd))

  pub standing-decides : (E : List ℕ) → FramesRight b E C D → blank_all reference E ≡ true
      → (t : Bool) → t ≡ falls_from reference (served + 1) (merged reference C D) → Decides t (StandingRight b served E C D reference)
  standing-decides E f n t x =
      decides-iff t (λ o. record { frames = f; ordered = o; blank = (blank-exact reference E).means n }) (λ s. s.ordered)
      (rw x (decides-of _ (merge-exact reference served C D)))
