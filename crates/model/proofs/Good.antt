-- What follows from a good state: the frames of its lists are below b, each stands once, and their lengths add up to b. An opened state is good.
-- Assumes nothing.
use mathlib.Core.Path.{◌≡◌}
use mathlib.Core.Logic.{dite}
use mathlib.Core.List.{◌++◌}
use Prim.Native.Nat.{ℕ, ◌+◌, ◌≤◌, ◌<◌}
use native.Mathlib.Decide.{dec_lt}
use native.Mathlib.Omega.{arith}
use lib.ListN.{length, get_or, length-append, length-replicate, get_or-replicate}
use Rattle.order.proofs.Count.{count-append, count-here, count-down_from-below, count-down_from-above}
use Rattle.model.specs.Numbers.{Numbers, Limits}
use Rattle.model.specs.Frames.{Blank}
use Rattle.model.specs.State.{State, opened, standing, frames_of}
use Rattle.model.specs.Good.{Good}
use Rattle.model.proofs.Frames.{frame-below, frame-once, placed-length}
use Rattle.model.proofs.Numbered.{opened-numbered}

module _ (s : State) (g : Good s) where
  -- what stands in a list is a frame
  pub standing-below : (f : ℕ) → 1 ≤ standing s.lists f → f < s.numbers.b
  standing-below = frame-below s.numbers (frames_of s) g.placed

  pub E-below : (i : ℕ) → i < length s.lists.E → get_or s.lists.E i 0 < s.numbers.b
  E-below i h = standing-below _ (omega (arith, count-here s.lists.E i h))

  pub C-below : (i : ℕ) → i < length s.lists.C → get_or s.lists.C i 0 < s.numbers.b
  C-below i h = standing-below _ (omega (arith, count-here s.lists.C i h))

  pub D-below : (i : ℕ) → i < length s.lists.D → get_or s.lists.D i 0 < s.numbers.b
  D-below i h = standing-below _ (omega (arith, count-here s.lists.D i h))

  -- a frame stands once
  pub standing-once : (f : ℕ) → standing s.lists f ≤ 1
  standing-once = frame-once s.numbers (frames_of s) g.placed

  pub lengths-sum : length s.lists.E + (length s.lists.C + length s.lists.D) ≡ s.numbers.b
  lengths-sum =
      let l = placed-length s.numbers (frames_of s) g.placed (s.lists.E ++ (s.lists.C ++ s.lists.D))
      (λ f. omega (arith, count-append f s.lists.E (s.lists.C ++ s.lists.D), count-append f s.lists.C s.lists.D)) in
      omega (arith, simp length-append at l)

-- an opened state is good, and blank
pub opened-good : (n : Numbers) → Limits n → Good (opened n)
opened-good n l =
    record {
      limits = l;
      placed = record {
        once = λ f h. omega (arith, count-down_from-below n.b f h);
        others = λ f h. omega (arith, count-down_from-above n.b f h);
        paged = length-replicate n.b 0;
        inside = λ f h. absurd (omega arith);
        apart = λ f g h k e. absurd (omega arith);
      };
      numbered = opened-numbered n.b;
      target_high = omega arith;
      counts = record { served_high = omega arith; reads_high = omega arith; writes_high = omega arith };
    }

pub opened-blank : (n : Numbers) → Blank (frames_of (opened n))
opened-blank n f h =
    dite (dec_lt f n.b) (λ l. get_or-replicate n.b f 0 0 l) (λ m. absurd (omega (arith, count-down_from-above n.b f (omega arith))))
