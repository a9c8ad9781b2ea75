-- Reference numbers stay right: the frame that a call references has the largest, and goes to a front; a merge keeps them in order; a frame that becomes empty
-- has none.
--     clean-latest, dirty-latest    a frame of neither list goes to the front of C or D
--     numbered-latest, numbered-flushed, numbered-vacated, numbered-later    the numbers after a request, a flush, a drop that empties a frame,
--         and one that does not
--     opened-numbered    an opened state has none
-- Assumes nothing.
use mathlib.Core.Path.{◌≡◌, sym, ◌∙◌, subst}
use mathlib.Core.Logic.{◌≢◌, dite}
use mathlib.Core.List.{List, [], ◌∷◌, ◌++◌}
use Prim.Native.Nat.{ℕ, ◌+◌, ◌≤◌, ◌<◌}
use native.Mathlib.Decide.{dec_lt, ℕ_discrete}
use native.Mathlib.Omega.{arith}
use lib.ListN.{length, get_or, set, replicate, length-set, length-replicate, get_or-replicate}
use lib.Seq.{get_or-set_same, get_or-set_other}
use Rattle.order.specs.Count.{count}
use Rattle.order.specs.Lists.{down_from}
use Rattle.order.specs.Merge.{merged, Ordered}
use Rattle.order.proofs.Count.{bit-other, count-append, count-down_from-above}
use Rattle.order.proofs.Merged.{ordered-same, ordered-swap, ordered-later, ordered-latest, ordered-merged}
use Rattle.model.specs.State.{Lists}
use Rattle.model.specs.Good.{Numbered}

module _ {reference : List ℕ} {served : ℕ} {C D : List ℕ} (o : Ordered reference served C D) (f : ℕ) (l : f < length reference)
    (not-clean : count f C ≡ 0) (not-dirty : count f D ≡ 0) where
  pub clean-latest : Ordered (set reference f (served + 1)) (served + 1) (f ∷ C) D
  clean-latest = ordered-latest o f l not-clean not-dirty

  pub dirty-latest : Ordered (set reference f (served + 1)) (served + 1) C (f ∷ D)
  dirty-latest = ordered-swap (ordered-latest (ordered-swap o) f l not-dirty not-clean)

module _ {b served : ℕ} {reference : List ℕ} {l : Lists} (n : Numbered b served reference l) where
  -- frame f is referenced, and is not empty then
  pub numbered-latest : (E C D : List ℕ) (f : ℕ) → ((h : ℕ) → 1 ≤ count h E → (f ≢ h) × (1 ≤ count h l.E))
      → Ordered (set reference f (served + 1)) (served + 1) C D → Numbered b (served + 1) (set reference f (served + 1)) (record { E = E; C = C; D = D })
  numbered-latest E C D f left o =
      record {
        each = length-set reference f (served + 1) ∙ n.each;
        ordered = o;
        blank = λ h c. get_or-set_other reference f h (served + 1) 0 (λ e. (left h c).0 (sym e)) ∙ n.blank h (left h c).1;
      }

  pub numbered-flushed : Numbered b (served + 1) reference (record { E = l.E; C = merged reference l.D l.C; D = [] })
  numbered-flushed = record { each = n.each; ordered = ordered-merged (ordered-swap n.ordered) (served + 1) (omega arith); blank = n.blank }

  -- frame f, which stands in neither of C and D then, becomes the tail of E
  pub numbered-vacated : (C D : List ℕ) (f : ℕ) → f < length reference → count f C + count f D ≡ 0 → Ordered reference served C D
      → Numbered b (served + 1) (set reference f 0) (record { E = l.E ++ (f ∷ []); C = C; D = D })
  numbered-vacated C D f inside out o =
      let off : (h : ℕ) → f ≢ h → get_or (set reference f 0) h 0 ≡ get_or reference h 0 = λ h m. get_or-set_other reference f h 0 0 (λ e. m (sym e)) in
      record {
        each = length-set reference f 0 ∙ n.each;
        ordered = ordered-same reference (set reference f 0) (served + 1) C D
            (λ h c. off h (λ e. let z : count h C + count h D ≡ 0 = subst (λ (g : ℕ). count g C + count g D ≡ 0) e out in omega arith))
            (ordered-later o (served + 1) (omega arith));
        blank = λ h c. dite (ℕ_discrete f h) (λ e. subst (λ (g : ℕ). get_or (set reference f 0) g 0 ≡ 0) e (get_or-set_same reference f 0 0 inside))
            (λ m. off h m ∙ n.blank h (omega (arith, count-append h l.E (f ∷ []), bit-other f h m)));
      }

  pub numbered-later : Numbered b (served + 1) reference l
  numbered-later = record { each = n.each; ordered = ordered-later n.ordered (served + 1) (omega arith); blank = n.blank }

pub opened-numbered : (b : ℕ) → Numbered b 0 (replicate b 0) (record { E = down_from b; C = []; D = [] })
opened-numbered b =
    record {
      each = length-replicate b 0;
      ordered = record {
        first_falls = tt;
        second_falls = tt;
        apart = λ f g c d. absurd (omega arith);
        low = λ f c. absurd (omega arith);
        high = λ f c. absurd (omega arith);
      };
      blank = λ f c. dite (dec_lt f b) (λ l. get_or-replicate b f 0 0 l) (λ m. absurd (omega (arith, count-down_from-above b f (omega arith))));
    }
