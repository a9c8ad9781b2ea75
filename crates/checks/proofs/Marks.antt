-- Laws of marks: after a list is marked there is a mark at each number of the list, and every other place is as it was.
--     marked-length, marked-append    how many marks there are, and one list marked after another
--     marked-here, marked-off    the mark at one place, by how often its number stands in the list
-- Assumes nothing.
use mathlib.Core.Path.{◌≡◌, refl, ◌∙◌}
use mathlib.Core.Logic.{dite}
use mathlib.Core.Bool.{Bool, true, false}
use mathlib.Core.List.{List, [], ◌∷◌, ◌++◌}
use Prim.Native.Nat.{ℕ, ◌≤◌, ◌<◌}
use native.Mathlib.Nat.{not-suc-le-zero}
use native.Mathlib.Decide.{dec_lt, ℕ_discrete}
use native.Mathlib.Omega.{arith}
use lib.ListN.{length, get_or, set, length-set}
use lib.Seq.{get_or-set_same, get_or-set_other}
use Rattle.order.specs.Count.{count}
use Rattle.order.proofs.Count.{bit-same, bit-other}
use Rattle.checks.specs.Tests.{marked}

pub marked-length : (fs : List ℕ) (marks : List Bool) → length (marked fs marks) ≡ length marks
marked-length [] marks = refl
marked-length (f ∷ fs) marks = marked-length fs (set marks f true) ∙ length-set marks f true

pub marked-append : (fs gs : List ℕ) (marks : List Bool) → marked (fs ++ gs) marks ≡ marked gs (marked fs marks)
marked-append [] gs marks = refl
marked-append (f ∷ fs) gs marks = marked-append fs gs (set marks f true)

pub marked-off : (f : ℕ) (fs : List ℕ) (marks : List Bool) → count f fs ≡ 0 → get_or (marked fs marks) f false ≡ get_or marks f false
marked-off f [] marks z = refl
marked-off f (g ∷ fs) marks z =
    dite (ℕ_discrete f g)
    (λ e. absurd (omega (arith, rw e at z, bit-same g)))
    (λ n. marked-off f fs (set marks g true) (omega arith) ∙ get_or-set_other marks g f true false n)

pub marked-here : (f : ℕ) (fs : List ℕ) (marks : List Bool) → 1 ≤ count f fs → f < length marks → get_or (marked fs marks) f false ≡ true
marked-here f [] marks c h = absurd (not-suc-le-zero c)
marked-here f (g ∷ fs) marks c h =
    dite (dec_lt 0 (count f fs))
    (λ p. marked-here f fs (set marks g true) p (rw length-set h))
    (λ n.
    dite (ℕ_discrete g f)
    (λ e. marked-off f fs (set marks g true) (omega arith) ∙ rw e (get_or-set_same marks f true false h))
    (λ d. absurd (omega (arith, bit-other g f d))))
