-- What the test of frames and reference numbers computes, and what it finds out.
-- Assumes nothing.
use Rattle.std.specs.Prelude.{◌≡◌, Bool, ◌&&◌, List, [], ◌∷◌, ℕ, ◌≤◌, ltb, get_or}
use Rattle.order.specs.Count.{count}
use Rattle.order.specs.Merge.{Ordered}
use Rattle.checks.specs.Tests.{FramesRight}

-- the numbers of the frames of a list are each below the one before it, the first below `above`, and the last is above 0
abbrev pub falls_from : List ℕ → ℕ → List ℕ → Bool
falls_from reference above [] = ltb 0 above
falls_from reference above (f ∷ fs) = ltb (get_or reference f 0) above && falls_from reference (get_or reference f 0) fs

-- every frame stands in exactly one list, the numbers of C and D are in order, and an empty frame has number 0
pub record StandingRight (b served : ℕ) (E C D reference : List ℕ) : Type 0 where
  pub frames : FramesRight b E C D
  pub ordered : Ordered reference served C D
  pub blank : (f : ℕ) → 1 ≤ count f E → get_or reference f 0 ≡ 0
