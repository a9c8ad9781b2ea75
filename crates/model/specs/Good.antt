-- When a state is one that a pool may hold.
-- Assumes nothing.
use Rattle.std.specs.Prelude.{◌≡◌, List, ℕ, ◌*◌, ◌≤◌, length, get_or}
use Rattle.order.specs.Count.{count}
use Rattle.order.specs.Merge.{Ordered}
use Rattle.model.specs.Numbers.{Limits, unit}
use Rattle.model.specs.Counts.{CountsIn}
use Rattle.model.specs.Frames.{Placed}
use Rattle.model.specs.State.{Lists, State, frames_of}

-- "A sound pool has falling numbers down each list, each 1 to served, none twice, 0 in empty frames."
pub record Numbered (b served : ℕ) (reference : List ℕ) (l : Lists) : Type 0 where
  -- there is a number for each frame
  pub each : length reference ≡ b
  pub ordered : Ordered reference served l.C l.D
  pub blank : (f : ℕ) → 1 ≤ count f l.E → get_or reference f 0 ≡ 0

pub record Good (s : State) : Type 0 where
  pub limits : Limits s.numbers
  -- every frame stands in exactly one of the three lists; the pages of those in C and D are below N, and apart
  pub placed : Placed s.numbers (frames_of s)
  pub numbered : Numbered s.numbers.b s.counts.served s.reference s.lists
  pub target_high : s.target ≤ s.numbers.b * unit
  pub counts : CountsIn s.numbers s.counts
