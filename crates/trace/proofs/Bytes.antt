-- Laws of the numbers that are read from bytes. Assumes nothing.
use mathlib.Core.Path.{◌≡◌}
use mathlib.Core.List.{List}
use Prim.Native.Nat.{ℕ, ◌+◌, ◌-◌, ◌^◌, ◌<◌}
use native.Mathlib.Nat.{add-sub_cancel_left}
use native.Mathlib.Omega.{arith}
use borrow.Rule.Slice.PartMut.{mid_of}
use lib.ListN.{take, drop, length-take}
use lib.Seq.{drop-drop}
use Rattle.little.specs.Little.{number_of, AllBelow}
use Rattle.little.proofs.Laws.{all_below-drop, all_below-take, number_of-below}
use Rattle.trace.specs.Format.{number_at}

-- the part from `at` to `at + w` spells the number
pub number_at-part : (at w : ℕ) (s : List ℕ) → number_of (mid_of at (at + w - at) s) ≡ number_at at w s
unfolding number_at
number_at-part at w s = rw add-sub_cancel_left

pub number_at-below : (at w : ℕ) (s : List ℕ) → AllBelow 256 s → number_at at w s < 256 ^ w
unfolding number_at
number_at-below at w s b =
    number_of-below w (take w (drop at s)) (simp length-take (omega arith)) (all_below-take 256 w (drop at s) (all_below-drop 256 at s b))

-- a number is read alike from the part that starts at `at`
pub number_at-drop : (at k w : ℕ) (s : List ℕ) → number_at (at + k) w s ≡ number_at k w (drop at s)
unfolding number_at
number_at-drop at k w s = rw drop-drop
