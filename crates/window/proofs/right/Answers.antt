-- `window::right` meets its contract. It asks what `window_right` asks, in the same order, but for two things: the places behind the fill hold 0 alone just if
-- their sum is 0, and then the sum of the filled places is that of all. Assumes nothing.
use Rattle.std.proofs.Common.{arith}
use Rattle.window.specs.Window.{window_right}
use Rattle.window.proofs.Sums.{sum-parts, all_zero-sum}
use Rattle.window.proofs.right.Goals as goal

pub returns-then-times-n : goal.returns-then-times-n
unfolding window_right
returns-then-times-n c = grind arith

pub returns-then-tally_of-eq0 : goal.returns-then-tally_of-eq0
unfolding window_right
returns-then-tally_of-eq0 c = grind (arith, sum-parts, all_zero-sum)

pub returns-else-tally_of-eq0 : goal.returns-else-tally_of-eq0
unfolding window_right
returns-else-tally_of-eq0 c = grind (arith, all_zero-sum)
