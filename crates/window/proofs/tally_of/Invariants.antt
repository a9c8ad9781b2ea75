-- `window::tally_of` meets its contract. The loop's invariant: what is added up so far and what stands from place `time-index` on is all, so that the sum
-- is never larger than at the end, where 32,768 times of 65,535 are below 2 ^ 31; and that the mark is still there, and none from that place on is 0, together
-- say that none is. No bit stands above the mark. Assumes nothing.
use Rattle.std.proofs.Common.{◌≡◌, ◌&&◌, ◌+◌, ◌<◌, leb, drop}
use Rattle.window.specs.Window.{sum_of, none_zero}
use Rattle.window.proofs.tally_of.Given as goal

abbrev pub invariant-loop-time : goal.invariant-loop-time
invariant-loop-time l =
    let left = drop l.time-index l.times in
    record {
      sum : l.sum + sum_of left ≡ sum_of l.times;
      low : l.marks < 131072;
      marked : (leb 65536 l.marks && none_zero left) ≡ none_zero l.times;
    }
