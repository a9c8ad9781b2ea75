-- The answers of `window::tally_of`, by the invariant that is argued in Invariants. Assumes nothing.
use Rattle.std.proofs.Common.{◌∙◌, ◌+◌, ◌≤◌, ◌<◌, arith, length, get_or}
use lib.Bits.{and_le_l}
use Rattle.model.specs.Times.{most_time}
use Rattle.window.proofs.Sums.{sum-next, marks-next}
use Rattle.window.proofs.Places.{sum-most}
use Rattle.window.proofs.tally_of.Goals as goal

pub overflow_add-sum : goal.overflow_add-sum
overflow_add-sum c =
    let ts = c.args.times.now in
    omega (arith, sum-next ts c.loop-time.time-index (omega arith), sum-most ts (λ k. (c.type_inv.times k).fits))

pub loop-time-preserved : goal.loop-time-preserved
loop-time-preserved c =
    let ts = c.args.times.now in
    let l = c.loop-time in
    let i = l.time-index in
    let h : i < length ts = omega arith in
    let t : get_or ts i 0 ≤ most_time = omega (arith, c.type_inv.times i) in
    record {
      sum = omega (arith, sum-next ts i h);
      low = omega (arith, and_le_l l.marks (c.from-time.result + most_time));
      marked = rw c.from-time.ensures (marks-next ts i h l.marks l.invariant.low t ∙ l.invariant.marked);
    }
