-- The answer of `walk::walk_near`, by the invariant that is argued in Invariants. Assumes nothing.
use Rattle.std.proofs.Common.{take}
use Rattle.order.proofs.Lists.{drop-next}
use Rattle.walk.proofs.Full.{turn-fresh}
use Rattle.walk.proofs.walk_near.Goals as goal

pub loop-q-preserved : goal.loop-q-preserved
loop-q-preserved c =
    let a = c.args in
    let l = c.loop-q in
    rw c.from-k.ensures (turn-fresh l.marks (drop-next (take a.n a.page.now) l.q-index c.loop-q-test.true) l.invariant)
