-- The answers of `little::put_all`, by the invariant that is argued in Invariants. Assumes nothing.
use Rattle.std.proofs.Common.{arith}
use Rattle.little.proofs.Turns.{put_all-turn, put_all-end}
use Rattle.little.proofs.put_all.Goals as goal

pub loop-i-preserved : goal.loop-i-preserved
loop-i-preserved c =
    let l = c.loop-i in
    put_all-turn c.args.width l.i l.out c.args.xs.now _ _ (omega arith) (omega arith) c.put.ensures l.invariant

pub returns : goal.returns
returns c =
    let l = c.loop-i in
    put_all-end c.args.width l.i l.out _ _ (omega arith) (omega arith) l.invariant
