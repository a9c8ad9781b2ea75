-- The answers of `little::put`, by the invariant that is argued in Invariants. Assumes nothing.
use Rattle.std.proofs.Common.{arith}
use Rattle.little.proofs.Turns.{put-turn, put-end}
use Rattle.little.proofs.put.Goals as goal

pub loop-b-preserved : goal.loop-b-preserved
loop-b-preserved c =
    let l = c.loop-b in
    put-turn l.out _ _ l.b-index l.rest (omega arith) (omega arith) l.invariant

pub returns : goal.returns
returns c =
    let l = c.loop-b in
    put-end l.out _ _ l.b-index l.rest (omega arith) (omega arith) l.invariant
