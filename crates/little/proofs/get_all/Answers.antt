-- The answers of `little::get_all`, by the invariant that is argued in Invariants. Assumes nothing.
use Rattle.std.proofs.Common.{arith}
use Rattle.little.proofs.Turns.{get_all-turn, get_all-end}
use Rattle.little.proofs.get_all.Goals as goal

pub loop-i-preserved : goal.loop-i-preserved
loop-i-preserved c =
    let l = c.loop-i in
    get_all-turn c.args.width l.i _ _ l.xs c.args.bytes.now _ (omega arith) (omega arith) c.get.ensures l.invariant

pub returns : goal.returns
returns c =
    let l = c.loop-i in
    get_all-end c.args.width l.i _ l.xs _ _ (omega arith) (omega arith) l.invariant
