-- The answers of `little::get`, by the invariant that is argued in Invariants. Assumes nothing.
use Rattle.std.proofs.Common.{arith}
use Rattle.little.specs.Little.{AllBelow}
use Rattle.little.proofs.Turns.{get-turn, get-room, get-end}
use Rattle.little.proofs.get.Goals as goal

pub overflow_mul-r : goal.overflow_mul-r
unfolding AllBelow
overflow_mul-r c =
    omega (arith, get-room _ _ c.args.bytes.now _ _ (omega arith) (λ k. (c.type_inv.bytes k).fits) c.in-Some.ensures.steps c.loop-b.invariant)

pub overflow_add-r : goal.overflow_add-r
unfolding AllBelow
overflow_add-r c =
    omega (arith, get-room _ _ c.args.bytes.now _ _ (omega arith) (λ k. (c.type_inv.bytes k).fits) c.in-Some.ensures.steps c.loop-b.invariant)

pub loop-b-preserved : goal.loop-b-preserved
loop-b-preserved c = rw c.from.ensures (get-turn _ _ _ _ _ c.in-Some.ensures.steps c.loop-b.invariant)

pub returns : goal.returns
returns c = get-end _ _ _ c.in-None.ensures.steps.0 c.loop-b.invariant
