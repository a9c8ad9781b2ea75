-- `step::hit::hit` meets its contract. The lists that the places hold are those of the next state, the frame's number is that of the call, and all else is as
-- it was. Assumes nothing.
use Rattle.std.proofs.Common.{◌≤◌, ◌<◌, arith}
use Rattle.order.specs.Places.{places}
use Rattle.model.specs.Numbers.{most_served}
use Rattle.step.proofs.Hits.{hit-is}
use Rattle.step.proofs.hit.hit.Goals as goal
use Rattle.step.proofs.hit.hit.Goals.{Start}

-- the number is one of 32 bits, and the frame has a place
small : (c : Start) → (c.args.pool.served ≤ most_served) × (c.args.frame < places)
small c =
    let p = c.requires in
    (p.sound.good.counts.served_high, omega (arith, p.frame_lt_frames, p.sound.good.limits.b_high))

pub overflow_add-next : goal.overflow_add-next
overflow_add-next c = omega (arith, (small (goal.at.overflow_add-next c).Start).0)

pub overflow_cast-next : goal.overflow_cast-next
overflow_cast-next c = omega (arith, (small (goal.at.overflow_cast-next c).Start).0)

pub offset_bounds-next-f : goal.offset_bounds-next-f
offset_bounds-next-f c = omega (arith, (small (goal.at.offset_bounds-next-f c).Start).1)

pub bounds-next-f : goal.bounds-next-f
bounds-next-f c = (small (goal.at.bounds-next-f c).Start).1

pub returns : goal.returns
returns c = let p = c.requires in λ C D τ f. hit-is _ p.sound p.frame_lt_frames
