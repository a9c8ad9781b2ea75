-- `step::hit::in_dirty` meets its contract. D is held by its places with the frame at the front, and the target is the given one. Assumes nothing.
use Rattle.std.proofs.Common.{refl, arith}
use Rattle.order.proofs.Places.{in-places-get_or, front-in-places, as-promised}
use Rattle.pool.proofs.Form.{clean-in-places, dirty-in-places, dirty-frame}
use Rattle.step.proofs.hit.in_dirty.Goals as goal

pub bounds-dirty-at : goal.bounds-dirty-at
bounds-dirty-at c = omega (arith, (dirty-in-places _ c.requires.sound).fits)

pub move_to_front-requires : goal.move_to_front-requires
move_to_front-requires c = omega (arith, (dirty-in-places _ c.requires.sound).fits)

pub hit-requires : goal.hit-requires
hit-requires c = let u = c.requires in record { sound = u.sound; frame_lt_frames = dirty-frame _ u.sound _ u.inside }

pub returns : goal.returns
returns c =
    let u = c.requires in
    let h = dirty-in-places _ u.sound in
    c.hit.ensures _ _ _ _ (clean-in-places _ u.sound) (as-promised c.move_to_front.ensures (front-in-places h _ u.inside))
    refl (in-places-get_or h _ u.inside)
