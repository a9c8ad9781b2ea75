-- `step::hit::write_clean` meets its contract. C is held by its places without the frame, and D with it at the front: a frame in C leaves room in D.
-- Assumes nothing.
use Rattle.std.proofs.Common.{refl, ◌∙◌}
use Rattle.order.proofs.Places.{in-places-get_or, remove-in-places, cons-in-places, as-promised}
use Rattle.pool.proofs.Form.{clean-in-places, dirty-in-places, clean-frame}
use Rattle.step.proofs.Hits.{dirty-room}
use Rattle.step.proofs.hit.write_clean.Goals as goal

pub take_out-frame-requires : goal.take_out-frame-requires
take_out-frame-requires c = (c.requires.inside, (clean-in-places _ c.requires.sound).fits)

pub put_front-requires : goal.put_front-requires
put_front-requires c = let u = c.requires in dirty-room _ u.sound u.inside

pub hit-requires : goal.hit-requires
hit-requires c =
    let u = c.requires in
    record { sound = u.sound; frame_lt_frames = rw c.take_out-frame.ensures.frame (clean-frame _ u.sound _ u.inside) }

pub returns : goal.returns
returns c =
    let u = c.requires in
    let h = clean-in-places _ u.sound in
    let f = c.take_out-frame.ensures.frame ∙ in-places-get_or h _ u.inside in
    let d = cons-in-places (dirty-in-places _ u.sound) c.take_out-frame.result (dirty-room _ u.sound u.inside) in
    c.hit.ensures _ _ _ _ (as-promised c.take_out-frame.ensures.rest (remove-in-places h _ u.inside))
    (rw f at (as-promised c.put_front.ensures d)) refl f
