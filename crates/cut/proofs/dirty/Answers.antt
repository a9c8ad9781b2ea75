-- `cut::dirty` meets its contract. D is held by its places without the frame, which leaves room for it in E. Assumes nothing.
use Rattle.std.proofs.Common.{◌∙◌}
use Rattle.order.proofs.Places.{in-places-get_or, remove-in-places, as-promised}
use Rattle.pool.proofs.Form.{clean-in-places, dirty-in-places, dirty-frame}
use Rattle.cut.proofs.Drops.{room-by-dirty}
use Rattle.cut.proofs.dirty.Goals as goal

pub take_out-frame-requires : goal.take_out-frame-requires
take_out-frame-requires c = (c.requires.inside, (dirty-in-places _ c.requires.sound).fits)

pub vacate-requires : goal.vacate-requires
vacate-requires c =
    let u = c.requires in
    record { sound = u.sound; room = (rw c.take_out-frame.ensures.frame (dirty-frame _ u.sound _ u.inside), room-by-dirty _ u.sound u.inside) }

pub returns : goal.returns
returns c =
    let u = c.requires in
    let h = dirty-in-places _ u.sound in
    let t = c.take_out-frame.ensures in
    c.vacate.ensures _ _ _ (clean-in-places _ u.sound) (as-promised t.rest (remove-in-places h _ u.inside)) (t.frame ∙ in-places-get_or h _ u.inside)
