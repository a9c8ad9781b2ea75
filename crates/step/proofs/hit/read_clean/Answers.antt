-- `step::hit::read_clean` meets its contract. C is held by its places with the frame at the front, and the target is the one that `raise` gives for the
-- lengths. Assumes nothing.
use Rattle.std.proofs.Common.{arith}
use Rattle.order.proofs.Places.{in-places-get_or, front-in-places, as-promised}
use Rattle.model.specs.Target.{costs, up}
use Rattle.pool.proofs.Form.{clean-in-places, dirty-in-places, clean-frame}
use Rattle.step.proofs.Hits.{target-is}
use Rattle.step.proofs.hit.read_clean.Goals as goal

pub raise-target-requires : goal.raise-target-requires
raise-target-requires c =
    let s = c.requires.sound in
    (s.good.limits.b_high, s.good.target_high, omega (arith, c.requires.inside), (clean-in-places _ s).fits, (dirty-in-places _ s).fits)

pub bounds-clean-at : goal.bounds-clean-at
bounds-clean-at c = omega (arith, (clean-in-places _ c.requires.sound).fits)

pub move_to_front-requires : goal.move_to_front-requires
move_to_front-requires c = omega (arith, (clean-in-places _ c.requires.sound).fits)

pub hit-requires : goal.hit-requires
hit-requires c = let u = c.requires in record { sound = u.sound; frame_lt_frames = clean-frame _ u.sound _ u.inside }

pub returns : goal.returns
returns c =
    let u = c.requires in
    let h = clean-in-places _ u.sound in
    c.hit.ensures _ _ _ _ (as-promised c.move_to_front.ensures (front-in-places h _ u.inside)) (dirty-in-places _ u.sound)
    (target-is _ u.sound (up (costs c.args.drive.read c.args.drive.write)) c.raise-target.ensures) (in-places-get_or h _ u.inside)
