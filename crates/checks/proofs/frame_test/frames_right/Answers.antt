-- `checks::frame_test::frames_right` meets its contract. The three calls leave the marks of all the frames, one list after the other; as many numbers as
-- frames mark every frame only where each frame stands once. Assumes nothing.
use Rattle.std.proofs.Common.{arith, rules}
use Rattle.order.specs.Places.{listed}
use Rattle.checks.proofs.Frames.{frames-decides}
use Rattle.checks.proofs.frame_test.frames_right.Goals as goal

pub returns : goal.returns
returns c =
    let l = c.args.lists.now in
    let e = c.mark.ensures in
    let n = c.mark-2.ensures in
    let d = c.mark-3.ensures in
    frames-decides c.args.frames (listed l.empty) (listed l.clean) (listed l.dirty) (search rules) (omega (arith, e.length, n.length, d.length))
    _ _ _ e.marks n.marks d.marks _ c.all_marked.ensures
