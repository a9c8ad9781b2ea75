-- `step::hit::write_dirty` meets its contract: the target is the one that `lower` gives for the lengths. Assumes nothing.
use Rattle.std.proofs.Common.{◌∙◌, arith}
use Rattle.model.specs.State.{with_target}
use Rattle.model.specs.Target.{costs, down}
use Rattle.model.specs.Request.{read_dirty}
use Rattle.pool.specs.Pool.{state_of}
use Rattle.pool.proofs.Form.{clean-in-places, dirty-in-places}
use Rattle.step.specs.Step.{step_of}
use Rattle.step.proofs.Hits.{target-is}
use Rattle.step.proofs.hit.write_dirty.Goals as goal

pub lower-target-requires : goal.lower-target-requires
lower-target-requires c =
    let s = c.requires.sound in
    ((clean-in-places _ s).fits, omega (arith, c.requires.inside), (dirty-in-places _ s).fits)

pub returns : goal.returns
returns c =
    let a = c.args in
    let t = target-is _ c.requires.sound (down (costs a.drive.read a.drive.write)) c.lower-target.ensures in
    c.in_dirty.ensures ∙ (λ i. step_of (read_dirty (with_target (t i) (state_of a.pool)) a.at))
