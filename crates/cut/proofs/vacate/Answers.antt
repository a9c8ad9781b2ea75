-- `cut::vacate` meets its contract. E has room for the frame, which stands behind its last; the frame's page and number become 0, and the lists that the
-- places hold are those of the next state. Assumes nothing.
use Rattle.cut.proofs.Drops.{vacate-is}
use Rattle.cut.proofs.vacate.Goals as goal

pub returns : goal.returns
returns c = let u = c.requires in λ C D f. vacate-is _ u.sound u.room.0 u.room.1 c.push.ensures
