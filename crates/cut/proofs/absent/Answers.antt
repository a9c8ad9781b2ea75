-- `cut::absent` meets its contract: no frame has the page, so only the counts change. Assumes nothing.
use Rattle.cut.proofs.Drops.{absent-is}
use Rattle.cut.proofs.absent.Goals as goal

pub returns : goal.returns
returns c = absent-is _ c.requires
