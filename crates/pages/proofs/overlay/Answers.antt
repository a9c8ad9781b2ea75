-- `pages::overlay` meets its contract. The stretch is lent as a part of `frames` and comes back as `bytes`, with the rest as it was, which
-- is `splice`. The stretch ends within its frame, so nothing wraps. Assumes nothing.
use Rattle.std.proofs.Common.{refl}
use Rattle.pages.proofs.Pages.{part-back}
use Rattle.pages.proofs.overlay.Goals as goal

pub returns : goal.returns
returns c = rw c.copy_from_slice.ensures.after (part-back _ _ _ _ refl)
