-- `pages::copy_out` meets its contract. What is copied is a part of `frames`, and that part is `page_of`. Assumes nothing.
use Rattle.std.proofs.Common.{◌∙◌}
use Rattle.pages.proofs.Pages.{page-is}
use Rattle.pages.proofs.copy_out.Goals as goal

pub returns : goal.returns
returns c = c.copy_from_slice.ensures.after ∙ page-is _ _ _
