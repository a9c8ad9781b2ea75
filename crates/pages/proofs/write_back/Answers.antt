-- `pages::write_back` meets its contract. The page is lent as a part of `store` and comes back as `frame`, with the rest as it was, which is `with_page`.
-- Assumes nothing.
use Rattle.std.proofs.Common.{rules}
use Rattle.pages.proofs.Pages.{page-back}
use Rattle.pages.proofs.write_back.Goals as goal

pub returns : goal.returns
returns c = rw c.copy_from_slice.ensures.after (page-back _ _ _ _ (search rules))
