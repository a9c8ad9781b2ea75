-- `pages::fetch` meets its contract. What is copied is a part of `store`, and that part is `page_of`. The frame is lent as a part of `frames` and
-- comes back as those bytes, with the rest as it was, which is `with_page`. Assumes nothing.
use Rattle.std.proofs.Common.{rules}
use Rattle.pages.proofs.Pages.{page-is, page-back, page_of-length}
use Rattle.pages.proofs.fetch.Goals as goal

pub returns : goal.returns
returns c = rw (c.copy_from_slice.ensures.after, page-is) (page-back _ _ _ _ (page_of-length _ _ _ (search rules)))
