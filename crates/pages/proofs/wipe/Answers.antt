-- `pages::wipe` meets its contract. The page is lent as a part of `store`, which is as long as a page, and comes back as zeros, with the rest as it was,
-- which is `with_page`. Assumes nothing.
use Rattle.std.proofs.Common.{ap, ◌∙◌, length, replicate, rules}
use lib.ListN.{length-replicate}
use Rattle.pages.proofs.Pages.{page-is, page-back, page_of-length}
use Rattle.pages.proofs.wipe.Goals as goal

pub returns : goal.returns
returns c =
    let s = c.args in
    let l = ap length (page-is s.size s.page s.store.now) ∙ page_of-length s.size s.page s.store.now (search rules) in
    rw (c.fill.ensures.after (λ y e. e), l) (page-back s.size s.page s.store.now (replicate s.size 0) (length-replicate s.size 0))
