-- `fine::drop` meets its contract: the page lies within the store, and becomes zeros there. Assumes nothing.
use Rattle.std.proofs.Common.{length}
use Rattle.pages.proofs.Pages.{page-in}
use Rattle.fine.proofs.Serving.{drop-served}
use Rattle.fine.proofs.drop.Goals as goal

pub wipe-requires : goal.wipe-requires
wipe-requires c =
    let a = c.args in
    page-in a.pool.numbers.page_bytes a.page a.pool.numbers.pages (length a.store.now) c.requires.ready.0.store c.requires.ready.1

pub returns : goal.returns
returns c =
    let a = c.args in
    let lists = c.drop_lists in
    drop-served a.pool a.page a.frames.now a.store.now _ lists.result lists.ensures c.wipe.ensures
