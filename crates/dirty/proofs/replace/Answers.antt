-- `dirty::replace` meets its contract. What `write_back` is handed is a part of `frames`, and that part is `page_of`. The rest is what `fetch` promises.
-- Assumes nothing.
use Rattle.std.proofs.Common.{rules}
use Rattle.pages.proofs.Pages.{page-is}
use Rattle.dirty.proofs.replace.Goals as goal

pub returns : goal.returns
returns c = search (rules, ← page-is)
