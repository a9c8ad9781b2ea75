-- `checks::page_test::pages_right` meets its contract: its answer is that of the four tests, which right pages pass, and no others. Assumes nothing.
use Rattle.std.proofs.Common.{rules}
use Rattle.checks.proofs.Pages.{empty-in-places, pages-decides}
use Rattle.checks.proofs.page_test.pages_right.Goals as goal

pub all_blank-requires : goal.all_blank-requires
all_blank-requires c = empty-in-places c.args.frames c.args.empty.now c.requires.fit.0 c.requires.empty_right

pub returns-then-count_in-empty : goal.returns-then-count_in-empty
returns-then-count_in-empty c =
    let a = c.args in
    pages-decides a.frames a.pages a.empty.now a.page.now (search rules) (search rules) (search rules) c.requires.empty_right c.requires.tail_zero
    c.nonzero_apart.result (search rules)

pub returns-else-count_in-empty : goal.returns-else-count_in-empty
returns-else-count_in-empty c =
    let a = c.args in
    pages-decides a.frames a.pages a.empty.now a.page.now (search rules) (search rules) (search rules) c.requires.empty_right c.requires.tail_zero
    c.if-all_blank.value (search rules)
