-- `times::start` meets its contract, by the test of the lengths: refused, both windows are as they were; else every place of both is 0. Assumes nothing.
use Rattle.std.proofs.Common.{◌∙◌}
use Rattle.times.proofs.Reports.{start-refused, start-noted}
use Rattle.times.proofs.start.Goals as goal

pub returns-then-not-may_start : goal.returns-then-not-may_start
returns-then-not-may_start c =
    let r = c.refused in
    start-refused _ _ _ c.may_start.ensures r.result c.if-not-may_start.true (r.ensures.0 ∙ c.fresh.ensures)
    r.ensures.1

pub returns : goal.returns
returns c =
    let r = c.noted in
    start-noted _ _ _ c.may_start.ensures r.result c.if-not-may_start.false (r.ensures.0 ∙ c.fresh-2.ensures)
    r.ensures.1 c.clear.ensures c.clear-2.ensures
