-- `checks::page_test::count_in` meets its contract. The loop's invariant: what is counted is how often q stands so far, at most once a place, so that the
-- count does not wrap. Assumes nothing.
use Rattle.std.proofs.Common.{◌≡◌, ◌≤◌, take}
use Rattle.order.specs.Count.{count}
use Rattle.checks.proofs.page_test.count_in.Given as goal

abbrev pub invariant-loop-p : goal.invariant-loop-p
invariant-loop-p l = (l.n ≡ count l.q (take l.p-index l.p-items)) × (l.n ≤ l.p-index)
