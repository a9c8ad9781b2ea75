-- `order::stands_before` meets its contract. The loop's invariant: what was found is whether the page stands before the place that is reached.
-- Assumes nothing.
use Rattle.std.proofs.Common.{◌≡◌}
use Rattle.order.specs.Find.{has_before}
use Rattle.order.proofs.stands_before.Given as goal

abbrev pub invariant-loop-p : goal.invariant-loop-p
invariant-loop-p l = l.found ≡ has_before l.page l.p-index l.q
