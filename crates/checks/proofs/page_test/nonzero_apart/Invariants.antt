-- `checks::page_test::nonzero_apart` meets its contract. The loop's invariant: the flag says whether the pages before place `i` stand apart, and each of
-- them has a mark at its remainder. So a page that meets no mark stands nowhere before `i`. Assumes nothing.
use Rattle.std.proofs.Common.{◌≡◌}
use Rattle.checks.specs.Tests.{nonzero_apart}
use Rattle.checks.proofs.Apart.{Knows}
use Rattle.checks.proofs.page_test.nonzero_apart.Given as goal

abbrev pub invariant-loop-i : goal.invariant-loop-i
invariant-loop-i l = (l.ok ≡ nonzero_apart l.page l.i) × Knows l.marks l.page l.i
