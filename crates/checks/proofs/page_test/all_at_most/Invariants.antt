-- `checks::page_test::all_at_most` meets its contract. The loop's invariant: the flag says of the pages so far what is asked of all. Assumes nothing.
use Rattle.std.proofs.Common.{◌≡◌, take}
use Rattle.checks.specs.Tests.{every, is_at_most}
use Rattle.checks.proofs.page_test.all_at_most.Given as goal

abbrev pub invariant-loop-q : goal.invariant-loop-q
invariant-loop-q l = l.ok ≡ every (is_at_most l.top) (take l.q-index l.q-items)
