-- The answer of `checks::page_test::count_in`, by the invariant that is argued in Invariants. Assumes nothing.
use Rattle.std.proofs.Common.{arith}
use Rattle.std.proofs.lemmas.Grind.{common_steps}
use Rattle.order.proofs.Count.{count-append}
use Rattle.checks.proofs.page_test.count_in.Goals as goal

pub loop-p-preserved : goal.loop-p-preserved
loop-p-preserved c =
    (grind (arith, common_steps, count-append), grind arith)
