-- `checks::frame_test::mark` meets its contract. The loop's invariant: the numbers so far are marked. Assumes nothing.
use Rattle.std.proofs.Common.{◌≡◌, take}
use Rattle.order.specs.Places.{listed}
use Rattle.checks.specs.Tests.{marked}
use Rattle.checks.proofs.frame_test.mark.Given as goal

abbrev pub invariant-loop-f : goal.invariant-loop-f
invariant-loop-f l = l.marks ≡ marked (take l.f-index (listed l.list)) l.initial.marks
