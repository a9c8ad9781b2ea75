-- `checks::frame_test::all_marked` meets its contract. The loop's invariant: the flag says of the marks so far what is asked of all. Assumes nothing.
use Rattle.std.proofs.Common.{◌≡◌, take}
use Rattle.checks.specs.Tests.{every}
use Rattle.checks.proofs.frame_test.all_marked.Given as goal

abbrev pub invariant-loop-m : goal.invariant-loop-m
invariant-loop-m l = l.ok ≡ every (λ m. m) (take l.m-index l.m-items)
