-- `checks::frame_test::both_low` meets its contract. The loop's invariant: the flag says of the places so far what is asked of all places of both lists. The
-- larger of two is at most `top` just if both are. Assumes nothing.
use Rattle.std.proofs.Common.{◌≡◌, ◌&&◌, length, take}
use Rattle.checks.specs.Tests.{every, is_at_most}
use Rattle.checks.proofs.frame_test.both_low.Given as goal

abbrev pub invariant-loop-x : goal.invariant-loop-x
invariant-loop-x l =
    l.ok ≡ (every (is_at_most l.top) (take (length l.yielded) l.c) && every (is_at_most l.top) (take (length l.yielded) l.d))
