-- `checks::tails::zeros` meets its contract. The loop's invariant: the flag says of the places so far what is asked of all. Assumes nothing.
use Rattle.std.proofs.Common.{◌≡◌, take, drop}
use Rattle.checks.specs.Tests.{every}
use Rattle.checks.proofs.tails.zeros.Given as goal

abbrev pub invariant-loop-i : goal.invariant-loop-i
invariant-loop-i g l = l.ok ≡ every (λ x. g.T.PartialEq.eq x g.T.Zero.ZERO) (drop l.from (take l.i l.list))
