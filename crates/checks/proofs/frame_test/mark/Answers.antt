-- The answer of `checks::frame_test::mark` that its invariant leaves: as many frames as the list says stand in its places. Assumes nothing.
use Rattle.std.proofs.Common.{arith, length-take-le}
use Rattle.checks.proofs.frame_test.mark.Goals as goal

pub returns-clause-length : goal.returns-clause-length
returns-clause-length c = length-take-le c.args.list.now.len c.args.list.now.places (omega arith)
