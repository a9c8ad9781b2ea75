-- `fine::drive` meets its contract: each cost by itself is the one in force, and both are such that a step can be reckoned with them. Assumes nothing.
use Rattle.fine.proofs.Serving.{found-in-force, found-payable}
use Rattle.fine.proofs.drive.Goals as goal

pub invariant_of-result : goal.invariant_of-result
invariant_of-result c =
    let k = found-payable c.args.pool.now c.requires.0 c.args.kept c.requires.1 _ _ c.in_force.ensures c.in_force-2.ensures in
    record { in_range = (k.r_low, k.r_high, k.w_high) }

pub returns : goal.returns
returns c = found-in-force c.args.pool.now c.requires.0 c.args.kept c.requires.1 _ _ c.in_force.ensures c.in_force-2.ensures
