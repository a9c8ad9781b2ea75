-- `pool::Pool::lengths_right` meets its contract. Behind the first two tests the differences do not go below 0, and the third compares what is left.
-- Assumes nothing.
use Rattle.std.proofs.Common.{rules}
use Rattle.pool.proofs.Answers.{lengths-last}
use Rattle.pool.proofs.Pool.lengths_right.Goals as goal

pub returns : goal.returns
returns c =
    let p = c.args.self.now in
    lengths-last p.numbers.frames p.lists.empty.len p.lists.clean.len p.lists.dirty.len (search rules) (search rules)
