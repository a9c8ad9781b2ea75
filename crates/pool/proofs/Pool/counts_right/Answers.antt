-- `pool::Pool::counts_right` meets its contract. The bounds on frames and served calls keep both products small; each answer no names a bound that is
-- passed, and the last test is the one bound that is left. Assumes nothing.
use Rattle.std.proofs.Common.{rules}
use Rattle.order.specs.Places.{places}
use Rattle.pages.proofs.Memory.{product-fits}
use Rattle.model.specs.Numbers.{most_served}
use Rattle.pool.proofs.Answers.{counts-last}
use Rattle.pool.proofs.Pool.counts_right.Goals as goal

pub overflow_mul-result : goal.overflow_mul-result
overflow_mul-result c = product-fits places most_served (search rules) (search rules) tt

pub returns : goal.returns
returns c =
    let p = c.args.self.now in
    counts-last p.numbers.frames p.target p.served p.reads.0 p.writes.0 (search rules) (search rules) (search rules)
