-- `pages::sizes_match` meets its contract. The bounds on its arguments keep both products small, and `sizes_match` tests the same two
-- equations in the same order. Assumes nothing.
use Rattle.std.proofs.Common.{rules, tests}
use Rattle.pages.specs.Memory.{sizes_match}
use Rattle.pages.proofs.sizes_match.Goals as goal

pub returns-then-m-b : goal.returns-then-m-b
unfolding sizes_match
returns-then-m-b c = search (rules, tests)

pub returns-else-m-b : goal.returns-else-m-b
unfolding sizes_match
returns-else-m-b c = search (rules, tests)
