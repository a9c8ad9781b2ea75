-- CASA's pools as a policy, and what a call that is not refused leaves of one, whole: the pool, what is said, and every lent byte.
--     pools, world_of    CASA's pools as a policy; a pool with the frame memory and the store
--     served_after    what a call that is not refused leaves of a pool, the frame memory and the store that it was lent
--     step_left, pool_left    what a call here returned, with the lent bytes as it left them
-- Assumes nothing.
use Rattle.std.specs.Prelude.{List, [], ℕ}
use Rattle.model.specs.Words.{Said, answer_says}
use Rattle.model.specs.Policy.{Policy, pooled}
use Rattle.model.specs.Request.{states}
use Rattle.model.specs.Bytes.{memory}
use Rattle.model.specs.Run.{Call, World, Left, served}
use Rattle.pool.specs.Pool.{pool_of, state_of}
use Rattle.pool.specs.Test.{sound_test}
use Rattle.pool.specs.declared.Pool.{Pool}
use Rattle.step.specs.declared.Step.{Step}

-- refusal 2 is the test of soundness
abbrev pub pools : Policy
pools = pooled states Pool state_of pool_of sound_test

abbrev pub world_of : Pool → List ℕ → List ℕ → World Pool
world_of p frames store = record { state = p; memory = memory frames store }

unfoldable pub served_after : Pool → List ℕ → List ℕ → Call → Left Pool
served_after p frames store c = served pools (world_of p frames store) c

-- ---- what a call returned: a read or a write; a flush and a drop, which have no output, and whose answer is given by whoever asked

abbrev pub step_left : Step → List ℕ → List ℕ → List ℕ → Left Pool
step_left r frames store out = record { state = r.pool; said = answer_says r.answer; memory = memory frames store; out = out }

abbrev pub pool_left : Pool → Said → List ℕ → List ℕ → Left Pool
pool_left r said frames store = record { state = r; said = said; memory = memory frames store; out = [] }
