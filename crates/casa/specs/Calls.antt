-- CASA's pools as a policy, and what each public call leaves, for every input: the pool, what is said, and every lent byte. The promises state it, whole;
-- what a read, a write, a flush, a drop or a total leaves is said once for any policy, by model's `left`.
--     pools        CASA's pools as a policy, passed on from `fine` with `world_of`, their world
--     after        what a call leaves of a pool, the frame memory and the store that it was lent
--     served_left, flushed_left, dropped_left, open_left    what a call returned, with the lent bytes as it left them
--     open_after    what opening leaves
-- Assumes nothing.
use Rattle.std.specs.Prelude.{List, [], ◌∷◌, ℕ, replicate, Ok, Err}
use Rattle.order.specs.Places.{places}
use Rattle.model.specs.Numbers.{Numbers, meant}
use Rattle.model.specs.Words.{Said, opened as said_opened, flushed, dropped, access_says, says, refusal_says, opening_says}
use Rattle.model.specs.State.{opened}
use Rattle.model.specs.Refusals.{out_of_limits, first, open_verdict}
use Rattle.model.specs.Bytes.{memory}
use Rattle.model.specs.Run.{Call, Left, left}
use Rattle.model.specs.Words.{Verdict}
use Rattle.model.specs.declared.Access.{Access}
use Rattle.pool.specs.Pool.{pool_of}
use Rattle.pool.specs.declared.Pool.{Pool}
pub use Rattle.fine.specs.Serving.{pools, world_of}
use Rattle.casa.specs.declared.Done.{Done}

-- ---- what a call leaves of a pool

abbrev pub after : Pool → List ℕ → List ℕ → Call → Left Pool
after p frames store c = left pools (world_of p frames store) c

-- ---- what a call returned: a read or a write; a flush and a drop, which have no output

abbrev pub done_left : {T : Type 0} → (T → Said) → Done T → List ℕ → List ℕ → List ℕ → Left Pool
done_left word r frames store out = record { state = r.pool; said = says word r.answer; memory = memory frames store; out = out }

abbrev pub served_left : Done Access → List ℕ → List ℕ → List ℕ → Left Pool
served_left r frames store out = done_left access_says r frames store out

abbrev pub flushed_left : Done ℕ → List ℕ → List ℕ → Left Pool
flushed_left r frames store = done_left flushed r frames store []

abbrev pub dropped_left : Done (Unit {0}) → List ℕ → List ℕ → Left Pool
dropped_left r frames store = done_left (λ _. dropped) r frames store []

-- ---- open

-- "A refused open returns the pool of all zeros, which is broken."
abbrev pub zero_pool : Pool
zero_pool =
    record {
      numbers = record { frames = 0; page_bytes = 0; pages = 0; read_cost = 0; write_cost = 0 };
      lists =
          record {
            empty = record { places = replicate places 0; len = 0 };
            clean = record { places = replicate places 0; len = 0 };
            dirty = record { places = replicate places 0; len = 0 };
          };
      page = replicate places 0;
      reference = replicate places 0;
      target = 0;
      served = 0;
      reads = record { 0 = 0 };
      writes = record { 0 = 0 };
    }

pub record OpenLeft : Type 0 where
  pub pool : Pool
  pub said : Said

abbrev pub open_left : Done (Unit {0}) → OpenLeft
open_left r = record { pool = r.pool; said = opening_says r.answer }

abbrev pub open_if : Verdict → Numbers → OpenLeft
open_if (Err x) n = record { pool = zero_pool; said = refusal_says x }
open_if (Ok _) n = record { pool = pool_of (opened n); said = said_opened }

-- with costs that are meant as they stand
unfoldable pub open_by : Numbers → OpenLeft
open_by n = open_if (first (out_of_limits n ∷ [])) n

unfoldable pub open_after : Numbers → OpenLeft
open_after n = open_if (open_verdict n) (meant n)
