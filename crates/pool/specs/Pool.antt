-- The pool and the state it holds.
--     pool_of     the pool that holds a state: each list in 64 places, the others 0
--     state_of    the state that a pool holds
--     Sound      the pool holds a good state, and 0 in each place without meaning
-- Beside these, the fields of a pool are known to its soundness test (specs/Test, proofs/Parts), to `refilled` in proofs/Form, to opening (`fresh`,
-- `zero_pool` in `casa`) and to `turns`, which changes one at a time.
-- Assumes nothing.
use Rattle.std.specs.Prelude.{◌≡◌, take}
use Rattle.order.specs.Places.{pad, listed, list_of}
use Rattle.model.specs.Numbers.{Numbers, numbers_held, holding}
use Rattle.model.specs.Frames.{Blank}
use Rattle.model.specs.State.{State, frames_of}
use Rattle.model.specs.Good.{Good}
use Rattle.pool.specs.declared.Pool.{Pool}

abbrev pub pool_of : State → Pool
pool_of s =
    record {
      numbers = holding s.numbers;
      lists = record { empty = list_of s.lists.E; clean = list_of s.lists.C; dirty = list_of s.lists.D };
      page = pad s.page;
      reference = pad s.reference;
      target = s.target;
      served = s.counts.served;
      reads = record { 0 = s.counts.nR };
      writes = record { 0 = s.counts.nW };
    }

abbrev pub numbers_in : Pool → Numbers
numbers_in p = numbers_held p.numbers

abbrev pub state_of : Pool → State
state_of p =
    record {
      numbers = numbers_in p;
      lists = record { E = listed p.lists.empty; C = listed p.lists.clean; D = listed p.lists.dirty };
      page = take p.numbers.frames p.page;
      reference = take p.numbers.frames p.reference;
      target = p.target;
      counts = record { served = p.served; nR = p.reads.0; nW = p.writes.0 };
    }

-- "A pool is sound if .. Any other pool is broken."
pub record Sound (p : Pool) : Type 0 where
  pub good : Good (state_of p)
  pub blank : Blank (frames_of (state_of p))
  pub whole : p ≡ pool_of (state_of p)
