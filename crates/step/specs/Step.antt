-- What the functions of a step leave, as the struct that they return.
-- Assumes nothing.
use Rattle.std.specs.Prelude.{ℕ}
use Rattle.model.specs.Policy.{Outcome}
use Rattle.model.specs.State.{State, counted, referenced, with_page_in}
use Rattle.model.specs.Request.{Taken, writes_of}
use Rattle.pool.specs.Pool.{pool_of}
use Rattle.step.specs.declared.Step.{Step}
use Rattle.step.specs.declared.Freed.{Freed}

abbrev pub step_of : Outcome State → Step
step_of o = record { pool = pool_of o.state; frame = o.frame; answer = o.answer }

abbrev pub freed_of : Taken → Freed
freed_of t = record { pool = pool_of t.state; frame = t.frame; victim = t.victim }

-- a frame that was taken, filled with page q
abbrev pub filled : ℕ → Taken → Taken
filled q t =
    record {
      state = referenced t.frame (counted 1 (writes_of t.victim) (with_page_in t.frame q t.state));
      frame = t.frame;
      victim = t.victim;
    }
