-- What a policy is to a run of calls. Everything else about calls, bytes and refusals is said once, for any policy.
-- Assumes nothing.
use Rattle.std.specs.Prelude.{Bool, List, ℕ}
use Rattle.model.specs.Numbers.{Numbers}
use Rattle.model.specs.Counts.{Counts}
use Rattle.model.specs.Target.{Costs}
use Rattle.model.specs.declared.Op.{Op}
use Rattle.model.specs.Words.{Answer}

-- what a request leaves: the next state, the frame that has the page, and the answer
pub record Outcome (S : Type 0) : Type 0 where
  pub state : S
  pub frame : ℕ
  pub answer : Answer

pub record Policy : Type 1 where
  pub State : Type 0
  -- what refusal 2 asks
  pub sound : State → Bool
  pub numbers : State → Numbers
  pub counts : State → Counts
  -- a read or a write of a page, with the costs in force
  pub request : Op → Costs → State → ℕ → Outcome State
  pub flushed : State → State
  -- a drop of a page
  pub dropped : State → ℕ → State
  -- the frames that a flush writes, from last to first, and the page of each frame
  pub dirty : State → List ℕ
  pub page : State → List ℕ

-- a policy whose states are held in pools: `state_of` reads a pool, and `pool_of` makes the pool of a state
abbrev pub pooled : (π : Policy) (Pool : Type 0) → (Pool → π.State) → (π.State → Pool) → (Pool → Bool) → Policy
pooled π Pool state_of pool_of sound =
    record {
      State = Pool;
      sound = sound;
      numbers = λ p. π.numbers (state_of p);
      counts = λ p. π.counts (state_of p);
      request = λ op k p q.
          let o = π.request op k (state_of p) q in record { state = pool_of o.state; frame = o.frame; answer = o.answer };
      flushed = λ p. pool_of (π.flushed (state_of p));
      dropped = λ p q. pool_of (π.dropped (state_of p) q);
      dirty = λ p. π.dirty (state_of p);
      page = λ p. π.page (state_of p);
    }
