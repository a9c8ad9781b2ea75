-- Calls on a pool of any policy and the bytes that are lent to them: when each is refused, what it leaves, and what a run of them does, refused ones among
-- them.
--     left        what a call leaves, for every input: the pool's state, what is said, every lent byte
--     history     what each page is after a run, by the served writes and drops
--     gathered    what the served calls of a run bring, one after the other
-- Assumes nothing.
use Rattle.std.specs.Prelude.{List, [], ◌∷◌, ◌++◌, ℕ, length, Ok, Err}
use Rattle.pages.specs.Pages.{page_of}
use Rattle.model.specs.Words.{Said, flushed as said_flushed, dropped as said_dropped, total as said_total, answer_says, refusal_says}
use Rattle.model.specs.Target.{Costs, costs_of}
use Rattle.model.specs.Times.{Times, unmeasured, times_fit, in_force}
use Rattle.model.specs.Counts.{total_cost}
use Rattle.model.specs.Policy.{Outcome, Policy}
use Rattle.model.specs.Refusals.{Row, first, broken_pool, request_rows, flush_rows, drop_rows, output_fits, stretch_fits}
use Rattle.model.specs.Bytes.{Memory, brought, overlaid, flushed_bytes, wiped}
use Rattle.model.specs.Moves.{History, laid, cut}
use Rattle.model.specs.declared.Op.{Op}
use Rattle.model.specs.declared.Op.TheVariants.{Read, Write}
use Rattle.model.specs.Words.{Verdict}

pub data Call : Type 0 where
  -- the kept numbers that it takes, if any; the page, and the output as it is lent
  read : Times → ℕ → List ℕ → Call
  -- those too; the page, where the stretch starts, and its bytes
  write : Times → ℕ → ℕ → List ℕ → Call
  flush : Call
  -- the page
  drop : ℕ → Call
  total : Call

-- the output that is lent to a call
abbrev pub output_of : Call → List ℕ
output_of (read t q out) = out
output_of (write t q start bytes) = []
output_of flush = []
output_of (drop q) = []
output_of total = []

-- a flush, a drop and a total make no step of the target, and take none
abbrev pub times_of : Call → Times
times_of (read t q out) = t
times_of (write t q start bytes) = t
times_of flush = unmeasured
times_of (drop q) = unmeasured
times_of total = unmeasured

-- a pool with the frame memory and the store that are lent to its calls, and nobody else touches
pub record World (S : Type 0) : Type 0 where
  pub state : S
  pub memory : Memory

-- what a call leaves
pub record Left (S : Type 0) : Type 0 where
  pub state : S
  pub said : Said
  pub memory : Memory
  pub out : List ℕ

module _ (π : Policy) where
  -- ---- when a call is refused

  -- behind 2, which every call may be refused
  abbrev pub further_rows : World π.State → Call → List Row
  further_rows x (read t q out) =
      request_rows (times_fit t) (π.numbers x.state) (π.counts x.state).served (length x.memory.frames) (length x.memory.store) q
      (output_fits (π.numbers x.state).P (length out))
  further_rows x (write t q start bytes) =
      request_rows (times_fit t) (π.numbers x.state) (π.counts x.state).served (length x.memory.frames) (length x.memory.store) q
      (stretch_fits (π.numbers x.state).P start (length bytes))
  further_rows x flush = flush_rows (π.numbers x.state) (π.counts x.state).served (length x.memory.frames) (length x.memory.store)
  further_rows x (drop q) = drop_rows (π.numbers x.state) (π.counts x.state).served (length x.memory.frames) (length x.memory.store) q
  further_rows x total = []

  abbrev pub rows_of : World π.State → Call → List Row
  rows_of x c = broken_pool (π.sound x.state) ∷ further_rows x c

  abbrev pub verdict_of : World π.State → Call → Verdict
  verdict_of x c = first (rows_of x c)

  -- ---- a request that is served

  -- the costs in force
  abbrev pub costs_in : World π.State → Times → Costs
  costs_in x t = in_force t (costs_of (π.numbers x.state))

  abbrev pub outcome_of : Op → World π.State → Times → ℕ → Outcome π.State
  outcome_of op x t q = π.request op (costs_in x t) x.state q

  -- ---- of a request for page q whose outcome is o: the bytes once the page is in its frame

  abbrev pub brought_in : World π.State → ℕ → Outcome π.State → Memory
  brought_in x q o = brought (π.numbers x.state).P o.frame q o.answer x.memory

  -- "A read then copies the page to the output."
  abbrev pub handed_out : World π.State → ℕ → Outcome π.State → List ℕ
  handed_out x q o = page_of (π.numbers x.state).P o.frame (brought_in x q o).frames

  -- "A write replaces only the named stretch in the frame."
  abbrev pub written_in : World π.State → ℕ → ℕ → List ℕ → Outcome π.State → Memory
  written_in x q start bytes o = overlaid (π.numbers x.state).P o.frame start bytes (brought_in x q o)

  abbrev pub read_by : World π.State → ℕ → Outcome π.State → Left π.State
  read_by x q o = record { state = o.state; said = answer_says o.answer; memory = brought_in x q o; out = handed_out x q o }

  abbrev pub written_by : World π.State → ℕ → ℕ → List ℕ → Outcome π.State → Left π.State
  written_by x q start bytes o = record { state = o.state; said = answer_says o.answer; memory = written_in x q start bytes o; out = [] }

  -- ---- what a call leaves

  abbrev pub served : World π.State → Call → Left π.State
  served x (read t q out) = read_by x q (outcome_of Read x t q)
  served x (write t q start bytes) = written_by x q start bytes (outcome_of Write x t q)
  served x flush =
      record {
        state = π.flushed x.state;
        said = said_flushed (length (π.dirty x.state));
        memory = flushed_bytes (π.numbers x.state).P (π.page x.state) (π.dirty x.state) x.memory;
        out = [];
      }
  served x (drop q) =
      record { state = π.dropped x.state q; said = said_dropped; memory = wiped (π.numbers x.state).P q x.memory; out = [] }
  served x total =
      record { state = x.state; said = said_total (total_cost (π.numbers x.state) (π.counts x.state)); memory = x.memory; out = [] }

  -- "A refused call returns the given pool and changes no lent byte."
  abbrev pub left_by : Verdict → World π.State → Call → Left π.State
  left_by (Err y) x c = record { state = x.state; said = refusal_says y; memory = x.memory; out = output_of c }
  left_by (Ok _) x c = served x c

  unfoldable pub left : World π.State → Call → Left π.State
  left x c = left_by (verdict_of x c) x c

  -- ---- runs

  abbrev pub after : World π.State → Call → World π.State
  after x c = record { state = (left x c).state; memory = (left x c).memory }

  abbrev pub after_all : World π.State → List Call → World π.State
  after_all x [] = x
  after_all x (c ∷ cs) = after_all (after x c) cs

  -- a served write is laid over its page, a served drop cuts it, and nothing else counts
  abbrev pub told_by : Verdict → World π.State → Call → History → History
  told_by (Err y) x c h = h
  told_by (Ok _) x (read t q out) h = h
  told_by (Ok _) x (write t q start bytes) h = laid q start bytes h
  told_by (Ok _) x flush h = h
  told_by (Ok _) x (drop q) h = cut (π.numbers x.state).P q h
  told_by (Ok _) x total h = h

  abbrev pub history : World π.State → List Call → History → History
  history x [] h = h
  history x (c ∷ cs) h = history (after x c) cs (told_by (verdict_of x c) x c h)

  abbrev pub brought_by : {A : Type 0} → Verdict → List A → List A
  brought_by (Err y) l = []
  brought_by (Ok _) l = l

  abbrev pub gathered : {A : Type 0} → (World π.State → Call → List A) → World π.State → List Call → List A
  gathered each x [] = []
  gathered each x (c ∷ cs) = brought_by (verdict_of x c) (each x c) ++ gathered each (after x c) cs
