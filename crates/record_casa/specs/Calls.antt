-- CASA's calls that record what they serve.
--     written_record    the record of a served write, from the pool and the frame memory that it left
--     call_verdict      whether a call on a pool is refused
-- What such a call leaves of pool, memory and output is what `casa` says of the call; what it leaves of the recorder is recorder's `recorded_by`.
-- Assumes nothing.
use Rattle.std.specs.Prelude.{List, ℕ, ◌*◌, get_or}
use Rattle.model.specs.Run.{Call, verdict_of}
use Rattle.model.specs.Words.{Verdict}
use Rattle.pool.specs.declared.Pool.{Pool}
use Rattle.casa.specs.Calls.{pools, world_of}
use Rattle.trace.specs.declared.Record.{Record}
use Rattle.trace.specs.declared.Record.TheVariants.{Write}

-- the page that was written last stands first in D: byte 0 of its frame
abbrev pub written_record : Pool → ℕ → List ℕ → Record
written_record p q frames = Write q (get_or frames (get_or p.lists.dirty.places 0 0 * p.numbers.page_bytes) 0)

-- whether a call is refused, by its rows
unfoldable pub call_verdict : Pool → List ℕ → List ℕ → Call → Verdict
call_verdict p frames store c = verdict_of pools (world_of p frames store) c
