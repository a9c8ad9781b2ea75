-- `recency::falls` meets its contract. The loop's invariant: the flag, and that the numbers of what is left of the list fall from below the last one, together
-- say what is asked of the whole list. Assumes nothing.
use Rattle.std.proofs.Common.{◌≡◌, ◌&&◌, drop}
use Rattle.recency.specs.Recency.{falls_from}
use Rattle.recency.proofs.falls.Given as goal

abbrev pub invariant-loop-f : goal.invariant-loop-f
invariant-loop-f l = (l.ok && falls_from l.reference l.last (drop l.f-index l.frames)) ≡ falls_from l.reference l.above l.frames
