-- `merging::merge` meets its contract. The loop's invariant: the frames taken so far, and behind them the merge of what is left of both lists, are the whole
-- merge; as many turns are still to come as frames are left. Assumes nothing.
use Rattle.order.specs.Merge.{merged}
use Rattle.merging.proofs.Merging.{Merging}
use Rattle.merging.proofs.merge.Given as goal

abbrev pub invariant-loop : goal.invariant-loop
invariant-loop l = Merging l.reference (merged l.reference l.fn.first l.fn.second) l.n l.first l.second l.list l.counter
