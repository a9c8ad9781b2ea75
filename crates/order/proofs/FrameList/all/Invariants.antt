-- `order::FrameList::all` meets its contract. The loop's invariant: after k turns the places hold the first k of the frames n - 1, .., 0; a turn puts the next
-- one behind them. Assumes nothing.
use Rattle.std.proofs.Common.{◌≡◌, take}
use Rattle.order.specs.Lists.{down_from}
use Rattle.order.specs.Places.{InPlaces}
use Rattle.order.proofs.FrameList.all.Given as goal

abbrev pub invariant-loop-k : goal.invariant-loop-k
invariant-loop-k l = InPlaces l.list.places l.list.len (take l.k (down_from l.n)) × (l.list.len ≡ l.k)
