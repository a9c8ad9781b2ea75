-- `recency::merge_falls` meets its contract. The loop's invariant: that the numbers of the merge of what is left of both lists fall from below the last one
-- says what is asked of the whole merge. Where one list is through, the other is what is left. The measure is how many frames are left. Assumes nothing.
use Rattle.std.proofs.Common.{◌≡◌, ◌+◌, ◌<◌, length}
use Rattle.std.specs.List.{All}
use Rattle.order.specs.Places.{places}
use Rattle.order.specs.Merge.{merged}
use Rattle.recency.specs.Recency.{falls_from}
use Rattle.recency.proofs.merge_falls.Given as goal

abbrev pub invariant-loop-c : goal.invariant-loop-c
invariant-loop-c l =
    record {
      c_in_places : All (λ f. f < places) l.c;
      d_in_places : All (λ f. f < places) l.d;
      same : falls_from l.reference l.last (merged l.reference l.c l.d) ≡ falls_from l.reference l.above (merged l.reference l.fn.c l.fn.d);
    }

abbrev pub decreases-loop-c : goal.decreases-loop-c
decreases-loop-c l = length l.c + length l.d
