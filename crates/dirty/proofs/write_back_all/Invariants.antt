-- `dirty::write_back_all` meets its contract. The loop's invariant: each frame that is left lies within the frame memory, and its page within the store; and
-- once those that are left are written too, the store is as promised. A turn writes the last of them, whose part of `frames` is `page_of`. Assumes nothing.
use Rattle.std.proofs.Common.{◌≡◌, length}
use Rattle.std.specs.List.{All}
use Rattle.std.specs.Slice.Iter.{iter_rest}
use Rattle.std.specs.Iterator.Adapters.{rev_source}
use Rattle.pages.specs.Memory.{written_back, FrameIn}
use Rattle.dirty.proofs.write_back_all.Given as goal

abbrev pub invariant-loop-frame : goal.invariant-loop-frame
invariant-loop-frame l =
    let left = iter_rest (rev_source l.frame-iterator) in
    record {
      lie : All (λ f. FrameIn l.size l.page (length l.frames) (length l.initial.store) f) left;
      written : written_back l.size l.page l.frames left l.store ≡ written_back l.size l.page l.frames l.list l.initial.store;
    }
