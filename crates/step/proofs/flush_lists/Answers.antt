-- `step::flush_lists` meets its contract. The lengths add up to the frames, so one list has room for both; its places hold the merge of D and C then, and those
-- of D nothing. Assumes nothing.
use Rattle.std.proofs.Common.{arith}
use Rattle.pool.proofs.Form.{lengths-frames, writes-fit, clean-in-places, dirty-in-places, clean-listed, dirty-listed}
use Rattle.step.proofs.Hits.{flush-is}
use Rattle.step.proofs.flush_lists.Goals as goal

pub frames-requires : goal.frames-requires
frames-requires c = (dirty-in-places _ c.requires).fits

pub frames-requires-2 : goal.frames-requires-2
frames-requires-2 c = (clean-in-places _ c.requires).fits

pub merge-all-requires : goal.merge-all-requires
merge-all-requires c =
    let s = c.requires in
    rw (c.frames.ensures, c.frames-2.ensures)
    record {
      fits = omega (arith, lengths-frames _ s, s.good.limits.b_high, (dirty-in-places _ s).len, (clean-in-places _ s).len);
      first_in_places = (dirty-listed _ s).low;
      second_in_places = (clean-listed _ s).low;
    }

pub overflow_add-next : goal.overflow_add-next
overflow_add-next c = omega (arith, c.requires.good.counts.served_high)

pub overflow_add-next-2 : goal.overflow_add-next-2
overflow_add-next-2 c =
    let s = c.requires in
    omega (arith, lengths-frames _ s, s.good.limits.b_high, writes-fit _ s)

pub returns : goal.returns
returns c = flush-is _ c.requires (rw (c.frames.ensures, c.frames-2.ensures) at c.merge-all.ensures)
