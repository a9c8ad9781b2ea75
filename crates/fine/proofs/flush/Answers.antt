-- `fine::flush` meets its contract: the frames of D and their pages lie within the lent bytes, and the lists are merged. Assumes nothing.
use Rattle.std.proofs.Common.{length}
use Rattle.pool.proofs.Form.{dirty-in-places}
use Rattle.fine.proofs.Serving.{dirty-in, flush-served}
use Rattle.fine.proofs.flush.Goals as goal

pub frames-requires : goal.frames-requires
frames-requires c = (dirty-in-places _ c.requires.sound).fits

pub write_back_all-requires : goal.write_back_all-requires
write_back_all-requires c =
    let p = c.requires in
    let a = c.args in
    let l = p.ready in
    rw c.frames.ensures (dirty-in a.pool p.sound (length a.frames.now) (length a.store.now) l.frames l.store)

pub returns : goal.returns
returns c =
    let a = c.args in
    let lists = c.flush_lists in
    flush-served a.pool c.requires.sound a.frames.now a.store.now _ lists.result lists.ensures (rw c.frames.ensures at c.write_back_all.ensures)
