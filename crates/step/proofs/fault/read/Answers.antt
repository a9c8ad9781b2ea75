-- `step::fault::read` meets its contract: the frame that was taken and filled goes to the front of C, where there is room. Assumes nothing.
use Rattle.pool.specs.Pool.{state_of}
use Rattle.step.proofs.Faults.{taken-clean, taken-dirty, taken-front, fault-is}
use Rattle.step.proofs.fault.read.Goals as goal

pub put_front-requires : goal.put_front-requires
put_front-requires c = c.take_frame.ensures.2

pub returns : goal.returns
returns c =
    let taken = c.take_frame in
    let args = c.args in
    let s = state_of args.pool in
    let q = args.page in
    let e = taken.ensures.0 in
    let clean = taken-clean s q _ e taken.ensures.2 in
    let dirty = taken-dirty s q _ e taken.ensures.3 in
    let front = taken-front s q _ e clean taken.ensures.2 c.put_front.ensures in
    fault-is s q _ e front dirty
