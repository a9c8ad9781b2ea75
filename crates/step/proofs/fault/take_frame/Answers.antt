-- `step::fault::take_frame` meets its contract. The lengths add up to the frames, so there is one to choose. Once it has left its list, the pool holds a state
-- whose frame can be filled, and that leaves room in C and D. Assumes nothing.
use Rattle.std.proofs.Common.{arith}
use Rattle.pool.proofs.Form.{lengths-frames}
use Rattle.step.proofs.Faults.{Fillable, freed-fillable, taken-is}
use Rattle.step.proofs.fault.take_frame.Goals as goal
use Rattle.step.proofs.fault.take_frame.Goals.{After-writes_of-writes}

-- what was freed can be filled
fillable : (c : After-writes_of-writes) → Fillable c.free.new.freed c.writes_of-writes.result
fillable c =
    freed-fillable _ c.requires c.choose-choice.result c.choose-choice.ensures.1 _ c.free.ensures c.writes_of-writes.ensures

pub choose-choice-requires : goal.choose-choice-requires
choose-choice-requires c =
    let l = lengths-frames _ c.requires in
    (omega (arith, c.requires.good.limits.b_low), omega (arith, c.requires.good.limits.b_high))

pub overflow_add-freed : goal.overflow_add-freed
overflow_add-freed c = omega (arith, (fillable (goal.at.overflow_add-freed c).After-writes_of-writes).served)

pub offset_bounds-freed-f : goal.offset_bounds-freed-f
offset_bounds-freed-f c = omega (arith, (fillable (goal.at.offset_bounds-freed-f c).After-writes_of-writes).frame)

pub bounds-freed-f : goal.bounds-freed-f
bounds-freed-f c = (fillable (goal.at.bounds-freed-f c).After-writes_of-writes).frame

pub overflow_cast-freed : goal.overflow_cast-freed
overflow_cast-freed c = let l = fillable (goal.at.overflow_cast-freed c).After-writes_of-writes in omega (arith, l.served, l.few)

pub offset_bounds-freed-f-2 : goal.offset_bounds-freed-f-2
offset_bounds-freed-f-2 c = omega (arith, (fillable (goal.at.offset_bounds-freed-f-2 c).After-writes_of-writes).frame)

pub bounds-freed-f-2 : goal.bounds-freed-f-2
bounds-freed-f-2 c = (fillable (goal.at.bounds-freed-f-2 c).After-writes_of-writes).frame

pub overflow_add-freed-2 : goal.overflow_add-freed-2
overflow_add-freed-2 c = omega (arith, (fillable (goal.at.overflow_add-freed-2 c).After-writes_of-writes).reads)

pub overflow_add-freed-3 : goal.overflow_add-freed-3
overflow_add-freed-3 c = let l = fillable (goal.at.overflow_add-freed-3 c).After-writes_of-writes in omega (arith, l.few, l.writes)

pub returns : goal.returns
returns c =
    let k = c.choose-choice in
    let l = fillable (goal.at.returns c).After-writes_of-writes in (
      taken-is _ c.requires k.result k.ensures.1 _ c.free.ensures c.writes_of-writes.ensures _ k.ensures.0,
      l.frame,
      l.clean,
      l.dirty,
    )
