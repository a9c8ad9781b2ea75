-- `walk::walk_far` meets its contract. The loop's invariant: where, with the marks as they are, each page to come meets no mark or stands alone, so does each
-- of all with no mark made. Assumes nothing.
use Rattle.std.proofs.Common.{drop}
use Rattle.walk.specs.Walk.{Apart}
use Rattle.walk.proofs.walk_far.Given as goal

abbrev pub invariant-loop-q : goal.invariant-loop-q
invariant-loop-q l = Apart l.page (drop l.q-index l.q-items) l.marks → Apart l.page l.q-items l.initial.marks
