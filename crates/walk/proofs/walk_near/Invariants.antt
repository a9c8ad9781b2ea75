-- `walk::walk_near` meets its contract. The loop's invariant: where no page met a mark so far and, with the marks as they are, none to come will, none of all
-- does with no mark made. Assumes nothing.
use Rattle.std.proofs.Common.{◌≡◌, true, drop}
use Rattle.walk.specs.Walk.{fresh}
use Rattle.walk.proofs.walk_near.Given as goal

abbrev pub invariant-loop-q : goal.invariant-loop-q
invariant-loop-q l = l.met ≡ 0 → fresh (drop l.q-index l.q-items) l.marks ≡ true → fresh l.q-items l.initial.marks ≡ true
